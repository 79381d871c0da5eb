use Rattle.std.proofs.Common.{arith}
use Rattle.cert_text_parse.proofs.Taken.{first_fails, second_fails, both_taken}
use Rattle.cert_text_parse.proofs.cursor.Cursor.byte.Goals as goal

pub returns-in-Err : goal.returns-in-Err
returns-in-Err c = first_fails 1 16 c.args.self.now c.hexadecimal.new.self c.hexadecimal.new.self c.in-Err.stopped c.in-Err.ensures

pub returns-in-Err-hexadecimal : goal.returns-in-Err-hexadecimal
returns-in-Err-hexadecimal c =
    second_fails 1 16 c.args.self.now c.hexadecimal.new.self c.hexadecimal-2.new.self c.in-Ok.high c.in-Ok.ensures c.in-Err-hexadecimal.stopped c.in-Err-hexadecimal.ensures

pub returns : goal.returns
returns c =
    both_taken 1 16 c.args.self.now c.hexadecimal.new.self c.hexadecimal-2.new.self c.in-Ok.high c.in-Ok.ensures c.in-Ok-hexadecimal.low (omega (arith, c.in-Ok.ensures.0, c.in-Ok-hexadecimal.ensures.0)) (λ v. omega arith) c.in-Ok-hexadecimal.ensures
