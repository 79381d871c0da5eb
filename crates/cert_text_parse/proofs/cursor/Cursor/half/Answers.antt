use Rattle.std.proofs.Common.{arith}
use Rattle.cert_text_parse.proofs.Taken.{first_fails, second_fails, both_taken}
use Rattle.cert_text_parse.proofs.cursor.Cursor.half.Goals as goal

pub returns-in-Err : goal.returns-in-Err
returns-in-Err c = first_fails 2 256 c.args.self.now c.byte.new.self c.byte.new.self c.in-Err.stopped c.in-Err.ensures

pub returns-in-Err-byte : goal.returns-in-Err-byte
returns-in-Err-byte c =
    second_fails 2 256 c.args.self.now c.byte.new.self c.byte-2.new.self c.in-Ok.high c.in-Ok.ensures c.in-Err-byte.stopped c.in-Err-byte.ensures

pub returns : goal.returns
returns c =
    both_taken 2 256 c.args.self.now c.byte.new.self c.byte-2.new.self c.in-Ok.high c.in-Ok.ensures c.in-Ok-byte.low (omega (arith, c.in-Ok.ensures.0, c.in-Ok-byte.ensures.0)) (λ v. omega arith) c.in-Ok-byte.ensures
