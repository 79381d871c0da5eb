use Rattle.std.proofs.Common.{arith}
use Rattle.cert_text_parse.proofs.Taken.{first_fails, second_fails, both_taken, address_taken, address_fails}
use Rattle.cert_text_parse.proofs.cursor.Cursor.address.Goals as goal

pub returns-in-Err : goal.returns-in-Err
returns-in-Err c = address_fails 4294967296 c.args.self.now c.half.new.self c.in-Err.stopped (first_fails 4 65536 c.args.self.now c.half.new.self c.half.new.self c.in-Err.stopped c.in-Err.ensures)

pub returns-in-Err-half : goal.returns-in-Err-half
returns-in-Err-half c =
    address_fails 4294967296 c.args.self.now c.half-2.new.self c.in-Err-half.stopped (second_fails 4 65536 c.args.self.now c.half.new.self c.half-2.new.self c.in-Ok.high c.in-Ok.ensures c.in-Err-half.stopped c.in-Err-half.ensures)

pub returns : goal.returns
returns c =
    address_taken 4294967296 c.args.self.now c.half-2.new.self _ (both_taken 4 65536 c.args.self.now c.half.new.self c.half-2.new.self c.in-Ok.high c.in-Ok.ensures c.in-Ok-half.low (omega (arith, c.in-Ok.ensures.0, c.in-Ok-half.ensures.0)) (λ v. omega arith) c.in-Ok-half.ensures)
