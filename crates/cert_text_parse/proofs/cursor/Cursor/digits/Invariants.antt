use Rattle.std.proofs.Common.{◌≡◌, suc, length}
use Rattle.cert_text_laws.specs.Readers.{read_digits}
use Rattle.cert_text_parse.proofs.cursor.Cursor.digits.Given as goal

abbrev pub invariant-loop-digit : goal.invariant-loop-digit
invariant-loop-digit l = read_digits (suc l.most) l.fn.first l.fn.self.rest.now ≡ read_digits (suc l.most) l.value l.self.rest.now

abbrev pub decreases-loop-digit : goal.decreases-loop-digit
decreases-loop-digit l = length l.self.rest.now
