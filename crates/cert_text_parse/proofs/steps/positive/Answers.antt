use Rattle.std.proofs.Common.{arith}
use Rattle.cert_text_parse.proofs.Lists.{positive_small}
use Rattle.cert_text_parse.proofs.steps.positive.Goals as goal

pub overflow_cast-result : goal.overflow_cast-result
overflow_cast-result c = record { fits = omega (arith, positive_small c.args.cursor.now.rest.now c.decimal.new.self.rest.now c.in-Ok.number c.in-Ok.ensures) }
