use Rattle.c_parse_expression.proofs.Parts.{end-valued, end-plain}
use Rattle.c_parse_expression.proofs.ends.constant_end.Goals as goal

pub returns-in-Some : goal.returns-in-Some
returns-in-Some c = end-valued c.args.constant.now c.in-Some.field-0 c.in-Some.is

pub returns-in-None : goal.returns-in-None
returns-in-None c = end-plain c.args.constant.now c.in-None.is
