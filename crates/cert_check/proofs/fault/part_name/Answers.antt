use Rattle.cert_check.proofs.Names.{no_part}
use Rattle.cert_check.proofs.fault.part_name.Goals as goal

pub returns-in_default : goal.returns-in_default
returns-in_default c = no_part c.args.line.now c.in_default.not-Function
