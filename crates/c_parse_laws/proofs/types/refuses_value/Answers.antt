use Rattle.c_parse_laws.proofs.Worked as worked
use Rattle.c_parse_laws.proofs.types.refuses_value.Goals as goal

pub returns : goal.returns
returns c = worked.refuses_value
