use Rattle.c_parse_laws.proofs.Worked as worked
use Rattle.c_parse_laws.proofs.types.refuses_word.Goals as goal

pub returns : goal.returns
returns c = worked.refuses_word
