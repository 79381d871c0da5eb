use Rattle.c_parse_laws.proofs.InitialUnits.{defines_same}
use Rattle.c_parse_laws.proofs.initial_scan.texts_define_what_derivations_do.Goals as goal

pub returns : goal.returns
returns c = defines_same
