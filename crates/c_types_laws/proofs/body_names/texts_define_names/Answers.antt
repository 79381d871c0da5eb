use Rattle.c_types_laws.proofs.Definitions.{defines_names}
use Rattle.c_types_laws.proofs.body_names.texts_define_names.Goals as goal

pub returns : goal.returns
returns c = defines_names
