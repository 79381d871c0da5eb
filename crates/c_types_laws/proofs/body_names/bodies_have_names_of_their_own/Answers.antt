use Rattle.c_types_laws.proofs.NameNames.{are_apart}
use Rattle.c_types_laws.proofs.body_names.bodies_have_names_of_their_own.Goals as goal

pub returns : goal.returns
returns c = are_apart
