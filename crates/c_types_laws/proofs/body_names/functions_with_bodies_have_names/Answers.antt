use Rattle.c_types_laws.proofs.NameNames.{has_name}
use Rattle.c_types_laws.proofs.body_names.functions_with_bodies_have_names.Goals as goal

pub returns : goal.returns
returns c = has_name
