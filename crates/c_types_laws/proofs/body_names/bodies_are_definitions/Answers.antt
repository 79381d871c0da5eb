use Rattle.c_types_laws.proofs.Bodies.{are_defined}
use Rattle.c_types_laws.proofs.body_names.bodies_are_definitions.Goals as goal

pub returns : goal.returns
returns c = are_defined
