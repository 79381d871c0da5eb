use Rattle.c_types_laws.proofs.Units.{typed-IsTypedUnit}
use Rattle.c_types_laws.proofs.laws.cores_of_units_are_typed.Goals as goal

pub returns : goal.returns
returns c = typed-IsTypedUnit
