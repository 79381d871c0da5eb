use Rattle.c_types_laws.proofs.Operands.{type_of-is, narrow-is}
use Rattle.c_types_laws.proofs.laws.expressions_have_one_type.Goals as goal

pub returns : goal.returns
returns c = record { one = type_of-is; narrow = narrow-is }
