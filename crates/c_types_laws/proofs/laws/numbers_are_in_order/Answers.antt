use Rattle.c_types_laws.proofs.Actions.{numbers-order}
use Rattle.c_types_laws.proofs.laws.numbers_are_in_order.Goals as goal

pub returns : goal.returns
returns c = numbers-order
