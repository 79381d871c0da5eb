use Rattle.validity_laws.proofs.Functions.{functions_valid}
use Rattle.validity_laws.proofs.simulations.functions_proved_in_order_are_valid.Goals as goal

pub returns : goal.returns
returns c = λ q functions sides proved g among named stack. functions_valid q functions sides proved g among named stack
