use Rattle.validity_laws.proofs.Functions.{functions_agree}
use Rattle.validity_laws.proofs.simulations.functions_proved_in_order_agree.Goals as goal

pub returns : goal.returns
returns c = λ q functions sides proved g among stack. functions_agree q functions sides proved g among stack
