use Rattle.agreement_laws.proofs.Agreement.{simulated_valid}
use Rattle.agreement_laws.proofs.laws.a_simulated_function_is_valid.Goals as goal

pub returns : goal.returns
returns c = λ p is simulated named stack. simulated_valid p is simulated named stack
