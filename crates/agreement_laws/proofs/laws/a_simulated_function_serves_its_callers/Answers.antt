use Rattle.agreement_laws.proofs.Inners.{simulated_inner}
use Rattle.agreement_laws.proofs.laws.a_simulated_function_serves_its_callers.Goals as goal

pub returns : goal.returns
returns c = λ p is simulated. simulated_inner p is simulated
