use Rattle.agreement_laws.proofs.Agreement.{simulation_agrees}
use Rattle.agreement_laws.proofs.laws.simulation_gives_agreement.Goals as goal

pub returns : goal.returns
returns c = λ p is simulated. simulation_agrees p is simulated
