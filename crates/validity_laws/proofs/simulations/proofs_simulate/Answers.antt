use Rattle.validity_laws.proofs.Simulated.{simulated}
use Rattle.validity_laws.proofs.simulations.proofs_simulate.Goals as goal

pub returns : goal.returns
returns c = λ q b earlier origin start goals holds more zone is sides small right inlined begins proved.
    simulated q is sides small b inlined earlier right zone origin start goals holds proved more begins
