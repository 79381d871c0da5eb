use Rattle.std.proofs.Common.{refl}
use Rattle.example_laws.proofs.GraphComputes.{runs_compute}
use Rattle.example_laws.proofs.graphs.memory_outlives_the_callee.Goals as goal

pub returns : goal.returns
unfolding runs_compute
returns c = record { before = refl; after = refl }
