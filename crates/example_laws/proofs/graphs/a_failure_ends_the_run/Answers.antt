use Rattle.std.proofs.Common.{refl}
use Rattle.example_laws.proofs.GraphComputes.{runs_compute}
use Rattle.example_laws.proofs.graphs.a_failure_ends_the_run.Goals as goal

pub returns : goal.returns
unfolding runs_compute
returns c = record { before = refl; inside = refl; missing = λ values. refl; no_node = λ values. refl }
