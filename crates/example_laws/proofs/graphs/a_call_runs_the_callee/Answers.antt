use Rattle.std.proofs.Common.{refl}
use Rattle.example_laws.proofs.GraphComputes.{runs_compute}
use Rattle.example_laws.proofs.graphs.a_call_runs_the_callee.Goals as goal

pub returns : goal.returns
unfolding runs_compute
returns c = record { begins = refl; calls = refl; enters = refl; tests = refl; works = refl; lands = refl; adds = refl; returns = refl; ends = refl }
