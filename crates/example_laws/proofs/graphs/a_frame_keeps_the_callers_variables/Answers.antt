use Rattle.std.proofs.Common.{refl}
use Rattle.example_laws.proofs.GraphComputes.{runs_compute}
use Rattle.example_laws.proofs.graphs.a_frame_keeps_the_callers_variables.Goals as goal

pub returns : goal.returns
unfolding runs_compute
returns c = record { starts = refl; callee = refl; back = refl; end = refl }
