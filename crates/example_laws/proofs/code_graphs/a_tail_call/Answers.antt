use Rattle.std.proofs.Common.{refl}
use Rattle.example_laws.proofs.CodeGraphComputes.{nodes_compute}
use Rattle.example_laws.proofs.code_graphs.a_tail_call.Goals as goal

pub returns : goal.returns
unfolding nodes_compute
returns c = record { calls = refl; lands = refl }
