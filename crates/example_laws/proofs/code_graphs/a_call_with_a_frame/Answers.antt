use Rattle.std.proofs.Common.{refl}
use Rattle.example_laws.proofs.CodeGraphComputes.{nodes_compute}
use Rattle.example_laws.proofs.code_graphs.a_call_with_a_frame.Goals as goal

pub returns : goal.returns
unfolding nodes_compute
returns c = record { opens = refl; calls = refl; lands = refl; loads = refl; adds = refl; closes = refl; returns = refl }
