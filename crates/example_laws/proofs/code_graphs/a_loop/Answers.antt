use Rattle.std.proofs.Common.{refl}
use Rattle.example_laws.proofs.CodeGraphComputes.{nodes_compute}
use Rattle.example_laws.proofs.code_graphs.a_loop.Goals as goal

pub returns : goal.returns
unfolding nodes_compute
returns c = record { begins = refl; leaves = refl; adds = refl; counts = refl; repeats = refl; moves = refl; returns = refl }
