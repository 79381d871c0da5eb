use Rattle.std.proofs.Common.{refl}
use Rattle.example_laws.proofs.CodeGraphComputes.{nodes_compute}
use Rattle.example_laws.proofs.code_graphs.a_pair.Goals as goal

pub returns : goal.returns
unfolding nodes_compute
returns c = record { adds = refl; calls = refl; ends = refl; alone = refl }
