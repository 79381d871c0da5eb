use Rattle.std.proofs.Common.{refl}
use Rattle.example_laws.proofs.CodeGraphComputes.{nodes_compute}
use Rattle.example_laws.proofs.code_graphs.a_table.Goals as goal

pub returns : goal.returns
unfolding nodes_compute
returns c = record { bounds = refl; jumps = refl }
