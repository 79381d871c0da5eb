use Rattle.std.proofs.Common.{refl}
use Rattle.example_laws.proofs.CodeGraphComputes.{nodes_compute}
use Rattle.example_laws.proofs.code_graphs.a_store_with_two_runs.Goals as goal

pub returns : goal.returns
unfolding nodes_compute
returns c = record { stores = refl; one_byte = refl; returns = refl }
