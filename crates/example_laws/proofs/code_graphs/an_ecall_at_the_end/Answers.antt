use Rattle.std.proofs.Common.{refl}
use Rattle.example_laws.proofs.CodeGraphComputes.{nodes_compute}
use Rattle.example_laws.proofs.code_graphs.an_ecall_at_the_end.Goals as goal

pub returns : goal.returns
unfolding nodes_compute
returns c = record { sets = refl; ecall = refl; ebreak = refl; misaligned_jump = refl; misaligned_call = refl; call_at_the_end = refl }
