use Rattle.decompile_laws.proofs.Access.{stored_evaluates}
use Rattle.decompile_laws.proofs.instruction_terms.stores_leave.Goals as goal

pub returns : goal.returns
returns c = λ s bytes is kind a x n v below ea ex h. stored_evaluates s bytes is a x n v below ea ex kind h
