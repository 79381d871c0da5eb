use Rattle.decompile_laws.proofs.ValidGraphs.{code_graph_valid}
use Rattle.decompile_laws.proofs.validity.code_graphs_are_valid.Goals as goal

pub returns : goal.returns
returns c = λ image f graph no_fault within is. code_graph_valid image f graph no_fault within is
