use Rattle.c_graph_laws.proofs.ValidGraphs.{all_valid}
use Rattle.c_graph_laws.proofs.validity.source_graphs_are_valid.Goals as goal

pub returns : goal.returns
returns c = λ unit where_it_is is_typed extents placed. all_valid unit where_it_is placed is_typed extents
