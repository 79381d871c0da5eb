use Rattle.c_graph_laws.proofs.Together.{together}
use Rattle.c_graph_laws.proofs.runs.functions_and_graphs_run_together.Goals as goal

pub returns : goal.returns
returns c = λ unit where_it_is zone name body arguments bytes values start. together unit where_it_is zone name body arguments bytes values start
