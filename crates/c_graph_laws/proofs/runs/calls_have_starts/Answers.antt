use Rattle.c_graph_laws.proofs.Starts.{start}
use Rattle.c_graph_laws.proofs.runs.calls_have_starts.Goals as goal

pub returns : goal.returns
returns c = λ unit body is there arguments are bytes ranged zone low high. start bytes ranged zone low high unit body is there arguments are
