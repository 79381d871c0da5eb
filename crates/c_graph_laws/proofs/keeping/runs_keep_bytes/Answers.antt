use Rattle.c_graph_laws.proofs.KeptBytes.{always_kept}
use Rattle.c_graph_laws.proofs.keeping.runs_keep_bytes.Goals as goal

pub returns : goal.returns
returns c = λ unit where_it_is name kept values is_typed sizes placed apart ranged begins.
    always_kept unit where_it_is name kept values is_typed sizes placed apart ranged begins
