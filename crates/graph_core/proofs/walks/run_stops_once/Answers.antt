use Rattle.graph_core_spec.proofs.Runs.{stops_once}
use Rattle.graph_core.proofs.walks.run_stops_once.Goals as goal

pub returns : goal.returns
returns g c = λ s marks t u a b. stops_once (g.W.Walks.system c.args.walks.now) marks t u s a b
