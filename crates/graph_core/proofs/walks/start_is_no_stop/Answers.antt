use Rattle.graph_core_spec.proofs.Runs.{not_stopped_at_once}
use Rattle.graph_core.proofs.walks.start_is_no_stop.Goals as goal

pub returns : goal.returns
returns g c = λ s marks counted runs. not_stopped_at_once (g.W.Walks.system c.args.walks.now) marks s counted runs
