use Rattle.graph_core_spec.proofs.Runs.{arrivals-add}
use Rattle.graph_core.proofs.walks.arrivals_add_up.Goals as goal

pub returns : goal.returns
returns g c = λ s n j k. arrivals-add (g.W.Walks.system c.args.walks.now) n j k s
