use Rattle.graph_core_spec.proofs.Runs.{stopped-add}
use Rattle.graph_core.proofs.walks.run_stops_as_its_rest.Goals as goal

pub returns : goal.returns
returns g c = λ s marks t j. stopped-add (g.W.Walks.system c.args.walks.now) marks t j s
