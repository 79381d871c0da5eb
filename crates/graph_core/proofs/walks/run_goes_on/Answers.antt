use Rattle.graph_core_spec.proofs.Runs.{after-add}
use Rattle.graph_core.proofs.walks.run_goes_on.Goals as goal

pub returns-clause-parts : goal.returns-clause-parts
returns-clause-parts g c = λ s j k. after-add (g.W.Walks.system c.args.walks.now) j k s
