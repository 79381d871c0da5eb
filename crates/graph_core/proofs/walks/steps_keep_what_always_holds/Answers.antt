use Rattle.graph_core_spec.proofs.Runs.{always_kept}
use Rattle.graph_core.proofs.walks.steps_keep_what_always_holds.Goals as goal

pub returns : goal.returns
returns g c = λ test s always. always_kept (g.W.Walks.system c.args.walks.now) test s always
