use Rattle.graph_core_spec.proofs.Callees.{after-with_waiting}
use Rattle.graph_core.specs.Graphs.{graphs_of}
use Rattle.graph_core.proofs.run.callee_runs_as_alone.Goals as goal

pub returns : goal.returns
returns c = λ s rest k runs. after-with_waiting (graphs_of c.args.run.now.graphs.now) rest c.args.run.now.outermost k s runs
