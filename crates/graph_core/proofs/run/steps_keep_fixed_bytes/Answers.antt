use Rattle.graph_core_spec.proofs.Runs.{always_kept}
use Rattle.graph_core_spec.specs.Run.{system_of}
use Rattle.graph_core_spec.specs.Fixed.{holds_byte}
use Rattle.graph_core.specs.Graphs.{graphs_of}
use Rattle.graph_core.proofs.run.steps_keep_fixed_bytes.Goals as goal

pub returns : goal.returns
returns c = λ fixed memory s always. always_kept (system_of (graphs_of c.args.run.now.graphs.now) c.args.run.now.outermost) (holds_byte fixed memory) s always
