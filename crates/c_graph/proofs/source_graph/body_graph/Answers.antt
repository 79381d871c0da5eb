use Rattle.std.proofs.Common.{◌∙◌, ap}
use Rattle.graph_core_spec.specs.Graph.{with_nodes}
use Rattle.c_types_core.specs.Actions.{action_of}
use Rattle.c_graph.specs.Frames.{setting_in}
use Rattle.c_graph.specs.Seen.{body_nodes}
use Rattle.c_graph.proofs.source_graph.body_graph.Goals as goal

pub returns-2 : goal.returns-2
returns-2 c = c.in-Ok-attempt.ensures ∙ ap (λ g. with_nodes g (body_nodes (setting_in c.args.frame.now) (action_of c.args.action.now))) c.new-graph.ensures.graph
