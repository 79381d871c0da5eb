use Rattle.std.proofs.Common.{◌∙◌, ◌++◌, ap}
use Rattle.c_types_core.specs.Actions.{action_of}
use Rattle.c_graph_spec.specs.SourceGraph.{points}
use Rattle.c_graph.specs.Seen.{points_in}
use Rattle.c_graph.proofs.source_graph.body_points.Goals as goal

pub returns-2 : goal.returns-2
returns-2 c = λ f. c.in-Ok-attempt.ensures f ∙ ap (λ l. points_in l ++ points f (action_of c.args.action.now) 1) c.new-points.ensures.items
