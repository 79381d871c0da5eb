use Rattle.std.proofs.Common.{[], ◌∷◌}
use Rattle.std.proofs.lemmas.Result.{on_ok_weaker}
use Rattle.graph_core_spec.specs.Graph.{Basic}
use Rattle.graph_core.specs.Graphs.{graph_of}
use Rattle.c_graph.proofs.WithNodes.{added_then}
use Rattle.c_graph.proofs.simple.loop_test.Goals as goal

pub returns-3 : goal.returns-3
returns-3 c =
    on_ok_weaker c.empty-2.result
    (λ h.
    added_then (graph_of c.args.graph.now) (graph_of c.empty.new.graph) (graph_of c.empty-2.new.graph) _ _ c.in-Ok-attempt.ensures
    (added_then (graph_of c.empty.new.graph) (graph_of c.test.new.graph) (graph_of c.empty-2.new.graph) _ (Basic [] c.args.places.body ∷ []) c.in-Ok-attempt-2.ensures h))
    c.empty-2.ensures
