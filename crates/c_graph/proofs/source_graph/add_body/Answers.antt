use Rattle.std.proofs.Common.{◌≡◌, ◌∙◌, [], ◌∷◌, ap}
use Rattle.std.proofs.lemmas.Result.{on_ok_weaker}
use Rattle.graph_core_spec.specs.Graph.{Basic}
use Rattle.graph_core_spec.specs.declared.Next.TheVariants.{Ret}
use Rattle.graph_core.specs.Graphs.{graph_of}
use Rattle.c_types_core.specs.Actions.{action_of}
use Rattle.c_graph_spec.specs.Layout.{exits, nodes}
use Rattle.c_graph.specs.Frames.{setting_in}
use Rattle.c_graph.proofs.WithNodes.{added_as, added_then}
use Rattle.c_graph.proofs.source_graph.add_body.Goals as goal

pub returns-3 : goal.returns-3
returns-3 c =
    let f = setting_in c.args.frame.now in
    let a = action_of c.args.action.now in
    let g0 = graph_of c.args.graph.now in
    let g1 = graph_of c.empty.new.graph in
    let g2 = graph_of c.nodes.new.graph in
    on_ok_weaker c.nodes.result
    (λ h.
    added_as g0 g2 _ _ (ap (λ n. Basic [] n ∷ nodes f a 1 Ret (exits Ret Ret)) (c.in-Ok-attempt.ensures f))
    (added_then g0 g1 g2 _ _ c.in-Ok-attempt-2.ensures h))
    c.nodes.ensures
