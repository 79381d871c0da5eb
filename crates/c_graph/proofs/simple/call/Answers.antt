use Rattle.std.proofs.Common.{◌≡◌, ◌∙◌, ◌+◌, [], ◌∷◌, length, arith}
use Rattle.std.proofs.lemmas.Result.{on_ok_weaker}
use Rattle.graph_core_spec.specs.Graph.{Basic}
use Rattle.graph_core.specs.Graphs.{graph_of}
use Rattle.c_graph_spec.specs.Layout.{argument_tests}
use Rattle.c_graph_layout.specs.Lists.{cores_of}
use Rattle.c_graph_layout.proofs.Counted.{arguments_counted}
use Rattle.c_graph.specs.Frames.{setting_in}
use Rattle.c_graph.proofs.WithNodes.{added_as, added_then}
use Rattle.c_graph.proofs.Parts.{call_nodes}
use Rattle.c_graph.proofs.simple.call.Goals as goal

pub returns-5 : goal.returns-5
returns-5 c = λ number e.
    let f = setting_in c.args.frame.now in
    let xs = cores_of c.args.arguments.now in
    let counted = arguments_counted f xs in
    let tests = c.in-Ok-attempt.ensures in
    let call = c.in-Ok-attempt-call.ensures in
    let last = c.in-Ok-attempt-landing.ensures in
    let landing : c.in-Ok-attempt-landing.field-0 ≡ c.args.at + length (argument_tests f xs) + 1 = omega arith in
    on_ok_weaker c.empty.result
    (λ h.
    added_as (graph_of c.args.graph.now) (graph_of c.empty.new.graph) _ _ (call_nodes f number c.args.function.now xs c.args.into c.args.at c.in-Ok-attempt-landing.field-0 c.args.to e landing)
    (added_then (graph_of c.args.graph.now) (graph_of c.call_alone.new.graph) (graph_of c.empty.new.graph) _ (Basic [] c.args.to ∷ []) c.in-Ok-attempt-2.ensures h))
    c.empty.ensures
