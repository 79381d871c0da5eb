use Rattle.std.proofs.Common.{◌≡◌, ◌∙◌, ◌+◌, ◌++◌, ◌∷◌, [], length, ap, arith}
use Rattle.std.proofs.lemmas.Result.{on_ok_weaker}
use Rattle.proof_tree_spec.specs.declared.Place.TheVariants as place
use Rattle.c_graph_spec.specs.Layout.{argument_tests}
use Rattle.c_graph_layout.specs.Lists.{cores_of}
use Rattle.c_graph_layout.proofs.Counted.{arguments_counted}
use Rattle.c_graph.specs.Seen.{points_in}
use Rattle.c_graph.proofs.Pointed.{call_points}
use Rattle.c_graph.proofs.points.add_call.Goals as goal

pub returns-4 : goal.returns-4
returns-4 c = λ f function into.
    let xs = cores_of c.args.arguments.now in
    let counted = arguments_counted f xs in
    let tests = c.in-Ok-attempt.ensures in
    let node = c.in-Ok-attempt-node.ensures in
    let there : c.in-Ok-attempt-node.field-0 ≡ c.args.at + length (argument_tests f xs) = omega arith in
    on_ok_weaker c.add.result
    (λ h. h ∙ ap (λ n. points_in c.args.points.now.items ++ (place.Call n, c.in-Ok-attempt-node.field-0) ∷ []) c.in-Ok-attempt-number.ensures
    ∙ ap (λ l. points_in c.args.points.now.items ++ l) (call_points f c.args.number function xs into c.args.at c.in-Ok-attempt-node.field-0 there))
    c.add.ensures
