use Rattle.std.proofs.Common.{◌≡◌, ◌∙◌, ◌++◌, [], ◌∷◌, List, length, map, reverse, ap, subst, sym, refl}
use Rattle.std.specs.Prelude.{Some, None, slice_get, option_map}
use Rattle.std.specs.Option.{option_map_or}
use Rattle.std.proofs.lemmas.List.{append-nil}
use Rattle.std.proofs.lemmas.Option.{slice_get-map, slice_get_past, slice_get_read}
use Rattle.graph_core.specs.declared.shared.SharedNode.{SharedNode}
use Rattle.graph_core.specs.Shared.{shared_node_of}
use Rattle.loop_find_spec.specs.Loops.{nodes_after}
use Rattle.loop_find.specs.declared.tasks.Task.TheVariants.{Take, Leave}
use Rattle.loop_find.proofs.tasks.add_tasks.Goals as goal

pub returns-in-None : goal.returns-in-None
returns-in-None c =
    let missing : slice_get c.args.graph.now.nodes c.args.node ≡ None =
    subst (λ (xs : List SharedNode). slice_get xs c.args.node ≡ None) c.nodes.ensures.nodes (slice_get_past c.nodes.result.now c.args.node c.in-None.ensures.lookup.3) in
    let is = slice_get-map (shared_node_of c.args.graph.now.trees) c.args.graph.now.nodes c.args.node ∙ ap (option_map (shared_node_of c.args.graph.now.trees)) missing in
    subst (λ o. c.push.new.self.items ≡ (c.args.tasks.now.items ++ Leave c.args.node ∷ []) ++ map Take (reverse (option_map_or nodes_after o []))) (sym is)
    (c.in_ok-push.ensures.items ∙ sym (append-nil (c.args.tasks.now.items ++ Leave c.args.node ∷ [])))

pub returns-in_ok-add_following-in-Some : goal.returns-in_ok-add_following-in-Some
returns-in_ok-add_following-in-Some c =
    let here : slice_get c.args.graph.now.nodes c.args.node ≡ Some c.in-Some.node.now =
    subst (λ (xs : List SharedNode). slice_get xs c.args.node ≡ Some c.in-Some.node.now) c.nodes.ensures.nodes
    (slice_get_read c.nodes.result.now (length c.nodes.result.now) c.args.node c.in-Some.node.now refl c.in-Some.ensures.lookup.3.0 c.in-Some.ensures.lookup.1) in
    let is = slice_get-map (shared_node_of c.args.graph.now.trees) c.args.graph.now.nodes c.args.node ∙ ap (option_map (shared_node_of c.args.graph.now.trees)) here in
    subst (λ o. c.add_following.new.tasks.items ≡ (c.args.tasks.now.items ++ Leave c.args.node ∷ []) ++ map Take (reverse (option_map_or nodes_after o []))) (sym is)
    (c.in_ok-add_following-in-Some.ensures c.args.graph.now.trees
    ∙ ap (λ l. l ++ map Take (reverse (nodes_after (shared_node_of c.args.graph.now.trees c.in-Some.node.now)))) c.in_ok-push.ensures.items)
