use Rattle.std.proofs.Common.{◌≡◌, ◌∙◌, ℕ, List, [], map, length, sym, ap, subst}
use Rattle.std.specs.Prelude.{Vec}
use Rattle.std.specs.Global.{Global}
use Rattle.std.proofs.lemmas.List.{length-map}
use Rattle.std.proofs.lemmas.Result.{on_ok_weaker}
use Rattle.graph_core.specs.declared.shared.SharedNode.{SharedNode}
use Rattle.graph_core.specs.Shared.{shared_node_of}
use Rattle.graph_core_spec.specs.Graph.{Node}
use Rattle.proof_tree.specs.Ahead.{Grows}
use Rattle.sim_rules.specs.Tables.{Gains, IsSearched, IsStep, LeadsTo, lists_of}
use Rattle.sim_rules.proofs.Leading.{empty_lists, leads_to}
use Rattle.sim_rules.proofs.search.add_leading.Goals as goal

pub returns-4 : goal.returns-4
returns-4 c =
    let trees = c.args.graph.now.trees in
    let shared = c.nodes-nodes.result.now in
    let all : List Node = map (shared_node_of trees) shared in
    let lists = lists_of c.add_nodes.new.before.items in
    let begun = c.begin.new.found.keys in
    let found = c.search.new.found.keys in
    let size : length shared ≡ length all = sym (length-map shared (shared_node_of trees)) in
    let table = subst (λ (l : List (List ℕ)). Gains (IsStep all) l lists) (c.in-Ok-attempt.ensures ∙ ap empty_lists size) (c.in-Ok-attempt-2.ensures trees) in
    let begins = subst (λ (l : List ℕ). Grows (λ k. IsStep all k c.args.point) l begun) c.requires.found (c.in-Ok-attempt-3.ensures trees) in
    on_ok_weaker c.search.result
    (λ searched. subst (λ (l : List SharedNode). LeadsTo (map (shared_node_of trees) l) c.args.point found) c.nodes-nodes.ensures.nodes
    (leads_to all c.args.point lists begun found table begins (subst (λ (l : List (Vec ℕ Global)). IsSearched (lists_of l) begun found) c.as_slice.ensures.value searched)))
    c.search.ensures
