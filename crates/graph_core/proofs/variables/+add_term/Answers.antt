use Rattle.std.proofs.Common.{◌≡◌, ◌∙◌, ℕ, ◌+◌, ◌<◌, List, ◌∷◌, length, get_or, take, drop, sym, ap, subst, arith}
use Rattle.std.proofs.lemmas.List.{drop_more, drop_all, get_or-take}
use Rattle.term_core_spec.specs.declared.Variable.{Variable}
use Rattle.term_bank.specs.Nodes.{tree_at}
use Rattle.graph_core_spec.specs.Variables.{occurrences, with_variables}
use Rattle.graph_core.specs.Seen.{HasAll, own_variables, occurrences_of_all}
use Rattle.graph_core.proofs.Adding.{left}
use Rattle.graph_core.proofs.Seeing.{none_added, all_added, seen_later, seen_one, whole_is}
use Rattle.graph_core.proofs.variables.+add_term.Goals as goal

pub returns-then-contains-clause-added : goal.returns-then-contains-clause-added
returns-then-contains-clause-added t c =
    sym (none_added c.args.variables.now.keys (occurrences (tree_at c.args.bank.now c.args.id)) (c.requires.seen c.args.id (sym c.contains.ensures ∙ c.if-contains.true)))

pub loop-k-init : goal.loop-k-init
loop-k-init t c =
    let trees = c.args.bank.now in
    let keys : List Variable = c.args.variables.now.keys in
    let node = c.node-node.result in
    let args : List ℕ = take c.arguments-count.result.1 c.arguments-count.result.0 in
    record {
      added = left keys c.add_leaf.new.variables.keys (own_variables node) (occurrences_of_all trees args) (with_variables keys (occurrences (tree_at trees c.args.id))) c.in_ok-add_leaf.ensures
          (whole_is trees keys c.args.id node c.arguments-count.result.0 c.arguments-count.result.1 c.node-node.ensures.tree c.arguments-count.ensures.are);
      seen = seen_later trees keys (own_variables node) c.add_leaf.new.variables.keys c.args.seen.now.keys c.in_ok-add_leaf.ensures c.requires.seen;
    }

pub loop-k-preserved : goal.loop-k-preserved
loop-k-preserved t c =
    let trees = c.args.bank.now in
    let keys : List Variable = c.args.variables.now.keys in
    let ids : List ℕ = c.arguments-count.result.0 in
    let count : ℕ = c.arguments-count.result.1 in
    let args : List ℕ = take count ids in
    let k : ℕ = c.loop-k.k in
    let long : length args ≡ count = ap length c.arguments-count.ensures.are ∙ c.arguments-count.ensures.count in
    let less : k < count = c.loop-k-test.true in
    let rest : drop k args ≡ get_or ids k 0 ∷ drop (k + 1) args =
    drop_more args k 0 (omega arith) ∙ ap (λ (id : ℕ). id ∷ drop (k + 1) args) (get_or-take count ids k 0 less) in
    record {
      added = left c.loop-k.variables.keys c.add_term.new.variables.keys (occurrences (tree_at trees (get_or ids k 0))) (occurrences_of_all trees (drop (k + 1) args))
          (with_variables keys (occurrences (tree_at trees c.args.id))) c.in_ok-add_term.ensures.added
          (ap (λ (l : List ℕ). with_variables c.loop-k.variables.keys (occurrences_of_all trees l)) (sym rest) ∙ c.loop-k.invariant.added);
      seen = c.in_ok-add_term.ensures.seen;
    }

pub returns-clause-added : goal.returns-clause-added
returns-clause-added t c =
    let trees = c.args.bank.now in
    let keys : List Variable = c.args.variables.now.keys in
    let args : List ℕ = take c.arguments-count.result.1 c.arguments-count.result.0 in
    let long : length args ≡ c.arguments-count.result.1 = ap length c.arguments-count.ensures.are ∙ c.arguments-count.ensures.count in
    subst (λ (l : List ℕ). with_variables c.loop-k.variables.keys (occurrences_of_all trees l) ≡ with_variables keys (occurrences (tree_at trees c.args.id)))
    (drop_all c.loop-k.k args (omega arith)) c.loop-k.invariant.added

pub returns-clause-seen : goal.returns-clause-seen
returns-clause-seen t c =
    let trees = c.args.bank.now in
    let keys : List Variable = c.args.variables.now.keys in
    let these : List Variable = occurrences (tree_at trees c.args.id) in
    let args : List ℕ = take c.arguments-count.result.1 c.arguments-count.result.0 in
    let long : length args ≡ c.arguments-count.result.1 = ap length c.arguments-count.ensures.are ∙ c.arguments-count.ensures.count in
    let added : c.loop-k.variables.keys ≡ with_variables keys these =
    subst (λ (l : List ℕ). with_variables c.loop-k.variables.keys (occurrences_of_all trees l) ≡ with_variables keys these) (drop_all c.loop-k.k args (omega arith)) c.loop-k.invariant.added in
    seen_one trees c.loop-k.variables.keys c.loop-k.seen.keys c.insert.new.self.keys c.args.id c.in_ok-insert.ensures.keys
    (subst (λ (vs : List Variable). HasAll vs these) (sym added) (all_added keys these)) c.loop-k.invariant.seen
