use Rattle.std.proofs.Common.{◌≡◌, ◌∙◌, ℕ, ◌<◌, List, [], ◌∷◌, length, sym, ap, subst, arith, length-append}
use Rattle.std.specs.Prelude.{Option}
use Rattle.term_core_spec.specs.declared.Sort.{Sort}
use Rattle.term_bank.specs.Nodes.{IsNode, Holds, build}
use Rattle.term_sorts.specs.Sorts.{sort_of_node}
use Rattle.term_sorts.proofs.Sorted.{sorts_push}
use Rattle.term_sorts.proofs.sorts.add_sorts.Goals as goal

pub loop-i-preserved : goal.loop-i-preserved
loop-i-preserved c =
    let trees = c.args.bank.now in
    let sorts : List (Option Sort) = c.loop-i.sorts.items in
    let node = c.node.result in
    let at : c.loop-i.i ≡ length sorts = sym c.loop-i.invariant.all in
    let inside : length sorts < length trees = omega arith in
    let more = sorts_push trees sorts c.loop-i.invariant.more.sorts node c.node_sort-sort.result c.push.new.self.items (subst (λ (n : ℕ). IsNode n node) at c.node.ensures.children)
    (subst (λ (n : ℕ). Holds trees n (build trees node)) at c.node.ensures.tree) (c.node_sort-sort.ensures ∙ ap (λ (xs : List (Option Sort)). sort_of_node xs node) c.as_slice.ensures.value)
    c.in_ok-push.ensures.items inside in
    let before = c.loop-i.invariant.more.longer in
    let after = more.longer in
    record {
      more = record { sorts = more.sorts; longer = omega arith };
      all = omega (arith, ap length c.in_ok-push.ensures.items, length-append sorts (c.node_sort-sort.result ∷ []), c.loop-i.invariant.all);
    }
