use Rattle.std.proofs.Common.{length, sym, ap, ◌∙◌, subst}
use Rattle.std.proofs.lemmas.Result.{on_ok_weaker}
use Rattle.std.proofs.lemmas.List.{length-map}
use Rattle.std.proofs.Common.{[]}
use Rattle.term_bank.specs.Nodes.{IsNode}
use Rattle.term_sorts.specs.Sorts.{sort_of_node}
use Rattle.term_sorts.proofs.Orders.{within_of}
use Rattle.word_steps.specs.Outcomes.{IsPushed}
use Rattle.word_steps.specs.Views.{new_number, sort_of_number}
use Rattle.word_steps.proofs.Numbering.{within_at, over_ids_within, subterm_added}
use Rattle.word_steps.proofs.block.Block.add_subterm.Goals as goal

pub node-requires : goal.node-requires
node-requires c =
    within_at (length c.args.bank.now) c.args.ids.now.keys c.args.index c.args.id (within_of c.args.bank.now [] c.args.ids.now.keys c.requires.order) c.requires.id

pub node_sort-sort-requires : goal.node_sort-sort-requires
node_sort-sort-requires c =
    subst (λ k. IsNode k c.over_ids-operation.result) (sym (ap length (c.as_slice.ensures.value ∙ c.requires.before.block.sorts) ∙ length-map c.args.self.now.numbers.items (sort_of_number c.args.bank.now) ∙ c.requires.before.so_many))
    (subst (IsNode c.args.index) (sym c.over_ids-operation.ensures) (over_ids_within c.args.bank.now c.are_distinct.ensures c.args.ids.now.keys c.requires.order c.args.index c.args.id c.requires.id c.node.result c.node.ensures.children c.node.ensures.tree))

pub returns : goal.returns
returns c =
    on_ok_weaker c.push_number.result
    (λ pushed. subterm_added c.args.bank.now c.are_distinct.ensures c.args.ids.now.keys c.requires.order c.args.index c.args.id c.requires.id c.node.result c.node.ensures.children c.node.ensures.tree c.args.self.now c.push_number.new.self c.node_sort-sort.result c.requires.before
    (c.node_sort-sort.ensures ∙ ap (λ l. sort_of_node l c.over_ids-operation.result) c.as_slice.ensures.value ∙ ap (sort_of_node c.args.self.now.sorts.items) c.over_ids-operation.ensures)
    (subst (λ o. IsPushed c.args.self.now c.push_number.new.self (new_number o c.args.id) c.node_sort-sort.result) c.over_ids-operation.ensures pushed))
    c.push_number.ensures
