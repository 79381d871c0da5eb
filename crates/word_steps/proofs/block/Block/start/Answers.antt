use Rattle.std.proofs.Common.{ap, ◌∙◌}
use Rattle.term_core_spec.specs.Subterms.{with_subterms}
use Rattle.term_bank.specs.Nodes.{tree_at}
use Rattle.term_sorts.specs.Order.{terms_of}
use Rattle.term_sorts.proofs.Orders.{no_order}
use Rattle.word_steps.proofs.Numbering.{index_within, started}
use Rattle.word_steps.proofs.block.Block.start.Goals as goal

pub add_subterms-requires-clause-order : goal.add_subterms-requires-clause-order
add_subterms-requires-clause-order c =
    no_order c.args.bank.now c.new-ids.result.keys c.new-ids.ensures.empty

pub add_all-requires-clause-none : goal.add_all-requires-clause-none
add_all-requires-clause-none c =
    c.new-block.ensures c.args.bank.now c.add_subterms.new.found.keys

pub note_fact-requires : goal.note_fact-requires
note_fact-requires c =
    index_within c.args.bank.now c.are_distinct.ensures c.add_subterms.new.found.keys c.args.goal c.index_of-index.result c.add_all.new.self c.add_all.new.self c.add_subterms.ensures.order
    (c.in-Ok-attempt.ensures.adds ∙ ap (λ l. with_subterms (tree_at c.args.bank.now c.args.goal) (terms_of c.args.bank.now l)) c.new-ids.ensures.empty) c.requires c.in-Ok-attempt-2.ensures c.index_of-index.ensures

pub returns-3-clause-shows : goal.returns-3-clause-shows
returns-3-clause-shows c =
    started c.args.bank.now c.are_distinct.ensures c.add_subterms.new.found.keys c.args.goal c.index_of-index.result c.add_all.new.self c.note_fact.new.self c.add_subterms.ensures.order
    (c.in-Ok-attempt.ensures.adds ∙ ap (λ l. with_subterms (tree_at c.args.bank.now c.args.goal) (terms_of c.args.bank.now l)) c.new-ids.ensures.empty) c.requires c.in-Ok-attempt-2.ensures c.index_of-index.ensures (c.note_fact.ensures.becomes c.args.bank.now c.in-Ok-attempt-2.ensures.block)
