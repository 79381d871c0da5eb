use Rattle.std.proofs.Common.{length, sym, ap, ◌∙◌, arith}
use Rattle.memory_spec.specs.Viewed.{runs_of}
use Rattle.term_bank.specs.Nodes.{tree_at}
use Rattle.term_sorts.proofs.Sorted.{sorts_later}
use Rattle.word_steps_spec.specs.Commuting.{same_up_to_order}
use Rattle.word_steps.specs.declared.number.Number.{Number}
use Rattle.word_steps.specs.Views.{number_in}
use Rattle.word_steps.proofs.Reordered.{now_within, not_merged, now_merged}
use Rattle.word_steps.proofs.block.Block.merge_by_order.Goals as goal

pub add_sorts-requires : goal.add_sorts-requires
add_sorts-requires c = sorts_later c.args.bank.now c.renew_at.new.bank c.args.sorts.now.items c.renew_at.ensures.extends c.requires.sorts

pub returns-clause-sorts : goal.returns-clause-sorts
returns-clause-sorts c = sorts_later c.args.bank.now c.renew_at.new.bank c.args.sorts.now.items c.renew_at.ensures.extends c.requires.sorts

pub same_up_to_order-requires-clause-first : goal.same_up_to_order-requires-clause-first
same_up_to_order-requires-clause-first c =
    let inside = now_within (runs_of c.args.runs.now) c.args.bank.now c.renew_at.new.bank c.args.self.now c.renew_at.new.self c.args.pair.first c.args.pair.second (omega (arith, c.in-Ok-attempt.ensures.count, c.requires.first)) (omega (arith, c.in-Ok-attempt.ensures.count, c.requires.second)) c.in-Ok-attempt.ensures.becomes c.args.pair.first (omega (arith, c.in-Ok-attempt.ensures.count, c.requires.first)) in
    omega (arith, inside, ap (λ (n : Number). n.now) c.number.ensures, ap length c.as_slice.ensures.value, c.in-Ok-attempt-2.ensures)

pub same_up_to_order-requires-clause-second : goal.same_up_to_order-requires-clause-second
same_up_to_order-requires-clause-second c =
    let inside = now_within (runs_of c.args.runs.now) c.args.bank.now c.renew_at.new.bank c.args.self.now c.renew_at.new.self c.args.pair.first c.args.pair.second (omega (arith, c.in-Ok-attempt.ensures.count, c.requires.first)) (omega (arith, c.in-Ok-attempt.ensures.count, c.requires.second)) c.in-Ok-attempt.ensures.becomes c.args.pair.second (omega (arith, c.in-Ok-attempt.ensures.count, c.requires.second)) in
    omega (arith, inside, ap (λ (n : Number). n.now) c.number-2.ensures, ap length c.as_slice.ensures.value, c.in-Ok-attempt-2.ensures)

pub returns-then-not-attempt-clause-tries : goal.returns-then-not-attempt-clause-tries
returns-then-not-attempt-clause-tries c =
    let mid = c.renew_at.new.bank in
    let items = c.renew_at.new.self.numbers.items in
    let test = ap (λ (n : Number). same_up_to_order (tree_at mid n.now) (tree_at mid (number_in items c.args.pair.second).now)) (sym c.number.ensures)
    ∙ ap (λ (n : Number). same_up_to_order (tree_at mid c.number.result.now) (tree_at mid n.now)) (sym c.number-2.ensures) ∙ sym c.in-Ok-attempt-3.ensures in
    not_merged (runs_of c.args.runs.now) c.args.bank.now c.renew_at.new.bank c.args.self.now c.renew_at.new.self c.args.pair.first c.args.pair.second (omega (arith, c.in-Ok-attempt.ensures.count, c.requires.first)) (omega (arith, c.in-Ok-attempt.ensures.count, c.requires.second)) c.in-Ok-attempt.ensures.becomes c.renew_at.new.bank c.renew_at.new.self (test ∙ c.if-not-attempt.true)

pub returns-4-clause-sorts : goal.returns-4-clause-sorts
returns-4-clause-sorts c = sorts_later c.renew_at.new.bank c.merge_at.new.bank c.add_sorts.new.sorts.items c.merge_at.ensures.extends c.add_sorts.ensures.sorts.sorts

pub returns-5-clause-sorts : goal.returns-5-clause-sorts
returns-5-clause-sorts c = sorts_later c.renew_at.new.bank c.merge_at.new.bank c.add_sorts.new.sorts.items c.merge_at.ensures.extends c.add_sorts.ensures.sorts.sorts

pub returns-5-clause-tries : goal.returns-5-clause-tries
returns-5-clause-tries c =
    let mid = c.renew_at.new.bank in
    let items = c.renew_at.new.self.numbers.items in
    let test = ap (λ (n : Number). same_up_to_order (tree_at mid n.now) (tree_at mid (number_in items c.args.pair.second).now)) (sym c.number.ensures)
    ∙ ap (λ (n : Number). same_up_to_order (tree_at mid c.number.result.now) (tree_at mid n.now)) (sym c.number-2.ensures) ∙ sym c.in-Ok-attempt-3.ensures in
    now_merged (runs_of c.args.runs.now) c.args.bank.now c.renew_at.new.bank c.args.self.now c.renew_at.new.self c.args.pair.first c.args.pair.second (omega (arith, c.in-Ok-attempt.ensures.count, c.requires.first)) (omega (arith, c.in-Ok-attempt.ensures.count, c.requires.second)) c.in-Ok-attempt.ensures.becomes c.merge_at.new.bank c.merge_at.new.self (test ∙ c.if-not-attempt.false) c.in-Ok-attempt-4.ensures.becomes
