use Rattle.std.proofs.Common.{false, List, sym, ap, ◌∙◌}
use Rattle.memory_spec.specs.Viewed.{runs_of}
use Rattle.term_core_spec.specs.declared.Sort.TheVariants as sort
use Rattle.word_steps_spec.specs.Numbers as spec
use Rattle.word_steps_spec.specs.Numbers.{has_sort}
use Rattle.word_steps_spec.specs.Lines as lines
use Rattle.word_steps.specs.Views.{count_of, fact_at}
use Rattle.word_steps.proofs.Later.{block_later, numbers_later}
use Rattle.word_steps.proofs.Arguing.{bool_is, says_no_bool, says_false, says_true, says_nothing}
use Rattle.word_steps.proofs.block.Block.argument_value.Goals as goal

pub returns-then-not-is_truth_sort-clause-value : goal.returns-then-not-is_truth_sort-clause-value
returns-then-not-is_truth_sort-clause-value c =
    says_no_bool (runs_of c.args.runs.now) c.args.bank.now c.args.self.now c.requires.block c.args.index c.requires.index c.args.holds c.args.place c.args.other (sym (bool_is (runs_of c.args.runs.now) c.args.bank.now c.args.self.now c.requires.block c.args.index c.requires.index c.args.holds c.args.other c.requires.other) ∙ ap (λ o. has_sort o sort.Truth) (sym c.sort.ensures) ∙ sym c.is_truth_sort.ensures ∙ c.if-not-is_truth_sort.true)

pub returns-then-attempt-clause-value : goal.returns-then-attempt-clause-value
returns-then-attempt-clause-value c =
    says_false (runs_of c.args.runs.now) c.args.bank.now c.args.self.now c.requires.block c.args.index c.requires.index c.args.holds c.args.place c.args.other (sym (bool_is (runs_of c.args.runs.now) c.args.bank.now c.args.self.now c.requires.block c.args.index c.requires.index c.args.holds c.args.other c.requires.other) ∙ ap (λ o. has_sort o sort.Truth) (sym c.sort.ensures) ∙ sym c.is_truth_sort.ensures ∙ c.if-not-is_truth_sort.false) (sym c.in-Ok-attempt.ensures.test ∙ c.if-attempt.true)

pub is_refuted_by-requires-2-clause-block : goal.is_refuted_by-requires-2-clause-block
is_refuted_by-requires-2-clause-block c =
    block_later c.args.bank.now c.is_refuted_by.new.bank c.args.self.now c.is_refuted_by.ensures.extends c.requires.block

pub returns-then-attempt-2-clause-value : goal.returns-then-attempt-2-clause-value
returns-then-attempt-2-clause-value c =
    let later = ap (λ (ns : List spec.Number). lines.is_refuted_by (runs_of c.args.runs.now) ns (fact_at c.args.index c.args.holds) c.args.place false) (numbers_later c.args.bank.now c.is_refuted_by.new.bank (count_of c.args.self.now) c.args.self.now.numbers.items c.is_refuted_by.ensures.extends c.requires.block.numbers) in
    says_true (runs_of c.args.runs.now) c.args.bank.now c.args.self.now c.requires.block c.args.index c.requires.index c.args.holds c.args.place c.args.other (sym (bool_is (runs_of c.args.runs.now) c.args.bank.now c.args.self.now c.requires.block c.args.index c.requires.index c.args.holds c.args.other c.requires.other) ∙ ap (λ o. has_sort o sort.Truth) (sym c.sort.ensures) ∙ sym c.is_truth_sort.ensures ∙ c.if-not-is_truth_sort.false) (sym c.in-Ok-attempt.ensures.test ∙ c.if-attempt.false)
    (sym later ∙ sym c.in-Ok-attempt-2.ensures.test ∙ c.if-attempt-2.true)

pub returns-3-clause-value : goal.returns-3-clause-value
returns-3-clause-value c =
    let later = ap (λ (ns : List spec.Number). lines.is_refuted_by (runs_of c.args.runs.now) ns (fact_at c.args.index c.args.holds) c.args.place false) (numbers_later c.args.bank.now c.is_refuted_by.new.bank (count_of c.args.self.now) c.args.self.now.numbers.items c.is_refuted_by.ensures.extends c.requires.block.numbers) in
    says_nothing (runs_of c.args.runs.now) c.args.bank.now c.args.self.now c.requires.block c.args.index c.requires.index c.args.holds c.args.place c.args.other (sym (bool_is (runs_of c.args.runs.now) c.args.bank.now c.args.self.now c.requires.block c.args.index c.requires.index c.args.holds c.args.other c.requires.other) ∙ ap (λ o. has_sort o sort.Truth) (sym c.sort.ensures) ∙ sym c.is_truth_sort.ensures ∙ c.if-not-is_truth_sort.false) (sym c.in-Ok-attempt.ensures.test ∙ c.if-attempt.false)
    (sym later ∙ sym c.in-Ok-attempt-2.ensures.test ∙ c.if-attempt-2.false)
