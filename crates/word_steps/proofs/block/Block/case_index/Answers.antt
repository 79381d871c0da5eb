use Rattle.std.proofs.Common.{sym, ap, ◌∙◌}
use Rattle.term_core_spec.specs.declared.Sort.TheVariants as sort
use Rattle.word_steps_spec.specs.Numbers.{has_sort}
use Rattle.word_steps.proofs.Joining.{no_case_number, a_case, isnt_case}
use Rattle.word_steps.proofs.block.Block.case_index.Goals as goal

pub returns-then-is_truth_sort : goal.returns-then-is_truth_sort
returns-then-is_truth_sort c =
    a_case c.args.self.now c.args.number c.in-Some.index c.in-Some.ensures
    (ap (λ o. has_sort o sort.Truth) (sym c.sort.ensures) ∙ sym c.is_truth_sort.ensures ∙ c.if-is_truth_sort.true)

pub returns-else-is_truth_sort : goal.returns-else-is_truth_sort
returns-else-is_truth_sort c =
    isnt_case c.args.self.now c.args.number c.in-Some.index c.in-Some.ensures
    (ap (λ o. has_sort o sort.Truth) (sym c.sort.ensures) ∙ sym c.is_truth_sort.ensures ∙ c.if-is_truth_sort.false)

pub returns-in-None : goal.returns-in-None
returns-in-None c =
    no_case_number c.args.self.now c.args.number c.in-None.ensures
