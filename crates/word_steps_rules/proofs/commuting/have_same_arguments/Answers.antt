use Rattle.std.proofs.Common.{length, subst, ap, ◌∙◌}
use Rattle.term_bank.specs.Nodes.{tree_at}
use Rattle.word_steps_rules.specs.Monomials.{same_ids}
use Rattle.word_steps_rules.specs.Arguments.{ArgumentsOf}
use Rattle.word_steps_rules.proofs.Arguments.{both_are, too_many_first, too_many_second}
use Rattle.word_steps_rules.proofs.commuting.have_same_arguments.Goals as goal

pub returns-then-not-attempt : goal.returns-then-not-attempt
returns-then-not-attempt c =
    too_many_first c.args.bank.now c.are_distinct.ensures c.args.operator (length c.args.sorts.now) c.requires.sorts.within (tree_at c.args.bank.now c.args.ids.left) (tree_at c.args.bank.now c.args.ids.right) c.add_arguments.new.terms.items c.args.second.now.items (subst (ArgumentsOf c.args.bank.now c.args.operator (length c.args.sorts.now) (tree_at c.args.bank.now c.args.ids.left) c.add_arguments.new.terms.items) c.if-not-attempt.true c.in-Ok-attempt.ensures)

pub returns-then-not-attempt-2 : goal.returns-then-not-attempt-2
returns-then-not-attempt-2 c =
    too_many_second c.args.bank.now c.are_distinct.ensures c.args.operator (length c.args.sorts.now) c.requires.sorts.within (tree_at c.args.bank.now c.args.ids.left) (tree_at c.args.bank.now c.args.ids.right) c.add_arguments.new.terms.items c.add_arguments-2.new.terms.items (subst (ArgumentsOf c.args.bank.now c.args.operator (length c.args.sorts.now) (tree_at c.args.bank.now c.args.ids.right) c.add_arguments-2.new.terms.items) c.if-not-attempt-2.true c.in-Ok-attempt-2.ensures)

pub returns-3 : goal.returns-3
returns-3 c =
    c.same_ids.ensures ∙ ap (λ l. same_ids l c.as_slice-2.result.now) c.as_slice.ensures.value ∙ ap (same_ids c.add_arguments.new.terms.items) c.as_slice-2.ensures.value
    ∙ both_are c.args.bank.now c.are_distinct.ensures c.args.operator (length c.args.sorts.now) c.requires.sorts.within (tree_at c.args.bank.now c.args.ids.left) (tree_at c.args.bank.now c.args.ids.right) c.add_arguments.new.terms.items c.add_arguments-2.new.terms.items (subst (ArgumentsOf c.args.bank.now c.args.operator (length c.args.sorts.now) (tree_at c.args.bank.now c.args.ids.left) c.add_arguments.new.terms.items) c.if-not-attempt.false c.in-Ok-attempt.ensures) (subst (ArgumentsOf c.args.bank.now c.args.operator (length c.args.sorts.now) (tree_at c.args.bank.now c.args.ids.right) c.add_arguments-2.new.terms.items) c.if-not-attempt-2.false c.in-Ok-attempt-2.ensures)
