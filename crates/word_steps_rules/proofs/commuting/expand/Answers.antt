use Rattle.std.proofs.Common.{◌≡◌, Some, length, vec_len, sym, ap, ◌∙◌, subst, arith, rules}
use Rattle.std.specs.Prelude.{nat_le}
use Rattle.std.proofs.lemmas.Option.{slice_get-get_or}
use Rattle.word_steps_spec.specs.Commuting.{ARGUMENTS}
use Rattle.word_steps_rules.specs.Arguments.{Expands}
use Rattle.word_steps_rules.proofs.Arguments.{expand_start, expand_end, expand_stop}
use Rattle.word_steps_rules.proofs.commuting.expand.Goals as goal

pub loop-at-init : goal.loop-at-init
loop-at-init c =
    expand_start c.args.bank.now c.args.operator (length c.args.sorts.now) c.args.terms.now.items c.requires.within

pub expand_at-requires-clause-id : goal.expand_at-requires-clause-id
expand_at-requires-clause-id c =
    let count : length c.loop-at.terms.items ≡ vec_len c.loop-at.terms = search rules in
    slice_get-get_or c.loop-at.terms.items c.loop-at.at c.index-id.result.now (omega (arith, count, c.loop-at-test.true)) ∙ ap Some (sym c.index-id.ensures)

pub loop-at-preserved : goal.loop-at-preserved
loop-at-preserved c =
    (c.in-Ok-attempt.ensures c.args.terms.now.items c.loop-at.invariant).on

pub loop-at-smaller : goal.loop-at-smaller
loop-at-smaller c =
    let count : length c.loop-at.terms.items ≡ vec_len c.loop-at.terms = search rules in
    (c.in-Ok-attempt.ensures c.args.terms.now.items c.loop-at.invariant).less (omega (arith, count, c.if-len-gt-ARGUMENTS.false))

pub returns-then-len-gt-ARGUMENTS : goal.returns-then-len-gt-ARGUMENTS
returns-then-len-gt-ARGUMENTS c =
    let count : length c.loop-at.terms.items ≡ vec_len c.loop-at.terms = search rules in
    expand_stop c.args.bank.now c.args.operator (length c.args.sorts.now) c.args.terms.now.items c.loop-at.terms.items c.loop-at.at c.loop-at.invariant (omega (arith, count, c.if-len-gt-ARGUMENTS.true))

pub returns : goal.returns
returns c =
    let count : length c.loop-at.terms.items ≡ c.len-2.result = search rules in
    subst (λ n. Expands c.args.bank.now c.args.operator (length c.args.sorts.now) c.args.terms.now.items c.loop-at.terms.items (nat_le n ARGUMENTS)) count
    (expand_end c.args.bank.now c.args.operator (length c.args.sorts.now) c.args.terms.now.items c.loop-at.terms.items c.loop-at.at c.loop-at.invariant (omega (arith, count, c.loop-at-test.false)))
