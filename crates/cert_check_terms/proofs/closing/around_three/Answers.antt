use Rattle.std.proofs.Common.{◌∙◌, sym, subst, arith}
use Rattle.cert_check_terms.specs.Outcomes.{IsMade}
use Rattle.cert_check_terms.proofs.Arguments.{around_three, no_three}
use Rattle.cert_check_terms.proofs.Stacks.{unchanged}
use Rattle.cert_check_terms.proofs.closing.around_three.Goals as goal

pub place-requires : goal.place-requires
place-requires c = (c.requires.inside 2 _ (omega (arith, c.requires.count)), c.requires.inside 1 _ (omega (arith, c.requires.count)), c.requires.inside 0 _ (omega (arith, c.requires.count)))

pub returns-then-is_choose-clause-made : goal.returns-then-is_choose-clause-made
returns-then-is_choose-clause-made c =
    subst (λ e. IsMade c.place.new.bank e c.place.result)
    (sym (around_three c.args.bank.now c.args.operator c.args.arguments.now _ c.sort_of_ternary-sort.result c.requires.count (sym c.is_choose.ensures ∙ c.if-is_choose.true) c.sort_of_ternary-sort.ensures))
    c.place.ensures.made

pub returns-clause-made : goal.returns-clause-made
returns-clause-made c = no_three c.args.bank.now c.args.operator c.args.arguments.now c.requires.count (sym c.is_choose.ensures ∙ c.if-is_choose.false)

pub returns-clause-extends : goal.returns-clause-extends
returns-clause-extends c = unchanged c.args.bank.now
