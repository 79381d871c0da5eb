use Rattle.std.proofs.Common.{◌∙◌, sym, subst, arith}
use Rattle.cert_check_terms.specs.Outcomes.{IsMade}
use Rattle.cert_check_terms.proofs.Arguments.{around_eight, no_eight}
use Rattle.cert_check_terms.proofs.Stacks.{unchanged}
use Rattle.cert_check_terms.proofs.closing.around_eight.Goals as goal

pub place-requires : goal.place-requires
place-requires c = (c.requires.inside 7 _ (omega (arith, c.requires.count)), c.requires.inside 6 _ (omega (arith, c.requires.count)), c.requires.inside 5 _ (omega (arith, c.requires.count)), c.requires.inside 4 _ (omega (arith, c.requires.count)), c.requires.inside 3 _ (omega (arith, c.requires.count)), c.requires.inside 2 _ (omega (arith, c.requires.count)), c.requires.inside 1 _ (omega (arith, c.requires.count)), c.requires.inside 0 _ (omega (arith, c.requires.count)))

pub returns-then-is_join-clause-made : goal.returns-then-is_join-clause-made
returns-then-is_join-clause-made c =
    subst (λ e. IsMade c.place.new.bank e c.place.result)
    (sym (around_eight c.args.bank.now c.args.operator c.args.arguments.now _ c.sort_of_octonary-sort.result c.requires.count (sym c.is_join.ensures ∙ c.if-is_join.true) c.sort_of_octonary-sort.ensures))
    c.place.ensures.made

pub returns-clause-made : goal.returns-clause-made
returns-clause-made c = no_eight c.args.bank.now c.args.operator c.args.arguments.now c.requires.count (sym c.is_join.ensures ∙ c.if-is_join.false)

pub returns-clause-extends : goal.returns-clause-extends
returns-clause-extends c = unchanged c.args.bank.now
