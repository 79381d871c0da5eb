use Rattle.std.proofs.Common.{sym, subst, arith}
use Rattle.cert_check_terms.specs.Outcomes.{IsMade}
use Rattle.cert_check_terms.proofs.Arguments.{around_two, no_two}
use Rattle.cert_check_terms.proofs.Stacks.{unchanged}
use Rattle.cert_check_terms.proofs.closing.around_two.Goals as goal

pub place-requires : goal.place-requires
place-requires c = (c.requires.inside 1 _ (omega (arith, c.requires.count)), c.requires.inside 0 _ (omega (arith, c.requires.count)))

pub returns-in-Some-clause-made : goal.returns-in-Some-clause-made
returns-in-Some-clause-made c =
    subst (λ e. IsMade c.place.new.bank e c.place.result)
    (sym (around_two c.args.bank.now c.args.operator c.args.arguments.now _ c.in-Some.binary c.sort_of_binary-sort.result c.requires.count (sym c.in-Some.ensures) c.sort_of_binary-sort.ensures))
    c.place.ensures.made

pub returns-in-None-clause-made : goal.returns-in-None-clause-made
returns-in-None-clause-made c = no_two c.args.bank.now c.args.operator c.args.arguments.now c.requires.count (sym c.in-None.ensures)

pub returns-in-None-clause-extends : goal.returns-in-None-clause-extends
returns-in-None-clause-extends c = unchanged c.args.bank.now
