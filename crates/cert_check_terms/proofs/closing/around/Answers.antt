use Rattle.cert_check_terms.proofs.Arguments.{around_other}
use Rattle.cert_check_terms.proofs.Stacks.{unchanged}
use Rattle.cert_check_terms.proofs.closing.around.Goals as goal

pub returns-clause-made : goal.returns-clause-made
returns-clause-made c =
    around_other c.args.bank.now c.args.operator c.args.arguments.now (λ h. c.if-count-eq1.false h) (λ h. c.if-count-eq2.false h) (λ h. c.if-count-eq3.false h)
    (λ h. c.if-count-eq4.false h) (λ h. c.if-count-eq8.false h)

pub returns-clause-extends : goal.returns-clause-extends
returns-clause-extends c = unchanged c.args.bank.now
