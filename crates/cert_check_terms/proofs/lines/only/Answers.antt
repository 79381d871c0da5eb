use Rattle.std.proofs.Common.{sym, subst, arith}
use Rattle.cert_check_terms.specs.Reading as spec
use Rattle.cert_check_terms.specs.Outcomes.{Finds}
use Rattle.cert_check_terms.proofs.Stacks.{only_one, only_other}
use Rattle.cert_check_terms.proofs.lines.only.Goals as goal

pub returns-then-count-eq1 : goal.returns-then-count-eq1
returns-then-count-eq1 c = λ trees inside.
    subst (λ es. Finds trees (spec.only es) c.whole.result) (sym (only_one trees c.args.entries.now _ c.if-count-eq1.true))
    (c.whole.ensures trees (inside 0 _ (omega (arith, c.if-count-eq1.true))))

pub returns : goal.returns
returns c = λ trees inside. only_other trees c.args.entries.now (λ h. c.if-count-eq1.false h)
