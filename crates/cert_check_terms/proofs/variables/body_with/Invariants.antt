use Rattle.cert_check_terms.proofs.Remaining.{IsBodyLeft}
use Rattle.cert_check_terms.proofs.variables.body_with.Given as goal

-- the body is among those that are left
abbrev pub invariant-loop-body : goal.invariant-loop-body
invariant-loop-body l = IsBodyLeft l.calls l.bodies l.body-index
