use Rattle.cert_check.proofs.Lined.{IsGiven}
use Rattle.cert_check.proofs.certificate.first_fault.Given as goal

-- no line so far broke a rule, and those that are left decide
abbrev pub invariant-loop-index : goal.invariant-loop-index
invariant-loop-index l = IsGiven l.fn.checker.listed.now l.cert l.checker l.literals l.hints l.index
