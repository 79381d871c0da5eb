use Rattle.std.proofs.Common.{subst}
use Rattle.sim_rules_spec.specs.Obligations.{Leaf}
use Rattle.sim_rules.specs.Outcome.{IsRuleFault}
use Rattle.tv_limits.specs.declared.TheConstants.{MAX_VISITS}
use Rattle.prove_run.proofs.trail.why.Goals as goal

pub returns-in-Fault : goal.returns-in-Fault
returns-in-Fault c = λ f broken. c.reason.ensures f (subst (IsRuleFault f.opening f.frame MAX_VISITS Leaf) c.in-Fault.is broken)
