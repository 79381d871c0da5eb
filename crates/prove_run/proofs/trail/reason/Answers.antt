use Rattle.std.proofs.Common.{subst}
use Rattle.attempt.specs.declared.refusal.Refusal.TheVariants.{Fault}
use Rattle.sim_rules_spec.specs.Obligations.{Leaf}
use Rattle.sim_rules.specs.Outcome.{IsRuleFault}
use Rattle.sim_rules.specs.declared.fault.RuleFault.{RuleFault}
use Rattle.tv_limits.specs.declared.TheConstants.{MAX_VISITS}
use Rattle.prove_run.proofs.Sided.{goes_round, has_many}
use Rattle.prove_run.proofs.trail.reason.Goals as goal

pub returns-in-Cyclic : goal.returns-in-Cyclic
returns-in-Cyclic c = λ f broken.
    goes_round f c.in-Cyclic.side c.in-Cyclic.node (subst (λ (fault : RuleFault). IsRuleFault f.opening f.frame MAX_VISITS Leaf (Fault fault)) c.in-Cyclic.is broken)

pub returns-in-Large : goal.returns-in-Large
returns-in-Large c = λ f broken.
    has_many f c.in-Large.side c.in-Large.count (subst (λ (fault : RuleFault). IsRuleFault f.opening f.frame MAX_VISITS Leaf (Fault fault)) c.in-Large.is broken)
