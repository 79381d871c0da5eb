-- The obligations of a rule, as terms of a bank, and why there are none.
use Rattle.std.specs.Prelude.{◌≡◌, ℕ, List, Result, Ok, Err}
use Rattle.term_core_spec.specs.Term.{Term}
use Rattle.proof_tree_spec.specs.Frames.{Frame}
use Rattle.sim_rules_spec.specs.Points.{Convention}
use Rattle.sim_rules_spec.specs.Rules.{Opening}
use Rattle.sim_rules_spec.specs.Obligations as spec
use Rattle.sim_rules_spec.specs.Obligations.{Rule, RestrictBinary, RestrictSource, HasNoLine, IsCyclicOn, IsLargeOn, IsLargeRule}
use Rattle.attempt.specs.declared.refusal.Refusal.{Refusal}
use Rattle.attempt.specs.declared.refusal.Refusal.TheVariants.{Fault, NoMemory}
use Rattle.sim_rules.specs.declared.fault.RuleFault.{RuleFault}
use Rattle.sim_rules.specs.declared.fault.RuleFault.TheVariants.{Sort, Cyclic, Large}
use Rattle.sim_rules_terms.specs.Held.{AreHeld}

-- the ids are those of the rule's obligations, in their order
pub record AreObligations (trees : List Term) (c : Convention) (o : Opening) (f : Frame) (rule : Rule) (ids : List ℕ) : Type 0 where
  pub terms : List Term
  pub are : spec.AreObligations c o f rule terms
  pub held : AreHeld trees ids terms

-- a Restrict has one obligation
abbrev pub IsCount : Rule → (count : ℕ) → Type 0
IsCount (RestrictBinary bound) count = count ≡ 1
IsCount (RestrictSource bound) count = count ≡ 1
IsCount rule count = Unit {0}

-- out of memory may come at any time
abbrev pub IsRuleFault : Opening → Frame → (maximum : ℕ) → Rule → Refusal RuleFault → Type 0
IsRuleFault o f maximum rule (Fault (Sort index)) = HasNoLine f rule index
IsRuleFault o f maximum rule (Fault (Cyclic side node)) = IsCyclicOn o f rule side node
IsRuleFault o f maximum rule (Fault (Large side count)) = IsLargeOn o f maximum rule side count
IsRuleFault o f maximum rule NoMemory = Unit {0}

-- each line of the rule is one
abbrev pub HasLines : Frame → Rule → Type 0
HasLines f rule = (index : ℕ) → HasNoLine f rule index → ⊥

-- neither of its walks has more visits than the maximum
abbrev pub HasFewVisits : Opening → Frame → (maximum : ℕ) → Rule → Type 0
HasFewVisits o f maximum rule = (count : ℕ) → IsLargeRule o f maximum rule count → ⊥

-- of no fault this, and a fault is one of the rule
abbrev pub IsRuleAnswer : {X : Type 0} → Opening → Frame → (maximum : ℕ) → Rule → Result X (Refusal RuleFault) → Type 0
IsRuleAnswer o f maximum rule (Ok x) = HasFewVisits o f maximum rule
IsRuleAnswer o f maximum rule (Err fault) = IsRuleFault o f maximum rule fault
