-- The obligations of a Leaf at a listed function's entry, in a bank.
use Rattle.std.specs.Prelude.{List, ℕ, Vec, Result, Ok, Err}
use Rattle.std.specs.Global.{Global}
use Rattle.std.specs.HashMap.{get}
use Rattle.term_core_spec.specs.Same.{same_variable}
use Rattle.term_core_spec.specs.Term.{Term}
use Rattle.path_cond.specs.States.{IsMapOf}
use Rattle.proof_tree_spec.specs.Frames.{Frame}
use Rattle.sim_rules_spec.specs.Obligations as rule
use Rattle.sim_rules_terms.specs.declared.points.Opening.{Opening}
use Rattle.sim_rules.specs.Outcome.{AreObligations, HasFewVisits, IsRuleFault}
use Rattle.attempt.specs.declared.refusal.Refusal.{Refusal}
use Rattle.attempt.specs.declared.refusal.Refusal.TheVariants.{Fault, NoMemory}
use Rattle.sim_rules.specs.declared.fault.RuleFault.{RuleFault}
use Rattle.sim_rules.specs.declared.fault.RuleFault.TheVariants.{Sort, Cyclic, Large}
use Rattle.tv_limits.specs.declared.TheConstants.{MAX_VISITS}
use Rattle.cert_check_spec.specs.Verdict as spec
use Rattle.cert_check_frames.specs.declared.listed.Listed.{Listed}
use Rattle.cert_check_frames.specs.Listed.{terms_given}

-- the maps have the terms of the function's entry
pub record AreOpened (f : Listed) (trees : List Term) (o : Opening) : Type 0 where
  pub of_binary : IsMapOf trees (get same_variable o.binary.now) (terms_given f.binary_terms.now)
  pub of_source : IsMapOf trees (get same_variable o.source.now) (terms_given f.source_terms.now)

-- neither walk has too many visits, and the ids are those of a Leaf's obligations at the frame
pub record HasGoals (f : spec.Listed) (frame : Frame) (trees : List Term) (goals : List ℕ) : Type 0 where
  pub few : HasFewVisits f.opening frame MAX_VISITS rule.Leaf
  pub are : AreObligations trees f.convention f.opening frame rule.Leaf goals

abbrev pub AnswersGoals : spec.Listed → Frame → List Term → Result (Vec ℕ Global) (Refusal RuleFault) → Type 0
AnswersGoals f frame trees (Ok goals) = HasGoals f frame trees goals.items
AnswersGoals f frame trees (Err fault) = IsRuleFault f.opening frame MAX_VISITS rule.Leaf fault

-- a Leaf has no line
abbrev pub IsLeafFault : Refusal RuleFault → Type 0
IsLeafFault (Fault (Sort index)) = ⊥
IsLeafFault (Fault (Cyclic side node)) = Unit {0}
IsLeafFault (Fault (Large side count)) = Unit {0}
IsLeafFault NoMemory = Unit {0}
