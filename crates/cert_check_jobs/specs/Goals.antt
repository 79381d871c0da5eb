-- The obligations of a rule in a part of a listed function, in a bank.
use Rattle.std.specs.Prelude.{List, ℕ, Vec, Result, Ok, Err}
use Rattle.std.specs.Global.{Global}
use Rattle.term_core_spec.specs.Term.{Term}
use Rattle.proof_tree_spec.specs.Frames.{Frame}
use Rattle.sim_rules_spec.specs.Obligations.{Rule}
use Rattle.sim_rules_spec.specs.Rules.{Opening}
use Rattle.sim_rules.specs.Outcome.{AreObligations, HasFewVisits, IsRuleFault}
use Rattle.attempt.specs.declared.refusal.Refusal.{Refusal}
use Rattle.sim_rules.specs.declared.fault.RuleFault.{RuleFault}
use Rattle.tv_limits.specs.declared.TheConstants.{MAX_VISITS}
use Rattle.cert_check_spec.specs.Verdict as spec

-- no walk has too many visits, and the ids are those of the rule's obligations at the frame
pub record HasGoals (f : spec.Listed) (o : Opening) (frame : Frame) (rule : Rule) (trees : List Term) (goals : List ℕ) : Type 0 where
  pub few : HasFewVisits o frame MAX_VISITS rule
  pub are : AreObligations trees f.convention o frame rule goals

abbrev pub AnswersRule : spec.Listed → Opening → Frame → Rule → List Term → Result (Vec ℕ Global) (Refusal RuleFault) → Type 0
AnswersRule f o frame rule trees (Ok goals) = HasGoals f o frame rule trees goals.items
AnswersRule f o frame rule trees (Err fault) = IsRuleFault o frame MAX_VISITS rule fault
