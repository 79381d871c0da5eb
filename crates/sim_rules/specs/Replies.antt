-- What a rule's answer says: its obligations, or why it has none.
use Rattle.std.specs.Prelude.{ℕ, ◌<◌, List, length, All, Result, Vec, IfOk, IfErr, OnOk}
use Rattle.std.specs.Global.{Global}
use Rattle.term_core_spec.specs.Term.{Term}
use Rattle.proof_tree.specs.Frames.{frame_of}
use Rattle.sim_rules_spec.specs.Obligations.{Rule}
use Rattle.sim_rules_spec.specs.Points.{Convention}
use Rattle.sim_rules_spec.specs.Rules.{Opening}
use Rattle.attempt.specs.declared.refusal.Refusal.{Refusal}
use Rattle.sim_rules.specs.declared.fault.RuleFault.{RuleFault}
use Rattle.sim_rules.specs.declared.setup.Setup.{Setup}
use Rattle.sim_rules.specs.Outcome.{AreObligations, HasFewVisits, HasLines, IsCount, IsRuleFault}
use Rattle.sim_rules.specs.Setups.{IsSetup}

pub record IsAnswer (before now : List Term) (s : Setup) (rule : Rule) (r : Result (Vec ℕ Global) (Refusal RuleFault)) : Type 0 where
  pub terms : (c : Convention) (o : Opening) → IsSetup before c o s → IfOk r (λ ids. AreObligations now c o (frame_of s.frame.now) rule ids.items)
  pub within : IfOk r (λ ids. All (λ (id : ℕ). id < length now) ids.items)
  pub count : IfOk r (λ ids. IsCount rule (length ids.items))
  pub lines : OnOk r (HasLines (frame_of s.frame.now) rule)
  pub few : (o : Opening) → OnOk r (HasFewVisits o (frame_of s.frame.now) s.maximum rule)
  pub fault : (o : Opening) → IfErr r (IsRuleFault o (frame_of s.frame.now) s.maximum rule)
