-- A rule's answer at a frame.
use Rattle.std.proofs.Common.{◌≡◌, ◌∙◌, ℕ, List, Vec, Global, Option, Some, None, refl, sym, ap, subst}
use Rattle.std.specs.Prelude.{Result, Ok, Err, IfOk, IfErr, OnOk}
use Rattle.term_core_spec.specs.Term.{Term}
use Rattle.proof_tree_spec.specs.Frames.{Frame}
use Rattle.sim_rules_spec.specs.Calling.{convention}
use Rattle.sim_rules_spec.specs.Obligations.{Rule}
use Rattle.sim_rules_spec.specs.Points.{Convention}
use Rattle.sim_rules_spec.specs.Rules.{Opening, at_cut}
use Rattle.sim_rules.specs.Outcome.{AreObligations, HasFewVisits, IsRuleFault}
use Rattle.attempt.specs.declared.refusal.Refusal.{Refusal}
use Rattle.sim_rules.specs.declared.fault.RuleFault.{RuleFault}
use Rattle.tv_limits.specs.declared.TheConstants.{MAX_VISITS}
use Rattle.cert_check_spec.specs.Verdict as spec
use Rattle.cert_check_frames.specs.declared.listed.Listed.{Listed}
use Rattle.cert_check_frames.specs.Listed.{IsListed, frame_at}
use Rattle.cert_check_jobs.specs.Cuts.{Site}
use Rattle.cert_check_jobs.specs.Extras.{Added, frame_added, opening_at}
use Rattle.cert_check_jobs.specs.Goals.{AnswersRule}

pub rule_answer : (f : spec.Listed) (o : Opening) (now : List Term) (frame : Frame) (rule : Rule) (r : Result (Vec ℕ Global) (Refusal RuleFault))
    → IfOk r (λ ids. AreObligations now f.convention o frame rule ids.items) → OnOk r (HasFewVisits o frame MAX_VISITS rule)
    → IfErr r (IsRuleFault o frame MAX_VISITS rule) → AnswersRule f o frame rule now r
rule_answer f o now frame rule (Ok goals) are few fault = record { few = few; are = are }
rule_answer f o now frame rule (Err fault) are few broken = broken

-- a convention with the zone of so much stack
abbrev pub blank : (stack : ℕ) → Convention
blank stack = convention stack 0 0 None (λ address. None)

-- at the frame that was made, which is the listed one with some more
module _ (code : Listed) (f : spec.Listed) (is : IsListed code f) (x : Added) (made : Frame) (frame_is : made ≡ frame_added (frame_at code) x) (rule : Rule) (now : List Term)
    (r : Result (Vec ℕ Global) (Refusal RuleFault)) where
  same : made ≡ frame_added f.frame x
  same = frame_is ∙ ap (λ (g : Frame). frame_added g x) (sym is.frame_is)

  -- which starts at the entry
  pub entry_answer : (start : Option Site) → start ≡ None → AnswersRule f f.opening made rule now r → AnswersRule f (opening_at f start) (frame_added f.frame x) rule now r
  entry_answer start none answers =
      subst (λ (s : Option Site). AnswersRule f (opening_at f s) (frame_added f.frame x) rule now r) (sym none)
      (subst (λ (g : Frame). AnswersRule f f.opening g rule now r) same answers)

  -- or at a cut
  pub cut_answer : (start : Option Site) (at : Site) → start ≡ Some at → AnswersRule f (at_cut f.convention) made rule now r
      → AnswersRule f (opening_at f start) (frame_added f.frame x) rule now r
  cut_answer start at some answers =
      subst (λ (s : Option Site). AnswersRule f (opening_at f s) (frame_added f.frame x) rule now r) (sym some)
      (subst (λ (g : Frame). AnswersRule f (at_cut f.convention) g rule now r) same answers)
