-- What a step does to the log that is open, by what it does to its closer.
use Rattle.std.proofs.Common.{◌≡◌, ◌∙◌, ℕ, suc, Bool, true, false, Some, Ok, Err, sym, ap}
use Rattle.clause_check_spec.specs.Log.{Step}
use Rattle.clause_check.specs.declared.hints.StepFault.{StepFault}
use Rattle.discharge.specs.Closers.{OpenLog, TakesStep, is_closed, open_of}
use Rattle.attempt.specs.declared.refusal.Refusal.TheVariants.{Fault}
use Rattle.cert_check_spec.specs.declared.RuleWord.TheVariants as fault
use Rattle.cert_check.specs.declared.fault.NamedFault.TheVariants.{Broken}
use Rattle.cert_check.specs.declared.fault.Named.TheVariants as named
use Rattle.cert_check.specs.declared.logs.OpenLine.{OpenLine}
use Rattle.cert_check.specs.Logs.{StepsLog, refused, unclosed}

module _ (part : ℕ) (old new : OpenLine) (one : Step) (place : ℕ) where
  -- it doesn't follow
  pub refused_step : (wrong : StepFault) → ((log : OpenLog) → open_of old.closer ≡ Some log → TakesStep log (open_of new.closer) one.literals one.hints (Err (Fault wrong)))
      → StepsLog part old new one place (Err (Fault (record { place = place; fault = Broken (named.Listed part) fault.Step })))
  refused_step wrong takes = λ steps is. refused wrong.hint wrong.kind (takes steps is)

  module _ (takes : (log : OpenLog) → open_of old.closer ≡ Some log → TakesStep log (open_of new.closer) one.literals one.hints (Ok (tt {0}))) where
    -- more are to come
    pub follows_more : old.left ≡ suc new.left → new.place ≡ old.place → StepsLog part old new one place (Ok true)
    follows_more left placed = λ steps is.
        let took = takes steps is in
        (took.0, took.1, left, placed)

    -- it was the last
    pub closes_goal : (closed : Bool) → closed ≡ is_closed (open_of new.closer) → closed ≡ true → old.left ≡ 0 → StepsLog part old new one place (Ok false)
    closes_goal closed same shut none = λ steps is.
        let took = takes steps is in
        (took.0, sym (ap is_closed took.1) ∙ (sym same ∙ shut), none)

    pub leaves_open : (closed : Bool) → closed ≡ is_closed (open_of new.closer) → closed ≡ false → old.left ≡ 0
        → StepsLog part old new one place (Err (Fault (record { place = old.place; fault = Broken (named.Listed part) fault.Unclosed })))
    leaves_open closed same still none = λ steps is.
        let took = takes steps is in
        unclosed took.0 (sym (ap is_closed took.1) ∙ (sym same ∙ still)) none
