-- What the code's answers say of a step.
use Rattle.std.specs.Prelude.{◌≡◌, ℕ, Bool, true, List, length, Option, Some, None, Result, Ok, Err}
use Rattle.clause_check_spec.specs.declared.Literal.{Literal}
use Rattle.clause_check_spec.specs.declared.StepFaultKind.{StepFaultKind}
use Rattle.clause_check_spec.specs.Clause.{is_of}
use Rattle.clause_check_spec.specs.Step as spec
use Rattle.clause_check.specs.Signs.{sign_of}
use Rattle.clause_check.specs.declared.hints.Finding.{Finding}
use Rattle.clause_check.specs.declared.hints.Finding.TheVariants.{Missing, Holds, Several, Forces, Fails}
use Rattle.clause_check.specs.declared.hints.StepFault.{StepFault}

abbrev pub reported : Finding → spec.Finding
reported Missing = spec.Missing
reported Holds = spec.Holds
reported Several = spec.Several
reported (Forces literal) = spec.Forces literal
reported Fails = spec.Fails

abbrev pub outcome_of : Result (Unit {0}) StepFault → spec.Outcome
outcome_of (Ok unit) = spec.Follows
outcome_of (Err fault) = spec.Refused fault.hint fault.kind

-- a literal that a clause forces is of the variables, and its own has no true literal
abbrev pub IsOpen : List (Option Bool) → Finding → Type 0
IsOpen signs (Forces literal) = (is_of (length signs) literal ≡ true) × (sign_of signs literal ≡ None)
IsOpen signs Missing = Unit {0}
IsOpen signs Holds = Unit {0}
IsOpen signs Several = Unit {0}
IsOpen signs Fails = Unit {0}

-- how a step goes on after a hint: with a literal made true, or not at all
abbrev pub outcome_after : (hint : ℕ) → Result (Option Literal) StepFaultKind → (on : Literal → spec.Outcome) → spec.Outcome
outcome_after hint (Ok (Some literal)) on = on literal
outcome_after hint (Ok None) on = spec.Follows
outcome_after hint (Err kind) on = spec.Refused hint kind

-- a literal, where there is one, is open
abbrev pub IsOpenAfter : List (Option Bool) → Result (Option Literal) StepFaultKind → Type 0
IsOpenAfter signs (Ok (Some literal)) = IsOpen signs (Forces literal)
IsOpenAfter signs (Ok None) = Unit {0}
IsOpenAfter signs (Err kind) = Unit {0}
