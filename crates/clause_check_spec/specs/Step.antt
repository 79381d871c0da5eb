-- When a step of a log follows from the clauses before it: reverse unit propagation (RUP) along its hints, as in LRAT.
use Rattle.std.specs.Prelude.{ℕ, ◌+◌, ◌-◌, ◌==◌, ◌&&◌, not, Bool, true, false, if◌then◌else◌, List, [], ◌∷◌, ◌++◌, map, filter, slice_get, Option, Some, None}
use Rattle.std.specs.List.{list_any, list_all}
use Rattle.clause_check_spec.specs.declared.Literal.{Literal}
use Rattle.clause_check_spec.specs.declared.StepFaultKind.{StepFaultKind}
use Rattle.clause_check_spec.specs.declared.StepFaultKind.TheVariants.{Literals, Range, True, Two, Early, Open}
use Rattle.clause_check_spec.specs.Clause.{Clause, negation, same_literal, is_of}

-- ---- the status of a clause, where some literals were made true

abbrev pub is_true : (truths : List Literal) → Literal → Bool
is_true truths literal = list_any (same_literal literal) truths

abbrev pub is_false : (truths : List Literal) → Literal → Bool
is_false truths literal = is_true truths (negation literal)

pub data Finding : Type 0 where
  -- there is no such clause
  Missing : Finding
  -- a literal is true
  Holds : Finding
  -- two literals are not false
  Several : Finding
  -- this one alone is not false
  Forces : (literal : Literal) → Finding
  -- all are false
  Fails : Finding

-- of literals that are not false
abbrev pub found_among : List Literal → Finding
found_among [] = Fails
found_among (literal ∷ others) = if list_all (same_literal literal) others then Forces literal else Several

unfoldable pub finding : (truths : List Literal) → Clause → Finding
finding truths clause =
    if list_any (is_true truths) clause then Holds else found_among (filter (λ literal. not (is_false truths literal)) clause)

abbrev pub finding_of : (truths : List Literal) → Option Clause → Finding
finding_of truths None = Missing
finding_of truths (Some clause) = finding truths clause

-- of the clause of a number; clauses are numbered from 1
abbrev pub finding_at : (clauses : List Clause) → (truths : List Literal) → (number : ℕ) → Finding
finding_at clauses truths number = if number == 0 then Missing else finding_of truths (slice_get clauses (number - 1))

-- ---- the hints, one after the other

pub data Outcome : Type 0 where
  Follows : Outcome
  -- at the hint of this number, counted from 1, and `Open` at the last; 0 are the literals, or `Open` where there
  -- are no hints
  Refused : (hint : ℕ) → (kind : StepFaultKind) → Outcome

-- the outcome by a finding: `on` continues with a literal made true
abbrev pub outcome_of : (hint : ℕ) → (is_last : Bool) → Finding → (on : Literal → Outcome) → Outcome
outcome_of hint is_last Missing on = Refused hint Range
outcome_of hint is_last Holds on = Refused hint True
outcome_of hint is_last Several on = Refused hint Two
outcome_of hint is_last (Forces literal) on = on literal
outcome_of hint is_last Fails on = if is_last then Follows else Refused hint Early

abbrev pub is_nothing : List ℕ → Bool
is_nothing [] = true
is_nothing (hint ∷ hints) = false

-- from some true literals on, `count` hints being done
unfoldable pub propagate : (clauses : List Clause) → (hints : List ℕ) → (truths : List Literal) → (count : ℕ) → Outcome
propagate clauses [] truths count = Refused count Open
propagate clauses (number ∷ hints) truths count =
    outcome_of (count + 1) (is_nothing hints) (finding_at clauses truths number)
    (λ literal. propagate clauses hints (truths ++ literal ∷ []) (count + 1))

-- no variable occurs twice
abbrev pub are_apart : List Literal → Bool
are_apart [] = true
are_apart (literal ∷ others) = not (list_any (λ other. other.variable == literal.variable) others) && are_apart others

-- the literals are of the variables, none twice
abbrev pub are_fit : (variables : ℕ) → List Literal → Bool
are_fit variables literals = list_all (is_of variables) literals && are_apart literals

-- a step with these literals and hints
unfoldable pub outcome : (variables : ℕ) → (clauses : List Clause) → (literals : List Literal) → (hints : List ℕ) → Outcome
outcome variables clauses literals hints =
    if are_fit variables literals then propagate clauses hints (map negation literals) 0 else Refused 0 Literals
