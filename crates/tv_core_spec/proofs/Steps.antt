-- The steps of a log that closes its goal can be written: variables and numbers of clauses are above 0, and variables are
-- within the limit.
use Rattle.std.proofs.Common.{◌≡◌, ◌<◌, ◌+◌, ◌^◌, ℕ, zero, suc, Bool, true, false, List, [], ◌∷◌, ◌++◌, map, All, refl, arith}
use Rattle.std.specs.Prelude.{◌&&◌, nat_le, if◌then◌else◌}
use Rattle.std.specs.List.{list_all}
use Rattle.std.proofs.lemmas.Bool.{leb-true, and_parts}
use Rattle.std.proofs.lemmas.List.Elements.{All-nil, All-cons, All-head, All-tail}
use Rattle.memory_spec.specs.Runs.{Run}
use Rattle.term_core_spec.specs.Term.{Term}
use Rattle.term_core_spec.specs.Subterms.{subterm_count}
use Rattle.term_norm_spec.specs.Normal.{normal}
use Rattle.tv_limits.specs.declared.TheConstants.{MAX_TERMS, MAX_VARIABLES}
use Rattle.clause_check_spec.specs.declared.Literal.{Literal}
use Rattle.clause_check_spec.specs.declared.StepFaultKind.TheVariants.{Literals}
use Rattle.clause_check_spec.specs.Clause.{Clause, Cnf, negation, is_of}
use Rattle.clause_check_spec.specs.Step.{Finding, Missing, Holds, Several, Forces, Fails, finding_at, Outcome, Follows, Refused, outcome_of, is_nothing, propagate, are_apart, are_fit, outcome}
use Rattle.clause_check_spec.specs.Log.{Step}
use Rattle.bit_blast_spec.specs.Goal.{cnf_of}
use Rattle.discharge_spec.specs.declared.GoalQuantity.TheVariants as above
use Rattle.discharge_spec.specs.Closing.{Closing, Closes, IsLarge, is_empty, is_truth, after, checked, closing_of_clauses, closing_of_form, closing}
use Rattle.cert_text_spec.specs.Points.{IsNumber}
use Rattle.cert_text_spec.specs.Lines.{IsPositive, IsStep}

-- ---- hints

abbrev AreNumbers : List ℕ → Type 0
AreNumbers hints = All IsNumber hints

-- a hint that is a clause is none of 0
not_zero : (clauses : List Clause) (truths : List Literal) (number count : ℕ) (last : Bool) (on : Literal → Outcome)
    → outcome_of count last (finding_at clauses truths number) on ≡ Follows → 0 < number
not_zero clauses truths zero count last on e = absurd (cc)
not_zero clauses truths (suc number) count last on e = omega arith

-- what a finding leaves to the hints after it
rest_follows : (clauses : List Clause) (hints : List ℕ) (truths : List Literal) (count : ℕ) (found : Finding)
    → outcome_of (count + 1) (is_nothing hints) found (λ literal. propagate clauses hints (truths ++ literal ∷ []) (count + 1)) ≡ Follows
    → ((next : List Literal) → propagate clauses hints next (count + 1) ≡ Follows → All IsPositive hints) → All IsPositive hints
rest_follows clauses hints truths count Missing e more = absurd (cc)
rest_follows clauses hints truths count Holds e more = absurd (cc)
rest_follows clauses hints truths count Several e more = absurd (cc)
rest_follows clauses hints truths count (Forces literal) e more = more (truths ++ literal ∷ []) e
rest_follows clauses [] truths count Fails e more = All-nil IsPositive
rest_follows clauses (number ∷ hints) truths count Fails e more = absurd (cc)

hints_positive : (clauses : List Clause) (hints : List ℕ) (truths : List Literal) (count : ℕ) → propagate clauses hints truths count ≡ Follows → AreNumbers hints
    → All IsPositive hints
unfolding propagate
hints_positive clauses [] truths count e small = All-nil IsPositive
hints_positive clauses (number ∷ hints) truths count e small =
    All-cons IsPositive number hints
    (not_zero clauses truths number (count + 1) (is_nothing hints) (λ literal. propagate clauses hints (truths ++ literal ∷ []) (count + 1)) e, All-head IsNumber number hints small)
    (rest_follows clauses hints truths count (finding_at clauses truths number) e
    (λ next h. hints_positive clauses hints next (count + 1) h (All-tail IsNumber number hints small)))

-- ---- literals

abbrev IsWritten : Literal → Type 0
IsWritten l = IsPositive l.variable

literal_written : (variables : ℕ) (l : Literal) → variables < 2 ^ 32 → (nat_le 1 l.variable && nat_le l.variable variables) ≡ true → IsWritten l
literal_written variables l small e = by (nat_le 1 l.variable) (nat_le l.variable variables) refl refl e
  where
    by : (a b : Bool) → nat_le 1 l.variable ≡ a → nat_le l.variable variables ≡ b → (a && b) ≡ true → IsWritten l
    by true true x y h = (omega (arith, leb-true 1 l.variable x), omega (arith, leb-true l.variable variables y, small))
    by true false x y h = absurd (cc)
    by false b x y h = absurd (cc)

literals_written : (variables : ℕ) (literals : List Literal) → variables < 2 ^ 32 → list_all (is_of variables) literals ≡ true → All IsWritten literals
literals_written variables [] small e = All-nil IsWritten
literals_written variables (l ∷ literals) small e =
    let parts = and_parts (is_of variables l) (list_all (is_of variables) literals) e in
    All-cons IsWritten l literals (literal_written variables l small parts.0) (literals_written variables literals small parts.1)

-- ---- a step

step_written : (variables : ℕ) (clauses : List Clause) (step : Step) → variables < 2 ^ 32 → outcome variables clauses step.literals step.hints ≡ Follows → AreNumbers step.hints
    → IsStep step
unfolding outcome
step_written variables clauses step bound e small = by (are_fit variables step.literals) refl e
  where
    by : (b : Bool) → are_fit variables step.literals ≡ b
        → (if b then propagate clauses step.hints (map negation step.literals) 0 else Refused 0 Literals) ≡ Follows → IsStep step
    by true fit h = record {
      literals = literals_written variables step.literals bound (and_parts (list_all (is_of variables) step.literals) (are_apart step.literals) fit).0;
      hints = hints_positive clauses step.hints (map negation step.literals) 0 h small;
    }
    by false fit h = absurd (cc)

-- ---- a log

abbrev pub HasNumbers : Step → Type 0
HasNumbers step = AreNumbers step.hints

next_closes : (o : Outcome) (number : ℕ) (on : Closing) → after o number on ≡ Closes → (o ≡ Follows) × (on ≡ Closes)
next_closes Follows number on e = (refl, e)
next_closes (Refused hint kind) number on e = absurd (cc)

steps_written : (variables : ℕ) (clauses : List Clause) (closed : Bool) (number : ℕ) (log : List Step) → variables < 2 ^ 32
    → checked variables clauses closed number log ≡ Closes → All HasNumbers log → All IsStep log
unfolding checked
steps_written variables clauses closed number [] bound e small = All-nil IsStep
steps_written variables clauses closed number (step ∷ log) bound e small =
    let next =
    next_closes (outcome variables clauses step.literals step.hints) number
    (checked variables (clauses ++ step.literals ∷ []) (is_empty step.literals) (number + 1) log) e in
    All-cons IsStep step log (step_written variables clauses step bound next.0 (All-head HasNumbers step log small))
    (steps_written variables (clauses ++ step.literals ∷ []) (is_empty step.literals) (number + 1) log bound next.1 (All-tail HasNumbers step log small))

by_clauses : (cnf : Cnf) (log : List Step) → closing_of_clauses cnf log ≡ Closes → All HasNumbers log → All IsStep log
by_clauses cnf log e small = by (nat_le cnf.variables MAX_VARIABLES) refl e
  where
    by : (b : Bool) → nat_le cnf.variables MAX_VARIABLES ≡ b → (if b then checked cnf.variables cnf.clauses false 1 log else IsLarge above.Variables) ≡ Closes → All IsStep log
    by true within h = steps_written cnf.variables cnf.clauses false 1 log (omega (arith, leb-true cnf.variables MAX_VARIABLES within)) h small
    by false within h = absurd (cc)

by_form : (form : Term) (log : List Step) → closing_of_form form log ≡ Closes → All HasNumbers log → All IsStep log
by_form form [] e small = All-nil IsStep
by_form form (step ∷ log) e small = by (is_truth form) e
  where
    by : (b : Bool) → (if b && false then Closes else closing_of_clauses (cnf_of form) (step ∷ log)) ≡ Closes → All IsStep (step ∷ log)
    by true h = by_clauses (cnf_of form) (step ∷ log) h small
    by false h = by_clauses (cnf_of form) (step ∷ log) h small

pub closing_written : (runs : List Run) (goal : Term) (log : List Step) → closing runs goal log ≡ Closes → All HasNumbers log → All IsStep log
closing_written runs goal log e small = by (nat_le (subterm_count goal) MAX_TERMS) e
  where
    by : (b : Bool) → (if b then closing_of_form (normal runs goal) log else IsLarge above.Terms) ≡ Closes → All IsStep log
    by true h = by_form (normal runs goal) log h small
    by false h = absurd (cc)
