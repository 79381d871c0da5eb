-- Logs whose steps pass one after the other close their goals.
use Rattle.std.proofs.Common.{◌≡◌, ◌∙◌, ℕ, suc, ◌+◌, ◌≤◌, Bool, true, false, if◌then◌else◌, List, [], ◌∷◌, ◌++◌, length, refl, ap, arith, le-leb}
use Rattle.std.specs.Prelude.{nat_le, ◌&&◌}
use Rattle.term_core_spec.specs.Term.{Term}
use Rattle.term_core_spec.specs.Subterms.{subterm_count}
use Rattle.term_norm_spec.specs.Normal.{normal}
use Rattle.memory_spec.specs.Runs.{Run}
use Rattle.clause_check_spec.specs.Clause.{Clause}
use Rattle.clause_check_spec.specs.Log.{Step}
use Rattle.clause_check_spec.specs.Step.{Outcome, Follows, outcome}
use Rattle.bit_blast_spec.specs.Goal.{cnf_of}
use Rattle.discharge_spec.specs.Closing.{Closes, IsLarge, is_empty, is_truth, after, at_end, checked, closing, closing_of_form, closing_of_clauses}
use Rattle.discharge_spec.specs.declared.GoalQuantity.TheVariants.{Terms, Variables}
use Rattle.tv_limits.specs.declared.TheConstants.{MAX_TERMS, MAX_VARIABLES}

-- the steps that are left close, whatever was before
pub record LogShown (variables : ℕ) (clauses : List Clause) (left : ℕ) : Type 0 where
  pub steps : List Step
  pub counted : length steps ≡ suc left
  pub closes : (last : Bool) (number : ℕ) → checked variables clauses last number steps ≡ Closes

follows_on : (variables : ℕ) (clauses : List Clause) (one : Step) (steps : List Step) (last : Bool) (number : ℕ) → outcome variables clauses one.literals one.hints ≡ Follows
    → checked variables (clauses ++ one.literals ∷ []) (is_empty one.literals) (number + 1) steps ≡ Closes → checked variables clauses last number (one ∷ steps) ≡ Closes
unfolding checked
follows_on variables clauses one steps last number e rest =
    ap (λ (o : Outcome). after o number (checked variables (clauses ++ one.literals ∷ []) (is_empty one.literals) (number + 1) steps)) e ∙ rest

pub one_step : (variables : ℕ) (clauses : List Clause) (left : ℕ) (one : Step) → outcome variables clauses one.literals one.hints ≡ Follows
    → LogShown variables (clauses ++ one.literals ∷ []) left → LogShown variables clauses (suc left)
one_step variables clauses left one e rest = record {
  steps = one ∷ rest.steps;
  counted = ap suc rest.counted;
  closes = λ last number. follows_on variables clauses one rest.steps last number e (rest.closes (is_empty one.literals) (number + 1));
}

pub last_step : (variables : ℕ) (clauses : List Clause) (one : Step) → outcome variables clauses one.literals one.hints ≡ Follows → is_empty one.literals ≡ true → LogShown variables clauses 0
unfolding checked
last_step variables clauses one e empty = record {
  steps = one ∷ [];
  counted = refl;
  closes = λ last number. follows_on variables clauses one [] last number e (ap at_end empty);
}

-- ---- the goal

le_true : (a b : ℕ) → a ≤ b → nat_le a b ≡ true
le_true a b h = le-leb a b h

within : (runs : List Run) (goal : Term) (log : List Step) → subterm_count goal ≤ MAX_TERMS → closing runs goal log ≡ closing_of_form (normal runs goal) log
within runs goal log small = ap (λ (b : Bool). if b then closing_of_form (normal runs goal) log else IsLarge Terms) (le_true (subterm_count goal) MAX_TERMS small)

pub without_log : (runs : List Run) (goal : Term) → subterm_count goal ≤ MAX_TERMS → is_truth (normal runs goal) ≡ true → closing runs goal [] ≡ Closes
without_log runs goal small truth = within runs goal [] small ∙ ap (λ (b : Bool). if b && true then Closes else closing_of_clauses (cnf_of (normal runs goal)) []) truth

no_truth : (b : Bool) → (b && false) ≡ false
no_truth true = refl
no_truth false = refl

by_clauses : (runs : List Run) (goal : Term) (one : Step) (steps : List Step) → closing_of_form (normal runs goal) (one ∷ steps) ≡ closing_of_clauses (cnf_of (normal runs goal)) (one ∷ steps)
by_clauses runs goal one steps =
    ap (λ (b : Bool). if b then Closes else closing_of_clauses (cnf_of (normal runs goal)) (one ∷ steps)) (no_truth (is_truth (normal runs goal)))

pub with_log : (runs : List Run) (goal : Term) (left : ℕ) → subterm_count goal ≤ MAX_TERMS → (cnf_of (normal runs goal)).variables ≤ MAX_VARIABLES
    → LogShown (cnf_of (normal runs goal)).variables (cnf_of (normal runs goal)).clauses left → (log : List Step) × (closing runs goal log ≡ Closes)
with_log runs goal left small few shown = (shown.steps, by shown.steps shown.counted (shown.closes false 1))
  where
    by : (steps : List Step) → length steps ≡ suc left → checked (cnf_of (normal runs goal)).variables (cnf_of (normal runs goal)).clauses false 1 steps ≡ Closes → closing runs goal steps ≡ Closes
    by [] counted e = absurd (omega (arith, counted))
    by (one ∷ steps) counted e =
        within runs goal (one ∷ steps) small ∙ by_clauses runs goal one steps
        ∙ ap (λ (b : Bool). if b then checked (cnf_of (normal runs goal)).variables (cnf_of (normal runs goal)).clauses false 1 (one ∷ steps) else IsLarge Variables)
        (le_true (cnf_of (normal runs goal)).variables MAX_VARIABLES few)
        ∙ e
