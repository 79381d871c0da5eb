-- What a log closes has no model, so the goal is true.
use Rattle.std.proofs.Common.{◌≡◌, ◌∙◌, ℕ, ◌+◌, Bool, true, false, List, [], ◌∷◌, ◌++◌, Some, refl, sym}
use Rattle.std.specs.Prelude.{◌&&◌, if◌then◌else◌, nat_le}
use Rattle.std.proofs.lemmas.List.Folds.{list_all-append}
use Rattle.memory_spec.specs.Runs.{Run, AreBytes}
use Rattle.term_core_spec.specs.declared.Atom.TheVariants as atom
use Rattle.term_core_spec.specs.declared.Sort.TheVariants as sort
use Rattle.term_core_spec.specs.Term.{Term, Leaf, Unary, Binary, Ternary, Quaternary, Octonary}
use Rattle.term_core_spec.specs.Sort.{sort_of}
use Rattle.term_core_spec.specs.Subterms.{subterm_count}
use Rattle.term_core_spec.specs.Value.{Truth, Assignment, IsAssignment, value}
use Rattle.term_norm_spec.specs.Fixed.{HoldsFixed}
use Rattle.term_norm_spec.specs.Normal.{normal}
use Rattle.term_norm_spec.proofs.Soundness.{keeps_normal}
use Rattle.clause_check_spec.specs.Clause.{Clause, Cnf, Valuation, satisfies_clause, satisfies}
use Rattle.clause_check_spec.specs.Step.{Outcome, Follows, Refused, outcome}
use Rattle.clause_check_spec.specs.Log.{Step}
use Rattle.clause_check_spec.proofs.Sound.{outcome_sound}
use Rattle.bit_blast_spec.specs.Goal.{cnf_of}
use Rattle.bit_blast_laws.proofs.ModelsWhole.{true_by_unsatisfied}
use Rattle.tv_limits.specs.declared.TheConstants.{MAX_TERMS, MAX_VARIABLES}
use Rattle.discharge_spec.specs.declared.GoalQuantity.TheVariants.{Terms, Variables}
use Rattle.discharge_spec.specs.Closing.{Closes, IsLarge, is_empty, has_no_step, is_truth, after, checked, closing_of_clauses, closing_of_form, closing}

-- no model, where one more clause that follows has none
none_before : (a b : Bool) → (a ≡ true → b ≡ true) → (a && (b && true)) ≡ false → a ≡ false
none_before true true implied none = none
none_before true false implied none = let e = implied refl in cc
none_before false b implied none = refl

-- a clause without literals is satisfied by nothing
none_of_empty : (values : Valuation) (clauses : List Clause) (literals : Clause) → is_empty literals ≡ true
    → satisfies values (clauses ++ literals ∷ []) ≡ false
none_of_empty values clauses [] empty = list_all-append (satisfies_clause values) clauses ([] ∷ []) ∙ none_and (satisfies values clauses)
  where
    none_and : (a : Bool) → (a && (false && true)) ≡ false
    none_and true = refl
    none_and false = refl
none_of_empty values clauses (literal ∷ others) empty = cc

pub none_by_steps : (variables : ℕ) (clauses : List Clause) (is_closed : Bool) (number : ℕ) (steps : List Step)
    → (is_closed ≡ true → (values : Valuation) → satisfies values clauses ≡ false)
    → checked variables clauses is_closed number steps ≡ Closes
    → (values : Valuation) → satisfies values clauses ≡ false
unfolding checked
none_by_steps variables clauses true number [] given closes = given refl
none_by_steps variables clauses false number [] given closes = cc
none_by_steps variables clauses is_closed number (step ∷ steps) given closes =
    by_outcome (outcome variables clauses step.literals step.hints) refl
    (none_by_steps variables (clauses ++ step.literals ∷ []) (is_empty step.literals) (number + 1) steps (λ empty v. none_of_empty v clauses step.literals empty))
    closes
  where
    by_outcome : (o : Outcome) → outcome variables clauses step.literals step.hints ≡ o
        → (checked variables (clauses ++ step.literals ∷ []) (is_empty step.literals) (number + 1) steps ≡ Closes
        → (values : Valuation) → satisfies values (clauses ++ step.literals ∷ []) ≡ false)
        → after o number (checked variables (clauses ++ step.literals ∷ []) (is_empty step.literals) (number + 1) steps) ≡ Closes
        → (values : Valuation) → satisfies values clauses ≡ false
    by_outcome Follows e rest on = λ values.
        none_before (satisfies values clauses) (satisfies_clause values step.literals)
        (outcome_sound variables clauses step.literals step.hints e values)
        (sym (list_all-append (satisfies_clause values) clauses (step.literals ∷ [])) ∙ rest on values)
    by_outcome (Refused hint kind) e rest on = cc

none_by_clauses : (cnf : Cnf) (log : List Step) (small : Bool)
    → (if small then checked cnf.variables cnf.clauses false 1 log else IsLarge Variables) ≡ Closes
    → (values : Valuation) → satisfies values cnf.clauses ≡ false
none_by_clauses cnf log true closes = none_by_steps cnf.variables cnf.clauses false 1 log (λ e. cc) closes
none_by_clauses cnf log false closes = cc

true_leaf : (form : Term) → is_truth form ≡ true → (a : Assignment) → value a form ≡ Truth true
unfolding value
true_leaf (Leaf (atom.Truth true)) e a = refl
true_leaf (Leaf (atom.Truth false)) e a = cc
true_leaf (Leaf (atom.Constant w n)) e a = cc
true_leaf (Leaf (atom.Open v)) e a = cc
true_leaf (Unary o x) e a = cc
true_leaf (Binary o x y) e a = cc
true_leaf (Ternary o x y z) e a = cc
true_leaf (Quaternary o x y z w) e a = cc
true_leaf (Octonary b0 b1 b2 b3 b4 b5 b6 b7) e a = cc

pub true_form : (form : Term) (log : List Step) → sort_of form ≡ Some sort.Truth → closing_of_form form log ≡ Closes
    → (a : Assignment) → IsAssignment a → value a form ≡ Truth true
true_form form log sorted closes = by (is_truth form) (has_no_step log) refl closes
  where
    by : (plain none : Bool) → is_truth form ≡ plain
        → (if plain && none then Closes else closing_of_clauses (cnf_of form) log) ≡ Closes
        → (a : Assignment) → IsAssignment a → value a form ≡ Truth true
    by true true e on = λ a fine. true_leaf form e a
    by true false e on = true_by_unsatisfied form sorted (none_by_clauses (cnf_of form) log (nat_le (cnf_of form).variables MAX_VARIABLES) on)
    by false none e on = true_by_unsatisfied form sorted (none_by_clauses (cnf_of form) log (nat_le (cnf_of form).variables MAX_VARIABLES) on)

pub closed_is_true : (runs : List Run) → AreBytes runs → (goal : Term) (log : List Step) → sort_of goal ≡ Some sort.Truth
    → closing runs goal log ≡ Closes → (a : Assignment) → IsAssignment a → HoldsFixed runs a → value a goal ≡ Truth true
closed_is_true runs bytes goal log sorted closes a fine holds = by (nat_le (subterm_count goal) MAX_TERMS) closes
  where
    by : (small : Bool) → (if small then closing_of_form (normal runs goal) log else IsLarge Terms) ≡ Closes → value a goal ≡ Truth true
    by true on =
        sym ((keeps_normal runs bytes goal sort.Truth sorted).value_is a fine holds)
        ∙ true_form (normal runs goal) log (keeps_normal runs bytes goal sort.Truth sorted).sorted on a fine
    by false on = cc
