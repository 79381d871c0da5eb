-- What stays true of the clauses of a log.
use Rattle.std.proofs.Common.{◌≡◌, ℕ, Bool, true, false, List, [], ◌∷◌, ◌++◌, length, take, take_all, drop, Some, refl, ap, sym, ◌∙◌, subst, arith, length-append}
use Rattle.std.specs.Prelude.{◌&&◌, slice_get}
use Rattle.std.specs.List.{list_all}
use Rattle.std.proofs.lemmas.List.{take-append-le, take-append-drop}
use Rattle.std.proofs.lemmas.List.Folds.{list_all-append}
use Rattle.std.proofs.lemmas.List.Sums.{AllPass-from_list_all}
use Rattle.std.proofs.lemmas.Option.{slice_get_within, get_or_from_slice_get}
use Rattle.clause_check_spec.specs.declared.Literal.{Literal}
use Rattle.clause_check_spec.specs.Clause.{Clause, Valuation, is_of, are_of, satisfies_clause, satisfies}
use Rattle.clause_check_spec.specs.Step.{Follows, are_fit, are_apart, outcome}
use Rattle.clause_check_spec.proofs.Sound.{outcome_sound}
use Rattle.clause_check.specs.Logged.{Logged, clauses_of}
use Rattle.clause_check.specs.Kept.{IsKept}
use Rattle.clause_check.proofs.Propagation.{unfit_outcome}

both_and : (a b : Bool) → a ≡ true → b ≡ true → (a && (b && true)) ≡ true
both_and true true e f = refl
both_and true false e f = cc
both_and false b e f = cc

left_and : (a b : Bool) → (a && b) ≡ true → a ≡ true
left_and true b e = refl
left_and false b e = cc

-- ---- at the start

pub kept_at_first : (variables : ℕ) (clauses : List Clause) → are_of variables clauses ≡ true → IsKept variables (length clauses) clauses
kept_at_first variables clauses named = record {
  named = named;
  within = omega arith;
  sound = λ values satisfied. ap (satisfies values) (sym (take_all (length clauses) clauses (omega arith))) ∙ satisfied;
}

-- ---- one more step

fit_by_outcome : (variables : ℕ) (clauses : List Clause) (literals : List Literal) (hints : List ℕ) → outcome variables clauses literals hints ≡ Follows
    → are_fit variables literals ≡ true
fit_by_outcome variables clauses literals hints follows = by_fit (are_fit variables literals) refl
  where
    by_fit : (b : Bool) → are_fit variables literals ≡ b → b ≡ true
    by_fit true e = refl
    by_fit false e = let refused = sym follows ∙ unfit_outcome variables clauses literals hints e in cc

pub kept_more : (variables given : ℕ) (clauses : List Clause) (literals : List Literal) (hints : List ℕ) → IsKept variables given clauses
    → outcome variables clauses literals hints ≡ Follows → IsKept variables given (clauses ++ literals ∷ [])
kept_more variables given clauses literals hints kept follows = record {
  named =
      list_all-append (list_all (is_of variables)) clauses (literals ∷ [])
      ∙ both_and (are_of variables clauses) (list_all (is_of variables) literals) kept.named
      (left_and (list_all (is_of variables) literals) (are_apart literals) (fit_by_outcome variables clauses literals hints follows));
  within = omega (arith, length-append clauses (literals ∷ []), kept.within);
  sound = λ values satisfied.
      let all = kept.sound values (ap (satisfies values) (sym (take-append-le given clauses (literals ∷ []) kept.within)) ∙ satisfied) in
      list_all-append (satisfies_clause values) clauses (literals ∷ [])
      ∙ both_and (satisfies values clauses) (satisfies_clause values literals) all (outcome_sound variables clauses literals hints follows values all);
}

-- ---- a clause without literals

pub unsatisfied_by_empty : (variables given : ℕ) (clauses : List Clause) (index : ℕ) → IsKept variables given clauses → slice_get clauses index ≡ Some []
    → (values : Valuation) → satisfies values (take given clauses) ≡ false
unsatisfied_by_empty variables given clauses index kept here values = by_satisfied (satisfies values (take given clauses)) refl
  where
    by_satisfied : (b : Bool) → satisfies values (take given clauses) ≡ b → b ≡ false
    by_satisfied false e = refl
    by_satisfied true e =
        let satisfied = AllPass-from_list_all (satisfies_clause values) clauses (kept.sound values e) index [] (slice_get_within clauses index [] here) in
        let empty : satisfies_clause values [] ≡ true = subst (λ c. satisfies_clause values c ≡ true) (get_or_from_slice_get clauses index [] [] here) satisfied in
        cc

-- ---- a log as contracts see it

-- the outcome of a step, of the log and of its parts
pub outcome_of_parts : (log : Logged) (variables given : ℕ) (clauses : List Clause) (literals : List Literal) (hints : List ℕ)
    → variables ≡ log.cnf.variables → take given clauses ≡ log.cnf.clauses → drop given clauses ≡ log.added
    → outcome log.cnf.variables (clauses_of log) literals hints ≡ outcome variables clauses literals hints
outcome_of_parts log variables given clauses literals hints e f g =
    ap (λ n. outcome n (clauses_of log) literals hints) (sym e)
    ∙ ap (λ c. outcome variables (c ++ log.added) literals hints) (sym f)
    ∙ ap (λ c. outcome variables (take given clauses ++ c) literals hints) (sym g)
    ∙ ap (λ c. outcome variables c literals hints) (take-append-drop given clauses)
