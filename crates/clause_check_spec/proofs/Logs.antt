-- A log that refutes clauses shows that they have no model.
use Rattle.std.proofs.Common.{◌≡◌, ℕ, Bool, true, false, List, [], ◌∷◌, ◌++◌, map, refl, ap, sym, ◌∙◌, subst}
use Rattle.std.specs.Prelude.{◌&&◌}
use Rattle.std.specs.List.{list_any, list_all}
use Rattle.std.proofs.lemmas.List.Folds.{list_all-append}
use Rattle.std.proofs.lemmas.List.{map-append}
use Rattle.clause_check_spec.specs.Clause.{Clause, Cnf, Valuation, satisfies_clause, satisfies}
use Rattle.clause_check_spec.specs.Log.{Step, AllFollow, none, some, Refutes}
use Rattle.clause_check_spec.proofs.Sound.{outcome_sound}

both_true : (a b : Bool) → a ≡ true → b ≡ true → (a && (b && true)) ≡ true
both_true true true e f = refl
both_true true false e f = cc
both_true false b e f = cc

-- one more clause
pub satisfied_with : (values : Valuation) (clauses : List Clause) (clause : Clause) → satisfies values clauses ≡ true → satisfies_clause values clause ≡ true
    → satisfies values (clauses ++ clause ∷ []) ≡ true
satisfied_with values clauses clause satisfied here =
    list_all-append (satisfies_clause values) clauses (clause ∷ []) ∙ both_true (satisfies values clauses) (satisfies_clause values clause) satisfied here

and_true : (a b : Bool) → a ≡ true → b ≡ true → (a && b) ≡ true
and_true true b e f = f
and_true false b e f = cc

steps_satisfied : (values : Valuation) (variables : ℕ) (clauses : List Clause) (steps : List Step) → AllFollow variables clauses steps
    → satisfies values clauses ≡ true → satisfies values (map (λ s. s.literals) steps) ≡ true
steps_satisfied values variables clauses steps (none same) satisfied = refl
steps_satisfied values variables clauses steps (some same step rest follows more) satisfied =
    let here = outcome_sound variables clauses step.literals step.hints follows values satisfied in
    and_true (satisfies_clause values step.literals) (satisfies values (map (λ s. s.literals) rest)) here
    (steps_satisfied values variables (clauses ++ step.literals ∷ []) rest more (satisfied_with values clauses step.literals satisfied here))

second_true : (a b : Bool) → (a && (b && true)) ≡ true → b ≡ true
second_true a true e = refl
second_true true false e = cc
second_true false false e = cc

-- clauses that are refuted have no model
pub refuted : (cnf : Cnf) (steps : List Step) → Refutes cnf steps → (values : Valuation) → satisfies values cnf.clauses ≡ true → ⊥
refuted cnf steps refutes values satisfied =
    let all = steps_satisfied values cnf.variables cnf.clauses steps refutes.follows satisfied in
    let parted : satisfies values (map (λ s. s.literals) refutes.prefix ++ refutes.last.literals ∷ []) ≡ true =
    ap (satisfies values) (sym (ap (map (λ s. s.literals)) refutes.ends ∙ map-append (λ s. s.literals) refutes.prefix (refutes.last ∷ []))) ∙ all in
    let here = second_true (satisfies values (map (λ s. s.literals) refutes.prefix)) (satisfies_clause values refutes.last.literals) (sym (list_all-append (satisfies_clause values) (map (λ s. s.literals) refutes.prefix) (refutes.last.literals ∷ [])) ∙ parted) in
    let empty : satisfies_clause values [] ≡ true = subst (λ c. satisfies_clause values c ≡ true) refutes.closes here in cc
