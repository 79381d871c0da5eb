-- The variables of clauses.
use Rattle.std.proofs.Common.{◌≡◌, ◌+◌, ℕ, Bool, true, false, List, [], ◌∷◌, Option, Some, None, refl, sym, subst, arith}
use Rattle.std.specs.Prelude.{◌&&◌, slice_get, IfSome}
use Rattle.std.specs.List.{list_all}
use Rattle.std.specs.Option.{option_map}
use Rattle.std.proofs.lemmas.List.Sums.{AllPass-from_list_all}
use Rattle.std.proofs.lemmas.Option.{slice_get_within, get_or_from_slice_get}
use Rattle.clause_check_spec.specs.declared.Literal.{Literal}
use Rattle.clause_check_spec.specs.Clause.{Clause, is_of, are_of}

left_true : (a b : Bool) → (a && b) ≡ true → a ≡ true
left_true true b e = refl
left_true false b e = cc

right_true : (a b : Bool) → (a && b) ≡ true → b ≡ true
right_true true b e = e
right_true false b e = cc

two_true : (a b : Bool) → a ≡ true → b ≡ true → (a && b) ≡ true
two_true true b e f = f
two_true false b e f = cc

-- of one more variable
wider : (variables : ℕ) (l : Literal) → is_of variables l ≡ true → is_of (variables + 1) l ≡ true
wider variables l e = grind arith

wider_clause : (variables : ℕ) (clause : Clause) → list_all (is_of variables) clause ≡ true → list_all (is_of (variables + 1)) clause ≡ true
wider_clause variables [] named = refl
wider_clause variables (l ∷ clause) named =
    two_true (is_of (variables + 1) l) (list_all (is_of (variables + 1)) clause)
    (wider variables l (left_true (is_of variables l) (list_all (is_of variables) clause) named))
    (wider_clause variables clause (right_true (is_of variables l) (list_all (is_of variables) clause) named))

pub wider_clauses : (variables : ℕ) (clauses : List Clause) → are_of variables clauses ≡ true → are_of (variables + 1) clauses ≡ true
wider_clauses variables [] named = refl
wider_clauses variables (c ∷ clauses) named =
    two_true (list_all (is_of (variables + 1)) c) (are_of (variables + 1) clauses)
    (wider_clause variables c (left_true (list_all (is_of variables) c) (are_of variables clauses) named))
    (wider_clauses variables clauses (right_true (list_all (is_of variables) c) (are_of variables clauses) named))

-- of the clause at an index
named_at : (variables : ℕ) (clauses : List Clause) (index : ℕ) (clause : Clause) → are_of variables clauses ≡ true
    → slice_get clauses index ≡ Some clause → list_all (is_of variables) clause ≡ true
named_at variables clauses index clause named here =
    subst (λ c. list_all (is_of variables) c ≡ true) (get_or_from_slice_get clauses index clause clause here)
    (AllPass-from_list_all (list_all (is_of variables)) clauses named index clause (slice_get_within clauses index clause here))

pub named_if : {B : Type 0} (now : B → Clause) (variables : ℕ) (clauses : List Clause) (index : ℕ) (found : Option B) → are_of variables clauses ≡ true
    → option_map now found ≡ slice_get clauses index → IfSome found (λ b. list_all (is_of variables) (now b) ≡ true)
named_if now variables clauses index None named here = tt
named_if now variables clauses index (Some b) named here = named_at variables clauses index (now b) named (sym here)
