-- Clauses in one list of literals, with the offsets at which they end.
use Rattle.std.specs.Prelude.{◌≡◌, ◌≤◌, ℕ, zero, suc, get_or, List, [], ◌∷◌, slice_range}
use Rattle.clause_check_spec.specs.declared.Literal.{Literal}
use Rattle.clause_check_spec.specs.Clause.{Clause}

-- the clauses that begin at an offset
abbrev pub clauses_from : (from : ℕ) → List Literal → List ℕ → List Clause
clauses_from from literals [] = []
clauses_from from literals (end ∷ ends) = slice_range literals from end ∷ clauses_from end literals ends

abbrev pub clauses_in : List Literal → List ℕ → List Clause
clauses_in literals ends = clauses_from 0 literals ends

-- where the clause at an index begins: at the end of the one before
abbrev pub start_of : (from : ℕ) → List ℕ → (index : ℕ) → ℕ
start_of from ends zero = from
start_of from ends (suc index) = get_or ends index 0

-- the ends rise from one offset to another
abbrev pub AreEnds : (from to : ℕ) → List ℕ → Type 0
AreEnds from to [] = from ≡ to
AreEnds from to (end ∷ ends) = (from ≤ end) × AreEnds end to ends
