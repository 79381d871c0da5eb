-- Clauses in one list of literals: the clause of an index, and one clause more.
use Rattle.std.proofs.Common.{◌≡◌, ◌≤◌, ◌-◌, ◌++◌, ℕ, zero, suc, List, [], ◌∷◌, length, take, drop, Some, refl, ap, sym, ◌∙◌, subst, arith}
use Rattle.std.specs.Prelude.{slice_get, slice_range}
use Rattle.std.proofs.lemmas.List.{length-drop, length-append, take-append-le, drop-append-le, take_all}
use Rattle.std.proofs.Math.Seq.{drop-append_seam}
use Rattle.clause_check_spec.specs.declared.Literal.{Literal}
use Rattle.cnf_core.specs.Laid.{clauses_from, clauses_in, start_of, AreEnds}

-- ---- indices

first_index : (from end : ℕ) (ends : List ℕ) (index : ℕ) → start_of end ends index ≡ start_of from (end ∷ ends) (suc index)
first_index from end ends zero = refl
first_index from end ends (suc index) = refl

pub clause_at : (from : ℕ) (literals : List Literal) (ends : List ℕ) (index end : ℕ) → slice_get ends index ≡ Some end
    → slice_get (clauses_from from literals ends) index ≡ Some (slice_range literals (start_of from ends index) end)
clause_at from literals [] index end here = cc
clause_at from literals (e ∷ ends) zero end here =
    let same : e ≡ end = cc in ap (λ to. Some (slice_range literals from to)) same
clause_at from literals (e ∷ ends) (suc index) end here =
    clause_at e literals ends index end here ∙ ap (λ s. Some (slice_range literals s end)) (first_index from e ends index)

pub clause_count : (from : ℕ) (literals : List Literal) (ends : List ℕ) → length (clauses_from from literals ends) ≡ length ends
clause_count from literals [] = refl
clause_count from literals (e ∷ ends) = ap (λ n. suc n) (clause_count e literals ends)

ends_rise : (from to : ℕ) (ends : List ℕ) → AreEnds from to ends → from ≤ to
ends_rise from to [] same = omega (arith, same)
ends_rise from to (e ∷ ends) rising = let later = ends_rise e to ends rising.1 in omega (arith, rising.0, later)

-- a clause lies inside the list
pub inside : (from to : ℕ) (ends : List ℕ) (index end : ℕ) → AreEnds from to ends → slice_get ends index ≡ Some end
    → (start_of from ends index ≤ end) × (end ≤ to)
inside from to [] index end rising here = cc
inside from to (e ∷ ends) zero end rising here =
    let same : e ≡ end = cc in
    let later = ends_rise e to ends rising.1 in
    (omega (arith, same, rising.0), omega (arith, same, later))
inside from to (e ∷ ends) (suc index) end rising here =
    let below = inside e to ends index end rising.1 here in
    (subst (λ s. s ≤ end) (first_index from e ends index) below.0, below.1)

-- ---- one clause more

front_same : (xs ys : List Literal) (from to : ℕ) → from ≤ to → to ≤ length xs → slice_range (xs ++ ys) from to ≡ slice_range xs from to
front_same xs ys from to h k =
    ap (take (to - from)) (drop-append-le from xs ys (omega (arith, h, k)))
    ∙ take-append-le (to - from) (drop from xs) ys (let e = length-drop from xs in omega (arith, e, h, k))

pub more_ends : (from to more : ℕ) (ends : List ℕ) → AreEnds from to ends → to ≤ more → AreEnds from more (ends ++ more ∷ [])
more_ends from to more [] same h = (omega (arith, same, h), refl)
more_ends from to more (e ∷ ends) rising h = (rising.0, more_ends e to more ends rising.1 h)

last_range : (literals clause : List Literal) → slice_range (literals ++ clause) (length literals) (length (literals ++ clause)) ≡ clause
last_range literals clause =
    ap (take (length (literals ++ clause) - length literals)) (drop-append_seam literals clause)
    ∙ take_all (length (literals ++ clause) - length literals) clause (let e = length-append literals clause in omega (arith, e))

pub one_more : (from : ℕ) (literals clause : List Literal) (ends : List ℕ) → AreEnds from (length literals) ends
    → clauses_from from (literals ++ clause) (ends ++ length (literals ++ clause) ∷ []) ≡ clauses_from from literals ends ++ clause ∷ []
one_more from literals clause [] same =
    ap (λ c. c ∷ []) (subst (λ f. slice_range (literals ++ clause) f (length (literals ++ clause)) ≡ clause) (sym same) (last_range literals clause))
one_more from literals clause (e ∷ ends) rising =
    ap (λ c. c ∷ clauses_from e (literals ++ clause) (ends ++ length (literals ++ clause) ∷ []))
    (front_same literals clause from e rising.0 (ends_rise e (length literals) ends rising.1))
    ∙ ap (λ cs. slice_range literals from e ∷ cs) (one_more e literals clause ends rising.1)

-- the ends with one clause more
pub laid_more : (literals clause : List Literal) (ends : List ℕ) (more_literals : List Literal) (all_ends : List ℕ)
    → AreEnds 0 (length literals) ends → more_literals ≡ literals ++ clause → all_ends ≡ ends ++ length more_literals ∷ []
    → AreEnds 0 (length more_literals) all_ends
laid_more literals clause ends more_literals all_ends rising e f =
    subst (AreEnds 0 (length more_literals)) (sym f)
    (more_ends 0 (length literals) (length more_literals) ends rising
    (let l = ap length e ∙ length-append literals clause in omega (arith, l)))

pub clauses_more : (literals clause : List Literal) (ends : List ℕ) (more_literals : List Literal) (all_ends : List ℕ)
    → AreEnds 0 (length literals) ends → more_literals ≡ literals ++ clause → all_ends ≡ ends ++ length more_literals ∷ []
    → clauses_in more_literals all_ends ≡ clauses_in literals ends ++ clause ∷ []
clauses_more literals clause ends more_literals all_ends rising e f =
    ap (clauses_in more_literals) f ∙ ap (λ l. clauses_in l (ends ++ length l ∷ [])) e ∙ one_more 0 literals clause ends rising
