-- Conflict analysis: what was learnt from a conflict so far, going down the trail from its end.
use Rattle.std.specs.Prelude.{◌≡◌, ◌⊎◌, ℕ, ◌<◌, ◌≤◌, Bool, true, false, List, [], ◌∷◌, Some, slice_get, length, get_or, map}
use Rattle.clause_check_spec.specs.declared.Literal.{Literal}
use Rattle.clause_check_spec.specs.Clause.{Clause, negation}
use Rattle.clause_check_spec.specs.Step.{are_fit}
use Rattle.sat_search_spec.specs.declared.Entry.{Entry}
use Rattle.sat_search_spec.specs.Clauses.{Has}
use Rattle.sat_search_spec.specs.Chain.{Named, AreNamed, Chain}
use Rattle.sat_search_spec.specs.Trail.{IsTrueBefore}

-- the entry of a place was marked: it is needed for the conflict
abbrev pub IsMarked : (marks : List Bool) → ℕ → Type 0
IsMarked marks place = get_or marks place false ≡ true

-- a marked entry makes the literal false
pub record IsFalseMarked (trail : List Entry) (marks : List Bool) (literal : Literal) : Type 0 where
  pub place : ℕ
  pub entry : Entry
  pub there : slice_get trail place ≡ Some entry
  pub negated : entry.literal ≡ negation literal
  pub marked : IsMarked marks place

-- the entry of a place makes a literal of the clause false
pub record IsFalseAt (trail : List Entry) (clause : Clause) (place : ℕ) : Type 0 where
  pub entry : Entry
  pub there : slice_get trail place ≡ Some entry
  pub has : Has clause (negation entry.literal)

-- the entries that make the literals of a clause false, but for one literal, are marked too
pub record IsMarking (trail : List Entry) (clause : Clause) (excepted : Literal) (old new : List Bool) : Type 0 where
  pub count : length new ≡ length old
  pub kept : (i : ℕ) → IsMarked old i → IsMarked new i
  pub all : (literal : Literal) → Has clause literal → (literal ≡ excepted) ⊎ IsFalseMarked trail new literal
  pub only : (i : ℕ) → IsMarked new i → IsMarked old i ⊎ IsFalseAt trail clause i

-- The literals that the checker of a step made true: the marked entries before a place, the negations of what was learnt,
-- and else only entries before that place.
pub record Fits (trail : List Entry) (marks : List Bool) (learnt : List Literal) (end : ℕ) (made : List Literal) : Type 0 where
  pub marked : (i : ℕ) (entry : Entry) → i < end → slice_get trail i ≡ Some entry → IsMarked marks i → Has made entry.literal
  pub kept : (literal : Literal) → Has learnt literal → Has made (negation literal)
  pub only : (literal : Literal) → Has made literal → IsTrueBefore trail end literal ⊎ Has learnt (negation literal)

-- the negation of an entry from a place on
pub record IsFalseFrom (trail : List Entry) (start : ℕ) (literal : Literal) : Type 0 where
  pub place : ℕ
  pub entry : Entry
  pub later : start ≤ place
  pub there : slice_get trail place ≡ Some entry
  pub negated : literal ≡ negation entry.literal

-- from whatever fits, the hints lead to the conflict
pub record Explains (variables : ℕ) (clauses : List Clause) (trail : List Entry) (marks : List Bool) (learnt : List Literal) (hints : List ℕ) (end : ℕ) : Type 0 where
  pub reaches : (made : List Literal) → Fits trail marks learnt end made → Chain clauses made hints
  pub used : (i : ℕ) (entry : Entry) → i < end → slice_get trail i ≡ Some entry → IsMarked marks i → Named clauses (negation entry.literal) hints
  pub named : AreNamed clauses learnt hints
  pub later : (literal : Literal) → Has learnt literal → IsFalseFrom trail end literal
  pub fit : are_fit variables learnt ≡ true

-- What analysis gives at a conflict: a clause that follows by its hints, in whose clauses its literals are. Its first
-- literal is negated in an entry from a place on, and the others are negated in entries before it.
pub record IsExplained (variables : ℕ) (clauses : List Clause) (trail : List Entry) (start : ℕ) (learnt : List Literal) (hints : List ℕ) : Type 0 where
  pub fit : are_fit variables learnt ≡ true
  pub chain : Chain clauses (map negation learnt) hints
  pub named : AreNamed clauses learnt hints
  pub asserting : Literal
  pub others : List Literal
  pub learnt_are : learnt ≡ asserting ∷ others
  pub last : IsFalseFrom trail start asserting
  pub earlier : (literal : Literal) → Has others literal → IsTrueBefore trail start (negation literal)
