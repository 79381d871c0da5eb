-- The trail: the literals that are true, in the order in which they became true.
use Rattle.std.specs.Prelude.{◌≡◌, ◌⊎◌, ℕ, ◌<◌, ◌≤◌, true, List, Some, slice_get, length, map}
use Rattle.clause_check_spec.specs.declared.Literal.{Literal}
use Rattle.clause_check_spec.specs.Clause.{Clause, negation, is_of, are_of}
use Rattle.sat_search_spec.specs.declared.Entry.{Entry}
use Rattle.sat_search_spec.specs.Clauses.{Has, Numbered}

abbrev pub truths : List Entry → List Literal
truths trail = map (λ entry. entry.literal) trail

-- the literal became true before a place
pub record IsTrueBefore (trail : List Entry) (end : ℕ) (literal : Literal) : Type 0 where
  pub place : ℕ
  pub entry : Entry
  pub earlier : place < end
  pub there : slice_get trail place ≡ Some entry
  pub same : entry.literal ≡ literal

-- the clause of this number forced the entry: its other literals are false before
pub record IsForced (clauses : List Clause) (trail : List Entry) (place : ℕ) (literal : Literal) (number : ℕ) : Type 0 where
  pub clause : Clause
  pub numbered : Numbered clauses number clause
  pub has : Has clause literal
  pub others : (other : Literal) → Has clause other → (other ≡ literal) ⊎ IsTrueBefore trail place (negation other)

-- the first entry of a level
pub record IsDecided (trail : List Entry) (place : ℕ) (level : ℕ) : Type 0 where
  pub positive : 0 < level
  pub first : (i : ℕ) (entry : Entry) → i < place → slice_get trail i ≡ Some entry → entry.level < level

pub record IsTrail (variables : ℕ) (clauses : List Clause) (trail : List Entry) : Type 0 where
  pub of_variables : (i : ℕ) (entry : Entry) → slice_get trail i ≡ Some entry → is_of variables entry.literal ≡ true
  pub apart : (i j : ℕ) (a b : Entry) → slice_get trail i ≡ Some a → slice_get trail j ≡ Some b → a.literal.variable ≡ b.literal.variable → i ≡ j
  pub rising : (i j : ℕ) (a b : Entry) → i ≤ j → slice_get trail i ≡ Some a → slice_get trail j ≡ Some b → a.level ≤ b.level
  pub forced : (i : ℕ) (entry : Entry) → slice_get trail i ≡ Some entry → 0 < entry.reason → IsForced clauses trail i entry.literal entry.reason
  pub decided : (i : ℕ) (entry : Entry) → slice_get trail i ≡ Some entry → entry.reason ≡ 0 → IsDecided trail i entry.level

-- the entries up to a level are those before a place
pub record IsCut (trail : List Entry) (level : ℕ) (place : ℕ) : Type 0 where
  pub within : place ≤ length trail
  pub below : (i : ℕ) (entry : Entry) → i < place → slice_get trail i ≡ Some entry → entry.level ≤ level
  pub above : (i : ℕ) (entry : Entry) → place ≤ i → slice_get trail i ≡ Some entry → level < entry.level

-- all literals of the clause of this number are false
pub record IsConflict (clauses : List Clause) (trail : List Entry) (number : ℕ) : Type 0 where
  pub clause : Clause
  pub numbered : Numbered clauses number clause
  pub negated : (literal : Literal) → Has clause literal → IsTrueBefore trail (length trail) (negation literal)

-- ---- a trail, with the number of variables and of decisions

pub record Trailed : Type 0 where
  pub variables : ℕ
  pub entries : List Entry
  pub level : ℕ

-- the literal is true by the entry of a place
pub record IsAt (entries : List Entry) (place : ℕ) (literal : Literal) : Type 0 where
  pub entry : Entry
  pub there : slice_get entries place ≡ Some entry
  pub same : entry.literal ≡ literal

-- the literal isn't true
abbrev pub IsAbsent : List Entry → Literal → Type 0
IsAbsent entries literal = (i : ℕ) (entry : Entry) → slice_get entries i ≡ Some entry → entry.literal ≡ literal → ⊥

-- levels never fall along the trail
abbrev pub IsRising : List Entry → Type 0
IsRising entries = (i j : ℕ) (a b : Entry) → i ≤ j → slice_get entries i ≡ Some a → slice_get entries j ≡ Some b → a.level ≤ b.level

-- a trail of some clauses
pub record IsSound (clauses : List Clause) (trail : Trailed) : Type 0 where
  pub of_variables : are_of trail.variables clauses ≡ true
  pub is_trail : IsTrail trail.variables clauses trail.entries
  pub top : (i : ℕ) (entry : Entry) → slice_get trail.entries i ≡ Some entry → entry.level ≤ trail.level
