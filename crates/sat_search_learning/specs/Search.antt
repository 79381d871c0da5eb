-- The state of the search.
use Rattle.std.specs.Prelude.{◌≡◌, ◌⊎◌, ℕ, ◌+◌, ◌-◌, ◌*◌, ◌<◌, ◌≤◌, Bool, true, false, List, [], ◌∷◌, ◌++◌, Some, slice_get, length, get_or, take}
use Rattle.std.specs.List.{list_all}
use Rattle.clause_check_spec.specs.declared.Literal.{Literal}
use Rattle.clause_check_spec.specs.Clause.{Clause, Cnf, negation, is_of}
use Rattle.clause_check_spec.specs.Log.{Step}
use Rattle.sat_search_spec.specs.declared.Entry.{Entry}
use Rattle.sat_search_spec.specs.Clauses.{Has}
use Rattle.sat_search_spec.specs.Logs.{IsLog}
use Rattle.sat_search_spec.specs.Trail.{Trailed, IsTrueBefore, IsAbsent, IsCut, IsAt, IsSound}
use Rattle.sat_search_spec.specs.Watches.{Watched, AreGuarded, AreListed, AreBlockers, IsRunning}

-- ---- values of variables

-- neither the literal nor its negation is true
pub record IsUndecided (trail : Trailed) (literal : Literal) : Type 0 where
  pub of_variables : is_of trail.variables literal ≡ true
  pub not_true : IsAbsent trail.entries literal
  pub not_false : IsAbsent trail.entries (negation literal)

pub record HasValue (trail : Trailed) (variable : ℕ) : Type 0 where
  pub place : ℕ
  pub entry : Entry
  pub there : slice_get trail.entries place ≡ Some entry
  pub same : entry.literal.variable ≡ variable

-- the variables up to a number have values
abbrev pub AllHaveValue : Trailed → ℕ → Type 0
AllHaveValue trail last = (variable : ℕ) → 1 ≤ variable → variable ≤ last → HasValue trail variable

abbrev pub positive_literal : ℕ → Literal
positive_literal variable = record { variable = variable; is_negated = false }

-- the bits of the variables up to a number are true where the variable is
pub record IsReadOff (trail : Trailed) (last : ℕ) (bits : List Bool) : Type 0 where
  pub count : length bits ≡ last
  pub positive : (variable : ℕ) → 1 ≤ variable → variable ≤ last → get_or bits (variable - 1) false ≡ true
      → IsTrueBefore trail.entries (length trail.entries) (positive_literal variable)
  pub negative : (variable : ℕ) → 1 ≤ variable → variable ≤ last → get_or bits (variable - 1) false ≡ false
      → IsAbsent trail.entries (positive_literal variable)

-- ---- between two conflicts

pub record IsSearching (cnf : Cnf) (clauses : List Clause) (trail : Trailed) (watched : Watched) (log : List Step) : Type 0 where
  pub running : IsRunning clauses trail watched
  pub is_log : IsLog cnf clauses log
  pub variables : trail.variables ≡ cnf.variables

-- ---- a learnt clause's second watch, and the level to go back to

-- a false literal of a level
pub record IsOther (trail : Trailed) (others : List Literal) (literal : Literal) (level : ℕ) : Type 0 where
  pub has : Has others literal
  pub place : ℕ
  pub entry : Entry
  pub there : slice_get trail.entries place ≡ Some entry
  pub negated : entry.literal ≡ negation literal
  pub same : entry.level ≡ level

-- the highest level among literals that are false, and a literal of that level; else the literal itself, at level 0
pub record IsHighest (trail : Trailed) (asserting : Literal) (others : List Literal) (literal : Literal) (level : ℕ) : Type 0 where
  pub low : (l : Literal) (place : ℕ) (entry : Entry) → Has others l → slice_get trail.entries place ≡ Some entry → entry.literal ≡ negation l → entry.level ≤ level
  pub side : ((literal ≡ asserting) × (level ≡ 0)) ⊎ IsOther trail others literal level

-- the trail goes back to a level
pub record IsRewound (old new : Trailed) (old_watched new_watched : Watched) (level : ℕ) : Type 0 where
  pub place : ℕ
  pub cut : IsCut old.entries level place
  pub trail : new ≡ record { variables = old.variables; entries = take place old.entries; level = level }
  pub watched : new_watched ≡ record old_watched { head = place }

-- a literal more is true, at a level of its own
pub record IsDecidedBy (old new : Trailed) (literal : Literal) : Type 0 where
  pub same : new
      ≡ record { variables = old.variables; entries = old.entries ++ (record { literal = literal; reason = 0; level = old.level + 1 }) ∷ []; level = old.level + 1 }

-- ---- clauses of one literal

-- a literal of the clause that is another one
pub record IsApart (clause : Clause) (first literal : Literal) : Type 0 where
  pub has : Has clause literal
  pub apart : literal ≡ first → ⊥

-- all its literals are this one
abbrev pub AreSame : Clause → Literal → Type 0
AreSame clause first = (l : Literal) → Has clause l → l ≡ first

-- nothing is decided yet
pub record IsAtStart (old new : Trailed) : Type 0 where
  pub variables : new.variables ≡ old.variables
  pub level : new.level ≡ 0

-- the last clause is a unit one, and not watched yet
pub record IsUnit (clauses : List Clause) (trail : Trailed) (watched : Watched) (literal : Literal) : Type 0 where
  pub given : List Clause
  pub clause : Clause
  pub clauses_are : clauses ≡ given ++ clause ∷ []
  pub running : IsRunning given trail watched
  pub first : watched.head ≡ 0
  pub undecided : trail.level ≡ 0
  pub of_variables : list_all (is_of trail.variables) clause ≡ true
  pub has : Has clause literal
  pub same : AreSame clause literal

-- so it is, and its literal is true by an entry that follows from all clauses
pub record IsTrueUnit (clauses : List Clause) (trail : Trailed) (watched : Watched) (literal : Literal) : Type 0 where
  pub given : List Clause
  pub clause : Clause
  pub clauses_are : clauses ≡ given ++ clause ∷ []
  pub sound : IsSound clauses trail
  pub guarded : AreGuarded given trail.entries watched.head watched.watches
  pub lists : AreListed watched.watches watched.lists
  pub blockers : AreBlockers given watched.lists
  pub room : length watched.lists ≡ 2 * trail.variables + 2
  pub first : watched.head ≡ 0
  pub undecided : trail.level ≡ 0
  pub has : Has clause literal
  pub place : ℕ
  pub at : IsAt trail.entries place literal

-- ---- trails

-- no literal has two entries
abbrev pub AreOnce : List Entry → Type 0
AreOnce entries = (i j : ℕ) (a b : Entry) → slice_get entries i ≡ Some a → slice_get entries j ≡ Some b → a.literal ≡ b.literal → i ≡ j
