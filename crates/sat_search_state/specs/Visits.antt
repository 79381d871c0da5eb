-- What propagation gives.
use Rattle.std.specs.Prelude.{◌≡◌, ◌⊎◌, ℕ, ◌+◌, ◌≤◌, List, Option, Some, None, slice_get, length}
use Rattle.clause_check_spec.specs.declared.Literal.{Literal}
use Rattle.clause_check_spec.specs.Clause.{Clause, negation}
use Rattle.sat_search_spec.specs.declared.Watch.{Watch}
use Rattle.sat_search_spec.specs.declared.Watcher.{Watcher}
use Rattle.sat_search_spec.specs.Clauses.{Has}
use Rattle.sat_search_spec.specs.Trail.{Trailed, IsTrueBefore, IsAbsent, IsConflict}
use Rattle.sat_search_spec.specs.Watches.{Watched, list_of, IsRunning, IsTurning, IsElsewhere}
use Rattle.sat_search_state.specs.declared.propagation.Visit.{Visit}
use Rattle.sat_search_state.specs.declared.propagation.Visit.TheVariants.{Stays, Leaves, Fails}

-- the same variables, the same level, and no fewer entries
pub record IsSameLevel (old new : Trailed) : Type 0 where
  pub variables : new.variables ≡ old.variables
  pub level : new.level ≡ old.level
  pub grown : length old.entries ≤ length new.entries

-- a literal of the clause that is another one, and not false
pub record IsOpen (clause : Clause) (trail : Trailed) (other literal : Literal) : Type 0 where
  pub has : Has clause literal
  pub apart : literal ≡ other → ⊥
  pub not_false : IsAbsent trail.entries (negation literal)

abbrev pub IsApartAndOpen : Trailed → (other literal : Literal) → Type 0
IsApartAndOpen trail other literal = (literal ≡ other → ⊥) × IsAbsent trail.entries (negation literal)

abbrev pub IsSameOrFalse : Trailed → (other literal : Literal) → Type 0
IsSameOrFalse trail other literal = (literal ≡ other) ⊎ IsTrueBefore trail.entries (length trail.entries) (negation literal)

-- all literals but this one are false
abbrev pub AreFalse : Clause → Trailed → Literal → Type 0
AreFalse clause trail other = (l : Literal) → Has clause l → IsSameOrFalse trail other l

-- after a look at the clause of a watcher
abbrev pub IsVisited : List Clause → Trailed → Watched → (falsified : Literal) → (next : ℕ) → Watcher → Visit → Type 0
IsVisited clauses trail watched falsified next watcher Stays = IsTurning clauses trail watched falsified (next + 1)
IsVisited clauses trail watched falsified next watcher Leaves = IsTurning clauses trail watched falsified (next + 1) × IsElsewhere watched watcher.clause falsified
    × (slice_get (list_of watched.lists falsified) next ≡ Some watcher)
IsVisited clauses trail watched falsified next watcher Fails = IsTurning clauses trail watched falsified next × IsConflict clauses trail.entries (watcher.clause + 1)

-- after an entry was propagated
abbrev pub IsTurned : List Clause → Trailed → (old new : Watched) → Option ℕ → Type 0
IsTurned clauses trail old new None = IsRunning clauses trail (record new { head = new.head + 1 }) × (new.head ≡ old.head)
IsTurned clauses trail old new (Some number) = IsRunning clauses trail new × IsConflict clauses trail.entries number

-- after all was propagated
abbrev pub IsPropagated : List Clause → Trailed → Watched → Option ℕ → Type 0
IsPropagated clauses trail watched None = IsRunning clauses trail watched × (watched.head ≡ length trail.entries)
IsPropagated clauses trail watched (Some number) = IsRunning clauses trail watched × IsConflict clauses trail.entries number

-- what stays the same at a look at a clause
pub record IsKeptBy (old_trail new_trail : Trailed) (old new : Watched) (falsified : Literal) : Type 0 where
  pub variables : new_trail.variables ≡ old_trail.variables
  pub level : new_trail.level ≡ old_trail.level
  pub grown : length old_trail.entries ≤ length new_trail.entries
  pub head : new.head ≡ old.head
  pub count : length (list_of new.lists falsified) ≡ length (list_of old.lists falsified)

-- one watch of the clause of a watcher became false; the other one
pub record IsBeside (clauses : List Clause) (trail : Trailed) (watched : Watched) (falsified : Literal) (next : ℕ) (watcher : Watcher) (other : Literal) : Type 0 where
  pub turning : IsTurning clauses trail watched falsified next
  pub there : slice_get (list_of watched.lists falsified) next ≡ Some watcher
  pub watch : Watch
  pub watched_there : slice_get watched.watches watcher.clause ≡ Some watch
  pub sides : ((watch.first ≡ falsified) × (watch.second ≡ other)) ⊎ ((watch.second ≡ falsified) × (watch.first ≡ other))

-- and that one is not true
pub record IsLooking (clauses : List Clause) (trail : Trailed) (watched : Watched) (falsified : Literal) (next : ℕ) (watcher : Watcher) (other : Literal) : Type 0 where
  pub beside : IsBeside clauses trail watched falsified next watcher other
  pub apart : other ≡ falsified → ⊥
  pub not_true : IsAbsent trail.entries other
