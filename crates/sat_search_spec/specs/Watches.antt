-- Two watched literals a clause: where one of them became false, a literal of the clause is true at no later a level. So
-- the trail that is left after any backjump makes no clause false or unit.
use Rattle.std.specs.Prelude.{◌≡◌, ℕ, ◌<◌, ◌≤◌, ◌+◌, ◌⊎◌, ◌*◌, List, [], Some, slice_get, length, get_or}
use Rattle.clause_check_spec.specs.declared.Literal.{Literal}
use Rattle.clause_check_spec.specs.Clause.{Clause, negation}
use Rattle.cnf_core.specs.Codes.{code_of}
use Rattle.sat_search_spec.specs.declared.Entry.{Entry}
use Rattle.sat_search_spec.specs.declared.Watch.{Watch}
use Rattle.sat_search_spec.specs.declared.Watcher.{Watcher}
use Rattle.sat_search_spec.specs.Clauses.{Has}
use Rattle.sat_search_spec.specs.Trail.{Trailed, IsAt, IsSound}

-- a literal of the clause is true at no later a level
pub record IsSatisfied (clause : Clause) (trail : List Entry) (level : ℕ) : Type 0 where
  pub place : ℕ
  pub entry : Entry
  pub there : slice_get trail place ≡ Some entry
  pub has : Has clause entry.literal
  pub within : entry.level ≤ level

-- so it is wherever this literal became false before a place
abbrev pub Guards : Clause → List Entry → (head : ℕ) → Literal → Type 0
Guards clause trail head literal =
    (i : ℕ) (entry : Entry) → i < head → slice_get trail i ≡ Some entry → entry.literal ≡ negation literal → IsSatisfied clause trail entry.level

-- entries from `head` on are still to be propagated
pub data IsGuarded (clause : Clause) (trail : List Entry) (head : ℕ) (watch : Watch) : Type 0 where
  -- true before every decision
  fixed : Has clause watch.first → Has clause watch.second → IsSatisfied clause trail 0 → IsGuarded clause trail head watch
  two : Has clause watch.first → Has clause watch.second → (watch.first ≡ watch.second → ⊥)
      → Guards clause trail head watch.first → Guards clause trail head watch.second → IsGuarded clause trail head watch

-- the clause of each index, with the watches of that index
pub record AreGuarded (clauses : List Clause) (trail : List Entry) (head : ℕ) (watches : List Watch) : Type 0 where
  pub count : length watches ≡ length clauses
  pub guarded : (i : ℕ) (clause : Clause) (watch : Watch) → slice_get clauses i ≡ Some clause → slice_get watches i ≡ Some watch
      → IsGuarded clause trail head watch

-- ---- lists of watchers, one for each literal

abbrev pub list_of : List (List Watcher) → Literal → List Watcher
list_of lists literal = get_or lists (code_of literal) []

-- the clause of an index is in a list, from a place on
pub record IsListed (watchers : List Watcher) (start : ℕ) (clause : ℕ) : Type 0 where
  pub place : ℕ
  pub watcher : Watcher
  pub later : start ≤ place
  pub there : slice_get watchers place ≡ Some watcher
  pub same : watcher.clause ≡ clause

-- each clause is in the lists of its watches
abbrev pub AreListed : List Watch → List (List Watcher) → Type 0
AreListed watches lists =
    (i : ℕ) (watch : Watch) → slice_get watches i ≡ Some watch
    → (watch.first ≡ watch.second) ⊎ (IsListed (list_of lists watch.first) 0 i × IsListed (list_of lists watch.second) 0 i)

-- the blocker is a literal of the clause
pub record IsBlocker (clauses : List Clause) (watcher : Watcher) : Type 0 where
  pub clause : Clause
  pub there : slice_get clauses watcher.clause ≡ Some clause
  pub has : Has clause watcher.blocker

abbrev pub AreBlockers : List Clause → List (List Watcher) → Type 0
AreBlockers clauses lists = (literal : Literal) (k : ℕ) (watcher : Watcher) → slice_get (list_of lists literal) k ≡ Some watcher → IsBlocker clauses watcher

-- ---- the watches of all clauses, the lists, and where the entries begin that are still to be propagated

pub record Watched : Type 0 where
  pub watches : List Watch
  pub lists : List (List Watcher)
  pub head : ℕ

-- the state of the search between two conflicts
pub record IsRunning (clauses : List Clause) (trail : Trailed) (watched : Watched) : Type 0 where
  pub sound : IsSound clauses trail
  pub guarded : AreGuarded clauses trail.entries watched.head watched.watches
  pub lists : AreListed watched.watches watched.lists
  pub blockers : AreBlockers clauses watched.lists
  pub room : length watched.lists ≡ 2 * trail.variables + 2
  pub within : watched.head ≤ length trail.entries
  pub pending : (i : ℕ) (entry : Entry) → watched.head ≤ i → slice_get trail.entries i ≡ Some entry → entry.level ≡ trail.level

-- while the entry at `head` is propagated: all but the clauses that are still to be looked at are guarded against it too
pub record IsTurning (clauses : List Clause) (trail : Trailed) (watched : Watched) (falsified : Literal) (next : ℕ) : Type 0 where
  pub running : IsRunning clauses trail watched
  pub turned : IsAt trail.entries watched.head (negation falsified)
  pub after : (i : ℕ) (clause : Clause) (watch : Watch) → slice_get clauses i ≡ Some clause → slice_get watched.watches i ≡ Some watch
      → IsGuarded clause trail.entries (watched.head + 1) watch ⊎ IsListed (list_of watched.lists falsified) next i

-- the clause of an index isn't watched at a literal
pub record IsElsewhere (watched : Watched) (clause : ℕ) (literal : Literal) : Type 0 where
  pub watch : Watch
  pub there : slice_get watched.watches clause ≡ Some watch
  pub first : watch.first ≡ literal → ⊥
  pub second : watch.second ≡ literal → ⊥
