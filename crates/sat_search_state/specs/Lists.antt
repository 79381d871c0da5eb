-- Changes of the lists of watchers.
use Rattle.std.specs.Prelude.{◌≡◌, ℕ, ◌<◌, ◌≤◌, List, [], ◌∷◌, ◌++◌, Some, slice_get, slice_set, length}
use Rattle.clause_check_spec.specs.declared.Literal.{Literal}
use Rattle.clause_check_spec.specs.Clause.{Clause}
use Rattle.sat_search_spec.specs.declared.Watch.{Watch}
use Rattle.sat_search_spec.specs.declared.Watcher.{Watcher}
use Rattle.sat_search_spec.specs.Clauses.{Has}
use Rattle.sat_search_spec.specs.Watches.{Watched, list_of, AreListed, AreBlockers}

-- a watcher more in the list of a literal
pub record IsAdded (old new : List (List Watcher)) (literal : Literal) (watcher : Watcher) : Type 0 where
  pub here : list_of new literal ≡ list_of old literal ++ watcher ∷ []
  pub others : (other : Literal) → (other ≡ literal → ⊥) → list_of new other ≡ list_of old other

-- a watcher moves to a place that is no earlier
pub record IsStill (new : List Watcher) (next place : ℕ) (watcher : Watcher) : Type 0 where
  pub now : ℕ
  pub there : slice_get new now ≡ Some watcher
  pub later : next ≤ place → next ≤ now

-- a watcher was in the list
pub record WasIn (old : List Watcher) (watcher : Watcher) : Type 0 where
  pub place : ℕ
  pub there : slice_get old place ≡ Some watcher

-- the watcher of a place less
pub record IsRemovedFrom (old new : List Watcher) (next : ℕ) : Type 0 where
  pub stays : (k : ℕ) (watcher : Watcher) → slice_get old k ≡ Some watcher → (k ≡ next → ⊥) → IsStill new next k watcher
  pub back : (k : ℕ) (watcher : Watcher) → slice_get new k ≡ Some watcher → WasIn old watcher

pub record IsRemoved (old new : List (List Watcher)) (literal : Literal) (next : ℕ) : Type 0 where
  pub here : IsRemovedFrom (list_of old literal) (list_of new literal) next
  pub shorter : length (list_of new literal) < length (list_of old literal)
  pub others : (other : Literal) → (other ≡ literal → ⊥) → list_of new other ≡ list_of old other

-- another watcher in a place of the list of a literal
pub record IsReplaced (old new : List (List Watcher)) (literal : Literal) (place : ℕ) (watcher : Watcher) : Type 0 where
  pub here : list_of new literal ≡ slice_set (list_of old literal) place watcher
  pub others : (other : Literal) → (other ≡ literal → ⊥) → list_of new other ≡ list_of old other

-- the watches of one more clause
pub record IsAttached (old new : Watched) (watch : Watch) : Type 0 where
  pub watches : new.watches ≡ old.watches ++ watch ∷ []
  pub head : new.head ≡ old.head
  pub room : length new.lists ≡ length old.lists
  pub lists : AreListed old.watches old.lists → AreListed new.watches new.lists
  pub blockers : (clauses : List Clause) (clause : Clause) → length clauses ≡ length old.watches → Has clause watch.first → Has clause watch.second
      → AreBlockers clauses old.lists → AreBlockers (clauses ++ clause ∷ []) new.lists

-- no clauses yet
pub record IsBare (watched : Watched) (lists_there : ℕ) : Type 0 where
  pub watches : watched.watches ≡ []
  pub head : watched.head ≡ 0
  pub room : length watched.lists ≡ lists_there
  pub lists : (literal : Literal) → list_of watched.lists literal ≡ []
