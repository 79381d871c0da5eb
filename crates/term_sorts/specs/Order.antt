-- Ids of terms, each after the ids of its arguments.
use Rattle.std.specs.Prelude.{◌≡◌, ℕ, suc, zero, ◌+◌, ◌*◌, ◌<◌, nat_eq, Bool, false, if◌then◌else◌, List, [], ◌∷◌, ◌++◌, length, map, Option, Some, None}
use Rattle.std.specs.List.{list_any}
use Rattle.term_core_spec.specs.Term.{Term}
use Rattle.term_core_spec.specs.Subterms.{with_subterms, arguments, IsIn}
use Rattle.term_bank.specs.Nodes.{tree_at}

-- the trees of some ids
abbrev pub terms_of : List Term → List ℕ → List Term
terms_of trees ids = map (tree_at trees) ids

abbrev pub is_among : List ℕ → ℕ → Bool
is_among ids id = list_any (nat_eq id) ids

-- the ids after those before: each is of a tree, and its arguments are before it
unfoldable pub IsOrderAfter : List Term → (before : List ℕ) → List ℕ → Type 0
IsOrderAfter trees before [] = Unit {0}
IsOrderAfter trees before (id ∷ rest) =
    (id < length trees) × ((a : Term) → IsIn a (arguments (tree_at trees id)) → IsIn a (terms_of trees before)) × IsOrderAfter trees (before ++ id ∷ []) rest

-- each id is of a tree, and its arguments are before it
abbrev pub IsOrder : List Term → List ℕ → Type 0
IsOrder trees ids = IsOrderAfter trees [] ids

-- the ids before are the first of the ids after
abbrev pub Begins : (old new : List ℕ) → Type 0
Begins old new = (more : List ℕ) × (new ≡ old ++ more)

-- the ids are those before, with the subterms of a tree that weren't there after them
abbrev pub AddsSubterms : List Term → ℕ → (old new : List ℕ) → Type 0
AddsSubterms trees id old new = terms_of trees new ≡ with_subterms (tree_at trees id) (terms_of trees old)

-- ---- the walk

-- the first of some ids that isn't there
unfoldable pub first_missing : List ℕ → List ℕ → Option ℕ
first_missing ids [] = None
first_missing ids (a ∷ rest) = if is_among ids a then first_missing ids rest else Some a

-- terms that wait, the first of all first, each for one of its arguments; the last for the one at hand. None is there yet
unfoldable pub Waits : List ℕ → ℕ → List ℕ → ℕ → Type 0
Waits ids bound [] at = (at < bound) × (is_among ids at ≡ false)
Waits ids bound (id ∷ rest) at = (id < bound) × (is_among ids id ≡ false) × Waits ids id rest at

-- how many numbers below n aren't there
unfoldable pub left : List ℕ → ℕ → ℕ
left ids zero = 0
left ids (suc n) = left ids n + (if is_among ids n then 0 else 1)

-- what falls with each step
abbrev pub work : List ℕ → ℕ → ℕ → ℕ
work ids start at = left ids (start + 1) * (start + 1) + at

-- with the subterms of the one at hand, then of those that wait, the last first
unfoldable pub with_waiting : List Term → List ℕ → ℕ → List Term → List Term
with_waiting trees [] at terms = with_subterms (tree_at trees at) terms
with_waiting trees (id ∷ rest) at terms = with_subterms (tree_at trees id) (with_waiting trees rest at terms)

-- a walk from a term: what is there, what waits, and which is at hand
pub record IsWalk (trees : List Term) (start : ℕ) (old ids waiting : List ℕ) (at : ℕ) : Type 0 where
  pub order : IsOrder trees ids
  pub begins : Begins old ids
  pub waits : Waits ids (start + 1) waiting at
  pub whole : with_subterms (tree_at trees start) (terms_of trees old) ≡ with_waiting trees waiting at (terms_of trees ids)

-- after a step, which is next: the walk goes on with less work; or all is there
abbrev pub IsStep : List Term → ℕ → (old ids new waiting : List ℕ) → ℕ → Option ℕ → Type 0
IsStep trees start old ids new waiting at (Some next) = IsWalk trees start old new waiting next × (work new start next < work ids start at)
IsStep trees start old ids new waiting at None = AddsSubterms trees start old new × IsOrder trees new × Begins old new
