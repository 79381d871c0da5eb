-- A walk over the terms below one, each after its arguments: which forms it has made, and that it ends.
use Rattle.std.specs.Prelude.{◌≡◌, ℕ, zero, suc, ◌+◌, ◌*◌, ◌<◌, ◌≤◌, nat_eq, List, [], ◌∷◌, length, Option, Some, None, is_some, if◌then◌else◌}
use Rattle.std.specs.HashMap.{get}
use Rattle.term_core_spec.specs.Term.{Term}
use Rattle.term_bank.specs.Nodes.{tree_at, Holds}
use Rattle.term_norm.specs.declared.walk.Stop.{Stop}
use Rattle.term_norm.specs.declared.walk.Stop.TheVariants.{Needs, NoMemory}
use Rattle.term_norm.specs.declared.walk.Walk.{Walk}

-- what was made of a term
abbrev pub form_at : Walk → ℕ → Option ℕ
form_at walk id = get nat_eq walk.forms id

-- those that wait are each below the one before, and the one at hand below the last; none has a form yet
abbrev pub Waits : (ℕ → Option ℕ) → ℕ → List ℕ → ℕ → Type 0
Waits form bound [] at = (at < bound) × (form at ≡ None)
Waits form bound (id ∷ rest) at = (id < bound) × (form id ≡ None) × Waits form id rest at

-- the first that waits, or the one at hand
abbrev pub first : List ℕ → ℕ → ℕ
first [] at = at
first (id ∷ rest) at = id

pub record IsWalk (walk : Walk) (start : ℕ) : Type 0 where
  pub within : walk.at ≤ start
  pub waits : Waits (form_at walk) (start + 1) walk.waiting.items walk.at
  pub begins : first walk.waiting.items walk.at ≡ start

-- how many terms below n have no form
unfoldable pub left : (ℕ → Option ℕ) → ℕ → ℕ
left form zero = 0
left form (suc n) = left form n + (if is_some (form n) then 0 else 1)

-- what falls with each step
abbrev pub work : Walk → ℕ → ℕ
work walk start = left (form_at walk) (start + 1) * (start + 1) + walk.at

-- the walk is one step on
pub record Advances (old new : Walk) (start : ℕ) : Type 0 where
  pub sound : IsWalk new start
  pub less : work new start < work old start

-- an argument below the bound that has no form yet is needed, or memory has run out
abbrev pub IsStop : (ℕ → Option ℕ) → ℕ → Stop → Type 0
IsStop form bound (Needs id) = (id < bound) × (form id ≡ None)
IsStop form bound NoMemory = Unit {0}

-- ---- what the forms are

pub record IsForm (f : Term → Term) (trees : List Term) (id form : ℕ) : Type 0 where
  pub within : id < length trees
  pub holds : Holds trees form (f (tree_at trees id))

-- each form that was made is what the function gives at its term
abbrev pub AreForms : (Term → Term) → List Term → Walk → Type 0
AreForms f trees walk = (id form : ℕ) → form_at walk id ≡ Some form → IsForm f trees id form
