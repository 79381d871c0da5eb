-- The arguments under an operator, as lists of ids.
use Rattle.std.specs.Prelude.{◌≡◌, ℕ, ◌+◌, ◌-◌, ◌*◌, ◌<◌, ◌≤◌, if◌then◌else◌, Bool, true, false, List, length, take, Option, Some, None}
use Rattle.std.specs.List.{flat_map}
use Rattle.term_core_spec.specs.declared.BinaryOperator.{BinaryOperator}
use Rattle.term_core_spec.specs.Term.{Term, Binary}
use Rattle.term_bank.specs.Nodes.{tree_at}
use Rattle.word_steps_spec.specs.Sides.{Sides}
use Rattle.word_steps_spec.specs.Commuting.{ARGUMENTS, is_nested, arguments_under}
use Rattle.term_sorts.specs.Order.{terms_of}
use Rattle.word_steps_rules.specs.Views.{AreAtoms}

-- the sides of a term of the operator that may be taken apart
unfoldable pub sides_under : BinaryOperator → Term → Option Sides
sides_under operator (Binary inner x y) = if is_nested operator inner x then Some (record { left = x; right = y }) else None
sides_under operator t = None

-- the arguments under the terms of some ids
abbrev pub all_under : List Term → BinaryOperator → List ℕ → List Term
all_under trees operator ids = flat_map (λ id. arguments_under operator (tree_at trees id)) ids

-- the ids are those of the arguments under the old ones; or these are too many
abbrev pub Expands : List Term → BinaryOperator → (bound : ℕ) → (old new : List ℕ) → Bool → Type 0
Expands trees operator bound old new true = (terms_of trees new ≡ all_under trees operator old) × (length new ≤ ARGUMENTS) × AreAtoms bound new
Expands trees operator bound old new false = ARGUMENTS < length (all_under trees operator old)

-- on the way: the first so many are no more to be taken apart
pub record Expanding (trees : List Term) (operator : BinaryOperator) (bound : ℕ) (old now : List ℕ) (at : ℕ) : Type 0 where
  pub same : all_under trees operator now ≡ all_under trees operator old
  pub plain : all_under trees operator (take at now) ≡ terms_of trees (take at now)
  pub within : AreAtoms bound now
  pub reached : at ≤ length now

-- what falls with each step
abbrev pub work : (count at : ℕ) → ℕ
work count at = 2 * (ARGUMENTS + 1 - count) + (count - at)

-- one step on, which is less work where they aren't too many
pub record IsExpanded (trees : List Term) (operator : BinaryOperator) (bound : ℕ) (old before now : List ℕ) (at next : ℕ) : Type 0 where
  pub on : Expanding trees operator bound old now next
  pub less : length before ≤ ARGUMENTS → work (length now) next < work (length before) at

-- the ids are those of the arguments under a term; or these are too many
abbrev pub ArgumentsOf : List Term → BinaryOperator → (bound : ℕ) → Term → List ℕ → Bool → Type 0
ArgumentsOf trees operator bound t ids true = (terms_of trees ids ≡ arguments_under operator t) × (length ids ≤ ARGUMENTS) × AreAtoms bound ids
ArgumentsOf trees operator bound t ids false = ARGUMENTS < length (arguments_under operator t)
