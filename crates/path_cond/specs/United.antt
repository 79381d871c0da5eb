-- Several states as one, by the numbers of variables.
use Rattle.std.specs.Prelude.{◌≡◌, ℕ, ◌<◌, List, map, slice_get, Option, option_and_then, Some, All}
use Rattle.std.specs.List.{filter_map}
use Rattle.term_core_spec.specs.Term.{Term}
use Rattle.term_bank.specs.Nodes.{tree_at, Holds}
use Rattle.path_cond.specs.declared.ids.Ids.{Ids}
use Rattle.path_cond.specs.Ids.{id_at}
use Rattle.path_cond.specs.States.{IsFull}
use Rattle.path_cond.specs.Merged.{merged_term}

-- the id that a state of a list has at a number
abbrev pub id_of : List Ids → ℕ → ℕ → Option ℕ
id_of states number source = option_and_then (λ (ids : Ids). id_at ids number) (slice_get states source)

-- those of some states
abbrev pub ids_of : List Ids → List ℕ → ℕ → List ℕ
ids_of states sources number = filter_map (id_of states number) sources

-- the state at each of these positions has an id at each number below the count
abbrev pub AreFull : (terms count : ℕ) → List Ids → List ℕ → Type 0
AreFull terms count states sources = All (λ (s : ℕ). (ids : Ids) × (slice_get states s ≡ Some ids) × IsFull terms count (id_at ids)) sources

-- at one number
abbrev pub AreFullAt : (terms number : ℕ) → List Ids → List ℕ → Type 0
AreFullAt terms number states sources = All (λ (s : ℕ). (id : ℕ) × (id_of states number s ≡ Some id) × (id < terms)) sources

-- the id at a number is that of the states' terms as one, under the conditions
abbrev pub IsUnitedAt : (before now : List Term) → (conditions : List ℕ) → List Ids → (sources : List ℕ) → (ids : ℕ → Option ℕ) → ℕ → Type 0
IsUnitedAt before now conditions states sources ids number = (id : ℕ) × (ids number ≡ Some id)
    × Holds now id (merged_term (map (tree_at before) conditions) (map (tree_at before) (ids_of states sources number)))
