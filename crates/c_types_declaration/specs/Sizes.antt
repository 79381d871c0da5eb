-- Sizes of elements of arrays, and of members.
use Rattle.std.specs.Prelude.{ℕ, ◌<◌, List, [], ◌∷◌, ◌++◌, Option, Some, None}
use Rattle.c_types_spec.specs.declared.TheConstants.{SIZE_LIMIT}
use Rattle.c_types_spec.specs.Types as types

-- the size of the elements of an array
abbrev pub element_size : types.Structs → types.CType → Option ℕ
element_size structs (types.Array length element) = types.size_of structs element
element_size structs types.Void = None
element_size structs (types.Integer scalar) = None
element_size structs (types.Pointer target) = None
element_size structs (types.Struct number) = None

-- there is a size, below the limit
abbrev pub IsKnown : Option ℕ → Type 0
IsKnown None = ⊥
IsKnown (Some size) = size < SIZE_LIMIT

-- one more member, of a distance
abbrev pub with_placed : types.Layout → List ℕ → types.CType → (distance : ℕ) → types.Layout
with_placed layout name type distance = record {
  members = layout.members ++ record { member = name; type = type; distance = distance } ∷ [];
  filled = layout.filled;
  alignment = layout.alignment;
}
