-- How many elements arrays have that are directly inside one another.
use Rattle.std.specs.Prelude.{◌≡◌, ℕ, min, true, false, Option, Some, option_map}
use Rattle.c_types_spec.specs.declared.TheConstants.{SIZE_LIMIT}
use Rattle.c_types_spec.specs.Types as tree
use Rattle.c_types_layout.specs.declared.extents.Extent.{Extent}
use Rattle.c_types_layout.specs.declared.types.Layers.{Layers}
use Rattle.c_types_layout.specs.declared.types.Layers.TheVariants.{Nothing, Pointer', Array'}

-- a size, or the limit where it is above that
abbrev pub capped : Option ℕ → Option ℕ
capped size = option_map (λ n. min n SIZE_LIMIT) size

-- that of an array with a length or without, of what has an extent
abbrev pub array_extent : Option ℕ → Extent → Extent
array_extent length extent = record { count = capped (tree.times length extent.count); of_pointers = extent.of_pointers }

-- that of the outermost arrays, down to a pointer or to what has no layers
abbrev pub extent_of : Layers → Extent
extent_of Nothing = record { count = Some 1; of_pointers = false }
extent_of (Pointer' further p rest) = record { count = Some 1; of_pointers = true }
extent_of (Array' length extent p rest) = extent

-- each array has its extent
abbrev pub AreCounted : Layers → Type 0
AreCounted Nothing = Unit {0}
AreCounted (Pointer' further p rest) = AreCounted rest
AreCounted (Array' length extent p rest) = (extent ≡ array_extent length (extent_of rest)) × AreCounted rest
