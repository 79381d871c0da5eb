-- The type that a type of the program is.
use Rattle.std.specs.Prelude.{◌≡◌, ℕ, zero, suc, Bool, true, false, Option, Some, None, option_map, IfSome}
use Rattle.c_types_spec.specs.Types as tree
use Rattle.c_types_layout.specs.declared.types.Base.{Base}
use Rattle.c_types_layout.specs.declared.types.Base.TheVariants as base
use Rattle.c_types_layout.specs.declared.types.Layers.{Layers}
use Rattle.c_types_layout.specs.declared.types.Layers.TheVariants.{Nothing, Pointer', Array'}
use Rattle.c_types_layout.specs.declared.types.Outer.{Outer}
use Rattle.c_types_layout.specs.declared.types.Outer.TheVariants as outer
use Rattle.c_types_layout.specs.declared.types.CType.{CType}

abbrev pub base_of : Base → tree.CType
base_of base.Void = tree.Void
base_of (base.Integer scalar) = tree.Integer scalar
base_of (base.Struct number) = tree.Struct number

-- a type with so many pointers round it
abbrev pub pointed : (pointers : ℕ) → tree.CType → tree.CType
pointed zero type = type
pointed (suc pointers) type = tree.Pointer (pointed pointers type)

-- a type with layers round it, the outermost first
abbrev pub wrapped : Layers → Base → tree.CType
wrapped Nothing base = base_of base
wrapped (Pointer' further p rest) base = tree.Pointer (pointed further (wrapped rest base))
wrapped (Array' length extent p rest) base = tree.Array length (wrapped rest base)

unfoldable pub type_of : CType → tree.CType
type_of type = wrapped type.layers type.base

-- what a type is from outside
abbrev pub outer_of : tree.CType → Outer
outer_of tree.Void = outer.Void
outer_of (tree.Integer scalar) = outer.Integer scalar
outer_of (tree.Pointer target) = outer.Pointer
outer_of (tree.Array length element) = outer.Array length
outer_of (tree.Struct number) = outer.Struct number

abbrev pub target_of : tree.CType → Option tree.CType
target_of (tree.Pointer target) = Some target
target_of other = None

abbrev pub element_of : tree.CType → Option tree.CType
element_of (tree.Array length element) = Some element
element_of other = None

-- if any, those of a pointer to what has these layers
abbrev pub IsLonger : (found : Option Layers) → Layers → Type 0
IsLonger found layers = IfSome found (λ l. (base : Base) → wrapped l base ≡ tree.Pointer (wrapped layers base))

-- those of what a pointer points to; none where what has these layers is none
abbrev pub IsTarget : (found : Option Layers) → Layers → Type 0
IsTarget found layers = (base : Base) → option_map (λ l. wrapped l base) found ≡ target_of (wrapped layers base)

abbrev pub void_pointer : tree.CType → Bool
void_pointer (tree.Pointer target) = tree.is_void target
void_pointer type = false

-- by what a type is from outside
abbrev pub integer_outer : Outer → Bool
integer_outer (outer.Integer scalar) = true
integer_outer outer.Void = false
integer_outer (outer.Struct number) = false
integer_outer outer.Pointer = false
integer_outer (outer.Array length) = false

abbrev pub pointer_outer : Outer → Bool
pointer_outer outer.Pointer = true
pointer_outer outer.Void = false
pointer_outer (outer.Integer scalar) = false
pointer_outer (outer.Struct number) = false
pointer_outer (outer.Array length) = false

abbrev pub is_integer : tree.CType → Bool
is_integer type = integer_outer (outer_of type)

abbrev pub is_pointer_type : tree.CType → Bool
is_pointer_type type = pointer_outer (outer_of type)
