-- What is asked of types, by what they are from outside.
use Rattle.std.proofs.Common.{◌≡◌, refl}
use Rattle.std.specs.Prelude.{Bool, true, false, if◌then◌else◌, is_none, Option, Some, None}
use Rattle.c_types_spec.specs.Types as types
use Rattle.c_types_spec.specs.Declarations as rule
use Rattle.c_types_layout.specs.declared.types.Outer.{Outer}
use Rattle.c_types_layout.specs.declared.types.Outer.TheVariants as outer
use Rattle.c_types_layout.specs.Types.{outer_of, element_of}
use Rattle.c_types_declaration.specs.Sizes.{element_size}
use Rattle.c_types_declaration.specs.Objects.{with_length}

abbrev pub void_outer : Outer → Bool
void_outer outer.Void = true
void_outer (outer.Integer scalar) = false
void_outer outer.Pointer = false
void_outer (outer.Array length) = false
void_outer (outer.Struct number) = false

pub is_void-outer : (type : types.CType) → types.is_void type ≡ void_outer (outer_of type)
is_void-outer types.Void = refl
is_void-outer (types.Integer s) = refl
is_void-outer (types.Pointer t) = refl
is_void-outer (types.Array n t) = refl
is_void-outer (types.Struct m) = refl

abbrev pub struct_outer : Outer → Bool
struct_outer outer.Void = false
struct_outer (outer.Integer scalar) = false
struct_outer outer.Pointer = false
struct_outer (outer.Array length) = false
struct_outer (outer.Struct number) = true

pub is_struct-outer : (type : types.CType) → types.is_struct type ≡ struct_outer (outer_of type)
is_struct-outer types.Void = refl
is_struct-outer (types.Integer s) = refl
is_struct-outer (types.Pointer t) = refl
is_struct-outer (types.Array n t) = refl
is_struct-outer (types.Struct m) = refl

abbrev pub array_outer : Outer → Bool
array_outer outer.Void = false
array_outer (outer.Integer scalar) = false
array_outer outer.Pointer = false
array_outer (outer.Array length) = true
array_outer (outer.Struct number) = false

pub is_array-outer : (type : types.CType) → types.is_array type ≡ array_outer (outer_of type)
is_array-outer types.Void = refl
is_array-outer (types.Integer s) = refl
is_array-outer (types.Pointer t) = refl
is_array-outer (types.Array n t) = refl
is_array-outer (types.Struct m) = refl

abbrev pub large_by : types.Structs → types.CType → Outer → Bool
large_by structs type (outer.Array None) = types.is_large (element_size structs type)
large_by structs type (outer.Array (Some length)) = types.is_large (types.size_of structs type)
large_by structs type outer.Void = types.is_large (types.size_of structs type)
large_by structs type (outer.Integer scalar) = types.is_large (types.size_of structs type)
large_by structs type outer.Pointer = types.is_large (types.size_of structs type)
large_by structs type (outer.Struct number) = types.is_large (types.size_of structs type)

pub too_large-outer : (structs : types.Structs) (type : types.CType) → types.too_large structs type ≡ large_by structs type (outer_of type)
too_large-outer structs types.Void = refl
too_large-outer structs (types.Integer s) = refl
too_large-outer structs (types.Pointer t) = refl
too_large-outer structs (types.Array None t) = refl
too_large-outer structs (types.Array (Some n) t) = refl
too_large-outer structs (types.Struct m) = refl

abbrev pub lacks_by : types.Structs → types.CType → Outer → Bool
lacks_by structs type (outer.Array length) = is_none (element_size structs type)
lacks_by structs type outer.Void = false
lacks_by structs type (outer.Integer scalar) = false
lacks_by structs type outer.Pointer = false
lacks_by structs type (outer.Struct number) = false

pub lacks_element-outer : (structs : types.Structs) (type : types.CType) → types.lacks_element structs type ≡ lacks_by structs type (outer_of type)
lacks_element-outer structs types.Void = refl
lacks_element-outer structs (types.Integer s) = refl
lacks_element-outer structs (types.Pointer t) = refl
lacks_element-outer structs (types.Array n t) = refl
lacks_element-outer structs (types.Struct m) = refl

-- a parameter's type, by the element of an array
abbrev pub adjusted_by : types.CType → Option types.CType → types.CType
adjusted_by type (Some element) = types.Pointer element
adjusted_by type None = type

pub adjusted-element : (type : types.CType) → rule.adjusted type ≡ adjusted_by type (element_of type)
adjusted-element types.Void = refl
adjusted-element (types.Integer s) = refl
adjusted-element (types.Pointer t) = refl
adjusted-element (types.Array n t) = refl
adjusted-element (types.Struct m) = refl

abbrev pub composite_by : (old type : types.CType) → Outer → Outer → Option types.CType
composite_by old type (outer.Array None) (outer.Array length) = with_length length old type
composite_by old type (outer.Array (Some length)) (outer.Array None) = with_length (Some length) old type
composite_by old type a b = if types.same_type old type then Some old else None

pub composite-outer : (old type : types.CType) → rule.composite old type ≡ composite_by old type (outer_of old) (outer_of type)
composite-outer types.Void types.Void = refl
composite-outer types.Void (types.Integer r) = refl
composite-outer types.Void (types.Pointer u) = refl
composite-outer types.Void (types.Array None u) = refl
composite-outer types.Void (types.Array (Some k) u) = refl
composite-outer types.Void (types.Struct l) = refl
composite-outer (types.Integer s) types.Void = refl
composite-outer (types.Integer s) (types.Integer r) = refl
composite-outer (types.Integer s) (types.Pointer u) = refl
composite-outer (types.Integer s) (types.Array None u) = refl
composite-outer (types.Integer s) (types.Array (Some k) u) = refl
composite-outer (types.Integer s) (types.Struct l) = refl
composite-outer (types.Pointer t) types.Void = refl
composite-outer (types.Pointer t) (types.Integer r) = refl
composite-outer (types.Pointer t) (types.Pointer u) = refl
composite-outer (types.Pointer t) (types.Array None u) = refl
composite-outer (types.Pointer t) (types.Array (Some k) u) = refl
composite-outer (types.Pointer t) (types.Struct l) = refl
composite-outer (types.Array None t) types.Void = refl
composite-outer (types.Array None t) (types.Integer r) = refl
composite-outer (types.Array None t) (types.Pointer u) = refl
composite-outer (types.Array None t) (types.Array None u) = refl
composite-outer (types.Array None t) (types.Array (Some k) u) = refl
composite-outer (types.Array None t) (types.Struct l) = refl
composite-outer (types.Array (Some n) t) types.Void = refl
composite-outer (types.Array (Some n) t) (types.Integer r) = refl
composite-outer (types.Array (Some n) t) (types.Pointer u) = refl
composite-outer (types.Array (Some n) t) (types.Array None u) = refl
composite-outer (types.Array (Some n) t) (types.Array (Some k) u) = refl
composite-outer (types.Array (Some n) t) (types.Struct l) = refl
composite-outer (types.Struct m) types.Void = refl
composite-outer (types.Struct m) (types.Integer r) = refl
composite-outer (types.Struct m) (types.Pointer u) = refl
composite-outer (types.Struct m) (types.Array None u) = refl
composite-outer (types.Struct m) (types.Array (Some k) u) = refl
composite-outer (types.Struct m) (types.Struct l) = refl

pub ruleset by_outer = (is_void-outer, is_struct-outer, is_array-outer, too_large-outer, lacks_element-outer, composite-outer)

pub ruleset adjusting = (adjusted-element)
