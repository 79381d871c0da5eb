-- Conversions as if by assignment, by what types are from outside.
use Rattle.std.specs.Prelude.{◌&&◌, ◌||◌, Bool, if◌then◌else◌, Option, None}
use Rattle.c_types_spec.specs.Types as ctype
use Rattle.c_types_spec.specs.Core.{Core}
use Rattle.c_types_spec.specs.Operands.{Valued, is_null, convert, if_true, to_integer}
use Rattle.c_types_layout.specs.declared.types.Outer.{Outer}
use Rattle.c_types_layout.specs.declared.types.Outer.TheVariants as outer
use Rattle.c_types_layout.specs.Types.{outer_of, void_pointer, is_integer, is_pointer_type}

-- two pointers, to one type, or of which one is to `void`
abbrev pub pointers_agree : ctype.CType → ctype.CType → Bool
pointers_agree target source = ctype.same_type target source || void_pointer target || void_pointer source

abbrev pub converts_by : ctype.CType → ctype.CType → Bool
converts_by target source =
    if is_integer target then is_integer source
    else is_pointer_type target && is_pointer_type source && pointers_agree target source

-- a value of a type as a pointer of another
abbrev pub pointer_by : ctype.CType → Valued → (source : ctype.CType) → Outer → Option Core
pointer_by target x source (outer.Integer scalar) = if_true (is_null x) (convert ctype.word x.core)
pointer_by target x source outer.Pointer = if_true (pointers_agree target source || is_null x) x.core
pointer_by target x source outer.Void = None
pointer_by target x source (outer.Struct number) = None
pointer_by target x source (outer.Array length) = None

abbrev pub assigned_by : ctype.CType → Valued → Outer → Option Core
assigned_by target x (outer.Integer scalar) = to_integer scalar x
assigned_by target x outer.Pointer = pointer_by target x x.type (outer_of x.type)
assigned_by target x outer.Void = None
assigned_by target x (outer.Struct number) = None
assigned_by target x (outer.Array length) = None
