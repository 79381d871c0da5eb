-- What a type is by what it is from outside.
use Rattle.std.proofs.Common.{◌≡◌, refl}
use Rattle.std.specs.Prelude.{Option, Some, None}
use Rattle.c_types_spec.specs.declared.Scalar.{Scalar}
use Rattle.c_types_spec.specs.Types as tree
use Rattle.c_types_spec.specs.Operands.{integer_type}
use Rattle.c_types_layout.specs.declared.types.Outer.{Outer}
use Rattle.c_types_layout.specs.declared.types.Outer.TheVariants as outer
use Rattle.c_types_layout.specs.Types.{outer_of}

abbrev pub scalar_in : Outer → Option Scalar
scalar_in (outer.Integer scalar) = Some scalar
scalar_in outer.Pointer = Some tree.word
scalar_in outer.Void = None
scalar_in (outer.Struct number) = None
scalar_in (outer.Array length) = None

abbrev pub integer_in : Outer → Option Scalar
integer_in (outer.Integer scalar) = Some scalar
integer_in outer.Pointer = None
integer_in outer.Void = None
integer_in (outer.Struct number) = None
integer_in (outer.Array length) = None

pub scalar-outer : (type : tree.CType) → tree.scalar_of type ≡ scalar_in (outer_of type)
scalar-outer tree.Void = refl
scalar-outer (tree.Integer scalar) = refl
scalar-outer (tree.Pointer target) = refl
scalar-outer (tree.Array length element) = refl
scalar-outer (tree.Struct number) = refl

pub integer-outer : (type : tree.CType) → integer_type type ≡ integer_in (outer_of type)
integer-outer tree.Void = refl
integer-outer (tree.Integer scalar) = refl
integer-outer (tree.Pointer target) = refl
integer-outer (tree.Array length element) = refl
integer-outer (tree.Struct number) = refl

pub ruleset by_outer = (scalar-outer, integer-outer)
