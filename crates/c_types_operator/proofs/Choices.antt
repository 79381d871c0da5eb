-- The conditional operator and casts, by what types are from outside.
use Rattle.std.proofs.Common.{◌≡◌, ℕ, refl}
use Rattle.c_types_spec.specs.declared.Position.{Position}
use Rattle.c_types_spec.specs.declared.Position.TheVariants as position
use Rattle.c_types_spec.specs.Types as tree
use Rattle.c_types_spec.specs.Operands.{Valued}
use Rattle.c_types_spec.specs.Operators as operators
use Rattle.c_types_layout.specs.Types.{outer_of}
use Rattle.c_types_operator.specs.Arms.{arms_by}
use Rattle.c_types_operator.specs.Casts.{cast_by}

pub arms-outer : (a b : Valued) (offset : ℕ) (s t : tree.CType) → operators.arms_of a b offset s t ≡ arms_by a b offset s t (outer_of s) (outer_of t)
unfolding tree.same_type
arms-outer a b offset tree.Void tree.Void = refl
arms-outer a b offset tree.Void (tree.Integer s2) = refl
arms-outer a b offset tree.Void (tree.Pointer p2) = refl
arms-outer a b offset tree.Void (tree.Array a2 b2) = refl
arms-outer a b offset tree.Void (tree.Struct n2) = refl
arms-outer a b offset (tree.Integer s1) tree.Void = refl
arms-outer a b offset (tree.Integer s1) (tree.Integer s2) = refl
arms-outer a b offset (tree.Integer s1) (tree.Pointer p2) = refl
arms-outer a b offset (tree.Integer s1) (tree.Array a2 b2) = refl
arms-outer a b offset (tree.Integer s1) (tree.Struct n2) = refl
arms-outer a b offset (tree.Pointer p1) tree.Void = refl
arms-outer a b offset (tree.Pointer p1) (tree.Integer s2) = refl
arms-outer a b offset (tree.Pointer p1) (tree.Pointer p2) = refl
arms-outer a b offset (tree.Pointer p1) (tree.Array a2 b2) = refl
arms-outer a b offset (tree.Pointer p1) (tree.Struct n2) = refl
arms-outer a b offset (tree.Array a1 b1) tree.Void = refl
arms-outer a b offset (tree.Array a1 b1) (tree.Integer s2) = refl
arms-outer a b offset (tree.Array a1 b1) (tree.Pointer p2) = refl
arms-outer a b offset (tree.Array a1 b1) (tree.Array a2 b2) = refl
arms-outer a b offset (tree.Array a1 b1) (tree.Struct n2) = refl
arms-outer a b offset (tree.Struct n1) tree.Void = refl
arms-outer a b offset (tree.Struct n1) (tree.Integer s2) = refl
arms-outer a b offset (tree.Struct n1) (tree.Pointer p2) = refl
arms-outer a b offset (tree.Struct n1) (tree.Array a2 b2) = refl
arms-outer a b offset (tree.Struct n1) (tree.Struct n2) = refl

pub cast-outer : (place : Position) (type : tree.CType) (x : Valued) (offset : ℕ) → operators.cast place type x offset ≡ cast_by place type x offset (outer_of type)
unfolding operators.cast
cast-outer position.Operand tree.Void x offset = refl
cast-outer position.Operand (tree.Integer s1) x offset = refl
cast-outer position.Operand (tree.Pointer p1) x offset = refl
cast-outer position.Operand (tree.Array a1 b1) x offset = refl
cast-outer position.Operand (tree.Struct n1) x offset = refl
cast-outer position.Addressed tree.Void x offset = refl
cast-outer position.Addressed (tree.Integer s1) x offset = refl
cast-outer position.Addressed (tree.Pointer p1) x offset = refl
cast-outer position.Addressed (tree.Array a1 b1) x offset = refl
cast-outer position.Addressed (tree.Struct n1) x offset = refl
cast-outer position.Statement tree.Void x offset = refl
cast-outer position.Statement (tree.Integer s1) x offset = refl
cast-outer position.Statement (tree.Pointer p1) x offset = refl
cast-outer position.Statement (tree.Array a1 b1) x offset = refl
cast-outer position.Statement (tree.Struct n1) x offset = refl

pub ruleset choosing = (arms-outer)

pub ruleset casting = (cast-outer)
