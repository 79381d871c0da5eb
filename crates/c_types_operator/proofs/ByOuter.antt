-- Operators by what the types of their operands are from outside.
use Rattle.std.proofs.Common.{◌≡◌, ℕ, ◌<◌, ◌≤◌, min, refl, arith}
use Rattle.std.specs.Prelude.{Option, Some, None}
use Rattle.c_types_spec.specs.declared.TheConstants.{SIZE_LIMIT}
use Rattle.c_types_spec.specs.Types as tree
use Rattle.c_types_spec.specs.Operands.{Valued}
use Rattle.c_types_spec.specs.Operators.{addend, sum_of, difference_of, subscript_of, pointed, bound_in, relation_of, equality_of}
use Rattle.c_types_spec.specs.declared.Position.{Position}
use Rattle.c_types_spec.specs.declared.Position.TheVariants as position
use Rattle.c_types_spec.specs.declared.Comparison.{Comparison}
use Rattle.c_types_spec.specs.Core.{Core}
use Rattle.c_types_layout.specs.Types.{outer_of, target_of}
use Rattle.c_types_layout.specs.Structs.{capped}
use Rattle.c_types_operator.specs.ByOuter.{IsLarge, sum_by, difference_by, subscript_by, pointed_by, bound_by, relation_by, equality_by}

pub sum-outer : (structs : tree.Structs) (a b : Valued) (offset : ℕ) (s t : tree.CType) → sum_of structs a b offset (addend s) (addend t) ≡ sum_by structs a b offset s t (outer_of s) (outer_of t)
sum-outer structs a b offset tree.Void tree.Void = refl
sum-outer structs a b offset tree.Void (tree.Integer s2) = refl
sum-outer structs a b offset tree.Void (tree.Pointer p2) = refl
sum-outer structs a b offset tree.Void (tree.Array a2 b2) = refl
sum-outer structs a b offset tree.Void (tree.Struct n2) = refl
sum-outer structs a b offset (tree.Integer s1) tree.Void = refl
sum-outer structs a b offset (tree.Integer s1) (tree.Integer s2) = refl
sum-outer structs a b offset (tree.Integer s1) (tree.Pointer p2) = refl
sum-outer structs a b offset (tree.Integer s1) (tree.Array a2 b2) = refl
sum-outer structs a b offset (tree.Integer s1) (tree.Struct n2) = refl
sum-outer structs a b offset (tree.Pointer p1) tree.Void = refl
sum-outer structs a b offset (tree.Pointer p1) (tree.Integer s2) = refl
sum-outer structs a b offset (tree.Pointer p1) (tree.Pointer p2) = refl
sum-outer structs a b offset (tree.Pointer p1) (tree.Array a2 b2) = refl
sum-outer structs a b offset (tree.Pointer p1) (tree.Struct n2) = refl
sum-outer structs a b offset (tree.Array a1 b1) tree.Void = refl
sum-outer structs a b offset (tree.Array a1 b1) (tree.Integer s2) = refl
sum-outer structs a b offset (tree.Array a1 b1) (tree.Pointer p2) = refl
sum-outer structs a b offset (tree.Array a1 b1) (tree.Array a2 b2) = refl
sum-outer structs a b offset (tree.Array a1 b1) (tree.Struct n2) = refl
sum-outer structs a b offset (tree.Struct n1) tree.Void = refl
sum-outer structs a b offset (tree.Struct n1) (tree.Integer s2) = refl
sum-outer structs a b offset (tree.Struct n1) (tree.Pointer p2) = refl
sum-outer structs a b offset (tree.Struct n1) (tree.Array a2 b2) = refl
sum-outer structs a b offset (tree.Struct n1) (tree.Struct n2) = refl

pub difference-outer : (structs : tree.Structs) (a b : Valued) (offset : ℕ) (s t : tree.CType) → difference_of structs a b offset (addend s) (addend t) ≡ difference_by structs a b offset s t (outer_of s) (outer_of t)
unfolding tree.same_type
difference-outer structs a b offset tree.Void tree.Void = refl
difference-outer structs a b offset tree.Void (tree.Integer s2) = refl
difference-outer structs a b offset tree.Void (tree.Pointer p2) = refl
difference-outer structs a b offset tree.Void (tree.Array a2 b2) = refl
difference-outer structs a b offset tree.Void (tree.Struct n2) = refl
difference-outer structs a b offset (tree.Integer s1) tree.Void = refl
difference-outer structs a b offset (tree.Integer s1) (tree.Integer s2) = refl
difference-outer structs a b offset (tree.Integer s1) (tree.Pointer p2) = refl
difference-outer structs a b offset (tree.Integer s1) (tree.Array a2 b2) = refl
difference-outer structs a b offset (tree.Integer s1) (tree.Struct n2) = refl
difference-outer structs a b offset (tree.Pointer p1) tree.Void = refl
difference-outer structs a b offset (tree.Pointer p1) (tree.Integer s2) = refl
difference-outer structs a b offset (tree.Pointer p1) (tree.Pointer p2) = refl
difference-outer structs a b offset (tree.Pointer p1) (tree.Array a2 b2) = refl
difference-outer structs a b offset (tree.Pointer p1) (tree.Struct n2) = refl
difference-outer structs a b offset (tree.Array a1 b1) tree.Void = refl
difference-outer structs a b offset (tree.Array a1 b1) (tree.Integer s2) = refl
difference-outer structs a b offset (tree.Array a1 b1) (tree.Pointer p2) = refl
difference-outer structs a b offset (tree.Array a1 b1) (tree.Array a2 b2) = refl
difference-outer structs a b offset (tree.Array a1 b1) (tree.Struct n2) = refl
difference-outer structs a b offset (tree.Struct n1) tree.Void = refl
difference-outer structs a b offset (tree.Struct n1) (tree.Integer s2) = refl
difference-outer structs a b offset (tree.Struct n1) (tree.Pointer p2) = refl
difference-outer structs a b offset (tree.Struct n1) (tree.Array a2 b2) = refl
difference-outer structs a b offset (tree.Struct n1) (tree.Struct n2) = refl

pub subscript-outer : (structs : tree.Structs) (bound_a bound_b : Option ℕ) (a b : Valued) (offset : ℕ) (s t : tree.CType) → subscript_of structs bound_a bound_b a b offset (addend s) (addend t) ≡ subscript_by structs bound_a bound_b a b offset s t (outer_of s) (outer_of t)
subscript-outer structs bound_a bound_b a b offset tree.Void tree.Void = refl
subscript-outer structs bound_a bound_b a b offset tree.Void (tree.Integer s2) = refl
subscript-outer structs bound_a bound_b a b offset tree.Void (tree.Pointer p2) = refl
subscript-outer structs bound_a bound_b a b offset tree.Void (tree.Array a2 b2) = refl
subscript-outer structs bound_a bound_b a b offset tree.Void (tree.Struct n2) = refl
subscript-outer structs bound_a bound_b a b offset (tree.Integer s1) tree.Void = refl
subscript-outer structs bound_a bound_b a b offset (tree.Integer s1) (tree.Integer s2) = refl
subscript-outer structs bound_a bound_b a b offset (tree.Integer s1) (tree.Pointer p2) = refl
subscript-outer structs bound_a bound_b a b offset (tree.Integer s1) (tree.Array a2 b2) = refl
subscript-outer structs bound_a bound_b a b offset (tree.Integer s1) (tree.Struct n2) = refl
subscript-outer structs bound_a bound_b a b offset (tree.Pointer p1) tree.Void = refl
subscript-outer structs bound_a bound_b a b offset (tree.Pointer p1) (tree.Integer s2) = refl
subscript-outer structs bound_a bound_b a b offset (tree.Pointer p1) (tree.Pointer p2) = refl
subscript-outer structs bound_a bound_b a b offset (tree.Pointer p1) (tree.Array a2 b2) = refl
subscript-outer structs bound_a bound_b a b offset (tree.Pointer p1) (tree.Struct n2) = refl
subscript-outer structs bound_a bound_b a b offset (tree.Array a1 b1) tree.Void = refl
subscript-outer structs bound_a bound_b a b offset (tree.Array a1 b1) (tree.Integer s2) = refl
subscript-outer structs bound_a bound_b a b offset (tree.Array a1 b1) (tree.Pointer p2) = refl
subscript-outer structs bound_a bound_b a b offset (tree.Array a1 b1) (tree.Array a2 b2) = refl
subscript-outer structs bound_a bound_b a b offset (tree.Array a1 b1) (tree.Struct n2) = refl
subscript-outer structs bound_a bound_b a b offset (tree.Struct n1) tree.Void = refl
subscript-outer structs bound_a bound_b a b offset (tree.Struct n1) (tree.Integer s2) = refl
subscript-outer structs bound_a bound_b a b offset (tree.Struct n1) (tree.Pointer p2) = refl
subscript-outer structs bound_a bound_b a b offset (tree.Struct n1) (tree.Array a2 b2) = refl
subscript-outer structs bound_a bound_b a b offset (tree.Struct n1) (tree.Struct n2) = refl

pub relation-outer : (operator : Comparison) (a b : Valued) (offset : ℕ) (s t : tree.CType) → relation_of operator a b offset s t ≡ relation_by operator a b offset s t (outer_of s) (outer_of t)
unfolding tree.same_type
relation-outer operator a b offset tree.Void tree.Void = refl
relation-outer operator a b offset tree.Void (tree.Integer s2) = refl
relation-outer operator a b offset tree.Void (tree.Pointer p2) = refl
relation-outer operator a b offset tree.Void (tree.Array a2 b2) = refl
relation-outer operator a b offset tree.Void (tree.Struct n2) = refl
relation-outer operator a b offset (tree.Integer s1) tree.Void = refl
relation-outer operator a b offset (tree.Integer s1) (tree.Integer s2) = refl
relation-outer operator a b offset (tree.Integer s1) (tree.Pointer p2) = refl
relation-outer operator a b offset (tree.Integer s1) (tree.Array a2 b2) = refl
relation-outer operator a b offset (tree.Integer s1) (tree.Struct n2) = refl
relation-outer operator a b offset (tree.Pointer p1) tree.Void = refl
relation-outer operator a b offset (tree.Pointer p1) (tree.Integer s2) = refl
relation-outer operator a b offset (tree.Pointer p1) (tree.Pointer p2) = refl
relation-outer operator a b offset (tree.Pointer p1) (tree.Array a2 b2) = refl
relation-outer operator a b offset (tree.Pointer p1) (tree.Struct n2) = refl
relation-outer operator a b offset (tree.Array a1 b1) tree.Void = refl
relation-outer operator a b offset (tree.Array a1 b1) (tree.Integer s2) = refl
relation-outer operator a b offset (tree.Array a1 b1) (tree.Pointer p2) = refl
relation-outer operator a b offset (tree.Array a1 b1) (tree.Array a2 b2) = refl
relation-outer operator a b offset (tree.Array a1 b1) (tree.Struct n2) = refl
relation-outer operator a b offset (tree.Struct n1) tree.Void = refl
relation-outer operator a b offset (tree.Struct n1) (tree.Integer s2) = refl
relation-outer operator a b offset (tree.Struct n1) (tree.Pointer p2) = refl
relation-outer operator a b offset (tree.Struct n1) (tree.Array a2 b2) = refl
relation-outer operator a b offset (tree.Struct n1) (tree.Struct n2) = refl

pub equality-outer : (operator : Comparison) (a b : Valued) (offset : ℕ) (s t : tree.CType) → equality_of operator a b offset s t ≡ equality_by operator a b offset s t (outer_of s) (outer_of t)
unfolding tree.same_type
equality-outer operator a b offset tree.Void tree.Void = refl
equality-outer operator a b offset tree.Void (tree.Integer s2) = refl
equality-outer operator a b offset tree.Void (tree.Pointer p2) = refl
equality-outer operator a b offset tree.Void (tree.Array a2 b2) = refl
equality-outer operator a b offset tree.Void (tree.Struct n2) = refl
equality-outer operator a b offset (tree.Integer s1) tree.Void = refl
equality-outer operator a b offset (tree.Integer s1) (tree.Integer s2) = refl
equality-outer operator a b offset (tree.Integer s1) (tree.Pointer p2) = refl
equality-outer operator a b offset (tree.Integer s1) (tree.Array a2 b2) = refl
equality-outer operator a b offset (tree.Integer s1) (tree.Struct n2) = refl
equality-outer operator a b offset (tree.Pointer p1) tree.Void = refl
equality-outer operator a b offset (tree.Pointer p1) (tree.Integer s2) = refl
equality-outer operator a b offset (tree.Pointer p1) (tree.Pointer p2) = refl
equality-outer operator a b offset (tree.Pointer p1) (tree.Array a2 b2) = refl
equality-outer operator a b offset (tree.Pointer p1) (tree.Struct n2) = refl
equality-outer operator a b offset (tree.Array a1 b1) tree.Void = refl
equality-outer operator a b offset (tree.Array a1 b1) (tree.Integer s2) = refl
equality-outer operator a b offset (tree.Array a1 b1) (tree.Pointer p2) = refl
equality-outer operator a b offset (tree.Array a1 b1) (tree.Array a2 b2) = refl
equality-outer operator a b offset (tree.Array a1 b1) (tree.Struct n2) = refl
equality-outer operator a b offset (tree.Struct n1) tree.Void = refl
equality-outer operator a b offset (tree.Struct n1) (tree.Integer s2) = refl
equality-outer operator a b offset (tree.Struct n1) (tree.Pointer p2) = refl
equality-outer operator a b offset (tree.Struct n1) (tree.Array a2 b2) = refl
equality-outer operator a b offset (tree.Struct n1) (tree.Struct n2) = refl

pub ruleset relating = (relation-outer)

pub ruleset equating = (equality-outer)

-- a size below the limit is exact
pub exact-size : (size : Option ℕ) (n : ℕ) → capped size ≡ Some n → n < SIZE_LIMIT → size ≡ Some n
exact-size None n e h = absurd cc
exact-size (Some s) n e h = let same : min s SIZE_LIMIT ≡ n = cc in let k : s ≡ n = omega arith in cc

pub large-size : (size : Option ℕ) (n : ℕ) → capped size ≡ Some n → SIZE_LIMIT ≤ n → IsLarge size
large-size None n e h = absurd cc
large-size (Some s) n e h = let same : min s SIZE_LIMIT ≡ n = cc in omega arith

pub no-size : (size : Option ℕ) → capped size ≡ None → size ≡ None
no-size None e = refl
no-size (Some s) e = absurd cc

pub pointed-target : (type : tree.CType) (core : Core) (offset : ℕ) → pointed type core offset ≡ pointed_by (target_of type) core offset
pointed-target tree.Void core offset = refl
pointed-target (tree.Integer s1) core offset = refl
pointed-target (tree.Pointer p1) core offset = refl
pointed-target (tree.Array a1 b1) core offset = refl
pointed-target (tree.Struct n1) core offset = refl

pub bound-outer : (place : Position) (type : tree.CType) → bound_in place type ≡ bound_by place (outer_of type)
bound-outer position.Operand tree.Void = refl
bound-outer position.Operand (tree.Integer s1) = refl
bound-outer position.Operand (tree.Pointer p1) = refl
bound-outer position.Operand (tree.Array None t) = refl
bound-outer position.Operand (tree.Array (Some n) t) = refl
bound-outer position.Operand (tree.Struct n1) = refl
bound-outer position.Addressed tree.Void = refl
bound-outer position.Addressed (tree.Integer s1) = refl
bound-outer position.Addressed (tree.Pointer p1) = refl
bound-outer position.Addressed (tree.Array None t) = refl
bound-outer position.Addressed (tree.Array (Some n) t) = refl
bound-outer position.Addressed (tree.Struct n1) = refl
bound-outer position.Statement tree.Void = refl
bound-outer position.Statement (tree.Integer s1) = refl
bound-outer position.Statement (tree.Pointer p1) = refl
bound-outer position.Statement (tree.Array None t) = refl
bound-outer position.Statement (tree.Array (Some n) t) = refl
bound-outer position.Statement (tree.Struct n1) = refl

pub ruleset pointing = (pointed-target)

pub ruleset bounding = (bound-outer)

pub ruleset sized = (exact-size, large-size, no-size)

pub ruleset summing = (sum-outer)

pub ruleset differing = (difference-outer)

pub ruleset subscripting = (subscript-outer)
