-- What an object gives, by what its type is from outside.
use Rattle.std.proofs.Common.{◌≡◌, ℕ, refl, ap}
use Rattle.std.specs.Prelude.{Option, Ok}
use Rattle.c_types_spec.specs.declared.Scalar.{Scalar}
use Rattle.c_types_spec.specs.declared.Standing.TheVariants.{Computed}
use Rattle.c_types_spec.specs.declared.LeftOut.TheVariants as left_out
use Rattle.c_types_spec.specs.declared.TypeFaultKind.TheVariants.{Incomplete, LeftOut}
use Rattle.c_types_spec.specs.Types as tree
use Rattle.c_types_spec.specs.Core.{Core, Load}
use Rattle.c_types_spec.specs.Names.{fail}
use Rattle.c_types_spec.specs.Operands.{loaded, valued}
use Rattle.c_types_layout.specs.declared.types.Outer.TheVariants as outer
use Rattle.c_types_layout.specs.Types.{outer_of, element_of}
use Rattle.c_types_operator.specs.Operands.{decayed}

pub loaded-void : (type : tree.CType) (address : Core) (displacement offset : ℕ) → outer_of type ≡ outer.Void → loaded type address displacement offset ≡ fail Incomplete offset
unfolding loaded
loaded-void tree.Void address displacement offset e = refl
loaded-void (tree.Integer s) address displacement offset e = absurd cc
loaded-void (tree.Pointer t) address displacement offset e = absurd cc
loaded-void (tree.Array n t) address displacement offset e = absurd cc
loaded-void (tree.Struct n) address displacement offset e = absurd cc

pub loaded-integer : (type : tree.CType) (scalar : Scalar) (address : Core) (displacement offset : ℕ) → outer_of type ≡ outer.Integer scalar → loaded type address displacement offset ≡ Ok (valued (Load scalar address displacement offset) type Computed offset)
unfolding loaded
loaded-integer tree.Void scalar address displacement offset e = absurd cc
loaded-integer (tree.Integer s) scalar address displacement offset e = let same : s ≡ scalar = cc in ap (λ t. Ok (valued (Load t address displacement offset) (tree.Integer s) Computed offset)) same
loaded-integer (tree.Pointer t) scalar address displacement offset e = absurd cc
loaded-integer (tree.Array n t) scalar address displacement offset e = absurd cc
loaded-integer (tree.Struct n) scalar address displacement offset e = absurd cc

pub loaded-pointer : (type : tree.CType) (address : Core) (displacement offset : ℕ) → outer_of type ≡ outer.Pointer → loaded type address displacement offset ≡ Ok (valued (Load tree.word address displacement offset) type Computed offset)
unfolding loaded
loaded-pointer tree.Void address displacement offset e = absurd cc
loaded-pointer (tree.Integer s) address displacement offset e = absurd cc
loaded-pointer (tree.Pointer t) address displacement offset e = refl
loaded-pointer (tree.Array n t) address displacement offset e = absurd cc
loaded-pointer (tree.Struct n) address displacement offset e = absurd cc

pub loaded-array : (type : tree.CType) (length : Option ℕ) (address : Core) (displacement offset : ℕ) → outer_of type ≡ outer.Array length → loaded type address displacement offset ≡ decayed (element_of type) address displacement offset
unfolding loaded
loaded-array tree.Void length address displacement offset e = absurd cc
loaded-array (tree.Integer s) length address displacement offset e = absurd cc
loaded-array (tree.Pointer t) length address displacement offset e = absurd cc
loaded-array (tree.Array n t) length address displacement offset e = refl
loaded-array (tree.Struct n) length address displacement offset e = absurd cc

pub loaded-struct : (type : tree.CType) (number : ℕ) (address : Core) (displacement offset : ℕ) → outer_of type ≡ outer.Struct number → loaded type address displacement offset ≡ fail (LeftOut left_out.Struct) offset
unfolding loaded
loaded-struct tree.Void number address displacement offset e = absurd cc
loaded-struct (tree.Integer s) number address displacement offset e = absurd cc
loaded-struct (tree.Pointer t) number address displacement offset e = absurd cc
loaded-struct (tree.Array n t) number address displacement offset e = absurd cc
loaded-struct (tree.Struct n) number address displacement offset e = refl

pub ruleset by_outer = (loaded-void, loaded-integer, loaded-pointer, loaded-array, loaded-struct)
