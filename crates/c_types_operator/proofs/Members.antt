-- Members, by what types are from outside.
use Rattle.std.proofs.Common.{◌≡◌, ℕ, refl}
use Rattle.c_syntax_spec.specs.Expression.{Name}
use Rattle.c_types_spec.specs.Types as tree
use Rattle.c_types_spec.specs.Core.{Core}
use Rattle.c_types_spec.specs.Operators as operators
use Rattle.c_types_layout.specs.Types.{outer_of, target_of}
use Rattle.c_types_operator.specs.Members.{dot_by, arrow_in_by, arrow_by}

pub dot-outer : (structs : tree.Structs) (address : Core) (displacement : ℕ) (type : tree.CType) (name : Name) (offset : ℕ) → operators.dot_in structs address displacement type name offset ≡ dot_by structs address displacement (outer_of type) name offset
dot-outer structs address displacement tree.Void name offset = refl
dot-outer structs address displacement (tree.Integer s1) name offset = refl
dot-outer structs address displacement (tree.Pointer p1) name offset = refl
dot-outer structs address displacement (tree.Array a1 b1) name offset = refl
dot-outer structs address displacement (tree.Struct n1) name offset = refl

arrow-in-outer : (structs : tree.Structs) (type : tree.CType) (pointer : Core) (name : Name) (offset : ℕ) → operators.arrow_in structs type pointer name offset ≡ arrow_in_by structs (outer_of type) pointer name offset
arrow-in-outer structs tree.Void pointer name offset = refl
arrow-in-outer structs (tree.Integer s1) pointer name offset = refl
arrow-in-outer structs (tree.Pointer p1) pointer name offset = refl
arrow-in-outer structs (tree.Array a1 b1) pointer name offset = refl
arrow-in-outer structs (tree.Struct n1) pointer name offset = refl

pub arrow-target : (structs : tree.Structs) (type : tree.CType) (pointer : Core) (name : Name) (offset : ℕ) → operators.arrow_to structs type pointer name offset ≡ arrow_by structs (target_of type) pointer name offset
arrow-target structs tree.Void pointer name offset = refl
arrow-target structs (tree.Integer s1) pointer name offset = refl
arrow-target structs (tree.Pointer p1) pointer name offset = arrow-in-outer structs p1 pointer name offset
arrow-target structs (tree.Array a1 b1) pointer name offset = refl
arrow-target structs (tree.Struct n1) pointer name offset = refl

pub ruleset dotted = (dot-outer)

pub ruleset pointed = (arrow-target)
