-- Conversions by what types are from outside.
use Rattle.std.proofs.Common.{◌≡◌, refl}
use Rattle.c_types_spec.specs.Types as tree
use Rattle.c_types_spec.specs.Operands.{Valued, converts, assigned, pointer_from}
use Rattle.c_types_layout.specs.Types.{outer_of}
use Rattle.c_types_operator.specs.Conversions.{converts_by, assigned_by, pointer_by}

pub converts-outer : (target source : tree.CType) → converts target source ≡ converts_by target source
unfolding converts tree.same_type
converts-outer tree.Void tree.Void = refl
converts-outer tree.Void (tree.Integer s2) = refl
converts-outer tree.Void (tree.Pointer p2) = refl
converts-outer tree.Void (tree.Array a2 b2) = refl
converts-outer tree.Void (tree.Struct n2) = refl
converts-outer (tree.Integer s1) tree.Void = refl
converts-outer (tree.Integer s1) (tree.Integer s2) = refl
converts-outer (tree.Integer s1) (tree.Pointer p2) = refl
converts-outer (tree.Integer s1) (tree.Array a2 b2) = refl
converts-outer (tree.Integer s1) (tree.Struct n2) = refl
converts-outer (tree.Pointer p1) tree.Void = refl
converts-outer (tree.Pointer p1) (tree.Integer s2) = refl
converts-outer (tree.Pointer p1) (tree.Pointer p2) = refl
converts-outer (tree.Pointer p1) (tree.Array a2 b2) = refl
converts-outer (tree.Pointer p1) (tree.Struct n2) = refl
converts-outer (tree.Array a1 b1) tree.Void = refl
converts-outer (tree.Array a1 b1) (tree.Integer s2) = refl
converts-outer (tree.Array a1 b1) (tree.Pointer p2) = refl
converts-outer (tree.Array a1 b1) (tree.Array a2 b2) = refl
converts-outer (tree.Array a1 b1) (tree.Struct n2) = refl
converts-outer (tree.Struct n1) tree.Void = refl
converts-outer (tree.Struct n1) (tree.Integer s2) = refl
converts-outer (tree.Struct n1) (tree.Pointer p2) = refl
converts-outer (tree.Struct n1) (tree.Array a2 b2) = refl
converts-outer (tree.Struct n1) (tree.Struct n2) = refl

pub pointer-outer : (target : tree.CType) (x : Valued) (source : tree.CType) → pointer_from target x source ≡ pointer_by (tree.Pointer target) x source (outer_of source)
unfolding tree.same_type
pointer-outer target x tree.Void = refl
pointer-outer target x (tree.Integer s2) = refl
pointer-outer target x (tree.Pointer p2) = refl
pointer-outer target x (tree.Array a2 b2) = refl
pointer-outer target x (tree.Struct n2) = refl

pub assigned-outer : (target : tree.CType) (x : Valued) → assigned target x ≡ assigned_by target x (outer_of target)
unfolding assigned
assigned-outer tree.Void x = refl
assigned-outer (tree.Integer s1) x = refl
assigned-outer (tree.Pointer p1) x = pointer-outer p1 x x.type
assigned-outer (tree.Array a1 b1) x = refl
assigned-outer (tree.Struct n1) x = refl

pub ruleset converting = (converts-outer)

pub ruleset assigning = (assigned-outer)
