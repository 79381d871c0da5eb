use Rattle.std.proofs.Common.{◌≡◌, drop, length, map}
use Rattle.c_types_spec.specs.Declarations.{same_types}
use Rattle.c_types_layout.specs.Types.{type_of}
use Rattle.c_types_declaration.proofs.declare.same_types.Given as goal

-- those that are left are equal where all are
abbrev pub invariant-loop-i : goal.invariant-loop-i
invariant-loop-i l = (length l.a ≡ length l.b) × (same_types (map type_of (drop l.i l.a)) (map type_of (drop l.i l.b)) ≡ same_types (map type_of l.a) (map type_of l.b))
