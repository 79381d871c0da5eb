-- Members, by what types are from outside.
use Rattle.std.specs.Prelude.{ℕ, ◌+◌, List, Option, Some, None, Result, Ok}
use Rattle.c_syntax_spec.specs.Expression.{Name}
use Rattle.c_types_spec.specs.declared.Standing.TheVariants.{Computed}
use Rattle.c_types_spec.specs.declared.TypeFaultKind.TheVariants.{Unknown, Mismatch}
use Rattle.c_types_spec.specs.Types as ctype
use Rattle.c_types_spec.specs.Core.{Core, Aligned}
use Rattle.c_types_spec.specs.Names.{Fault, fail, bind}
use Rattle.c_types_spec.specs.Operands.{Operand, InMemory, operand}
use Rattle.c_types_spec.specs.Operators.{member_at, layout_needed}
use Rattle.c_types_layout.specs.declared.types.Outer.{Outer}
use Rattle.c_types_layout.specs.declared.types.Outer.TheVariants as outer
use Rattle.c_types_layout.specs.Types.{outer_of}

abbrev pub name_of : List ℕ → (offset : ℕ) → Name
name_of spelling offset = record { spelling = spelling; offset = offset }

-- the object of a member, by the member's type and distance
abbrev pub member_by : (address : Core) → (displacement : ℕ) → Option (ctype.CType × ℕ) → (name_offset offset : ℕ) → Result Operand Fault
member_by address displacement (Some part) name_offset offset = Ok (operand (InMemory address (displacement + part.1)) part.0 Computed offset)
member_by address displacement None name_offset offset = fail Unknown name_offset

abbrev pub dot_by : ctype.Structs → (address : Core) → (displacement : ℕ) → Outer → Name → (offset : ℕ) → Result Operand Fault
dot_by structs address displacement (outer.Struct number) name offset =
    bind (layout_needed structs number offset) (λ layout. member_at address displacement layout name offset)
dot_by structs address displacement outer.Void name offset = fail Mismatch offset
dot_by structs address displacement (outer.Integer scalar) name offset = fail Mismatch offset
dot_by structs address displacement outer.Pointer name offset = fail Mismatch offset
dot_by structs address displacement (outer.Array length) name offset = fail Mismatch offset

abbrev pub arrow_in_by : ctype.Structs → Outer → (pointer : Core) → Name → (offset : ℕ) → Result Operand Fault
arrow_in_by structs (outer.Struct number) pointer name offset =
    bind (layout_needed structs number offset) (λ layout. member_at (Aligned layout.alignment pointer offset) 0 layout name offset)
arrow_in_by structs outer.Void pointer name offset = fail Mismatch offset
arrow_in_by structs (outer.Integer scalar) pointer name offset = fail Mismatch offset
arrow_in_by structs outer.Pointer pointer name offset = fail Mismatch offset
arrow_in_by structs (outer.Array length) pointer name offset = fail Mismatch offset

abbrev pub arrow_by : ctype.Structs → Option ctype.CType → (pointer : Core) → Name → (offset : ℕ) → Result Operand Fault
arrow_by structs (Some target) pointer name offset = arrow_in_by structs (outer_of target) pointer name offset
arrow_by structs None pointer name offset = fail Mismatch offset
