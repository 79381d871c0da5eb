-- Casts, by what a type is from outside.
use Rattle.std.specs.Prelude.{ℕ, ◌&&◌, if◌then◌else◌, Result, Ok}
use Rattle.c_types_spec.specs.declared.Position.{Position}
use Rattle.c_types_spec.specs.declared.Position.TheVariants as position
use Rattle.c_types_spec.specs.declared.Standing.{Standing}
use Rattle.c_types_spec.specs.declared.Standing.TheVariants.{Computed, NullPointer}
use Rattle.c_types_spec.specs.declared.TypeFaultKind.TheVariants.{Mismatch}
use Rattle.c_types_spec.specs.Types as ctype
use Rattle.c_types_spec.specs.Names.{Fault, fail}
use Rattle.c_types_spec.specs.Operands.{Operand, Valued, value_operand, kept, is_zero, constant_of}
use Rattle.c_types_spec.specs.Operators.{cast_to}
use Rattle.c_types_layout.specs.declared.types.Outer.{Outer}
use Rattle.c_types_layout.specs.declared.types.Outer.TheVariants as outer
use Rattle.c_types_layout.specs.Types.{void_pointer}

-- which constant a value is as a pointer of a type
abbrev pub standing_by : ctype.CType → Valued → Standing
standing_by type x = if void_pointer type && is_zero (constant_of x) then NullPointer else Computed

abbrev pub void_cast : Position → Valued → (offset : ℕ) → Result Operand Fault
void_cast position.Statement x offset = Ok (value_operand x.core ctype.Void offset)
void_cast position.Operand x offset = fail Mismatch offset
void_cast position.Addressed x offset = fail Mismatch offset

abbrev pub cast_by : Position → ctype.CType → Valued → (offset : ℕ) → Outer → Result Operand Fault
cast_by place type x offset outer.Void = void_cast place x offset
cast_by place type x offset (outer.Integer scalar) = cast_to type scalar (kept x.standing) x offset
cast_by place type x offset outer.Pointer = cast_to type ctype.word (standing_by type x) x offset
cast_by place type x offset (outer.Array length) = fail Mismatch offset
cast_by place type x offset (outer.Struct number) = fail Mismatch offset
