-- The conditional operator, by what the types of its operands are from outside.
use Rattle.std.specs.Prelude.{ℕ, ◌||◌, if◌then◌else◌, Result, Ok}
use Rattle.c_types_spec.specs.declared.TypeFaultKind.TheVariants.{Mismatch}
use Rattle.c_types_spec.specs.Types as ctype
use Rattle.c_types_spec.specs.Names.{Fault, fail}
use Rattle.c_types_spec.specs.Operands.{Valued, convert, is_null}
use Rattle.c_types_spec.specs.Operators as operators
use Rattle.c_types_layout.specs.declared.types.Outer.{Outer}
use Rattle.c_types_layout.specs.declared.types.Outer.TheVariants as outer
use Rattle.c_types_layout.specs.Types.{type_of}
use Rattle.c_types_operator.specs.declared.arms.Arms.{Arms}
use Rattle.c_types_operator.specs.Conversions.{pointers_agree}
use Rattle.c_types_operator.specs.Operands.{core_in}

unfoldable pub arms_of : Arms → operators.Arms
arms_of made = operators.arms (type_of made.of) made.scalar (core_in made.first) (core_in made.second)

-- two pointers, of these types
abbrev pub pointers_by : Valued → Valued → (offset : ℕ) → (s t : ctype.CType) → Result operators.Arms Fault
pointers_by a b offset s t =
    if is_null a then Ok (operators.arms t ctype.word a.core b.core)
    else if is_null b || ctype.same_type s t then Ok (operators.arms s ctype.word a.core b.core)
    else if pointers_agree s t then Ok (operators.arms (ctype.Pointer ctype.Void) ctype.word a.core b.core)
    else fail Mismatch offset

-- a pointer and a null pointer constant
abbrev pub null_second_by : Valued → Valued → (offset : ℕ) → Result operators.Arms Fault
null_second_by a b offset = if is_null b then Ok (operators.arms a.type ctype.word a.core (convert ctype.word b.core)) else fail Mismatch offset

abbrev pub null_first_by : Valued → Valued → (offset : ℕ) → Result operators.Arms Fault
null_first_by a b offset = if is_null a then Ok (operators.arms b.type ctype.word (convert ctype.word a.core) b.core) else fail Mismatch offset

abbrev pub arms_by : Valued → Valued → (offset : ℕ) → (s t : ctype.CType) → Outer → Outer → Result operators.Arms Fault
arms_by a b offset s t (outer.Integer m) (outer.Integer n) =
    Ok (operators.arms (ctype.Integer (ctype.common m n)) (ctype.common m n) (convert (ctype.common m n) a.core) (convert (ctype.common m n) b.core))
arms_by a b offset s t outer.Pointer outer.Pointer = pointers_by a b offset s t
arms_by a b offset s t outer.Pointer (outer.Integer n) =
    if is_null b then Ok (operators.arms s ctype.word a.core (convert ctype.word b.core)) else fail Mismatch offset
arms_by a b offset s t (outer.Integer m) outer.Pointer =
    if is_null a then Ok (operators.arms t ctype.word (convert ctype.word a.core) b.core) else fail Mismatch offset
arms_by a b offset s t other another = fail Mismatch offset
