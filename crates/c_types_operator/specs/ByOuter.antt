-- Operators on pointers and integers, by what the types of their operands are from outside.
use Rattle.std.specs.Prelude.{ℕ, suc, ◌≤◌, ◌||◌, Bool, if◌then◌else◌, Option, Some, None, Result, Ok}
use Rattle.c_types_spec.specs.declared.TheConstants.{SIZE_LIMIT}
use Rattle.c_types_spec.specs.declared.Arithmetic.TheVariants.{Add, Subtract}
use Rattle.c_types_spec.specs.declared.Comparison.{Comparison}
use Rattle.c_types_spec.specs.declared.Direction.{Direction}
use Rattle.c_types_spec.specs.declared.Direction.TheVariants.{Up, Down}
use Rattle.c_types_spec.specs.declared.Order.{Order}
use Rattle.c_types_spec.specs.declared.Order.TheVariants.{PointerFirst, IndexFirst}
use Rattle.c_types_spec.specs.declared.Standing.TheVariants.{Computed}
use Rattle.c_types_spec.specs.declared.Position.{Position}
use Rattle.c_types_spec.specs.declared.Position.TheVariants as position
use Rattle.c_types_spec.specs.declared.LeftOut.TheVariants as left_out
use Rattle.c_types_spec.specs.declared.TypeFaultKind.TheVariants.{Mismatch, Incomplete, LeftOut}
use Rattle.c_types_spec.specs.Types as ctype
use Rattle.c_types_spec.specs.Core.{Core}
use Rattle.c_types_spec.specs.Names.{Fault, fail, bind}
use Rattle.c_types_spec.specs.Operands.{Operand, Valued, InMemory, operand, is_null, convert}
use Rattle.c_types_spec.specs.Operators.{arithmetic, moved, within, element_at, compared_integers, comparison}
use Rattle.c_types_layout.specs.declared.types.Outer.{Outer}
use Rattle.c_types_layout.specs.declared.types.Outer.TheVariants as outer
use Rattle.c_types_layout.specs.Types.{target_of}
use Rattle.c_types_operator.specs.Conversions.{pointers_agree}

-- the size of a type, which is needed
abbrev pub size_of_needed : ctype.Structs → ctype.CType → (offset : ℕ) → Result ℕ Fault
size_of_needed structs type offset = elim (ctype.size_of structs type) [ Some size ↦ Ok size | None ↦ fail Incomplete offset ]

-- a size from the limit of sizes on
abbrev pub IsLarge : Option ℕ → Type 0
IsLarge None = ⊥
IsLarge (Some size) = SIZE_LIMIT ≤ size

-- a pointer of a type that is moved
abbrev pub moved_pointer : ctype.Structs → Direction → Order → ctype.CType → (pointer index : Core) → (offset : ℕ) → Result Operand Fault
moved_pointer structs direction order type pointer index offset =
    elim (target_of type) [ Some target ↦ moved structs direction order target pointer index offset | None ↦ fail Mismatch offset ]

abbrev pub sum_by : ctype.Structs → Valued → Valued → (offset : ℕ) → (s t : ctype.CType) → Outer → Outer → Result Operand Fault
sum_by structs a b offset s t (outer.Integer m) (outer.Integer n) = arithmetic Add a b offset
sum_by structs a b offset s t outer.Pointer (outer.Integer n) = moved_pointer structs Up PointerFirst s a.core b.core offset
sum_by structs a b offset s t (outer.Integer m) outer.Pointer = moved_pointer structs Up IndexFirst t b.core a.core offset
sum_by structs a b offset s t other another = fail Mismatch offset

abbrev pub difference_by : ctype.Structs → Valued → Valued → (offset : ℕ) → (s t : ctype.CType) → Outer → Outer → Result Operand Fault
difference_by structs a b offset s t (outer.Integer m) (outer.Integer n) = arithmetic Subtract a b offset
difference_by structs a b offset s t outer.Pointer (outer.Integer n) = moved_pointer structs Down PointerFirst s a.core b.core offset
difference_by structs a b offset s t outer.Pointer outer.Pointer = if ctype.same_type s t then fail (LeftOut left_out.Difference) offset else fail Mismatch offset
difference_by structs a b offset s t other another = fail Mismatch offset

abbrev pub subscript_by : ctype.Structs → (bound_a bound_b : Option ℕ) → Valued → Valued → (offset : ℕ) → (s t : ctype.CType) → Outer → Outer → Result Operand Fault
subscript_by structs bound_a bound_b a b offset s t outer.Pointer (outer.Integer n) = bind (moved_pointer structs Up PointerFirst s a.core (within bound_a b.core offset) offset) element_at
subscript_by structs bound_a bound_b a b offset s t (outer.Integer m) outer.Pointer = bind (moved_pointer structs Up IndexFirst t b.core (within bound_b a.core offset) offset) element_at
subscript_by structs bound_a bound_b a b offset s t other another = fail Mismatch offset

-- what a pointer points to, by its target
abbrev pub pointed_by : Option ctype.CType → Core → (offset : ℕ) → Result Operand Fault
pointed_by (Some target) core offset = Ok (operand (InMemory core 0) target Computed offset)
pointed_by None core offset = fail Mismatch offset

abbrev pub bound_by : Position → Outer → Option ℕ
bound_by position.Addressed (outer.Array (Some length)) = Some (suc length)
bound_by other (outer.Array length) = length
bound_by other type = None

-- ---- comparisons

abbrev pub relation_by : Comparison → Valued → Valued → (offset : ℕ) → (s t : ctype.CType) → Outer → Outer → Result Operand Fault
relation_by operator a b offset s t (outer.Integer m) (outer.Integer n) = Ok (compared_integers operator a b offset m n)
relation_by operator a b offset s t outer.Pointer outer.Pointer =
    if ctype.same_type s t then Ok (comparison operator Computed offset a.core b.core) else fail Mismatch offset
relation_by operator a b offset s t other another = fail Mismatch offset

-- two pointers are compared where they agree or one is a null pointer constant
abbrev pub compared_if : Bool → Comparison → (left right : Core) → (offset : ℕ) → Result Operand Fault
compared_if agrees operator left right offset = if agrees then Ok (comparison operator Computed offset left right) else fail Mismatch offset

abbrev pub equality_by : Comparison → Valued → Valued → (offset : ℕ) → (s t : ctype.CType) → Outer → Outer → Result Operand Fault
equality_by operator a b offset s t (outer.Integer m) (outer.Integer n) = Ok (compared_integers operator a b offset m n)
equality_by operator a b offset s t outer.Pointer outer.Pointer = compared_if (pointers_agree s t || is_null a || is_null b) operator a.core b.core offset
equality_by operator a b offset s t outer.Pointer (outer.Integer n) = compared_if (is_null b) operator a.core (convert ctype.word b.core) offset
equality_by operator a b offset s t (outer.Integer m) outer.Pointer = compared_if (is_null a) operator (convert ctype.word a.core) b.core offset
equality_by operator a b offset s t other another = fail Mismatch offset
