-- The rules of operators (ISO C11, 6.5): from what their operands give to what they give, or to the fault at the
-- operator's offset.
use Rattle.std.specs.Prelude.{ℕ, suc, ◌+◌, pos, negsuc, ◌&&◌, ◌||◌, if◌then◌else◌, Option, Some, None, Result, Ok}
use Rattle.c_syntax_spec.specs.declared.BinaryOperator.{BinaryOperator}
use Rattle.c_syntax_spec.specs.declared.BinaryOperator.TheVariants as binary
use Rattle.c_syntax_spec.specs.declared.UnaryOperator.{UnaryOperator}
use Rattle.c_syntax_spec.specs.declared.UnaryOperator.TheVariants as unary
use Rattle.c_syntax_spec.specs.Expression.{Name}
use Rattle.c_types_spec.specs.declared.Scalar.{Scalar}
use Rattle.c_types_spec.specs.declared.Arithmetic.{Arithmetic}
use Rattle.c_types_spec.specs.declared.Arithmetic.TheVariants.{Add, Subtract, Multiply, Divide, Remainder, ShiftLeft, ShiftRight, And, Or, Xor}
use Rattle.c_types_spec.specs.declared.Comparison.{Comparison}
use Rattle.c_types_spec.specs.declared.Comparison.TheVariants.{Equal, NotEqual, Less, Greater, LessOrEqual, GreaterOrEqual}
use Rattle.c_types_spec.specs.declared.Direction.{Direction}
use Rattle.c_types_spec.specs.declared.Direction.TheVariants.{Up, Down}
use Rattle.c_types_spec.specs.declared.Order.{Order}
use Rattle.c_types_spec.specs.declared.Order.TheVariants.{PointerFirst, IndexFirst}
use Rattle.c_types_spec.specs.declared.Position.{Position}
use Rattle.c_types_spec.specs.declared.Position.TheVariants as position
use Rattle.c_types_spec.specs.declared.Standing.{Standing}
use Rattle.c_types_spec.specs.declared.Standing.TheVariants.{Computed, NullPointer}
use Rattle.c_types_spec.specs.declared.LeftOut.TheVariants as left_out
use Rattle.c_types_spec.specs.declared.TypeFaultKind.TheVariants.{Unknown, Mismatch, NotLvalue, AddressOfLocal, Incomplete, LeftOut}
use Rattle.c_types_spec.specs.Types.{CType, Void, Integer, Pointer, Array, Struct, Structs, Layout, scalar_of, same_type, is_void, promoted, common, size_of, struct_layout, member_named, int, word}
use Rattle.c_types_spec.specs.Values.{converted}
use Rattle.c_types_spec.specs.Core.{Core, Constant, Operate, Compare, Move, Within, Aligned, Choose, type_of}
use Rattle.c_types_spec.specs.Names.{Fault, fail, bind}
use Rattle.c_types_spec.specs.Operands.{Operand, Valued, Value, InLocal, InMemory, operand, value_operand, constant_operand, kept, both, convert, displaced, pointers_meet, is_null, is_zero, value_of, integer_type, constant_of}

-- ---- arithmetic

-- two operands in the common type (6.3.1.8)
abbrev pub in_common : (Scalar → Core → Core → Operand) → Scalar → Scalar → Valued → Valued → Operand
in_common made s t a b = made (common s t) (convert (common s t) a.core) (convert (common s t) b.core)

abbrev pub on_integers : (Scalar → Scalar → Result Operand Fault) → Valued → Valued → (offset : ℕ) → Result Operand Fault
on_integers rule a b offset =
    elim (integer_type a.type) [
      | Some s ↦ (elim (integer_type b.type) [ Some t ↦ rule s t | None ↦ fail Mismatch offset ])
      | None ↦ fail Mismatch offset
    ]

-- 6.5.5, 6.5.6, 6.5.10 to 6.5.12, on integers
unfoldable pub arithmetic : Arithmetic → Valued → Valued → (offset : ℕ) → Result Operand Fault
arithmetic operator a b offset =
    on_integers (λ s t. Ok (in_common (λ type left right. operand (Value (Operate operator type left right offset)) (Integer type) (both a.standing b.standing) offset) s t a b)) a b offset

-- 6.5.7: each operand is promoted, and the result has the left one's type
unfoldable pub shift : Arithmetic → Valued → Valued → (offset : ℕ) → Result Operand Fault
shift operator a b offset =
    on_integers (λ s t. Ok (operand (Value (Operate operator (promoted s) (convert (promoted s) a.core) (convert (promoted t) b.core) offset)) (Integer (promoted s)) (both a.standing b.standing) offset)) a b offset

-- 6.5.6p8: a pointer that is moved by an index; the size of what it points to is needed
unfoldable pub moved : Structs → Direction → Order → (target : CType) → (pointer index : Core) → (offset : ℕ) → Result Operand Fault
moved structs direction order target pointer index offset =
    elim (size_of structs target) [
      | Some size ↦ Ok (value_operand (Move direction order size pointer index offset) (Pointer target) offset)
      | None ↦ fail Incomplete offset
    ]

-- an operand of `+` and `-`, by its type
pub data Addend : Type 0 where
  AnInteger : Addend
  APointer : (target : CType) → Addend
  Neither : Addend

abbrev pub addend : CType → Addend
addend (Integer scalar) = AnInteger
addend (Pointer target) = APointer target
addend type = Neither

-- 6.5.6p2
abbrev pub sum_of : Structs → Valued → Valued → (offset : ℕ) → Addend → Addend → Result Operand Fault
sum_of structs a b offset AnInteger AnInteger = arithmetic Add a b offset
sum_of structs a b offset (APointer target) AnInteger = moved structs Up PointerFirst target a.core b.core offset
sum_of structs a b offset AnInteger (APointer target) = moved structs Up IndexFirst target b.core a.core offset
sum_of structs a b offset other another = fail Mismatch offset

unfoldable pub sum : Structs → Valued → Valued → (offset : ℕ) → Result Operand Fault
sum structs a b offset = sum_of structs a b offset (addend a.type) (addend b.type)

-- 6.5.6p3; the difference of two pointers to one type is left out
abbrev pub difference_of : Structs → Valued → Valued → (offset : ℕ) → Addend → Addend → Result Operand Fault
difference_of structs a b offset AnInteger AnInteger = arithmetic Subtract a b offset
difference_of structs a b offset (APointer target) AnInteger = moved structs Down PointerFirst target a.core b.core offset
difference_of structs a b offset (APointer target) (APointer other) = if same_type target other then fail (LeftOut left_out.Difference) offset else fail Mismatch offset
difference_of structs a b offset other another = fail Mismatch offset

unfoldable pub difference : Structs → Valued → Valued → (offset : ℕ) → Result Operand Fault
difference structs a b offset = difference_of structs a b offset (addend a.type) (addend b.type)

-- ---- comparisons and logic

abbrev pub comparison : Comparison → Standing → (offset : ℕ) → (left right : Core) → Operand
comparison operator standing offset left right = operand (Value (Compare operator left right)) (Integer int) standing offset

abbrev pub compared_integers : Comparison → Valued → Valued → (offset : ℕ) → Scalar → Scalar → Operand
compared_integers operator a b offset s t = in_common (λ type left right. comparison operator (both a.standing b.standing) offset left right) s t a b

-- 6.5.8p2: two integers, or two pointers to one type
abbrev pub relation_of : Comparison → Valued → Valued → (offset : ℕ) → CType → CType → Result Operand Fault
relation_of operator a b offset (Integer s) (Integer t) = Ok (compared_integers operator a b offset s t)
relation_of operator a b offset (Pointer target) (Pointer other) =
    if same_type target other then Ok (comparison operator Computed offset a.core b.core) else fail Mismatch offset
relation_of operator a b offset other another = fail Mismatch offset

unfoldable pub relation : Comparison → Valued → Valued → (offset : ℕ) → Result Operand Fault
relation operator a b offset = relation_of operator a b offset a.type b.type

-- 6.5.9p2: also pointers to different types of which one is `void`, or with a null pointer constant
abbrev pub equality_of : Comparison → Valued → Valued → (offset : ℕ) → CType → CType → Result Operand Fault
equality_of operator a b offset (Integer s) (Integer t) = Ok (compared_integers operator a b offset s t)
equality_of operator a b offset (Pointer target) (Pointer other) =
    if pointers_meet target other || is_null a || is_null b then Ok (comparison operator Computed offset a.core b.core) else fail Mismatch offset
equality_of operator a b offset (Pointer target) (Integer t) =
    if is_null b then Ok (comparison operator Computed offset a.core (convert word b.core)) else fail Mismatch offset
equality_of operator a b offset (Integer s) (Pointer other) =
    if is_null a then Ok (comparison operator Computed offset (convert word a.core) b.core) else fail Mismatch offset
equality_of operator a b offset other another = fail Mismatch offset

unfoldable pub equality : Comparison → Valued → Valued → (offset : ℕ) → Result Operand Fault
equality operator a b offset = equality_of operator a b offset a.type b.type

abbrev pub zero_of : Scalar → Core
zero_of type = Constant type (pos 0)

abbrev pub one_int : Core
one_int = Constant int (pos 1)

-- 1 where the value is not 0, else 0
abbrev pub truth : Core → Core
truth core = Compare NotEqual core (zero_of (type_of core))

abbrev pub on_scalars : Valued → Valued → (offset : ℕ) → Operand → Result Operand Fault
on_scalars a b offset result =
    elim (scalar_of a.type) [
      | Some s ↦ (elim (scalar_of b.type) [ Some t ↦ Ok result | None ↦ fail Mismatch offset ])
      | None ↦ fail Mismatch offset
    ]

-- 6.5.13: the right operand is evaluated only where the left one is not 0
unfoldable pub conjunction : Valued → Valued → (offset : ℕ) → Result Operand Fault
conjunction a b offset =
    on_scalars a b offset (operand (Value (Choose int a.core (truth b.core) (zero_of int))) (Integer int) (both a.standing b.standing) offset)

-- 6.5.14
unfoldable pub disjunction : Valued → Valued → (offset : ℕ) → Result Operand Fault
disjunction a b offset =
    on_scalars a b offset (operand (Value (Choose int a.core one_int (truth b.core))) (Integer int) (both a.standing b.standing) offset)

unfoldable pub binary_rule : BinaryOperator → Structs → Valued → Valued → (offset : ℕ) → Result Operand Fault
binary_rule binary.LogicalOr structs a b offset = disjunction a b offset
binary_rule binary.LogicalAnd structs a b offset = conjunction a b offset
binary_rule binary.BitOr structs a b offset = arithmetic Or a b offset
binary_rule binary.BitXor structs a b offset = arithmetic Xor a b offset
binary_rule binary.BitAnd structs a b offset = arithmetic And a b offset
binary_rule binary.Equal structs a b offset = equality Equal a b offset
binary_rule binary.NotEqual structs a b offset = equality NotEqual a b offset
binary_rule binary.Less structs a b offset = relation Less a b offset
binary_rule binary.Greater structs a b offset = relation Greater a b offset
binary_rule binary.LessOrEqual structs a b offset = relation LessOrEqual a b offset
binary_rule binary.GreaterOrEqual structs a b offset = relation GreaterOrEqual a b offset
binary_rule binary.ShiftLeft structs a b offset = shift ShiftLeft a b offset
binary_rule binary.ShiftRight structs a b offset = shift ShiftRight a b offset
binary_rule binary.Add structs a b offset = sum structs a b offset
binary_rule binary.Subtract structs a b offset = difference structs a b offset
binary_rule binary.Multiply structs a b offset = arithmetic Multiply a b offset
binary_rule binary.Divide structs a b offset = arithmetic Divide a b offset
binary_rule binary.Remainder structs a b offset = arithmetic Remainder a b offset

-- ---- unary operators

-- 6.5.3.2p1, p3: the address of an object. `&*p` is p
unfoldable pub address_of : Operand → (offset : ℕ) → Result Operand Fault
address_of x offset =
    elim x.category [
      | Value core ↦ fail NotLvalue offset
      | InLocal local ↦ fail AddressOfLocal offset
      | InMemory address displacement ↦ Ok (value_operand (displaced address displacement x.offset) (Pointer x.type) offset)
    ]

-- 6.5.3.2p4
abbrev pub pointed : CType → Core → (offset : ℕ) → Result Operand Fault
pointed (Pointer target) core offset = Ok (operand (InMemory core 0) target Computed offset)
pointed type core offset = fail Mismatch offset

unfoldable pub dereferenced : Valued → (offset : ℕ) → Result Operand Fault
dereferenced x offset = pointed x.type x.core offset

-- 6.5.3.3: the operand is an integer and is promoted
abbrev pub on_integer : (Scalar → Core → Core) → Valued → (offset : ℕ) → Result Operand Fault
on_integer made x offset =
    elim (integer_type x.type) [
      | Some s ↦ Ok (operand (Value (made (promoted s) (convert (promoted s) x.core))) (Integer (promoted s)) (kept x.standing) offset)
      | None ↦ fail Mismatch offset
    ]

-- all bits set
abbrev pub ones_of : Scalar → Core
ones_of type = Constant type (converted type (negsuc 0))

unfoldable pub plus : Valued → (offset : ℕ) → Result Operand Fault
plus x offset = on_integer (λ type core. core) x offset

-- the difference of 0 and the operand
unfoldable pub minus : Valued → (offset : ℕ) → Result Operand Fault
minus x offset = on_integer (λ type core. Operate Subtract type (zero_of type) core offset) x offset

-- the operand with each bit changed
unfoldable pub complement : Valued → (offset : ℕ) → Result Operand Fault
complement x offset = on_integer (λ type core. Operate Xor type core (ones_of type) offset) x offset

-- 6.5.3.3p5: `!x` is `0 == x`
unfoldable pub negation : Valued → (offset : ℕ) → Result Operand Fault
negation x offset =
    elim (scalar_of x.type) [
      | Some s ↦ Ok (comparison Equal (kept x.standing) offset x.core (zero_of (type_of x.core)))
      | None ↦ fail Mismatch offset
    ]

unfoldable pub unary_rule : UnaryOperator → Operand → (offset : ℕ) → Result Operand Fault
unary_rule unary.AddressOf x offset = address_of x offset
unary_rule unary.Dereference x offset = bind (value_of x) (λ v. dereferenced v offset)
unary_rule unary.Plus x offset = bind (value_of x) (λ v. plus v offset)
unary_rule unary.Minus x offset = bind (value_of x) (λ v. minus v offset)
unary_rule unary.Complement x offset = bind (value_of x) (λ v. complement v offset)
unary_rule unary.Not x offset = bind (value_of x) (λ v. negation v offset)

-- ---- objects in objects

-- how many elements an index may be below: the declared length of an array. Directly under `&` the length itself is
-- allowed
abbrev pub bound_in : Position → CType → Option ℕ
bound_in position.Addressed (Array (Some length) element) = Some (suc length)
bound_in other (Array length element) = length
bound_in other type = None

abbrev pub bound_of : Position → Operand → Option ℕ
bound_of place x = bound_in place x.type

abbrev pub within : Option ℕ → (index : Core) → (offset : ℕ) → Core
within (Some bound) index offset = Within bound index offset
within None index offset = index

-- the object that a moved pointer points to
abbrev pub element_at : Operand → Result Operand Fault
element_at x = bind (value_of x) (λ v. dereferenced v v.offset)

-- 6.5.2.1p2: `a[i]` is `*(a + i)`; the bounds are those of the operands' arrays
abbrev pub subscript_of : Structs → (bound_a bound_b : Option ℕ) → Valued → Valued → (offset : ℕ) → Addend → Addend → Result Operand Fault
subscript_of structs bound_a bound_b a b offset (APointer target) AnInteger = bind (moved structs Up PointerFirst target a.core (within bound_a b.core offset) offset) element_at
subscript_of structs bound_a bound_b a b offset AnInteger (APointer target) = bind (moved structs Up IndexFirst target b.core (within bound_b a.core offset) offset) element_at
subscript_of structs bound_a bound_b a b offset other another = fail Mismatch offset

unfoldable pub subscript : Structs → (bound_a bound_b : Option ℕ) → Valued → Valued → (offset : ℕ) → Result Operand Fault
subscript structs bound_a bound_b a b offset = subscript_of structs bound_a bound_b a b offset (addend a.type) (addend b.type)

-- the object of a member, in the struct at an address
abbrev pub member_at : (address : Core) → (displacement : ℕ) → Layout → Name → (offset : ℕ) → Result Operand Fault
member_at address displacement layout name offset =
    elim (member_named layout name.spelling) [
      | Some found ↦ Ok (operand (InMemory address (displacement + found.distance)) found.type Computed offset)
      | None ↦ fail Unknown name.offset
    ]

-- the layout of a struct, whose size is needed
abbrev pub layout_needed : Structs → (number offset : ℕ) → Result Layout Fault
layout_needed structs number offset = elim (struct_layout structs number) [ Some layout ↦ Ok layout | None ↦ fail Incomplete offset ]

abbrev pub dot_in : Structs → (address : Core) → (displacement : ℕ) → CType → Name → (offset : ℕ) → Result Operand Fault
dot_in structs address displacement (Struct number) name offset =
    bind (layout_needed structs number offset) (λ layout. member_at address displacement layout name offset)
dot_in structs address displacement type name offset = fail Mismatch offset

-- 6.5.2.3p3
unfoldable pub dot : Structs → Operand → Name → (offset : ℕ) → Result Operand Fault
dot structs x name offset =
    elim x.category [
      | Value core ↦ fail Mismatch offset
      | InLocal local ↦ fail Mismatch offset
      | InMemory address displacement ↦ dot_in structs address displacement x.type name offset
    ]

abbrev pub arrow_in : Structs → CType → (pointer : Core) → Name → (offset : ℕ) → Result Operand Fault
arrow_in structs (Struct number) pointer name offset =
    bind (layout_needed structs number offset) (λ layout. member_at (Aligned layout.alignment pointer offset) 0 layout name offset)
arrow_in structs type pointer name offset = fail Mismatch offset

abbrev pub arrow_to : Structs → CType → (pointer : Core) → Name → (offset : ℕ) → Result Operand Fault
arrow_to structs (Pointer target) pointer name offset = arrow_in structs target pointer name offset
arrow_to structs type pointer name offset = fail Mismatch offset

-- 6.5.2.3p4
unfoldable pub arrow : Structs → Valued → Name → (offset : ℕ) → Result Operand Fault
arrow structs x name offset = arrow_to structs x.type x.core name offset

-- ---- conversions by name

-- 6.5.4p2: between integers and pointers
abbrev pub cast_to : CType → Scalar → Standing → Valued → (offset : ℕ) → Result Operand Fault
cast_to type scalar standing x offset =
    elim (scalar_of x.type) [ Some source ↦ Ok (operand (Value (convert scalar x.core)) type standing offset) | None ↦ fail Mismatch offset ]

-- 6.3.2.3p3: a cast to `void *` of an integer constant expression of value 0
abbrev pub pointer_standing : (target : CType) → Valued → Standing
pointer_standing target x = if is_void target && is_zero (constant_of x) then NullPointer else Computed

-- to `void` as a whole statement only
unfoldable pub cast : Position → CType → Valued → (offset : ℕ) → Result Operand Fault
cast position.Statement Void x offset = Ok (value_operand x.core Void offset)
cast place Void x offset = fail Mismatch offset
cast place (Integer type) x offset = cast_to (Integer type) type (kept x.standing) x offset
cast place (Pointer target) x offset = cast_to (Pointer target) word (pointer_standing target x) x offset
cast place (Array length element) x offset = fail Mismatch offset
cast place (Struct number) x offset = fail Mismatch offset

-- 6.5.3.4p2, p5: `sizeof` needs a size; it is an `unsigned int`
unfoldable pub size_operand : Structs → CType → (offset : ℕ) → Result Operand Fault
size_operand structs type offset =
    elim (size_of structs type) [ Some size ↦ Ok (constant_operand word (pos size) offset) | None ↦ fail Incomplete offset ]

-- ---- the conditional operator

-- the type of a conditional expression, and its second and third operand in that type
pub record Arms : Type 0 where
  pub type : CType
  pub scalar : Scalar
  pub first : Core
  pub second : Core

abbrev pub arms : CType → Scalar → (first second : Core) → Arms
arms type scalar first second = record { type = type; scalar = scalar; first = first; second = second }

-- 6.5.15p6: a null pointer constant takes the other's type; pointers of which one is to `void` become such
abbrev pub pointer_arms : Valued → Valued → (offset : ℕ) → (target other : CType) → Result Arms Fault
pointer_arms a b offset target other =
    if is_null a then Ok (arms (Pointer other) word a.core b.core)
    else if is_null b || same_type target other then Ok (arms (Pointer target) word a.core b.core)
    else if pointers_meet target other then Ok (arms (Pointer Void) word a.core b.core)
    else fail Mismatch offset

-- 6.5.15p3, p5
abbrev pub arms_of : Valued → Valued → (offset : ℕ) → CType → CType → Result Arms Fault
arms_of a b offset (Integer s) (Integer t) = Ok (arms (Integer (common s t)) (common s t) (convert (common s t) a.core) (convert (common s t) b.core))
arms_of a b offset (Pointer target) (Pointer other) = pointer_arms a b offset target other
arms_of a b offset (Pointer target) (Integer t) = if is_null b then Ok (arms (Pointer target) word a.core (convert word b.core)) else fail Mismatch offset
arms_of a b offset (Integer s) (Pointer other) = if is_null a then Ok (arms (Pointer other) word (convert word a.core) b.core) else fail Mismatch offset
arms_of a b offset other another = fail Mismatch offset

-- constant where all three operands are integer constant expressions
abbrev pub chosen_operand : Valued → Valued → Valued → (offset : ℕ) → Arms → Operand
chosen_operand test a b offset made =
    operand (Value (Choose made.scalar test.core made.first made.second)) made.type (both test.standing (both a.standing b.standing)) offset

-- 6.5.15p2, p4: the first operand is an integer or a pointer; one of the others is evaluated
unfoldable pub conditional : Valued → Valued → Valued → (offset : ℕ) → Result Operand Fault
conditional test a b offset =
    elim (scalar_of test.type) [
      | Some s ↦ bind (arms_of a b offset a.type b.type) (λ made. Ok (chosen_operand test a b offset made))
      | None ↦ fail Mismatch offset
    ]
