-- The term of each form of expression: the word of its value, where no guard is broken. Words are those of the value's
-- type: two's complement of its width. What an instruction computes too has the instruction's shape.
use Rattle.std.specs.Prelude.{ℕ, zero, suc, ◌-◌, ◌^◌, ◌==◌, nat_lt, Bool, false, if◌then◌else◌, pos, List, Option, Some, None, unwrap_or}
use Rattle.term_core_spec.specs.declared.Width.{Width}
use Rattle.term_core_spec.specs.declared.Width.TheVariants.{W32}
use Rattle.term_core_spec.specs.Term.{Term, constant, open_term, not_term, equal, less, add, subtract, multiply, bit_and, bit_or, bit_xor, shift_left, shift_right, shift_right_signed, divide, remainder, zero_extend, sign_extend, low, load, choose}
use Rattle.term_core_spec.specs.Sort.{bits}
use Rattle.term_core_spec.specs.Shapes.{signed_less, signed_quotient, signed_remainder, load_half, load_word, store_byte, store_half, store_word}
use Rattle.c_types_spec.specs.declared.Scalar.{Scalar}
use Rattle.c_types_spec.specs.declared.Arithmetic.{Arithmetic}
use Rattle.c_types_spec.specs.declared.Arithmetic.TheVariants as arithmetic
use Rattle.c_types_spec.specs.declared.Comparison.{Comparison}
use Rattle.c_types_spec.specs.declared.Comparison.TheVariants as comparison
use Rattle.c_types_spec.specs.declared.Direction.{Direction}
use Rattle.c_types_spec.specs.declared.Direction.TheVariants.{Up, Down}
use Rattle.c_types_spec.specs.Types.{word}
use Rattle.c_types_spec.specs.Values.{same_value}
use Rattle.c_types_spec.specs.Core.{Core, Constant, ReadLocal, GlobalAddress, Load, Target, Convert, Operate, Compare, Move, Within, Aligned, Choose, type_of}
use Rattle.c_graph_spec.specs.State.{width_of, local, memory, number, value_constant}

-- the addresses of the globals, by name
abbrev pub Globals : Type 0
Globals = List ℕ → Option ℕ

-- an object in memory: so many bytes past an address
pub record Object : Type 0 where
  pub base : Term
  pub displacement : ℕ

abbrev pub object : Term → ℕ → Object
object base displacement = record { base = base; displacement = displacement }

-- what an expression speaks of that is not in an assignment to an object
abbrev pub no_object : Object
no_object = object (number 0) 0

abbrev pub address_of : Object → Term
address_of x = add x.base (number x.displacement)

-- ---- conversions (ISO C11, 6.3.1.3)

-- the word of a value of a type, at a width
abbrev pub at_width : Scalar → Width → Term → Term
at_width source width x =
    if nat_lt source.width (bits width) then (if source.is_signed then sign_extend width x else zero_extend width x)
    else if nat_lt (bits width) source.width then low width x
    else x

-- ---- operators

-- the count of a shift, at the width of what is shifted, where it is below that width
abbrev pub places : Width → Term → Term
places width y = bit_and y (constant width (bits width - 1))

abbrev pub if_signed : Scalar → (signed unsigned : Term) → Term
if_signed type signed unsigned = if type.is_signed then signed else unsigned

-- 6.5.5 to 6.5.7, 6.5.10 to 6.5.12, on words of one width
unfoldable pub computed : Arithmetic → Scalar → Term → Term → Term
computed arithmetic.Add type x y = add x y
computed arithmetic.Subtract type x y = subtract x y
computed arithmetic.Multiply type x y = multiply x y
computed arithmetic.Divide type x y = if_signed type (signed_quotient x y) (divide x y)
computed arithmetic.Remainder type x y = if_signed type (signed_remainder x y) (remainder x y)
computed arithmetic.ShiftLeft type x y = shift_left x (places (width_of type) y)
computed arithmetic.ShiftRight type x y = if_signed type (shift_right_signed x (places (width_of type) y)) (shift_right x (places (width_of type) y))
computed arithmetic.And type x y = bit_and x y
computed arithmetic.Or type x y = bit_or x y
computed arithmetic.Xor type x y = bit_xor x y

abbrev pub less_of : Scalar → Term → Term → Term
less_of type x y = if_signed type (signed_less (width_of type) x y) (less x y)

-- 6.5.8, 6.5.9: whether two values of a type compare so
unfoldable pub compared : Comparison → Scalar → Term → Term → Term
compared comparison.Equal type x y = equal x y
compared comparison.NotEqual type x y = not_term (equal x y)
compared comparison.Less type x y = less_of type x y
compared comparison.Greater type x y = less_of type y x
compared comparison.LessOrEqual type x y = not_term (less_of type y x)
compared comparison.GreaterOrEqual type x y = not_term (less_of type x y)

-- 1 where the test holds, else 0
abbrev pub set_if : Term → Term
set_if test = choose test (number 1) (number 0)

-- ---- pointers (6.5.6p8)

-- the exponent below a number of a power of 2
unfoldable pub exponent : (most : ℕ) → ℕ → Option ℕ
exponent zero size = None
exponent (suc most) size = if 2 ^ most == size then Some most else exponent most size

abbrev pub scaled_by : Width → (exponent : Option ℕ) → ℕ → Term → Term
scaled_by width (Some places) size x = shift_left x (constant width places)
scaled_by width None size x = multiply x (constant width size)

-- so many objects of a size in bytes: by a shift where the size is a power of 2
abbrev pub scaled : Width → ℕ → Term → Term
scaled width size x = scaled_by width (exponent 32 size) size x

abbrev pub moved : Direction → Term → Term → Term
moved Up p distance = add p distance
moved Down p distance = subtract p distance

-- ---- memory

-- the value of a type at an address, the lowest byte first
abbrev pub loaded_at : Width → Term → Term
loaded_at width address =
    if bits width == 8 then load (open_term memory) address
    else if bits width == 16 then load_half (open_term memory) address
    else load_word (open_term memory) address

abbrev pub loaded : Scalar → Object → Term
loaded type x = loaded_at (width_of type) (address_of x)

-- the memory after the value is written there
abbrev pub stored_at : Width → (address x : Term) → Term
stored_at width address x =
    if bits width == 8 then store_byte (open_term memory) address x
    else if bits width == 16 then store_half (open_term memory) address x
    else store_word (open_term memory) address x

abbrev pub stored : Scalar → Object → Term → Term
stored type x value = stored_at (width_of type) (address_of x) value

-- ---- tests against 0

-- a constant 0, converted or not
abbrev pub is_zero : Core → Bool
is_zero (Constant type value) = same_value value (pos 0)
is_zero (Convert type operand) = is_zero operand
is_zero other = false

-- the comparison is for equality with a constant 0
abbrev pub tests_zero : Comparison → Core → Bool
tests_zero comparison.Equal right = is_zero right
tests_zero comparison.NotEqual right = is_zero right
tests_zero other right = false

-- such a comparison, of what has this truth value
abbrev pub zero_test : Comparison → Term → Term
zero_test comparison.Equal truth = not_term truth
zero_test other truth = truth

-- ---- expressions

-- the word of a value, and whether it is not 0
pub record Terms : Type 0 where
  pub word : Term
  pub truth : Term

abbrev pub of_word : Scalar → Term → Terms
of_word type x = record { word = x; truth = not_term (equal x (constant (width_of type) 0)) }

abbrev pub of_truth : Term → Terms
of_truth test = record { word = set_if test; truth = test }

abbrev pub chosen : (test first second : Terms) → Terms
chosen test first second = record { word = choose test.truth first.word second.word; truth = choose test.truth first.truth second.truth }

abbrev pub comparison_test : Comparison → Scalar → (right : Core) → (x y : Terms) → Term
comparison_test operator type right x y =
    if tests_zero operator right then zero_test operator x.truth else compared operator type x.word y.word

-- `target` is the object that the assignment around the expression stores to
unfoldable pub terms : Globals → (target : Object) → Core → Terms
terms globals target (Constant type value) = of_word type (value_constant type value)
terms globals target (ReadLocal type index offset) = of_word type (open_term (local index type))
terms globals target (GlobalAddress name) = of_word word (number (unwrap_or (globals name) 0))
terms globals target (Load type address displacement offset) =
    of_word type (loaded type (object (terms globals target address).word displacement))
terms globals target (Target type offset) = of_word type (loaded type target)
terms globals target (Convert type operand) = of_word type (at_width (type_of operand) (width_of type) (terms globals target operand).word)
terms globals target (Operate operator type left right offset) =
    of_word type (computed operator type (terms globals target left).word (at_width (type_of right) (width_of type) (terms globals target right).word))
terms globals target (Compare operator left right) =
    of_truth (comparison_test operator (type_of left) right (terms globals target left) (terms globals target right))
terms globals target (Move direction order size pointer index offset) =
    of_word word (moved direction (terms globals target pointer).word (scaled W32 size (at_width (type_of index) W32 (terms globals target index).word)))
terms globals target (Within bound index offset) = terms globals target index
terms globals target (Aligned alignment pointer offset) = terms globals target pointer
terms globals target (Choose type test first second) =
    chosen (terms globals target test) (terms globals target first) (terms globals target second)

abbrev pub value_term : Globals → (target : Object) → Core → Term
value_term globals target x = (terms globals target x).word

abbrev pub truth_term : Globals → (target : Object) → Core → Term
truth_term globals target x = (terms globals target x).truth
