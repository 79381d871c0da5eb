-- The normal form of a term: its arguments first, then the first rule that applies; a right side that is a new
-- operator is normalised in turn. Below, the arguments of each operator are in normal form already.
--
-- In rules 5 and 6 c and d are constants; every other letter is any term.
use Rattle.std.specs.Prelude.{ℕ, ◌+◌, ◌-◌, ◌^◌, ◌==◌, ◌&&◌, not, true, false, if◌then◌else◌, List, [], ◌∷◌, map, Option, Some, None, unwrap_or}
use Rattle.term_core_spec.specs.declared.Width.{Width}
use Rattle.term_core_spec.specs.declared.Width.TheVariants.{W8, W16, W32, W64}
use Rattle.term_core_spec.specs.declared.UnaryOperator.{UnaryOperator}
use Rattle.term_core_spec.specs.declared.UnaryOperator.TheVariants as unary
use Rattle.term_core_spec.specs.declared.WordOperator.{WordOperator}
use Rattle.term_core_spec.specs.declared.WordOperator.TheVariants as word
use Rattle.term_core_spec.specs.declared.BinaryOperator.{BinaryOperator}
use Rattle.term_core_spec.specs.declared.BinaryOperator.TheVariants as binary
use Rattle.term_core_spec.specs.declared.TernaryOperator.{TernaryOperator}
use Rattle.term_core_spec.specs.declared.TernaryOperator.TheVariants as ternary
use Rattle.term_core_spec.specs.declared.QuaternaryOperator.{QuaternaryOperator}
use Rattle.term_core_spec.specs.declared.QuaternaryOperator.TheVariants as quaternary
use Rattle.term_core_spec.specs.Term.{Term, Leaf, Unary, Binary, Ternary, Quaternary, Octonary, truth, constant, not_term, complement, low, byte, and_term, or_term, equal, less, on_words, add, subtract, multiply, bit_and, bit_or, bit_xor, load, choose, over}
use Rattle.term_core_spec.specs.Sort.{bits, same_width}
use Rattle.term_core_spec.specs.Value.{low_bits, joined, unary_value, binary_value}
use Rattle.term_core_spec.specs.Same.{same_term}
use Rattle.memory_spec.specs.Runs.{Run, fixed_byte}
use Rattle.term_norm_spec.specs.Patterns.{width_of, is_constant, are_constants, is_true, is_false, is_zero, is_one, is_full, known, number_of, constant_of, zero_like, full_like, under_not, under_complement, under_extension, are_negations, are_complements, base, offset, part, whole, is_source_memory}

-- ---- Rule 1: where all arguments are constants, their value

abbrev pub value_of_one_or : UnaryOperator → Term → Term → Term
value_of_one_or operator x otherwise = if is_constant x then constant_of (unary_value operator (known x)) else otherwise

abbrev pub value_of_two_or : BinaryOperator → Term → Term → Term → Term
value_of_two_or operator x y otherwise =
    if is_constant x && is_constant y then constant_of (binary_value operator (known x) (known y)) else otherwise

abbrev pub value_of_parts_or : Width → List Term → Term → Term
value_of_parts_or width parts otherwise = if are_constants parts then constant_of (joined width (map known parts)) else otherwise

-- ---- Rule 2: `not not x` is x, and so is the complement of the complement

unfoldable pub normal_not : Term → Term
normal_not x = value_of_one_or unary.Not x (unwrap_or (under_not x) (not_term x))

unfoldable pub normal_complement : Term → Term
normal_complement x = value_of_one_or unary.Complement x (unwrap_or (under_complement x) (complement x))

-- ---- Rule 3: in `and`, a zero argument gives it, a one argument gives the other, x with x gives x, and x with its
-- negation gives zero; in `or` likewise with zero and one exchanged. On words zero is 0, and one all bits set

unfoldable pub normal_and : Term → Term → Term
normal_and x y =
    value_of_two_or binary.And x y
    (if is_false x then x else if is_false y then y
    else if is_true x then y else if is_true y then x
    else if same_term x y then x
    else if are_negations x y then truth false
    else and_term x y)

unfoldable pub normal_or : Term → Term → Term
normal_or x y =
    value_of_two_or binary.Or x y
    (if is_true x then x else if is_true y then y
    else if is_false x then y else if is_false y then x
    else if same_term x y then x
    else if are_negations x y then truth true
    else or_term x y)

unfoldable pub normal_bit_and : Term → Term → Term
normal_bit_and x y =
    value_of_two_or (binary.Word word.And) x y
    (if is_zero x then x else if is_zero y then y
    else if is_full x then y else if is_full y then x
    else if same_term x y then x
    else if are_complements x y then zero_like x
    else bit_and x y)

unfoldable pub normal_bit_or : Term → Term → Term
normal_bit_or x y =
    value_of_two_or (binary.Word word.Or) x y
    (if is_full x then x else if is_full y then y
    else if is_zero x then y else if is_zero y then x
    else if same_term x y then x
    else if are_complements x y then full_like x
    else bit_or x y)

-- ---- Rule 4: x with x is 0, and with 0 is x

unfoldable pub normal_bit_xor : Term → Term → Term
normal_bit_xor x y =
    value_of_two_or (binary.Word word.Xor) x y
    (if same_term x y then zero_like x
    else if is_zero x then y else if is_zero y then x
    else bit_xor x y)

-- ---- Rule 5: `sub x x` is 0, and `sub x c` is `add x (-c)`; `add c x` is `add x c`, `add x 0` is x, and
-- `add (add x c) d` is `add x (c + d)`; `mul c x` is `mul x c`, `mul x 0` is 0, and `mul x 1` is x

-- `add x c`, where 0 is left out
unfoldable pub with_constant : Width → Term → ℕ → Term
with_constant width x c = if c == 0 then x else add x (constant width c)

-- `add x d`, where x may be a sum with a constant
unfoldable pub add_constant : Width → Term → ℕ → Term
add_constant width x d = with_constant width (base x) (low_bits (bits width) (offset x + d))

unfoldable pub normal_add : Term → Term → Term
normal_add x y =
    value_of_two_or (binary.Word word.Add) x y
    (if is_constant x then add_constant (width_of x) y (number_of x)
    else if is_constant y then add_constant (width_of y) x (number_of y)
    else add x y)

-- -c
abbrev pub negative : Width → ℕ → ℕ
negative width c = low_bits (bits width) (2 ^ bits width - low_bits (bits width) c)

unfoldable pub normal_subtract : Term → Term → Term
normal_subtract x y =
    value_of_two_or (binary.Word word.Subtract) x y
    (if same_term x y then zero_like x
    else if is_constant y then add_constant (width_of y) x (negative (width_of y) (number_of y))
    else subtract x y)

-- `mul x c`
unfoldable pub multiply_constant : Term → Term → Term
multiply_constant x c = if is_zero c then c else if is_one c then x else multiply x c

unfoldable pub normal_multiply : Term → Term → Term
normal_multiply x y =
    value_of_two_or (binary.Word word.Multiply) x y
    (if is_constant x then multiply_constant y x
    else if is_constant y then multiply_constant x y
    else multiply x y)

-- ---- Rule 6: `eq x x` is true; `eq x true` and `eq true x` are x, and with false `not x`; `eq` of `add x c` and
-- `add x d` with different constants is false, where x counts as `add x 0`

unfoldable pub normal_equal : Term → Term → Term
normal_equal x y =
    value_of_two_or binary.Equal x y
    (if same_term x y then truth true
    else if is_true x then y else if is_true y then x
    else if is_false x then normal_not y else if is_false y then normal_not x
    else if same_term (base x) (base y) && not (offset x == offset y) then truth false
    else equal x y)

-- ---- Rule 7: `ult x x` and `ult x 0` are false

unfoldable pub normal_less : Term → Term → Term
normal_less x y =
    value_of_two_or binary.Less x y
    (if same_term x y then truth false
    else if is_zero y then truth false
    else less x y)

-- ---- Rule 8: a constant test; equal arms give the arm; `ite c true false` is c; `ite (not c) a b` is `ite c b a`.
-- A constant test leaves an arm, so that rule 1 adds nothing

abbrev pub arm_or : Term → Term → Term → Term → Term
arm_or test x y otherwise =
    if is_true test then x else if is_false test then y
    else if same_term x y then x
    else if is_true x && is_false y then test
    else otherwise

unfoldable pub normal_choose : Term → Term → Term → Term
normal_choose (Unary unary.Not c) x y = arm_or (not_term c) x y (normal_choose c y x)
normal_choose test x y = arm_or test x y (choose test x y)

-- ---- Rule 9: a shift by 0, and an extension or a cut to the own width, is x; a cut of an extended word back to its
-- width is that word; the join of all bytes of x, in their order, is x; byte K of a join is its part K

unfoldable pub normal_shift : WordOperator → Term → Term → Term
normal_shift operator x y =
    value_of_two_or (binary.Word operator) x y
    (if is_zero y then x else on_words operator x y)

unfoldable pub normal_extend : UnaryOperator → Width → Term → Term
normal_extend operator width x =
    value_of_one_or operator x
    (if same_width (width_of x) width then x else Unary operator x)

-- the word that was extended, where it has the width
abbrev pub extended : Width → Option Term → Option Term
extended width (Some x) = if same_width (width_of x) width then Some x else None
extended width None = None

unfoldable pub normal_low : Width → Term → Term
normal_low width x =
    value_of_one_or (unary.Low width) x
    (if same_width (width_of x) width then x
    else unwrap_or (extended width (under_extension x)) (low width x))

unfoldable pub normal_byte : ℕ → Term → Term
normal_byte place x = value_of_one_or (unary.Byte place) x (unwrap_or (part place x) (byte place x))

-- the word of these parts, which `otherwise` joins
unfoldable pub normal_join : Width → List Term → Term → Term
normal_join width parts otherwise = value_of_parts_or width parts (unwrap_or (whole width parts) otherwise)

-- ---- Rule 10: a load of a store, an overlay or a choice; a fixed byte of a memory of the source

abbrev pub byte_or : Option ℕ → Term → Term
byte_or (Some number) otherwise = constant W8 number
byte_or None otherwise = otherwise

-- a load of a memory that is a variable
unfoldable pub load_of_variable : List Run → Term → Term → Term
load_of_variable runs m d = if is_source_memory m && is_constant d then byte_or (fixed_byte runs (number_of d)) (load m d) else load m d

unfoldable pub normal_load : List Run → Term → Term → Term
normal_load runs (Ternary ternary.Store m a b) d = normal_choose (normal_equal d a) b (normal_load runs m d)
normal_load runs (Quaternary quaternary.Over m z from to) d =
    normal_choose (normal_and (normal_not (normal_less d from)) (normal_less d to)) (normal_load runs z d) (normal_load runs m d)
normal_load runs (Ternary ternary.Choose c m n) d = normal_choose c (normal_load runs m d) (normal_load runs n d)
normal_load runs m d = load_of_variable runs m d

-- ---- The normal form

unfoldable pub normal_unary : UnaryOperator → Term → Term
normal_unary unary.Not x = normal_not x
normal_unary unary.Complement x = normal_complement x
normal_unary (unary.ZeroExtend width) x = normal_extend (unary.ZeroExtend width) width x
normal_unary (unary.SignExtend width) x = normal_extend (unary.SignExtend width) width x
normal_unary (unary.Low width) x = normal_low width x
normal_unary (unary.Byte place) x = normal_byte place x

unfoldable pub normal_word : WordOperator → Term → Term → Term
normal_word word.Add x y = normal_add x y
normal_word word.Subtract x y = normal_subtract x y
normal_word word.Multiply x y = normal_multiply x y
normal_word word.And x y = normal_bit_and x y
normal_word word.Or x y = normal_bit_or x y
normal_word word.Xor x y = normal_bit_xor x y
normal_word word.ShiftLeft x y = normal_shift word.ShiftLeft x y
normal_word word.ShiftRight x y = normal_shift word.ShiftRight x y
normal_word word.ShiftRightSigned x y = normal_shift word.ShiftRightSigned x y
normal_word word.Divide x y = value_of_two_or (binary.Word word.Divide) x y (on_words word.Divide x y)
normal_word word.Remainder x y = value_of_two_or (binary.Word word.Remainder) x y (on_words word.Remainder x y)

unfoldable pub normal_binary : List Run → BinaryOperator → Term → Term → Term
normal_binary runs binary.And x y = normal_and x y
normal_binary runs binary.Or x y = normal_or x y
normal_binary runs binary.Equal x y = normal_equal x y
normal_binary runs binary.Less x y = normal_less x y
normal_binary runs (binary.Word operator) x y = normal_word operator x y
normal_binary runs binary.Load m x = normal_load runs m x
normal_binary runs binary.Join x y = normal_join W16 (x ∷ y ∷ []) (Binary binary.Join x y)

unfoldable pub normal_ternary : TernaryOperator → Term → Term → Term → Term
normal_ternary ternary.Choose test x y = normal_choose test x y
normal_ternary ternary.Store m x y = Ternary ternary.Store m x y

unfoldable pub normal_quaternary : QuaternaryOperator → Term → Term → Term → Term → Term
normal_quaternary quaternary.Over m z x y = over m z x y
normal_quaternary quaternary.Join a b c d = normal_join W32 (a ∷ b ∷ c ∷ d ∷ []) (Quaternary quaternary.Join a b c d)

unfoldable pub normal_octonary : Term → Term → Term → Term → Term → Term → Term → Term → Term
normal_octonary a b c d e f g h = normal_join W64 (a ∷ b ∷ c ∷ d ∷ e ∷ f ∷ g ∷ h ∷ []) (Octonary a b c d e f g h)

-- the normal form of a term, where the runs are the fixed bytes
unfoldable pub normal : List Run → Term → Term
normal runs (Leaf leaf) = Leaf leaf
normal runs (Unary operator a) = normal_unary operator (normal runs a)
normal runs (Binary operator a b) = normal_binary runs operator (normal runs a) (normal runs b)
normal runs (Ternary operator a b c) = normal_ternary operator (normal runs a) (normal runs b) (normal runs c)
normal runs (Quaternary operator a b c d) = normal_quaternary operator (normal runs a) (normal runs b) (normal runs c) (normal runs d)
normal runs (Octonary a b c d e f g h) =
    normal_octonary (normal runs a) (normal runs b) (normal runs c) (normal runs d) (normal runs e) (normal runs f) (normal runs g) (normal runs h)
