-- The tests of the guards that an expression may break, in the order in which a run evaluates them: each holds where its
-- guard is not broken. An arm of `&&`, `||` or `?:` is tested only where it is taken.
use Rattle.std.specs.Prelude.{ℕ, zero, suc, ◌+◌, ◌-◌, ◌/◌, ◌^◌, true, if◌then◌else◌, List, [], ◌∷◌, ◌++◌, length, map, take, drop}
use Rattle.memory_spec.specs.Runs.{Run}
use Rattle.term_core_spec.specs.declared.Width.{Width}
use Rattle.term_core_spec.specs.declared.Width.TheVariants.{W32, W64}
use Rattle.term_core_spec.specs.Term.{Term, truth, constant, open_term, not_term, and_term, or_term, equal, less, add, subtract, multiply, bit_and, zero_extend, sign_extend}
use Rattle.term_core_spec.specs.Sort.{bits}
use Rattle.term_core_spec.specs.Shapes.{sign_bit, signed_less}
use Rattle.c_types_spec.specs.declared.Scalar.{Scalar}
use Rattle.c_types_spec.specs.declared.Arithmetic.{Arithmetic}
use Rattle.c_types_spec.specs.declared.Arithmetic.TheVariants as arithmetic
use Rattle.c_types_spec.specs.declared.Direction.{Direction}
use Rattle.c_types_spec.specs.declared.Order.{Order}
use Rattle.c_types_spec.specs.declared.Order.TheVariants.{PointerFirst, IndexFirst}
use Rattle.c_types_spec.specs.Core.{Core, Constant, ReadLocal, GlobalAddress, Load, Target, Convert, Operate, Compare, Move, Within, Aligned, Choose, type_of}
use Rattle.c_graph_spec.specs.State.{width_of, is_set, zone_low, zone_high, number}
use Rattle.c_graph_spec.specs.Values.{Globals, Object, object, address_of, at_width, moved, scaled, if_signed, value_term, truth_term}

-- what is read of a unit and of the file while tests are written: the globals, and the runs of fixed bytes
pub record Place : Type 0 where
  pub globals : Globals
  pub runs : List Run

-- ---- guard 2: signed overflow

-- the sum is below the first operand exactly where the second is below 0
abbrev pub sum_fits : Width → (x y : Term) → Term
sum_fits width x y = equal (signed_less width (add x y) x) (signed_less width y (constant width 0))

-- the difference is below the first operand exactly where the second is above 0
abbrev pub difference_fits : Width → (x y : Term) → Term
difference_fits width x y = equal (signed_less width (subtract x y) x) (signed_less width (constant width 0) y)

-- the product of twice the width is that of the width, extended
abbrev pub product_fits : (x y : Term) → Term
product_fits x y = equal (sign_extend W64 (multiply x y)) (multiply (sign_extend W64 x) (sign_extend W64 y))

abbrev pub if_signed_test : Scalar → Term → List Term
if_signed_test type test = if type.is_signed then test ∷ [] else []

-- ---- guard 3: division

abbrev pub is_divisor : Width → Term → Term
is_divisor width y = not_term (equal y (constant width 0))

-- not the least value by -1
abbrev pub has_quotient : Width → (x y : Term) → Term
has_quotient width x y = not_term (and_term (equal x (sign_bit width)) (equal y (constant width (2 ^ bits width - 1))))

abbrev pub division_test : Scalar → (x y : Term) → Term
division_test type x y = if_signed type (and_term (is_divisor (width_of type) y) (has_quotient (width_of type) x y)) (is_divisor (width_of type) y)

-- ---- guard 4: shifts. The count is a word of its own type; one below 0 is a great one

abbrev pub count_test : (type count : Scalar) → (y : Term) → Term
count_test type count y = less y (constant (width_of count) type.width)

-- the tests of an operator
unfoldable pub operator_tests : Arithmetic → (type second : Scalar) → (x y : Term) → List Term
operator_tests arithmetic.Add type second x y = if_signed_test type (sum_fits (width_of type) x y)
operator_tests arithmetic.Subtract type second x y = if_signed_test type (difference_fits (width_of type) x y)
operator_tests arithmetic.Multiply type second x y = if_signed_test type (product_fits x y)
operator_tests arithmetic.Divide type second x y = division_test type x y ∷ []
operator_tests arithmetic.Remainder type second x y = division_test type x y ∷ []
operator_tests arithmetic.ShiftLeft type second x y = count_test type second y ∷ []
operator_tests arithmetic.ShiftRight type second x y = count_test type second y ∷ []
operator_tests arithmetic.And type second x y = []
operator_tests arithmetic.Or type second x y = []
operator_tests arithmetic.Xor type second x y = []

-- ---- guards 5, 6 and 7: accesses

abbrev pub is_multiple : ℕ → Term → Term
is_multiple alignment a = equal (bit_and a (number (alignment - 1))) (number 0)

-- not 0, a multiple of the alignment
abbrev pub is_aligned : ℕ → Term → Term
is_aligned alignment a = and_term (not_term (equal a (number 0))) (is_multiple alignment a)

abbrev pub bytes : Scalar → ℕ
bytes type = bits (width_of type) / 8

-- guard 5: not 0, a multiple of its alignment, which is its size, and not past 2 ^ 32
abbrev pub is_accessible : Scalar → Object → Term
is_accessible type x = and_term (is_aligned (bytes type) (address_of x)) (not_term (less (address_of x) x.base))

abbrev pub last_byte : Scalar → Object → Term
last_byte type x = add (address_of x) (number (bytes type - 1))

-- guard 6: the bytes from a to e, its last, meet no byte of the zone
abbrev pub avoids_zone : (a e : Term) → Term
avoids_zone a e =
    or_term (not_term (less (open_term zone_low) (open_term zone_high)))
    (or_term (less e (open_term zone_low)) (not_term (less a (open_term zone_high))))

-- they meet no byte of a run of fixed bytes
abbrev pub avoids_run : (a e : Term) → Run → Term
avoids_run a e run = or_term (less (number (run.start + length run.bytes - 1)) a) (less e (number run.start))

-- the conjunction of tests, by halves: it nests as deep as their count can be halved. A list can be halved less often
-- than it is long
unfoldable pub conjoined : (halvings : ℕ) → List Term → Term
conjoined zero tests = truth true
conjoined (suc halvings) [] = truth true
conjoined (suc halvings) (test ∷ []) = test
conjoined (suc halvings) (test ∷ next ∷ rest) =
    let tests = test ∷ next ∷ rest in
    and_term (conjoined halvings (take (length tests / 2) tests)) (conjoined halvings (drop (length tests / 2) tests))

abbrev pub conjunction : List Term → Term
conjunction tests = conjoined (length tests) tests

-- guard 7: they meet no fixed byte
abbrev pub avoids_fixed : (a e : Term) → List Run → Term
avoids_fixed a e runs = conjunction (map (avoids_run a e) runs)

abbrev pub read_tests : Scalar → Object → List Term
read_tests type x = is_accessible type x ∷ avoids_zone (address_of x) (last_byte type x) ∷ []

abbrev pub write_tests : List Run → Scalar → Object → List Term
write_tests runs type x = read_tests type x ++ avoids_fixed (address_of x) (last_byte type x) runs ∷ []

-- ---- guard 8: the moved pointer, as a whole number, is below 2 ^ 32 and not below 0

abbrev pub is_pointer_moved : Direction → (size : ℕ) → (pointer : Term) → (index : Scalar) → (i : Term) → Term
is_pointer_moved direction size pointer index i =
    less (moved direction (zero_extend W64 pointer) (scaled W64 size (at_width index W64 i))) (constant W64 (2 ^ 32))

-- ---- guard 9: an index, not below 0 and below the bound

abbrev pub is_within : (bound : ℕ) → (index : Scalar) → (i : Term) → Term
is_within bound index i = less (at_width index W32 i) (number bound)

-- ---- expressions

abbrev pub under : Term → Term → Term
under condition test = or_term (not_term condition) test

abbrev pub in_order : Order → (pointer index : List Term) → List Term
in_order PointerFirst pointer index = pointer ++ index
in_order IndexFirst pointer index = index ++ pointer

unfoldable pub tests : Globals → (target : Object) → Core → List Term
tests globals target (Constant type value) = []
tests globals target (ReadLocal type index offset) = open_term (is_set index) ∷ []
tests globals target (GlobalAddress name) = []
tests globals target (Load type address displacement offset) =
    tests globals target address ++ read_tests type (object (value_term globals target address) displacement)
tests globals target (Target type offset) = read_tests type target
tests globals target (Convert type operand) = tests globals target operand
tests globals target (Operate operator type left right offset) =
    tests globals target left ++ (tests globals target right
    ++ operator_tests operator type (type_of right) (value_term globals target left) (value_term globals target right))
tests globals target (Compare operator left right) = tests globals target left ++ tests globals target right
tests globals target (Move direction order size pointer index offset) =
    in_order order (tests globals target pointer) (tests globals target index)
    ++ is_pointer_moved direction size (value_term globals target pointer) (type_of index) (value_term globals target index) ∷ []
tests globals target (Within bound index offset) =
    tests globals target index ++ is_within bound (type_of index) (value_term globals target index) ∷ []
tests globals target (Aligned alignment pointer offset) =
    tests globals target pointer ++ is_aligned alignment (value_term globals target pointer) ∷ []
tests globals target (Choose type test first second) =
    tests globals target test
    ++ (map (under (truth_term globals target test)) (tests globals target first)
    ++ map (under (not_term (truth_term globals target test))) (tests globals target second))
