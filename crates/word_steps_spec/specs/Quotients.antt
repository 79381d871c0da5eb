-- The rule `quot`, for words of 32 bits: what compilers write for division by a constant.
use Rattle.std.specs.Prelude.{ℕ, zero, suc, ◌+◌, ◌-◌, ◌*◌, ◌/◌, ◌%◌, ◌^◌, ◌==◌, ◌&&◌, ◌||◌, not, nat_lt, nat_le, min, max, Bool, true, false, if◌then◌else◌, List, [], ◌∷◌, Option, Some, None, option_and_then}
use Rattle.term_core_spec.specs.declared.Width.TheVariants.{W32, W64}
use Rattle.term_core_spec.specs.declared.Sort.TheVariants as sort
use Rattle.term_core_spec.specs.declared.UnaryOperator.TheVariants as unary
use Rattle.term_core_spec.specs.declared.WordOperator.TheVariants as word
use Rattle.term_core_spec.specs.declared.BinaryOperator.TheVariants as binary
use Rattle.term_core_spec.specs.declared.TernaryOperator.TheVariants as ternary
use Rattle.term_core_spec.specs.declared.QuaternaryOperator.TheVariants as quaternary
use Rattle.term_core_spec.specs.Term.{Term, Unary, Binary, Ternary, Quaternary, constant, choose, less, zero_extend, sign_extend, low, on_words}
use Rattle.term_core_spec.specs.Sort.{bits, sort_of}
use Rattle.term_core_spec.specs.Same.{same_term}
use Rattle.term_norm_spec.specs.Patterns.{is_constant, number_of}
use Rattle.word_steps_spec.specs.Numbers.{has_sort}
use Rattle.word_steps_spec.specs.Polynomial.{Polynomial, minus, is_empty}
use Rattle.word_steps_spec.specs.Ring.{polynomial}
use Rattle.word_steps_spec.specs.Bitwise.{have_same_bits}
use Rattle.word_steps_spec.specs.Sides.{Sides}
use Rattle.word_steps_spec.specs.Order.{bounds_of, order_of}
use Rattle.word_steps_spec.specs.LowBits.{constant_of, zeros}
use Rattle.word_steps_spec.specs.Ranges.{Range, distance, opposite, as_of, below_range, range_of}

abbrev pub is_word32 : Term → Bool
is_word32 t = has_sort (sort_of t) (sort.Word W32)

abbrev pub number32 : ℕ → Term
number32 n = constant W32 n

-- the constant n, of 32 bits
abbrev pub is_number32 : Term → ℕ → Bool
is_number32 t n = same_term t (number32 n)

-- ---- the greatest value of a word

-- where x = F + a, and F is in a range that doesn't wrap round 0 for x
abbrev pub greatest_in : Term → Range → ℕ
greatest_in x k =
    if nat_le (distance 32 (opposite 32 (constant_of (polynomial x))) k.start + k.length) (2 ^ 32)
    then distance 32 (opposite 32 (constant_of (polynomial x))) k.start + k.length - 1 else 2 ^ 32 - 1

abbrev pub greatest_known : Term → Option Range → ℕ
greatest_known x (Some k) = greatest_in x k
greatest_known x None = 2 ^ 32 - 1

abbrev pub greatest_by : Term → Term → ℕ
greatest_by x fact = greatest_known x (option_and_then (as_of (below_range 32 (polynomial x) 0)) (range_of fact))

-- by its bounds, and by the ranges of facts
unfoldable pub greatest_of : List Term → Term → ℕ
greatest_of [] x = (bounds_of x).greatest
greatest_of (fact ∷ facts) x = min (greatest_by x fact) (greatest_of facts x)

-- ---- scaled floors

-- the whole part of x * multiplier / 2 ^ shift, of a word x
pub record Floor : Type 0 where
  pub multiplier : ℕ
  pub shift : ℕ

-- it is below 2 ^ 32, where x is at most `greatest`
abbrev pub if_fits : ℕ → Floor → Option Floor
if_fits greatest f = if nat_lt (greatest * f.multiplier) (2 ^ (32 + f.shift)) then Some f else None

-- x itself
abbrev pub or_itself : Term → Term → Option Floor → Option Floor
or_itself x t o = if same_term t x then Some (record { multiplier = 1; shift = 0 }) else o

abbrev pub shifted_floor : Term → Option Floor → Option Floor
shifted_floor c (Some f) =
    if is_constant c && nat_lt (number_of c) 32 then Some (record { multiplier = f.multiplier; shift = f.shift + number_of c }) else None
shifted_floor c None = None

abbrev pub product_floor : ℕ → (x y c : Term) → Option Floor
product_floor greatest x y c =
    if same_term y x && is_constant c then if_fits greatest (record { multiplier = number_of c; shift = 0 }) else None

-- d is x - t
abbrev pub is_rest : (d x t : Term) → Bool
is_rest d x t = is_word32 d && is_empty (minus 32 (polynomial d) (minus 32 (polynomial x) (polynomial t)))

unfoldable pub under_half : Term → Option Term
under_half (Binary (binary.Word word.ShiftRight) d c) = if is_number32 c 1 then Some d else None
under_half t = None

-- `((x - t) >> 1) + t`
abbrev pub halved_floor_of : (x t : Term) → ℕ → Option Term → Option Floor → Option Floor
halved_floor_of x t greatest (Some d) (Some f) =
    if is_rest d x t && nat_le f.multiplier (2 ^ f.shift)
    then if_fits greatest (record { multiplier = f.multiplier + 2 ^ f.shift; shift = f.shift + 1 }) else None
halved_floor_of x t greatest (Some d) None = None
halved_floor_of x t greatest None o = None

abbrev pub else_floor : Option Floor → Option Floor → Option Floor
else_floor (Some f) o = Some f
else_floor None o = o

-- the word of 64 bits whose upper half a join is
unfoldable pub under_byte : Term → Option Term
under_byte (Unary (unary.Byte place) h) = Some h
under_byte t = None

abbrev pub is_upper_half : Term → Term → Bool
is_upper_half t h = have_same_bits t (low W32 (on_words word.ShiftRight h (constant W64 32)))

-- `mul (zext 64 x) c`
unfoldable pub wide_product : Term → Term → Option ℕ
wide_product x (Binary (binary.Word word.Multiply) y c) =
    if same_term y (zero_extend W64 x) && is_constant c then Some (number_of c) else None
wide_product x t = None

abbrev pub upper_floor_of : ℕ → Option ℕ → Option Floor
upper_floor_of greatest (Some c) = if_fits greatest (record { multiplier = c; shift = 32 })
upper_floor_of greatest None = None

abbrev pub upper_floor : ℕ → (x t : Term) → Option Term → Option Floor
upper_floor greatest x t (Some h) = if is_upper_half t h then upper_floor_of greatest (wide_product x h) else None
upper_floor greatest x t None = None

-- t as a scaled floor of x, which is at most `greatest`
unfoldable pub floor_of : ℕ → Term → Term → Option Floor
floor_of greatest x (Binary (binary.Word word.ShiftRight) y c) =
    or_itself x (on_words word.ShiftRight y c) (shifted_floor c (floor_of greatest x y))
floor_of greatest x (Binary (binary.Word word.Multiply) y c) = or_itself x (on_words word.Multiply y c) (product_floor greatest x y c)
floor_of greatest x (Binary (binary.Word word.Add) p q) =
    or_itself x (on_words word.Add p q)
    (else_floor (halved_floor_of x q greatest (under_half p) (floor_of greatest x q)) (halved_floor_of x p greatest (under_half q) (floor_of greatest x p)))
floor_of greatest x (Quaternary quaternary.Join a b c d) =
    or_itself x (Quaternary quaternary.Join a b c d) (upper_floor greatest x (Quaternary quaternary.Join a b c d) (under_byte a))
floor_of greatest x t = or_itself x t None

-- ---- quotients

-- for all x up to `greatest` the scaled floor is x / d
abbrev pub is_quotient : ℕ → ℕ → Option Floor → Bool
is_quotient greatest d (Some f) =
    nat_le (2 ^ f.shift) (f.multiplier * d) && nat_lt ((f.multiplier * d - 2 ^ f.shift) * greatest) (2 ^ f.shift)
is_quotient greatest d None = false

abbrev pub is_quotient_of : List Term → (x t : Term) → ℕ → Bool
is_quotient_of facts x t d = is_quotient (greatest_of facts x) d (floor_of (greatest_of facts x) x t)

-- z moved down by s places
abbrev pub moved : ℕ → Term → Term
moved s z = if s == 0 then z else on_words word.ShiftRight z (number32 s)

-- one of the places below `count` passes
unfoldable pub some_below : ℕ → (ℕ → Bool) → Bool
some_below zero test = false
some_below (suc k) test = test k || some_below k test

-- t is `udiv z n`, where n is 2 ^ s * d and t a scaled floor of z moved down by s places
abbrev pub is_shifted_quotient : List Term → (t z : Term) → ℕ → ℕ → Bool
is_shifted_quotient facts t z n s = n % 2 ^ s == 0 && is_quotient_of facts (moved s z) t (n / 2 ^ s)

abbrev pub is_division : List Term → (t z c : Term) → Bool
is_division facts t z c =
    is_word32 z && (is_constant c && (nat_lt 0 (number_of c) && some_below 32 (is_shifted_quotient facts t z (number_of c))))

-- `udiv (udiv x a) b` is `udiv x (ab)`, where that is below 2 ^ 32
unfoldable pub is_nested_division : (t x c : Term) → Bool
is_nested_division (Binary (binary.Word word.Divide) (Binary (binary.Word word.Divide) y a) b) x c =
    same_term y x && (is_word32 x && (is_constant a && (is_constant b && (is_constant c
    && (nat_lt 0 (number_of c) && (number_of c == number_of a * number_of b && nat_lt (number_of c) (2 ^ 32)))))))
is_nested_division t x c = false

-- `urem z 2^k` is `band z 2^k-1`
abbrev pub is_mask_for : (t z c : Term) → Bool
is_mask_for t z c =
    is_word32 z && (is_constant c && some_below 32 (λ k. number_of c == 2 ^ k && same_term t (on_words word.And z (number32 (2 ^ k - 1)))))

-- t is another way to write the term
unfoldable pub is_written : List Term → Term → Term → Bool
is_written facts t (Binary (binary.Word word.Divide) z c) = is_division facts t z c || is_nested_division t z c
is_written facts t (Binary (binary.Word word.Remainder) z c) = is_mask_for t z c
is_written facts t u = false

-- ---- words with a sign

-- a number g for which x is from -g - 1 to g, where x + 2 ^ 31 is one of first, .., first + length - 1 and these don't wrap round 0
abbrev pub reach_from : (first length : ℕ) → ℕ
reach_from first length =
    if nat_le (first + length) (2 ^ 32) then max (2 ^ 31 - 1 - first) (first + length - 1 - 2 ^ 31) else 2 ^ 31 - 1

-- where x = F + a, and F is in a range
abbrev pub reach_known : Term → Option Range → ℕ
reach_known x (Some k) = reach_from (distance 32 (opposite 32 (constant_of (polynomial x) + 2 ^ 31)) k.start) k.length
reach_known x None = 2 ^ 31 - 1

abbrev pub reach_by : Term → Term → ℕ
reach_by x fact = reach_known x (option_and_then (as_of (below_range 32 (polynomial x) 0)) (range_of fact))

-- the least of these, by the ranges of facts
unfoldable pub reach_of : List Term → Term → ℕ
reach_of [] x = 2 ^ 31 - 1
reach_of (fact ∷ facts) x = min (reach_by x fact) (reach_of facts x)

-- ---- scaled floors of words with a sign

-- an upper half of `mul (sext 64 x) c`, as c
unfoldable pub signed_product : Term → Term → Option ℕ
signed_product x (Binary (binary.Word word.Multiply) y c) =
    if same_term y (sign_extend W64 x) && is_constant c then Some (number_of c) else None
signed_product x t = None

abbrev pub signed_product_of : (x t : Term) → Option Term → Option ℕ
signed_product_of x t (Some h) = if is_upper_half t h then signed_product x h else None
signed_product_of x t None = None

unfoldable pub upper_signed : Term → Term → Option ℕ
upper_signed x (Quaternary quaternary.Join a b c d) = signed_product_of x (Quaternary quaternary.Join a b c d) (under_byte a)
upper_signed x t = None

-- the whole part of x * (raised - 2 ^ shift) / 2 ^ shift, of words with a sign: the multiplier, which may be below 0, is counted from
-- -2 ^ shift on
pub record SignedFloor : Type 0 where
  pub raised : ℕ
  pub shift : ℕ

-- the scaled floors of all x from -g - 1 to g are words with a sign
abbrev pub fits_signed : (g raised shift : ℕ) → Bool
fits_signed g raised shift =
    if nat_le (2 ^ shift) raised then nat_le ((g + 1) * (raised - 2 ^ shift)) (2 ^ (31 + shift))
    else nat_lt ((g + 1) * (2 ^ shift - raised)) (2 ^ (31 + shift))

abbrev pub if_fits_signed : ℕ → SignedFloor → Option SignedFloor
if_fits_signed g f = if fits_signed g f.raised f.shift then Some f else None

abbrev pub signed_or_itself : Term → Term → Option SignedFloor → Option SignedFloor
signed_or_itself x t o = if same_term t x then Some (record { raised = 2; shift = 0 }) else o

abbrev pub signed_shifted : Term → Option SignedFloor → Option SignedFloor
signed_shifted c (Some f) =
    if is_constant c && nat_lt (number_of c) 32
    then Some (record { raised = f.raised + 2 ^ f.shift * 2 ^ number_of c - 2 ^ f.shift; shift = f.shift + number_of c }) else None
signed_shifted c None = None

-- the upper half of x times c
abbrev pub signed_upper_floor : ℕ → Option ℕ → Option SignedFloor
signed_upper_floor g (Some c) = if_fits_signed g (record { raised = (c + 2 ^ 32) % 2 ^ 64; shift = 32 })
signed_upper_floor g None = None

-- with x added
abbrev pub signed_sum : ℕ → Option SignedFloor → Option SignedFloor
signed_sum g (Some f) = if_fits_signed g (record { raised = f.raised + 2 ^ f.shift; shift = f.shift })
signed_sum g None = None

abbrev pub signed_sum_if : ℕ → Bool → Option SignedFloor → Option SignedFloor
signed_sum_if g test o = if test then signed_sum g o else None

abbrev pub else_signed : Option SignedFloor → Option SignedFloor → Option SignedFloor
else_signed (Some f) o = Some f
else_signed None o = o

-- t as a scaled floor of x, which is from -g - 1 to g
unfoldable pub signed_floor_of : ℕ → Term → Term → Option SignedFloor
signed_floor_of g x (Binary (binary.Word word.ShiftRightSigned) y c) =
    signed_or_itself x (on_words word.ShiftRightSigned y c) (signed_shifted c (signed_floor_of g x y))
signed_floor_of g x (Binary (binary.Word word.Add) p q) =
    signed_or_itself x (on_words word.Add p q)
    (else_signed (signed_sum_if g (same_term q x) (signed_floor_of g x p)) (signed_sum_if g (same_term p x) (signed_floor_of g x q)))
signed_floor_of g x (Quaternary quaternary.Join a b c d) =
    signed_or_itself x (Quaternary quaternary.Join a b c d) (signed_upper_floor g (upper_signed x (Quaternary quaternary.Join a b c d)))
signed_floor_of g x t = signed_or_itself x t None

-- `shr y 31`, and `sar y 31`
unfoldable pub under_sign : Term → Option Term
under_sign (Binary (binary.Word word.ShiftRight) y c) = if is_number32 c 31 then Some y else None
under_sign t = None

unfoldable pub under_signs : Term → Option Term
under_signs (Binary (binary.Word word.ShiftRightSigned) y c) = if is_number32 c 31 then Some y else None
under_signs t = None

-- y has the sign of x: the multiplier is above 0
abbrev pub is_above_zero : Option SignedFloor → Bool
is_above_zero (Some f) = nat_lt (2 ^ f.shift) f.raised
is_above_zero None = false

abbrev pub has_sign : ℕ → Term → Option Term → Bool
has_sign g x (Some y) = is_word32 y && is_above_zero (signed_floor_of g x y)
has_sign g x None = false

-- a scaled floor with 1 added where x is below 0
unfoldable pub rounded_floor : ℕ → Term → Term → Option SignedFloor
rounded_floor g x (Binary (binary.Word word.Add) p q) =
    else_signed (if has_sign g x (under_sign q) then signed_floor_of g x p else None)
    (if has_sign g x (under_sign p) then signed_floor_of g x q else None)
rounded_floor g x (Binary (binary.Word word.Subtract) p q) = if has_sign g x (under_signs q) then signed_floor_of g x p else None
rounded_floor g x t = None

-- for all x from -g - 1 to g it is x / d, rounded towards 0
abbrev pub rounds_to : (g d multiplier power : ℕ) → Bool
rounds_to g d multiplier power = nat_lt power (multiplier * d) && nat_le ((multiplier * d - power) * (g + 1)) power

abbrev pub is_rounded_quotient : (g d : ℕ) → Option SignedFloor → Bool
is_rounded_quotient g d (Some f) = nat_lt (2 ^ f.shift) f.raised && rounds_to g d (f.raised - 2 ^ f.shift) (2 ^ f.shift)
is_rounded_quotient g d None = false

-- `ite p u (sub 0 u)`, where p is `ult x 2^31`, and u is `udiv (ite p x (sub 0 x)) d`
abbrev pub at_least_zero : Term → Term
at_least_zero x = less x (number32 (2 ^ 31))

abbrev pub negated : Term → Term
negated u = on_words word.Subtract (number32 0) u

-- x without its sign
abbrev pub magnitude : Term → Term
magnitude x = choose (at_least_zero x) x (negated x)

abbrev pub truncated : (x d : Term) → Term
truncated x d = choose (at_least_zero x) (on_words word.Divide (magnitude x) d) (negated (on_words word.Divide (magnitude x) d))

unfoldable pub divided_by : Term → Option Term
divided_by (Binary (binary.Word word.Divide) w d) = Some d
divided_by t = None

abbrev pub truncated_by : Term → Term → Option Term → Option Sides
truncated_by t x (Some d) = if same_term t (truncated x d) then Some (record { left = x; right = d }) else None
truncated_by t x None = None

unfoldable pub under_less : Term → Option Term
under_less (Binary binary.Less x y) = Some x
under_less t = None

abbrev pub truncated_with : Term → Option Term → Option Term → Option Sides
truncated_with t (Some x) o = truncated_by t x o
truncated_with t None o = None

unfoldable pub truncated_of : Term → Option Sides
truncated_of (Ternary ternary.Choose p u v) = truncated_with (Ternary ternary.Choose p u v) (under_less p) (divided_by u)
truncated_of t = None

abbrev pub is_signed_division : List Term → Term → Option Sides → Bool
is_signed_division facts t (Some s) =
    is_word32 s.left && (is_word32 t && (is_constant s.right
    && is_rounded_quotient (reach_of facts s.left) (number_of s.right) (rounded_floor (reach_of facts s.left) s.left t)))
is_signed_division facts t None = false

-- ---- whether d divides x

-- the word turned down by k places
abbrev pub turned : ℕ → Term → Term
turned k y = on_words word.Or (on_words word.ShiftRight y (number32 k)) (on_words word.ShiftLeft y (number32 (32 - k)))

unfoldable pub under_shift : Term → Option Term
under_shift (Binary (binary.Word operator) y c) = Some y
under_shift t = None

unfoldable pub under_turn : Term → Option Term
under_turn (Binary (binary.Word word.Or) p q) = under_shift p
under_turn t = None

-- `mul x c`, where c is the inverse of the odd number n
unfoldable pub is_inverse_product : ℕ → Term → Term → Bool
is_inverse_product n x (Binary (binary.Word word.Multiply) u c) =
    same_term u x && (is_constant c && number_of c * n % 2 ^ 32 == 1)
is_inverse_product n x t = false

abbrev pub is_turned_product : ℕ → ℕ → (x r : Term) → Option Term → Bool
is_turned_product k n x r (Some y) = have_same_bits r (turned k y) && (is_word32 y && is_inverse_product n x y)
is_turned_product k n x r None = false

-- r is x times the inverse of n, turned down by k places
abbrev pub is_turned_inverse : ℕ → ℕ → (x r : Term) → Bool
is_turned_inverse k n x r = if k == 0 then is_inverse_product n x r else is_turned_product k n x r (under_turn r)

-- `ult r b`, where d is n * 2 ^ k, n odd, and b the number of its multiples below 2 ^ 32
abbrev pub tests_divisor : (r b x : Term) → ℕ → Bool
tests_divisor r b x d =
    is_word32 x && (is_word32 r && (is_constant b && (nat_lt 0 d && (number_of b == (2 ^ 32 - 1) / d + 1
    && is_turned_inverse (zeros 32 d) (d / 2 ^ zeros 32 d) x r))))

unfoldable pub under_remainder : Term → Option Sides
under_remainder (Binary (binary.Word word.Remainder) x d) = if is_constant d then Some (record { left = x; right = d }) else None
under_remainder t = None

-- `eq (urem x d) 0`
unfoldable pub divided_of : Term → Option Sides
divided_of (Binary binary.Equal u z) = if is_number32 z 0 then under_remainder u else None
divided_of t = None

abbrev pub is_divisor_test : Option Sides → Option Sides → Bool
is_divisor_test (Some s) (Some e) = tests_divisor s.left s.right e.left (number_of e.right)
is_divisor_test o p = false

-- ---- whether d divides a word with a sign

-- b, where the term is x times the inverse of the odd number n, and b more
unfoldable pub inverse_sum : ℕ → Term → Term → Option ℕ
inverse_sum n x (Binary (binary.Word word.Add) y b) = if is_inverse_product n x y && is_constant b then Some (number_of b) else None
inverse_sum n x t = None

abbrev pub turned_sum_of : ℕ → ℕ → (x r : Term) → Option Term → Option ℕ
turned_sum_of k n x r (Some y) = if have_same_bits r (turned k y) && is_word32 y then inverse_sum n x y else None
turned_sum_of k n x r None = None

-- and this turned down by k places
abbrev pub turned_sum : ℕ → ℕ → (x r : Term) → Option ℕ
turned_sum k n x r = if k == 0 then inverse_sum n x r else turned_sum_of k n x r (under_turn r)

-- s, which is b n, is a multiple of d and what is added so that no word x + s is below -d; c is the number of multiples of d from 0
-- to the greatest x + s
abbrev pub counts_multiples : (k n d c b : ℕ) → Bool
counts_multiples k n d c b =
    b % 2 ^ k == 0 && (nat_le (b * n) (2 ^ 31) && (nat_lt (2 ^ 31) (b * n + d)
    && (nat_le (b * n + 2 ^ 31) (c * d) && nat_lt ((c - 1) * d) (b * n + 2 ^ 31))))

abbrev pub counts_with : (k n d c : ℕ) → Option ℕ → Bool
counts_with k n d c (Some b) = counts_multiples k n d c b
counts_with k n d c None = false

-- `ult r c`, where d is n * 2 ^ k, n odd
abbrev pub tests_signed_divisor : (r c x : Term) → ℕ → Bool
tests_signed_divisor r c x d =
    is_word32 x && (is_word32 r && (is_constant c && (nat_lt 0 d
    && counts_with (zeros 32 d) (d / 2 ^ zeros 32 d) d (number_of c) (turned_sum (zeros 32 d) (d / 2 ^ zeros 32 d) x r))))

-- x, where the term is x without its sign
unfoldable pub under_magnitude : Term → Option Term
under_magnitude (Ternary ternary.Choose p u v) = if same_term (Ternary ternary.Choose p u v) (magnitude u) then Some u else None
under_magnitude t = None

abbrev pub tests_signed_with : Sides → Sides → Option Term → Bool
tests_signed_with s e (Some x) = tests_signed_divisor s.left s.right x (number_of e.right)
tests_signed_with s e None = false

-- the remainder of x without its sign is 0
abbrev pub is_signed_divisor_test : Option Sides → Option Sides → Bool
is_signed_divisor_test (Some s) (Some e) = tests_signed_with s e (under_magnitude e.left)
is_signed_divisor_test o p = false

-- ---- `quot X Y F ..`

-- either of the tests for divisors
abbrev pub is_any_divisor_test : Option Sides → Option Sides → Bool
is_any_divisor_test o p = is_divisor_test o p || is_signed_divisor_test o p

unfoldable pub same_by_quotient : List Term → Term → Term → Bool
same_by_quotient facts t u =
    is_written facts t u || (is_written facts u t || (is_signed_division facts t (truncated_of u) || (is_signed_division facts u (truncated_of t)
    || (is_any_divisor_test (order_of t) (divided_of u) || is_any_divisor_test (order_of u) (divided_of t)))))
