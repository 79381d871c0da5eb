-- The rule `bits` beyond single bits: the least and greatest value of a word, and other spellings of `ult`.
use Rattle.std.specs.Prelude.{ℕ, zero, suc, ◌+◌, ◌-◌, ◌*◌, ◌/◌, ◌^◌, ◌==◌, ◌&&◌, ◌||◌, not, nat_lt, nat_le, min, max, Bool, true, false, if◌then◌else◌, Option, Some, None}
use Rattle.term_core_spec.specs.declared.Atom.{Atom}
use Rattle.term_core_spec.specs.declared.Atom.TheVariants as atom
use Rattle.term_core_spec.specs.declared.WordOperator.{WordOperator}
use Rattle.term_core_spec.specs.declared.WordOperator.TheVariants as word
use Rattle.term_core_spec.specs.declared.BinaryOperator.TheVariants as binary
use Rattle.term_core_spec.specs.declared.TernaryOperator.TheVariants as ternary
use Rattle.term_core_spec.specs.Term.{Term, Binary, Ternary, constant, not_term, equal, less, on_words}
use Rattle.term_core_spec.specs.Sort.{bits}
use Rattle.term_core_spec.specs.Same.{same_term}
use Rattle.term_norm_spec.specs.Patterns.{width_of, is_constant, number_of}
use Rattle.word_steps_spec.specs.Ring.{top_bit, is_top_bit}
use Rattle.word_steps_spec.specs.Sides.{are_words, Sides, sides_of}
use Rattle.word_steps_spec.specs.Bitwise.{Bits, is_fixed, bits_of}

-- ---- bounds

-- the least and the greatest value that a word is known to have
pub record Bounds : Type 0 where
  pub least : ℕ
  pub greatest : ℕ

unfoldable pub least_of_bits : ℕ → Bits → ℕ
least_of_bits zero f = 0
least_of_bits (suc i) f = (if is_fixed true (f i) then 2 ^ i else 0) + least_of_bits i f

unfoldable pub greatest_of_bits : ℕ → Bits → ℕ
greatest_of_bits zero f = 0
greatest_of_bits (suc i) f = (if is_fixed false (f i) then 0 else 2 ^ i) + greatest_of_bits i f

abbrev pub bounds_by_bits : ℕ → Bits → Bounds
bounds_by_bits count f = record { least = least_of_bits count f; greatest = greatest_of_bits count f }

-- within both, and within one of both
abbrev pub within_both : Bounds → Bounds → Bounds
within_both b c = record { least = max b.least c.least; greatest = min b.greatest c.greatest }

abbrev pub within_one : Bounds → Bounds → Bounds
within_one b c = record { least = min b.least c.least; greatest = max b.greatest c.greatest }

-- sums, differences and products where nothing wraps
abbrev pub sum_bounds : ℕ → Bounds → Bounds → Bounds → Bounds
sum_bounds count b c otherwise =
    if nat_lt (b.greatest + c.greatest) (2 ^ count) then record { least = b.least + c.least; greatest = b.greatest + c.greatest } else otherwise

abbrev pub difference_bounds : Bounds → Bounds → Bounds → Bounds
difference_bounds b c otherwise =
    if nat_le c.greatest b.least then record { least = b.least - c.greatest; greatest = b.greatest - c.least } else otherwise

abbrev pub product_bounds : ℕ → Bounds → Bounds → Bounds → Bounds
product_bounds count b c otherwise =
    if nat_lt (b.greatest * c.greatest) (2 ^ count) then record { least = b.least * c.least; greatest = b.greatest * c.greatest } else otherwise

abbrev pub divided_bounds : ℕ → Bounds → Bounds
divided_bounds n b = record { least = b.least / n; greatest = b.greatest / n }

abbrev pub is_divisor : Term → Bool
is_divisor y = is_constant y && not (number_of y == 0)

-- an operation on x and y, of the bounds b and c
unfoldable pub bounds_of_operation : WordOperator → ℕ → (y : Term) → Bounds → Bounds → (otherwise : Bounds) → Bounds
bounds_of_operation word.Add count y b c otherwise = sum_bounds count b c otherwise
bounds_of_operation word.Subtract count y b c otherwise = difference_bounds b c otherwise
bounds_of_operation word.Multiply count y b c otherwise = product_bounds count b c otherwise
bounds_of_operation word.ShiftRight count y b c otherwise =
    if is_constant y && nat_lt (number_of y) count then divided_bounds (2 ^ number_of y) b else otherwise
bounds_of_operation word.Divide count y b c otherwise = if is_divisor y then divided_bounds (number_of y) b else otherwise
bounds_of_operation word.Remainder count y b c otherwise =
    if is_divisor y then record { least = 0; greatest = number_of y - 1 } else otherwise
bounds_of_operation operator count y b c otherwise = otherwise

-- by the bits of a word alone
abbrev pub bounds_by_own_bits : Term → Bounds
bounds_by_own_bits t = bounds_by_bits (bits (width_of t)) (bits_of t)

-- the bounds of a word
unfoldable pub bounds_of : Term → Bounds
bounds_of (Binary (binary.Word operator) x y) =
    within_both (bounds_by_own_bits (on_words operator x y))
    (bounds_of_operation operator (bits (width_of x)) y (bounds_of x) (bounds_of y) (bounds_by_own_bits (on_words operator x y)))
bounds_of (Ternary ternary.Choose test x y) =
    within_both (bounds_by_own_bits (Ternary ternary.Choose test x y)) (within_one (bounds_of x) (bounds_of y))
bounds_of t = bounds_by_own_bits t

-- ---- what bounds decide

abbrev pub is_below : Bounds → Bounds → Bool
is_below b c = nat_lt b.greatest c.least

-- each is one value, the same
abbrev pub are_one_value : Bounds → Bounds → Bool
are_one_value b c = nat_le b.greatest c.least && nat_le c.greatest b.least

abbrev pub equality_by_bounds : Bounds → Bounds → Option Atom
equality_by_bounds b c =
    if are_one_value b c then Some (atom.Truth true) else if is_below b c || is_below c b then Some (atom.Truth false) else None

abbrev pub order_by_bounds : Bounds → Bounds → Option Atom
order_by_bounds b c =
    if is_below b c then Some (atom.Truth true) else if nat_le c.greatest b.least then Some (atom.Truth false) else None

-- the sides of an `ult`
unfoldable pub order_of : Term → Option Sides
order_of (Binary binary.Less x y) = if are_words x y then Some (record { left = x; right = y }) else None
order_of t = None

abbrev pub by_sides : (Bounds → Bounds → Option Atom) → Option Sides → Option Atom
by_sides decide (Some s) = decide (bounds_of s.left) (bounds_of s.right)
by_sides decide None = None

abbrev pub else_by : Option Atom → Option Atom → Option Atom
else_by (Some a) o = Some a
else_by None o = o

-- `bits X`: an `eq` or an `ult` that bounds decide
unfoldable pub decided_by_bounds : Term → Option Atom
decided_by_bounds x = else_by (by_sides equality_by_bounds (sides_of x)) (by_sides order_by_bounds (order_of x))

-- ---- spellings of `ult`

-- the word whose top bit is flipped
unfoldable pub under_flip : Term → Option Term
under_flip (Binary (binary.Word word.Xor) x y) = if is_top_bit y then Some x else if is_top_bit x then Some y else None
under_flip t = None

abbrev pub has_no_top : Term → Bool
has_no_top x = is_fixed false (bits_of x (bits (width_of x) - 1))

-- the constant n at the width of a term
abbrev pub is_number_like : Term → ℕ → Term → Bool
is_number_like x n t = same_term t (constant (width_of x) n)

-- `ult x y` where y is 1: `eq x 0`
abbrev pub below_one : (x y : Term) → Option Term
below_one x y = if is_number_like x 1 y then Some (equal x (constant (width_of x) 0)) else None

-- where x is a constant c below the greatest: `not (ult y (c + 1))`
abbrev pub above_constant : (x y : Term) → Option Term
above_constant x y =
    if is_constant x && nat_lt (number_of x + 1) (2 ^ bits (width_of x))
    then Some (not_term (less y (constant (width_of x) (number_of x + 1)))) else None

-- where both top bits are flipped, and 0 before: `ult` of the words before
abbrev pub both_flipped : Option Term → Option Term → Option Term
both_flipped (Some a) (Some b) = if has_no_top a && has_no_top b then Some (less a b) else None
both_flipped o p = None

-- where x is a flipped word a and y the top bit: `not (ult a y)`
abbrev pub flipped_below_top : Option Term → (y : Term) → Option Term
flipped_below_top (Some a) y = if is_top_bit y then Some (not_term (less a y)) else None
flipped_below_top None y = None

-- where y is a flipped word b and x the top bit less 1: `ult b top`
abbrev pub flipped_above_rest : (x : Term) → Option Term → Option Term
flipped_above_rest x (Some b) = if is_number_like x (top_bit x - 1) x then Some (less b (constant (width_of x) (top_bit x))) else None
flipped_above_rest x None = None

abbrev pub is_spelled : Option Term → Term → Bool
is_spelled (Some s) t = same_term s t
is_spelled None t = false

abbrev pub is_spelling : (x y : Term) → Term → Bool
is_spelling x y t =
    is_spelled (below_one x y) t || (is_spelled (above_constant x y) t || (is_spelled (both_flipped (under_flip x) (under_flip y)) t
    || (is_spelled (flipped_below_top (under_flip x) y) t || is_spelled (flipped_above_rest x (under_flip y)) t)))

-- t is another spelling of an `ult`
abbrev pub spells : Option Sides → Term → Bool
spells (Some s) t = is_spelling s.left s.right t
spells None t = false

-- `bits X Y`: one is another spelling of the other
unfoldable pub same_by_spelling : Term → Term → Bool
same_by_spelling t u = spells (order_of t) u || spells (order_of u) t
