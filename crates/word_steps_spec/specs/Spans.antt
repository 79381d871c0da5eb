-- The rule `fit`: rows of integers of which one is congruent to a word.
use Rattle.std.specs.Prelude.{ℕ, zero, suc, ◌+◌, ◌-◌, ◌*◌, ◌/◌, ◌%◌, ◌^◌, ◌==◌, ◌&&◌, ◌||◌, nat_lt, nat_le, min, max, Bool, true, false, if◌then◌else◌, List, [], ◌∷◌, Option, Some, None, option_map, option_and_then}
use Rattle.term_core_spec.specs.declared.Atom.{Atom}
use Rattle.term_core_spec.specs.declared.Atom.TheVariants as atom
use Rattle.term_core_spec.specs.declared.UnaryOperator.TheVariants as unary
use Rattle.term_core_spec.specs.declared.WordOperator.TheVariants as word
use Rattle.term_core_spec.specs.declared.BinaryOperator.TheVariants as binary
use Rattle.term_core_spec.specs.declared.TernaryOperator.TheVariants as ternary
use Rattle.term_core_spec.specs.Term.{Term, Unary, Binary, Ternary}
use Rattle.term_core_spec.specs.Sort.{bits}
use Rattle.term_core_spec.specs.Same.{same_term}
use Rattle.term_norm_spec.specs.Patterns.{width_of, is_constant, number_of}
use Rattle.word_steps_spec.specs.Numbers.{is_bool}
use Rattle.word_steps_spec.specs.Polynomial.{Polynomial}
use Rattle.word_steps_spec.specs.Sides.{are_words, Sides, sides_of}
use Rattle.word_steps_spec.specs.Ring.{polynomial}
use Rattle.word_steps_spec.specs.Order.{Bounds, is_divisor, bounds_of, order_by_bounds, order_of, else_by}
use Rattle.word_steps_spec.specs.LowBits.{constant_of, mask_length}
use Rattle.word_steps_spec.specs.Ranges.{Range, distance, opposite, as_of, below_range, range_of}

-- the word is one of first, .., first + width, modulo 2 ^ count
pub record Span : Type 0 where
  pub first : ℕ
  pub width : ℕ

abbrev pub all_words : ℕ → Span
all_words count = record { first = 0; width = 2 ^ count - 1 }

abbrev pub capped : ℕ → Span → Span
capped count s = if nat_lt s.width (2 ^ count) then s else all_words count

abbrev pub shorter : Span → Span → Span
shorter s t = if nat_le s.width t.width then s else t

abbrev pub bounds_span : Bounds → Span
bounds_span b = record { first = b.least; width = b.greatest - b.least }

-- where the numbers of a span don't wrap round 0
abbrev pub unsigned_bounds : ℕ → Span → Bounds
unsigned_bounds count s =
    if nat_lt (s.first % 2 ^ count + s.width) (2 ^ count) then record { least = s.first % 2 ^ count; greatest = s.first % 2 ^ count + s.width }
    else record { least = 0; greatest = 2 ^ count - 1 }

-- ---- integers

-- those from least - down to greatest - down
pub record Interval : Type 0 where
  pub down : ℕ
  pub least : ℕ
  pub greatest : ℕ

-- a span that begins from 2 ^ (count - 1) on begins below 0
abbrev pub as_integers : ℕ → Span → Interval
as_integers count s =
    if nat_lt (s.first % 2 ^ count) (2 ^ (count - 1))
    then record { down = 0; least = s.first % 2 ^ count; greatest = s.first % 2 ^ count + s.width }
    else record { down = 2 ^ count - s.first % 2 ^ count; least = 0; greatest = s.width }

abbrev pub as_span : ℕ → Interval → Span
as_span count i = capped count (record { first = distance count i.down i.least; width = i.greatest - i.least })

abbrev pub sum_of : Interval → Interval → Interval
sum_of i j = record { down = i.down + j.down; least = i.least + j.least; greatest = i.greatest + j.greatest }

abbrev pub scaled_by : ℕ → Interval → Interval
scaled_by c i = record { down = c * i.down; least = c * i.least; greatest = c * i.greatest }

abbrev pub negative_of : Interval → Interval
negative_of i = record { down = i.greatest; least = i.down; greatest = i.down + (i.greatest - i.least) }

-- a coefficient from 2 ^ (count - 1) on is below 0
abbrev pub times_coefficient : ℕ → ℕ → Interval → Interval
times_coefficient count c i =
    if nat_lt (c % 2 ^ count) (2 ^ (count - 1)) then scaled_by (c % 2 ^ count) i else negative_of (scaled_by (opposite count c) i)

-- the product of k - i.down and l - j.down, from the least of all on
abbrev pub corner : (i j : Interval) → (k l : ℕ) → ℕ
corner i j k l = k * l + i.down * j.down + (i.greatest - k) * j.down + (j.greatest - l) * i.down

-- by the products of the ends
abbrev pub product_of : Interval → Interval → Interval
product_of i j = record {
  down = i.greatest * j.down + j.greatest * i.down;
  least =
      min (min (corner i j i.least j.least) (corner i j i.least j.greatest)) (min (corner i j i.greatest j.least) (corner i j i.greatest j.greatest));
  greatest =
      max (max (corner i j i.least j.least) (corner i j i.least j.greatest)) (max (corner i j i.greatest j.least) (corner i j i.greatest j.greatest));
}

-- ---- polynomials, of what is known of their atoms

unfoldable pub monomial_interval : (Term → Interval) → List Term → Interval
monomial_interval f [] = record { down = 0; least = 1; greatest = 1 }
monomial_interval f (t ∷ rest) = product_of (f t) (monomial_interval f rest)

unfoldable pub polynomial_interval : ℕ → (Term → Interval) → Polynomial → Interval
polynomial_interval count f [] = record { down = 0; least = 0; greatest = 0 }
polynomial_interval count f (s ∷ p) =
    sum_of (times_coefficient count s.coefficient (monomial_interval f s.atoms)) (polynomial_interval count f p)

-- a truth value is 0 or 1
abbrev pub atom_interval : ℕ → (Term → Span) → Term → Interval
atom_interval count span t = if is_bool t then record { down = 0; least = 0; greatest = 1 } else as_integers count (span t)

abbrev pub polynomial_span : ℕ → (Term → Span) → Polynomial → Span
polynomial_span count span p = as_span count (polynomial_interval count (atom_interval count span) p)

-- ---- operators, of what is known of their arguments

-- a span of words with a sign, at another width
abbrev pub sign_extended_span : (from to : ℕ) → Span → Span
sign_extended_span from to s =
    if nat_lt ((s.first + 2 ^ (from - 1)) % 2 ^ from + s.width) (2 ^ from)
    then record { first = (s.first + 2 ^ (from - 1)) % 2 ^ from + (2 ^ to - 2 ^ (from - 1)); width = s.width }
    else record { first = 2 ^ to - 2 ^ (from - 1); width = 2 ^ from - 1 }

-- quotients by numbers above 0
abbrev pub quotient_span : ℕ → Bounds → Bounds → Span
quotient_span count b c =
    if nat_lt 0 c.least then bounds_span (record { least = b.least / c.greatest; greatest = b.greatest / c.least }) else all_words count

-- from the first of s on to the last of t, where that is the shorter way
abbrev pub span_from : ℕ → Span → Span → Span
span_from count s t = record { first = s.first; width = max s.width (distance count s.first t.first + t.width) }

abbrev pub both_spans : ℕ → Span → Span → Span
both_spans count s t = capped count (shorter (span_from count s t) (span_from count t s))

abbrev pub shifted_span : ℕ → Term → Span → Span
shifted_span count y s =
    if is_constant y && nat_lt (number_of y) count
    then quotient_span count (unsigned_bounds count s) (record { least = 2 ^ number_of y; greatest = 2 ^ number_of y }) else all_words count

abbrev pub remainder_span : ℕ → Term → Span
remainder_span count y = if is_divisor y then record { first = 0; width = number_of y - 1 } else all_words count

unfoldable pub operator_span : ℕ → (Term → Span) → Term → Span
operator_span count span (Unary (unary.SignExtend to) x) = sign_extended_span (bits (width_of x)) (bits to) (span x)
operator_span count span (Unary (unary.ZeroExtend to) x) = bounds_span (unsigned_bounds (bits (width_of x)) (span x))
operator_span count span (Binary (binary.Word word.ShiftRight) x y) = shifted_span count y (span x)
operator_span count span (Binary (binary.Word word.Divide) x y) =
    quotient_span count (unsigned_bounds count (span x)) (unsigned_bounds count (span y))
operator_span count span (Binary (binary.Word word.Remainder) x y) = remainder_span count y
operator_span count span (Ternary ternary.Choose test x y) = both_spans count (span x) (span y)
operator_span count span t = all_words count

-- ---- facts

-- what two spans have in common, where t begins in s and ends before s begins again
abbrev pub cut_at : (count d : ℕ) → (s t : Span) → (otherwise : Span) → Span
cut_at count d s t otherwise =
    if nat_le d s.width && nat_lt (d + t.width) (2 ^ count) then record { first = t.first; width = min (s.width - d) t.width } else otherwise

-- in one piece, or the shorter of both
abbrev pub cut : ℕ → Span → Span → Span
cut count s t = cut_at count (distance count s.first t.first) s t (cut_at count (distance count t.first s.first) t s (shorter s t))

-- the range of a fact, for the word F + a
abbrev pub cut_by : ℕ → Polynomial → Span → Option Range → Span
cut_by count p s (Some k) = cut count s (record { first = k.start + constant_of p; width = k.length - 1 })
cut_by count p s None = s

unfoldable pub cut_by_facts : ℕ → Polynomial → List Term → Span → Span
cut_by_facts count p [] s = s
cut_by_facts count p (fact ∷ facts) s =
    cut_by_facts count p facts (cut_by count p s (option_and_then (as_of (below_range count p 0)) (range_of fact)))

-- ---- the span of a word

-- this many steps into arguments and atoms; below, by bounds
abbrev pub STEPS : ℕ
STEPS = 4

unfoldable pub span_within : ℕ → List Term → Term → Span
span_within zero facts t = bounds_span (bounds_of t)
span_within (suc k) facts t =
    cut_by_facts (bits (width_of t)) (polynomial t) facts
    (shorter (bounds_span (bounds_of t))
    (shorter (polynomial_span (bits (width_of t)) (span_within k facts) (polynomial t))
    (operator_span (bits (width_of t)) (span_within k facts) t)))

abbrev pub span_of : List Term → Term → Span
span_of facts t = span_within STEPS facts t

-- ---- words that fit

-- x, of which a term keeps so many low bits, with a sign or without
pub record Kept : Type 0 where
  pub word : Term
  pub length : ℕ
  pub with_sign : Bool

-- `low`, and the byte 0
unfoldable pub kept_low : Bool → Term → Option Kept
kept_low sign (Unary (unary.Low width) x) = Some (record { word = x; length = bits width; with_sign = sign })
kept_low sign (Unary (unary.Byte place) x) = if place == 0 then Some (record { word = x; length = 8; with_sign = sign }) else None
kept_low sign t = None

-- `shl` by c, where c is below the width
unfoldable pub kept_high : Bool → Term → Term → Option Kept
kept_high sign c (Binary (binary.Word word.ShiftLeft) x d) =
    if same_term d c && (is_constant c && nat_lt (number_of c) (bits (width_of x)))
    then Some (record { word = x; length = bits (width_of x) - number_of c; with_sign = sign }) else None
kept_high sign c t = None

-- under a mask
abbrev pub kept_under : ℕ → Term → Term → Option Kept
kept_under count x y =
    if is_constant y && number_of y == 2 ^ mask_length count (number_of y) - 1
    then Some (record { word = x; length = mask_length count (number_of y); with_sign = false }) else None

unfoldable pub kept_of : Term → Option Kept
kept_of (Unary (unary.SignExtend to) t) = kept_low true t
kept_of (Unary (unary.ZeroExtend to) t) = kept_low false t
kept_of (Binary (binary.Word word.ShiftRightSigned) t c) = kept_high true c t
kept_of (Binary (binary.Word word.ShiftRight) t c) = kept_high false c t
kept_of (Binary (binary.Word word.And) x y) = kept_under (bits (width_of x)) x y
kept_of t = None

-- the words of a span have so many bits, with a sign or without
abbrev pub fits_signed_bits : (count length : ℕ) → Span → Bool
fits_signed_bits count length s = nat_lt ((s.first + 2 ^ (length - 1)) % 2 ^ count + s.width) (2 ^ length)

abbrev pub fits_bits : (count length : ℕ) → Span → Bool
fits_bits count length s = nat_lt (s.first % 2 ^ count + s.width) (2 ^ length)

abbrev pub fits_in : (count : ℕ) → Kept → Span → Bool
fits_in count k s = if k.with_sign then fits_signed_bits count k.length s else fits_bits count k.length s

-- t keeps low bits of u, and u fits
abbrev pub is_kept : List Term → Term → Option Kept → Term → Bool
is_kept facts t (Some k) u = same_term k.word u && (are_words t u && fits_in (bits (width_of u)) k (span_of facts u))
is_kept facts t None u = false

-- `fit X Y F ..`
unfoldable pub same_by_fit : List Term → Term → Term → Bool
same_by_fit facts t u = is_kept facts t (kept_of t) u || is_kept facts u (kept_of u) t

-- ---- what spans decide

-- a span of one word
abbrev pub only_word : Term → Span → Option Atom
only_word t s = if are_words t t && s.width == 0 then Some (atom.Constant (width_of t) (s.first % 2 ^ bits (width_of t))) else None

-- `eq` with a constant that isn't in the span
abbrev pub equality_by_span : List Term → Option Sides → Option Atom
equality_by_span facts (Some s) =
    if is_constant s.right && nat_lt (span_of facts s.left).width (distance (bits (width_of s.left)) (span_of facts s.left).first (number_of s.right))
    then Some (atom.Truth false) else None
equality_by_span facts None = None

abbrev pub unsigned_of : List Term → Term → Bounds
unsigned_of facts t = unsigned_bounds (bits (width_of t)) (span_of facts t)

abbrev pub order_by_span : List Term → Option Sides → Option Atom
order_by_span facts (Some s) = order_by_bounds (unsigned_of facts s.left) (unsigned_of facts s.right)
order_by_span facts None = None

-- `fit X F ..`
unfoldable pub decided_by_fit : List Term → Term → Option Atom
decided_by_fit facts x =
    else_by (only_word x (span_of facts x)) (else_by (equality_by_span facts (sides_of x)) (order_by_span facts (order_of x)))
