-- The rule `range`: a truth value that says that a form is one of so many numbers in a row, modulo 2 ^ count.
use Rattle.std.specs.Prelude.{ℕ, ◌+◌, ◌-◌, ◌%◌, ◌^◌, ◌==◌, ◌&&◌, ◌||◌, nat_le, min, max, Bool, true, false, if◌then◌else◌, List, [], ◌∷◌, Option, Some, None, option_map, option_and_then}
use Rattle.term_core_spec.specs.declared.Atom.{Atom}
use Rattle.term_core_spec.specs.declared.Atom.TheVariants as atom
use Rattle.term_core_spec.specs.declared.UnaryOperator.TheVariants as unary
use Rattle.term_core_spec.specs.declared.BinaryOperator.TheVariants as binary
use Rattle.term_core_spec.specs.Term.{Term, Unary, Binary}
use Rattle.term_core_spec.specs.Sort.{bits}
use Rattle.term_norm_spec.specs.Patterns.{width_of}
use Rattle.word_steps_spec.specs.Numbers.{is_bool}
use Rattle.word_steps_spec.specs.Polynomial.{Summand, Polynomial, plus, atom_polynomial, is_empty}
use Rattle.word_steps_spec.specs.Sides.{are_words, Sides}
use Rattle.word_steps_spec.specs.Ring.{polynomial, difference}
use Rattle.word_steps_spec.specs.LowBits.{form_of, constant_of, is_one_form}
use Rattle.word_steps_spec.specs.Order.{Bounds, bounds_of}

-- the form is one of `start`, .., `start` + `length` - 1, modulo 2 ^ count; the length is at most 2 ^ count
pub record Range : Type 0 where
  pub count : ℕ
  pub form : Polynomial
  pub start : ℕ
  pub length : ℕ

-- how far n is above s, modulo 2 ^ count
abbrev pub distance : ℕ → ℕ → ℕ → ℕ
distance count s n = (n + (2 ^ count - s % 2 ^ count)) % 2 ^ count

abbrev pub opposite : ℕ → ℕ → ℕ
opposite count n = distance count n 0

-- the other numbers
abbrev pub outside : Range → Range
outside r = record { count = r.count; form = r.form; start = r.start + r.length; length = 2 ^ r.count - r.length }

-- ---- ranges of one form

abbrev pub are_opposite_forms : ℕ → Polynomial → Polynomial → Bool
are_opposite_forms count p q = is_empty (plus count p q)

-- a range of a form, as one of r's, where they are equal or opposite
abbrev pub as_of : Range → Range → Option Range
as_of r q =
    if r.count == q.count && is_one_form r.count r.form q.form then Some (record { count = r.count; form = r.form; start = q.start; length = q.length })
    else if r.count == q.count && are_opposite_forms r.count r.form q.form
    then Some (record { count = r.count; form = r.form; start = distance r.count (q.start + q.length) 1; length = q.length })
    else None

-- all numbers of the first range are in the second
abbrev pub is_inside : Range → Range → Bool
is_inside r q = q.length == 2 ^ q.count || nat_le (distance q.count q.start r.start + r.length) q.length

-- two ranges that meet or touch, as one: the second starts where it is at most behind the first's end
abbrev pub joined_at : ℕ → Range → Range → Option Range
joined_at d r q =
    if nat_le d r.length then Some (record r { length = min (2 ^ r.count) (max r.length (d + q.length)) }) else None

abbrev pub else_range : Option Range → Option Range → Option Range
else_range (Some r) o = Some r
else_range None o = o

abbrev pub joined : Range → Range → Option Range
joined r q = else_range (joined_at (distance r.count r.start q.start) r q) (joined_at (distance r.count q.start r.start) q r)

abbrev pub union : Range → Range → Option Range
union r q = option_and_then (joined r) (as_of r q)

-- ---- what a truth value reads as

-- a word F + a is below n
abbrev pub below_range : ℕ → Polynomial → ℕ → Range
below_range count p n = record { count = count; form = form_of p; start = opposite count (constant_of p); length = n }

-- `ult c (F + b)`, of the polynomials c and q
abbrev pub above_range : ℕ → ℕ → Polynomial → Range
above_range count c q = record {
  count = count;
  form = form_of q;
  start = distance count (constant_of q) (c + 1);
  length = 2 ^ count - 1 - c % 2 ^ count;
}

-- `ult (F + a) (F + b)`, where b - a isn't 0
abbrev pub order_range_at : ℕ → ℕ → Polynomial → Option Range
order_range_at count d p = if d == 0 then None else Some (below_range count p (2 ^ count - d))

-- `ult` of words of the polynomials p and q
abbrev pub order_range : ℕ → Polynomial → Polynomial → Option Range
order_range count p q =
    if is_empty (form_of q) then (if is_empty (form_of p) then None else Some (below_range count p (constant_of q % 2 ^ count)))
    else if is_empty (form_of p) then Some (above_range count (constant_of p) q)
    else if is_one_form count (form_of p) (form_of q) then order_range_at count (distance count (constant_of p) (constant_of q)) p
    else None

-- `eq` of words of the difference p
abbrev pub equality_range : ℕ → Polynomial → Option Range
equality_range count p = if is_empty (form_of p) then None else Some (below_range count p 1)

abbrev pub both_ranges : (Range → Range → Option Range) → Option Range → Option Range → Option Range
both_ranges f o p = option_and_then (λ r. option_and_then (f r) p) o

-- the `and` is the opposite of the `or` of the opposites
unfoldable pub range_of : Term → Option Range
range_of (Unary unary.Not x) = option_map outside (range_of x)
range_of (Binary binary.Or x y) = both_ranges union (range_of x) (range_of y)
range_of (Binary binary.And x y) = option_map outside (both_ranges (λ r q. union (outside r) (outside q)) (range_of x) (range_of y))
range_of (Binary binary.Less x y) = if are_words x y then order_range (bits (width_of x)) (polynomial x) (polynomial y) else None
range_of (Binary binary.Equal x y) = if are_words x y then equality_range (bits (width_of x)) (difference x y) else None
range_of t = None

-- ---- what ranges decide

-- the numbers are in one range: they are in the other, or outside it
abbrev pub decided_inside : (known : Range) → Range → Option Atom
decided_inside q r =
    if is_inside q r then Some (atom.Truth true) else if is_inside q (outside r) then Some (atom.Truth false) else None

abbrev pub decided_as : Range → (known : Range) → Option Atom
decided_as r q = option_and_then (λ k. decided_inside k r) (as_of r q)

abbrev pub only_atom : List Term → Option Term
only_atom (t ∷ []) = Some t
only_atom ts = None

-- the one atom of a form
abbrev pub atom_of : Polynomial → Option Term
atom_of (s ∷ []) = only_atom s.atoms
atom_of p = None

-- where an atom is by its bounds
abbrev pub bounds_of_atom : Term → Option Bounds
bounds_of_atom t =
    if is_bool t then Some (record { least = 0; greatest = 1 }) else if are_words t t then Some (bounds_of t) else None

abbrev pub range_in : ℕ → Term → Bounds → Range
range_in count t b = record { count = count; form = atom_polynomial t; start = b.least; length = min (2 ^ count) (b.greatest + 1 - b.least) }

abbrev pub range_of_atom : ℕ → Term → Option Range
range_of_atom count t = option_map (range_in count t) (bounds_of_atom t)

-- by a fact, or by the bounds of a single atom
abbrev pub known_range : List Term → Range → Option Range
known_range [] r = option_and_then (range_of_atom r.count) (atom_of r.form)
known_range (fact ∷ []) r = range_of fact
known_range facts r = None

abbrev pub decided_with : List Term → Range → Option Atom
decided_with facts r = option_and_then (decided_as r) (known_range facts r)

-- `range X [F]`
unfoldable pub decided_by_range : List Term → Term → Option Atom
decided_by_range facts x = option_and_then (decided_with facts) (range_of x)
