-- The rules `zone` and `within`: from the order of two words, where nothing wraps, to the range of their difference.
use Rattle.std.specs.Prelude.{ℕ, ◌+◌, ◌-◌, ◌%◌, ◌^◌, ◌==◌, ◌&&◌, ◌||◌, not, nat_lt, Bool, true, false, if◌then◌else◌, List, [], ◌∷◌, Option, Some, None, option_map, option_and_then}
use Rattle.term_core_spec.specs.declared.Atom.{Atom}
use Rattle.term_core_spec.specs.declared.UnaryOperator.TheVariants as unary
use Rattle.term_core_spec.specs.declared.BinaryOperator.TheVariants as binary
use Rattle.term_core_spec.specs.Term.{Term, Unary, Binary}
use Rattle.term_core_spec.specs.Sort.{bits}
use Rattle.term_norm_spec.specs.Patterns.{width_of}
use Rattle.word_steps_spec.specs.Polynomial.{is_empty}
use Rattle.word_steps_spec.specs.Sides.{are_words, Sides}
use Rattle.word_steps_spec.specs.Ring.{polynomial, difference}
use Rattle.word_steps_spec.specs.Order.{bounds_of, order_of}
use Rattle.word_steps_spec.specs.LowBits.{LowBits, form_of, constant_of, known_forms, low_of}
use Rattle.word_steps_spec.specs.Ranges.{Range, outside, as_of, is_inside, else_range, below_range, range_of, decided_with}

-- ---- two orders, of which one holds or the other doesn't

-- `ult` of both sides, or its opposite
pub record Order : Type 0 where
  pub sides : Sides
  pub holds : Bool

abbrev pub order_with : Bool → Option Sides → Option Order
order_with holds o = option_map (λ s. record { sides = s; holds = holds }) o

-- what a term says where it is true, or where it is false
unfoldable pub order_where : Bool → Term → Option Order
order_where holds (Unary unary.Not x) = order_where (not holds) x
order_where holds t = order_with holds (order_of t)

-- `ult` of the first sides, or not of the second
pub record Either : Type 0 where
  pub first : Sides
  pub second : Sides

abbrev pub either_order : Order → Order → Option Either
either_order o p =
    if o.holds && not p.holds then Some (record { first = o.sides; second = p.sides })
    else if p.holds && not o.holds then Some (record { first = p.sides; second = o.sides }) else None

abbrev pub either_of : Option Order → Option Order → Option Either
either_of o p = option_and_then (λ a. option_and_then (either_order a) p) o

-- an `or` that is true, or an `and` that is false
unfoldable pub either_where : Bool → Term → Option Either
either_where holds (Unary unary.Not x) = either_where (not holds) x
either_where true (Binary binary.Or x y) = either_of (order_where true x) (order_where true y)
either_where false (Binary binary.And x y) = either_of (order_where false x) (order_where false y)
either_where holds t = None

-- ---- distances, and words that are below a number

-- x - y, where it is a constant
abbrev pub constant_distance : (x y : Term) → Option ℕ
constant_distance x y =
    if are_words x y && is_empty (form_of (difference x y)) then Some (constant_of (difference x y) % 2 ^ bits (width_of x)) else None

-- x - y is below n
abbrev pub difference_range : (x y : Term) → ℕ → Range
difference_range x y n = below_range (bits (width_of x)) (difference x y) n

abbrev pub is_known_inside : Range → Option Range → Bool
is_known_inside r (Some q) = is_inside q r
is_known_inside r None = false

-- a fact says that the numbers of a form are in a range
unfoldable pub is_inside_by : Range → List Term → Bool
is_inside_by r [] = false
is_inside_by r (fact ∷ facts) = is_known_inside r (option_and_then (as_of r) (range_of fact)) || is_inside_by r facts

-- a word is below n, by its bounds or by a fact
abbrev pub is_word_below : List Term → Term → ℕ → Bool
is_word_below facts x n = nat_lt (bounds_of x).greatest n || is_inside_by (below_range (bits (width_of x)) (polynomial x) n) facts

-- ---- `zone`

-- to add k to a word of these low bits carries nothing out of them
abbrev pub adds_within : ℕ → LowBits → Bool
adds_within k a = k == 0 || nat_lt (a.rest + k) (2 ^ a.count)

-- `ult A B`, or not `ult C D`, with A = C + k and D = B + s, where neither sum wraps: C - D is below 2 ^ count - s - k
abbrev pub zone_at : List Term → Either → (k s : ℕ) → Option Range
zone_at facts e k s =
    if nat_lt (s + k) (2 ^ bits (width_of e.second.left))
    && (is_word_below facts e.first.right (2 ^ bits (width_of e.second.left) - s)
    && adds_within k (low_of (bits (width_of e.second.left)) (known_forms e.second.left facts) (polynomial e.second.left)))
    then Some (difference_range e.second.left e.second.right (2 ^ bits (width_of e.second.left) - s - k)) else None

abbrev pub zone_of : List Term → Either → Option Range
zone_of facts e =
    option_and_then (λ k. option_and_then (zone_at facts e k) (constant_distance e.second.right e.first.right)) (constant_distance e.first.left e.second.left)

abbrev pub is_zone : Option Range → Option Range → Bool
is_zone (Some r) o = is_known_inside r (option_and_then (as_of r) o)
is_zone None o = false

-- `zone F1 F2 F3 X`: X reads as a range that has the whole zone of the first fact; the other facts are for its sums
unfoldable pub says_zone : List Term → Term → Bool
says_zone [] x = false
says_zone (fact ∷ facts) x = is_zone (range_of x) (option_and_then (zone_of facts) (either_where true fact))

-- ---- `within`

-- the same word
abbrev pub are_one_word : Term → Term → Bool
are_one_word x y = are_words x y && is_empty (difference x y)

-- `ult A L`, or not `ult A H`, with H = L + s, where the sum doesn't wrap: where neither is so A - L is below s
abbrev pub window_at : List Term → Either → ℕ → Option Range
window_at facts e s =
    if are_one_word e.first.left e.second.left && is_word_below facts e.first.right (2 ^ bits (width_of e.first.left) - s)
    then Some (difference_range e.first.left e.first.right s) else None

abbrev pub window_of : List Term → Either → Option Range
window_of facts e = option_and_then (window_at facts e) (constant_distance e.second.right e.first.right)

abbrev pub window_where : Bool → List Term → Term → Option Range
window_where holds facts x = option_and_then (window_of facts) (either_where holds x)

-- what x reads as
abbrev pub window_range : List Term → Term → Option Range
window_range facts x = else_range (option_map outside (window_where true facts x)) (window_where false facts x)

abbrev pub decided_by_window : List Term → Term → Term → Option Atom
decided_by_window facts fact x = option_and_then (decided_with (fact ∷ [])) (window_range facts x)

-- `within X F2 F`
unfoldable pub decided_within : List Term → Term → Option Atom
decided_within (fact ∷ []) x = decided_by_window [] fact x
decided_within (low ∷ fact ∷ []) x = decided_by_window (low ∷ []) fact x
decided_within facts x = None
