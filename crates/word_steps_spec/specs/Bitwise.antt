-- The rule `bits`: of each bit of a word, whether it is 0, 1, or a bit of some other word.
use Rattle.std.specs.Prelude.{ℕ, zero, suc, ◌+◌, ◌-◌, ◌*◌, ◌==◌, ◌&&◌, ◌||◌, nat_lt, Bool, true, false, if◌then◌else◌, List, [], ◌∷◌, Option, Some, None}
use Rattle.std.specs.Int.{bit_at}
use Rattle.term_core_spec.specs.declared.Atom.{Atom}
use Rattle.term_core_spec.specs.declared.Atom.TheVariants as atom
use Rattle.term_core_spec.specs.declared.UnaryOperator.{UnaryOperator}
use Rattle.term_core_spec.specs.declared.UnaryOperator.TheVariants as unary
use Rattle.term_core_spec.specs.declared.WordOperator.{WordOperator}
use Rattle.term_core_spec.specs.declared.WordOperator.TheVariants as word
use Rattle.term_core_spec.specs.declared.BinaryOperator.TheVariants as binary
use Rattle.term_core_spec.specs.declared.TernaryOperator.TheVariants as ternary
use Rattle.term_core_spec.specs.declared.QuaternaryOperator.TheVariants as quaternary
use Rattle.term_core_spec.specs.Term.{Term, Leaf, Unary, Binary, Ternary, Quaternary, Octonary, on_words}
use Rattle.term_core_spec.specs.Sort.{bits}
use Rattle.term_core_spec.specs.Same.{same_term}
use Rattle.term_core_spec.specs.Value.{Assignment, value}
use Rattle.term_norm_spec.specs.Patterns.{width_of, is_constant, number_of}
use Rattle.word_steps_spec.specs.Numbers.{same_sign}
use Rattle.word_steps_spec.specs.Polynomial.{number_of_value}
use Rattle.word_steps_spec.specs.Sides.{are_words, Sides, sides_of}

-- a bit that is known, or the bit of a word at a place, from 0 at the lowest
pub data Bit : Type 0 where
  Fixed : (is_one : Bool) → Bit
  Of : (word : Term) → (place : ℕ) → Bit

-- the bit at each place of a word; of places that a word doesn't have nothing is meant
abbrev pub Bits : Type 0
Bits = ℕ → Bit

abbrev pub bit_value : Assignment → Bit → ℕ
bit_value assignment (Fixed is_one) = if is_one then 1 else 0
bit_value assignment (Of t place) = bit_at (number_of_value (value assignment t)) place

abbrev pub same_bit : Bit → Bit → Bool
same_bit (Fixed a) (Fixed b) = same_sign a b
same_bit (Of t i) (Of u j) = i == j && same_term t u
same_bit p q = false

abbrev pub is_fixed : Bool → Bit → Bool
is_fixed b (Fixed a) = same_sign a b
is_fixed b (Of t place) = false

unfoldable pub all_below : ℕ → (ℕ → Bool) → Bool
all_below zero test = true
all_below (suc i) test = test i && all_below i test

-- ---- operators, place by place; `otherwise` is the bit of the operator itself

abbrev pub and_bit : Bit → Bit → (otherwise : Bit) → Bit
and_bit p q otherwise =
    if is_fixed false p || is_fixed false q then Fixed false
    else if is_fixed true p then q
    else if is_fixed true q then p
    else if same_bit p q then p else otherwise

abbrev pub or_bit : Bit → Bit → (otherwise : Bit) → Bit
or_bit p q otherwise =
    if is_fixed true p || is_fixed true q then Fixed true
    else if is_fixed false p then q
    else if is_fixed false q then p
    else if same_bit p q then p else otherwise

abbrev pub xor_bit : Bit → Bit → (otherwise : Bit) → Bit
xor_bit p q otherwise =
    if is_fixed false p then q
    else if is_fixed false q then p
    else if same_bit p q then Fixed false else otherwise

abbrev pub choose_bit : Bit → Bit → (otherwise : Bit) → Bit
choose_bit p q otherwise = if same_bit p q then p else otherwise

-- at each place one side is 0: then nothing is carried
abbrev pub are_apart : ℕ → Bits → Bits → Bool
are_apart count f g = all_below count (λ i. is_fixed false (f i) || is_fixed false (g i))

-- ---- bits at other places; a shift by the width or more leaves zeros, or signs

abbrev pub moved_up : ℕ → Bits → Bits
moved_up places f = λ i. if nat_lt i places then Fixed false else f (i - places)

abbrev pub moved_down : ℕ → ℕ → Bits → Bits
moved_down count places f = λ i. if nat_lt (places + i) count then f (places + i) else Fixed false

abbrev pub moved_with_sign : ℕ → ℕ → Bits → Bits
moved_with_sign count places f = λ i. if nat_lt (places + i) count then f (places + i) else f (count - 1)

-- the bits of bytes, the lowest first
unfoldable pub joined_bits : List Bits → Bits
joined_bits [] i = Fixed false
joined_bits (f ∷ rest) i = if nat_lt i 8 then f i else joined_bits rest (i - 8)

-- ---- terms

-- an operation on x and y, of the bits f and g
unfoldable pub bits_of_operation : WordOperator → (x y : Term) → Bits → Bits → Bits
bits_of_operation word.And x y f g i = and_bit (f i) (g i) (Of (on_words word.And x y) i)
bits_of_operation word.Or x y f g i = or_bit (f i) (g i) (Of (on_words word.Or x y) i)
bits_of_operation word.Xor x y f g i = xor_bit (f i) (g i) (Of (on_words word.Xor x y) i)
bits_of_operation word.Add x y f g i =
    if are_apart (bits (width_of x)) f g then or_bit (f i) (g i) (Of (on_words word.Add x y) i) else Of (on_words word.Add x y) i
bits_of_operation word.ShiftLeft x y f g i = if is_constant y then moved_up (number_of y) f i else Of (on_words word.ShiftLeft x y) i
bits_of_operation word.ShiftRight x y f g i =
    if is_constant y then moved_down (bits (width_of x)) (number_of y) f i else Of (on_words word.ShiftRight x y) i
bits_of_operation word.ShiftRightSigned x y f g i =
    if is_constant y then moved_with_sign (bits (width_of x)) (number_of y) f i else Of (on_words word.ShiftRightSigned x y) i
bits_of_operation operator x y f g i = Of (on_words operator x y) i

-- an operator on x, of the bits f
unfoldable pub bits_of_unary : UnaryOperator → Term → Bits → Bits
bits_of_unary (unary.ZeroExtend width) x f i = moved_down (bits (width_of x)) 0 f i
bits_of_unary (unary.SignExtend width) x f i = moved_with_sign (bits (width_of x)) 0 f i
bits_of_unary (unary.Low width) x f i = f i
bits_of_unary (unary.Byte place) x f i = f (8 * place + i)
bits_of_unary operator x f i = Of (Unary operator x) i

-- the bits of a word
unfoldable pub bits_of : Term → Bits
bits_of (Leaf (atom.Constant width n)) i = Fixed (bit_at n i == 1)
bits_of (Unary operator x) i = bits_of_unary operator x (bits_of x) i
bits_of (Binary (binary.Word operator) x y) i = bits_of_operation operator x y (bits_of x) (bits_of y) i
bits_of (Binary binary.Join a b) i = joined_bits (bits_of a ∷ bits_of b ∷ []) i
bits_of (Ternary ternary.Choose test x y) i = choose_bit (bits_of x i) (bits_of y i) (Of (Ternary ternary.Choose test x y) i)
bits_of (Quaternary quaternary.Join a b c d) i = joined_bits (bits_of a ∷ bits_of b ∷ bits_of c ∷ bits_of d ∷ []) i
bits_of (Octonary a b c d e f g h) i =
    joined_bits (bits_of a ∷ bits_of b ∷ bits_of c ∷ bits_of d ∷ bits_of e ∷ bits_of f ∷ bits_of g ∷ bits_of h ∷ []) i
bits_of t i = Of t i

-- ---- the tests

-- two words of one width, with the same bits
abbrev pub have_same_bits : Term → Term → Bool
have_same_bits x y = are_words x y && all_below (bits (width_of x)) (λ i. same_bit (bits_of x i) (bits_of y i))

-- two bits, in any order
pub record BitPair : Type 0 where
  pub first : Bit
  pub second : Bit

abbrev pub same_pair : BitPair → BitPair → Bool
same_pair p q = (same_bit p.first q.first && same_bit p.second q.second) || (same_bit p.first q.second && same_bit p.second q.first)

unfoldable pub is_among : BitPair → List BitPair → Bool
is_among p [] = false
is_among p (q ∷ rest) = same_pair p q || is_among p rest

unfoldable pub are_among : List BitPair → List BitPair → Bool
are_among [] qs = true
are_among (p ∷ rest) qs = is_among p qs && are_among rest qs

-- the bits at the places below `count` that are not the same
unfoldable pub unequal_pairs : ℕ → Bits → Bits → List BitPair
unequal_pairs zero f g = []
unequal_pairs (suc i) f g =
    if same_bit (f i) (g i) then unequal_pairs i f g else record { first = f i; second = g i } ∷ unequal_pairs i f g

abbrev pub pairs_of : Sides → List BitPair
pairs_of s = unequal_pairs (bits (width_of s.left)) (bits_of s.left) (bits_of s.right)

-- the same set of pairs
abbrev pub have_same_pairs : Sides → Sides → Bool
have_same_pairs s t = are_among (pairs_of s) (pairs_of t) && are_among (pairs_of t) (pairs_of s)

abbrev pub same_bits_by : Option Sides → Option Sides → Term → Term → Bool
same_bits_by (Some s) (Some t) x y = have_same_pairs s t
same_bits_by (Some s) None x y = false
same_bits_by None t x y = have_same_bits x y

-- `bits X Y`: two words with the same bits, or two `eq` of the same pairs
unfoldable pub same_by_bits : Term → Term → Bool
same_by_bits x y = same_bits_by (sides_of x) (sides_of y) x y

-- 0 and 1
abbrev pub are_opposite : BitPair → Bool
are_opposite p = (is_fixed false p.first && is_fixed true p.second) || (is_fixed true p.first && is_fixed false p.second)

unfoldable pub has_opposite : List BitPair → Bool
has_opposite [] = false
has_opposite (p ∷ rest) = are_opposite p || has_opposite rest

abbrev pub has_none : List BitPair → Bool
has_none [] = true
has_none (p ∷ rest) = false

abbrev pub decided_by_pairs : Option Sides → Option Atom
decided_by_pairs (Some s) =
    if has_none (pairs_of s) then Some (atom.Truth true) else if has_opposite (pairs_of s) then Some (atom.Truth false) else None
decided_by_pairs None = None

-- `bits X`: an `eq` of the same bits, or of a bit that is 0 on one side and 1 on the other
unfoldable pub decided_by_bits : Term → Option Atom
decided_by_bits x = decided_by_pairs (sides_of x)
