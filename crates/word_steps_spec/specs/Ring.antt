-- The rule `ring`: the polynomial of a word, by the operators of the ring of numbers modulo 2 ^ width.
use Rattle.std.specs.Prelude.{ℕ, ◌-◌, ◌*◌, ◌^◌, ◌==◌, ◌&&◌, ◌||◌, nat_lt, nat_le, Bool, true, false, if◌then◌else◌, length, Option, Some, None}
use Rattle.std.specs.Int.{bit_at}
use Rattle.term_core_spec.specs.declared.Width.TheVariants.{W8}
use Rattle.term_core_spec.specs.declared.Atom.{Atom}
use Rattle.term_core_spec.specs.declared.Atom.TheVariants as atom
use Rattle.term_core_spec.specs.declared.UnaryOperator.{UnaryOperator}
use Rattle.term_core_spec.specs.declared.UnaryOperator.TheVariants as unary
use Rattle.term_core_spec.specs.declared.WordOperator.{WordOperator}
use Rattle.term_core_spec.specs.declared.WordOperator.TheVariants as word
use Rattle.term_core_spec.specs.declared.BinaryOperator.TheVariants as binary
use Rattle.term_core_spec.specs.declared.TernaryOperator.TheVariants as ternary
use Rattle.term_core_spec.specs.Term.{Term, Leaf, Unary, Binary, Ternary, constant, choose, divide, on_words}
use Rattle.term_core_spec.specs.Sort.{bits}
use Rattle.term_core_spec.specs.Same.{same_term}
use Rattle.term_norm_spec.specs.Patterns.{width_of, is_constant, number_of}
use Rattle.word_steps_spec.specs.Numbers.{is_bool}
use Rattle.word_steps_spec.specs.Sides.{are_words, Sides, sides_of}
use Rattle.word_steps_spec.specs.Bitwise.{all_below, is_fixed, bits_of}
use Rattle.word_steps_spec.specs.Polynomial.{Polynomial, MONOMIALS, plus, minus, scaled, times, constant_polynomial, atom_polynomial, lowered, bounded, is_empty, is_only_constant}

-- the word whose top bit alone is set, at the width of a term
abbrev pub top_bit : Term → ℕ
top_bit x = 2 ^ (bits (width_of x) - 1)

abbrev pub is_top_bit : Term → Bool
is_top_bit x = same_term x (constant (width_of x) (top_bit x))

-- -x - 1
abbrev pub complement_polynomial : ℕ → Polynomial → Polynomial
complement_polynomial count p = plus count (scaled count (2 ^ count - 1) p) (constant_polynomial count (2 ^ count - 1))

-- a product of more than so many pairs of monomials is an atom
abbrev pub product_polynomial : ℕ → Term → Polynomial → Polynomial → Polynomial
product_polynomial count t p q = if nat_le (length p * length q) MONOMIALS then bounded t (times count p q) else atom_polynomial t

-- `shl x c` is 2 ^ c times x, where c is below the width
abbrev pub shifted_polynomial : ℕ → Term → Term → Polynomial → Polynomial
shifted_polynomial count t y p =
    if is_constant y && nat_lt (number_of y) count then bounded t (scaled count (2 ^ number_of y) p) else atom_polynomial t

-- choices and flipped bits of words below this width are atoms
abbrev pub CHOICE_WIDTH : ℕ
CHOICE_WIDTH = 16

-- n has a 1 at each place where x may have one
abbrev pub covers : ℕ → Term → Bool
covers n x = all_below (bits (width_of x)) (λ i. bit_at n i == 1 || is_fixed false (bits_of x i))

abbrev pub is_cover : ℕ → (y x : Term) → Bool
is_cover count y x = nat_le CHOICE_WIDTH count && (is_constant y && covers (number_of y) x)

-- to flip all bits that x may have, by the constant y, is y - x
abbrev pub inverted_polynomial : ℕ → Term → (x y : Term) → Polynomial → Polynomial → Polynomial
inverted_polynomial count t x y p q =
    if is_cover count y x then bounded t (minus count q p) else if is_cover count x y then bounded t (minus count p q) else atom_polynomial t

-- to flip the top bit is to add it
abbrev pub flipped_polynomial : ℕ → Term → (x y : Term) → Polynomial → Polynomial → Polynomial
flipped_polynomial count t x y p q =
    if is_top_bit y then bounded t (plus count (constant_polynomial count (top_bit y)) p)
    else if is_top_bit x then bounded t (plus count (constant_polynomial count (top_bit x)) q)
    else inverted_polynomial count t x y p q

-- `urem x y` is x - y `udiv x y`, also where y is 0
abbrev pub remainder_polynomial : ℕ → Term → (x y : Term) → Polynomial → Polynomial → Polynomial
remainder_polynomial count t x y p q = bounded t (minus count p (times count q (atom_polynomial (divide x y))))

-- an operation on x and y, of the polynomials p and q
unfoldable pub polynomial_of_operation : WordOperator → (x y : Term) → Polynomial → Polynomial → Polynomial
polynomial_of_operation word.Add x y p q = bounded (on_words word.Add x y) (plus (bits (width_of x)) p q)
polynomial_of_operation word.Subtract x y p q = bounded (on_words word.Subtract x y) (minus (bits (width_of x)) p q)
polynomial_of_operation word.Multiply x y p q = product_polynomial (bits (width_of x)) (on_words word.Multiply x y) p q
polynomial_of_operation word.ShiftLeft x y p q = shifted_polynomial (bits (width_of x)) (on_words word.ShiftLeft x y) y p
polynomial_of_operation word.Xor x y p q = flipped_polynomial (bits (width_of x)) (on_words word.Xor x y) x y p q
polynomial_of_operation word.Remainder x y p q = remainder_polynomial (bits (width_of x)) (on_words word.Remainder x y) x y p q
polynomial_of_operation operator x y p q = atom_polynomial (on_words operator x y)

-- an operator on x, of the polynomial p
unfoldable pub polynomial_of_unary : UnaryOperator → Term → Polynomial → Polynomial
polynomial_of_unary unary.Complement x p = bounded (Unary unary.Complement x) (complement_polynomial (bits (width_of x)) p)
polynomial_of_unary (unary.Low width) x p = bounded (Unary (unary.Low width) x) (lowered width p)
polynomial_of_unary (unary.Byte place) x p =
    if place == 0 then bounded (Unary (unary.Byte place) x) (lowered W8 p) else atom_polynomial (Unary (unary.Byte place) x)
polynomial_of_unary operator x p = atom_polynomial (Unary operator x)

-- ---- choices

-- a product of more than so many pairs of monomials in a condition is an atom
abbrev pub CONDITION_PAIRS : ℕ
CONDITION_PAIRS = 8

abbrev pub are_few_pairs : Polynomial → Polynomial → Bool
are_few_pairs p q = nat_le (length p * length q) CONDITION_PAIRS

-- the polynomial of a truth value: 1 where it holds, else 0
unfoldable pub condition : ℕ → Term → Polynomial
condition count (Leaf (atom.Truth b)) = constant_polynomial count (if b then 1 else 0)
condition count (Unary unary.Not x) = bounded (Unary unary.Not x) (minus count (constant_polynomial count 1) (condition count x))
condition count (Binary binary.And x y) =
    if are_few_pairs (condition count x) (condition count y)
    then bounded (Binary binary.And x y) (times count (condition count x) (condition count y)) else atom_polynomial (Binary binary.And x y)
condition count (Binary binary.Or x y) =
    if are_few_pairs (condition count x) (condition count y)
    then bounded (Binary binary.Or x y)
    (minus count (plus count (condition count x) (condition count y)) (times count (condition count x) (condition count y)))
    else atom_polynomial (Binary binary.Or x y)
condition count (Binary binary.Equal x y) =
    if is_bool x && are_few_pairs (condition count x) (condition count y)
    then bounded (Binary binary.Equal x y)
    (minus count (plus count (constant_polynomial count 1) (scaled count 2 (times count (condition count x) (condition count y))))
    (plus count (condition count x) (condition count y)))
    else atom_polynomial (Binary binary.Equal x y)
condition count t = atom_polynomial t

-- an `ite` of words of the polynomials p and q, by a condition of the polynomial r: q + r (p - q)
abbrev pub choice_polynomial : ℕ → Term → (r p q : Polynomial) → Polynomial
choice_polynomial count t r p q =
    if nat_le CHOICE_WIDTH count && nat_le (length r * length (minus count p q)) MONOMIALS
    then bounded t (plus count q (times count r (minus count p q))) else atom_polynomial t

-- the polynomial of a word
unfoldable pub polynomial : Term → Polynomial
polynomial (Leaf (atom.Constant width n)) = constant_polynomial (bits width) n
polynomial (Unary operator x) = polynomial_of_unary operator x (polynomial x)
polynomial (Binary (binary.Word operator) x y) = polynomial_of_operation operator x y (polynomial x) (polynomial y)
polynomial (Ternary ternary.Choose test x y) =
    choice_polynomial (bits (width_of x)) (choose test x y) (condition (bits (width_of x)) test) (polynomial x) (polynomial y)
polynomial t = atom_polynomial t

-- ---- the tests

-- the difference of two words
abbrev pub difference : Term → Term → Polynomial
difference x y = minus (bits (width_of x)) (polynomial x) (polynomial y)

-- at one width, the differences are equal or opposite
abbrev pub have_one_difference : Sides → Sides → Bool
have_one_difference s t =
    are_words s.left t.left
    && (is_empty (minus (bits (width_of s.left)) (difference s.left s.right) (difference t.left t.right))
    || is_empty (plus (bits (width_of s.left)) (difference s.left s.right) (difference t.left t.right)))

abbrev pub one_polynomial_by : Option Sides → Option Sides → Term → Term → Bool
one_polynomial_by (Some s) (Some t) x y = have_one_difference s t
one_polynomial_by (Some s) None x y = false
one_polynomial_by None t x y = are_words x y && is_empty (difference x y)

-- `ring X Y`: two words of one polynomial, or two `eq` of one difference
unfoldable pub one_polynomial : Term → Term → Bool
one_polynomial x y = one_polynomial_by (sides_of x) (sides_of y) x y

abbrev pub decided_by_difference : ℕ → Polynomial → Option Atom
decided_by_difference count p =
    if is_empty p then Some (atom.Truth true) else if is_only_constant count p then Some (atom.Truth false) else None

abbrev pub decided_by_sides : Option Sides → Option Atom
decided_by_sides (Some s) = decided_by_difference (bits (width_of s.left)) (difference s.left s.right)
decided_by_sides None = None

-- `ring X`: an `eq` whose difference is a constant
unfoldable pub decided_by_polynomials : Term → Option Atom
decided_by_polynomials x = decided_by_sides (sides_of x)
