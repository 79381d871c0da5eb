-- The rule `low`: the low bits of a sum, by the bits of its atoms and by facts that say which low bits a word has.
use Rattle.std.specs.Prelude.{ℕ, zero, suc, ◌+◌, ◌-◌, ◌*◌, ◌/◌, ◌%◌, ◌^◌, ◌==◌, ◌&&◌, not, nat_le, min, Bool, true, false, if◌then◌else◌, List, [], ◌∷◌, Option, Some, None}
use Rattle.term_core_spec.specs.declared.Atom.{Atom}
use Rattle.term_core_spec.specs.declared.Atom.TheVariants as atom
use Rattle.term_core_spec.specs.declared.WordOperator.TheVariants as word
use Rattle.term_core_spec.specs.declared.BinaryOperator.TheVariants as binary
use Rattle.term_core_spec.specs.Term.{Term, Binary}
use Rattle.term_core_spec.specs.Sort.{bits}
use Rattle.term_norm_spec.specs.Patterns.{width_of, is_constant, number_of}
use Rattle.word_steps_spec.specs.Numbers.{is_bool}
use Rattle.word_steps_spec.specs.Polynomial.{Summand, Polynomial, minus, has_no_atom, is_empty}
use Rattle.word_steps_spec.specs.Sides.{are_words, Sides, sides_of}
use Rattle.word_steps_spec.specs.Bitwise.{Bit, Fixed, Of, Bits, bits_of}
use Rattle.word_steps_spec.specs.Ring.{polynomial, difference}

-- ---- the form of a polynomial: all but its constant

unfoldable pub form_of : Polynomial → Polynomial
form_of [] = []
form_of (s ∷ p) = if has_no_atom s.atoms then form_of p else s ∷ form_of p

unfoldable pub constant_of : Polynomial → ℕ
constant_of [] = 0
constant_of (s ∷ p) = (if has_no_atom s.atoms then s.coefficient else 0) + constant_of p

abbrev pub is_one_form : ℕ → Polynomial → Polynomial → Bool
is_one_form count p q = is_empty (minus count p q)

-- ---- low bits

-- the lowest `count` bits are those of `rest`
pub record LowBits : Type 0 where
  pub count : ℕ
  pub rest : ℕ

abbrev pub known : ℕ → ℕ → LowBits
known count n = record { count = count; rest = n % 2 ^ count }

abbrev pub nothing_known : LowBits
nothing_known = record { count = 0; rest = 0 }

abbrev pub longer : LowBits → LowBits → LowBits
longer a b = if nat_le b.count a.count then a else b

abbrev pub sum_known : LowBits → LowBits → LowBits
sum_known a b = known (min a.count b.count) (a.rest + b.rest)

-- ---- of bits

abbrev pub with_bit : Bit → LowBits → LowBits
with_bit (Fixed is_one) above = record { count = suc above.count; rest = (if is_one then 1 else 0) + 2 * above.rest }
with_bit (Of t place) above = nothing_known

-- the bits that are known without a gap, from the lowest, below `count`
unfoldable pub known_bits : ℕ → Bits → LowBits
known_bits zero f = nothing_known
known_bits (suc k) f = with_bit (f 0) (known_bits k (λ i. f (suc i)))

-- ---- of products

-- how often 2 divides n, up to `count`
unfoldable pub zeros : ℕ → ℕ → ℕ
zeros zero n = 0
zeros (suc k) n = if n % 2 == 0 then suc (zeros k (n / 2)) else 0

abbrev pub product_known : ℕ → ℕ → LowBits → LowBits
product_known count c a = known (a.count + zeros count c) (c * a.rest)

-- ---- facts

-- low bits of a form
pub record KnownForm : Type 0 where
  pub form : Polynomial
  pub low : LowBits

-- the length m of a mask 2 ^ m - 1, up to `count`; 0 for what is none
unfoldable pub mask_length : ℕ → ℕ → ℕ
mask_length zero n = 0
mask_length (suc k) n = if n == 2 ^ suc k - 1 then suc k else mask_length k n

-- a word under a constant mask
pub record Masked : Type 0 where
  pub word : Term
  pub mask : ℕ

unfoldable pub masked_of : Term → Option Masked
masked_of (Binary (binary.Word word.And) g m) = if is_constant m then Some (record { word = g; mask = number_of m }) else None
masked_of t = None

-- of the word F + a the low bits are those of n; of the form F they are those of n - a
abbrev pub known_form : ℕ → Polynomial → ℕ → KnownForm
known_form length p n = record { form = form_of p; low = known length (n + (2 ^ length - constant_of p % 2 ^ length)) }

abbrev pub known_by_mask : Term → Sides → Option Masked → Option KnownForm
known_by_mask x s (Some m) =
    if are_words x s.left && is_constant s.right
    then Some (known_form (mask_length (bits (width_of x)) m.mask) (polynomial m.word) (number_of s.right)) else None
known_by_mask x s None = None

abbrev pub known_by_sides : Term → Option Sides → Option KnownForm
known_by_sides x (Some s) = known_by_mask x s (masked_of s.left)
known_by_sides x None = None

-- the fact `eq (band G 2^m-1) c`, where G has the width of x
abbrev pub known_by : Term → Term → Option KnownForm
known_by x fact = known_by_sides x (sides_of fact)

abbrev pub with_form : Option KnownForm → List KnownForm → List KnownForm
with_form (Some k) rest = k ∷ rest
with_form None rest = rest

unfoldable pub known_forms : Term → List Term → List KnownForm
known_forms x [] = []
known_forms x (fact ∷ facts) = with_form (known_by x fact) (known_forms x facts)

-- what is known of a form by itself
unfoldable pub from_facts : ℕ → List KnownForm → Polynomial → LowBits
from_facts count [] p = nothing_known
from_facts count (k ∷ rest) p = if is_one_form count k.form p then longer k.low (from_facts count rest p) else from_facts count rest p

-- ---- of a form and of a word

abbrev pub bits_of_atom : Term → LowBits
bits_of_atom t = if are_words t t then known_bits (bits (width_of t)) (bits_of t) else nothing_known

abbrev pub bits_of_atoms : List Term → LowBits
bits_of_atoms (t ∷ []) = bits_of_atom t
bits_of_atoms ts = nothing_known

abbrev pub monomial : List Term → Polynomial
monomial atoms = record { coefficient = 1; atoms = atoms } ∷ []

abbrev pub low_of_summand : ℕ → List KnownForm → Summand → LowBits
low_of_summand count forms s =
    product_known count s.coefficient (longer (bits_of_atoms s.atoms) (from_facts count forms (monomial s.atoms)))

unfoldable pub low_of_summands : ℕ → List KnownForm → Polynomial → LowBits
low_of_summands count forms [] = record { count = count; rest = 0 }
low_of_summands count forms (s ∷ p) = sum_known (low_of_summand count forms s) (low_of_summands count forms p)

-- by its summands, or by a fact of the whole form
abbrev pub low_of_form : ℕ → List KnownForm → Polynomial → LowBits
low_of_form count forms p = longer (low_of_summands count forms p) (from_facts count forms p)

-- the low bits of a word of the polynomial p
abbrev pub low_of : ℕ → List KnownForm → Polynomial → LowBits
low_of count forms p = sum_known (low_of_form count forms (form_of p)) (record { count = count; rest = constant_of p })

abbrev pub has_low_bit : LowBits → Bool
has_low_bit a = not (a.rest == 0)

abbrev pub decided_by_low_of : List Term → Option Sides → Option Atom
decided_by_low_of facts (Some s) =
    if has_low_bit (low_of (bits (width_of s.left)) (known_forms s.left facts) (difference s.left s.right)) then Some (atom.Truth false) else None
decided_by_low_of facts None = None

-- `low X F ..`: an `eq` of words whose difference has a low bit that is 1
unfoldable pub decided_by_low : List Term → Term → Option Atom
decided_by_low facts x = decided_by_low_of facts (sides_of x)
