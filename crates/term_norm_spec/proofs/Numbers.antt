-- What operations on words give at 0, at all bits set, at equal words and at complements.
use Rattle.std.proofs.Common.{◌≡◌, ℕ, ◌+◌, ◌-◌, ◌*◌, ◌%◌, ◌^◌, ◌<◌, sym, ap, ◌∙◌, arith}
use Rattle.std.specs.Prelude.{bit_and, bit_or, bit_xor}
use Rattle.std.specs.Int.{bit_at}
use Rattle.std.specs.Int.{w8, w16, w32, w64}
use Rattle.std.specs.Int.Bits.{and_self, and_zero_l, and_zero_r, or_self, or_zero_l, or_zero_r, xor_self, xor_zero_l, xor_zero_r, or_add_and}
use Rattle.std.proofs.lemmas.Nat.{and_le_l, and_comm, or_comm, and_mask, or_disjoint, pow_pos, mod-mul-add}
use Rattle.std.proofs.lemmas.Nat.Bits.{bit_at_and, bit_at-zero, bit_at-lt, bit_at_not, same_from_bits_below}
use Rattle.term_core_spec.specs.declared.Width.{Width}
use Rattle.term_core_spec.specs.declared.Width.TheVariants.{W8, W16, W32, W64}
use Rattle.term_core_spec.specs.Sort.{bits}

pub mod-small : (a n : ℕ) → a < n → a % n ≡ a
mod-small a n below =
    let none : a ≡ 0 * n + a = omega arith in
    ap (λ m. m % n) none ∙ mod-mul-add 0 n a below

complement_bit : (w : Width) (a i : ℕ) → a < 2 ^ bits w → i < bits w → bit_at (2 ^ bits w - 1 - a) i ≡ 1 - bit_at a i
complement_bit W8 a i below within = bit_at_not w8 a i below within
complement_bit W16 a i below within = bit_at_not w16 a i below within
complement_bit W32 a i below within = bit_at_not w32 a i below within
complement_bit W64 a i below within = bit_at_not w64 a i below within

pub and-complement : (w : Width) (a : ℕ) → a < 2 ^ bits w → bit_and a (2 ^ bits w - 1 - a) ≡ 0
and-complement w a below =
    same_from_bits_below (bits w) (bit_and a (2 ^ bits w - 1 - a)) 0 (omega (arith, and_le_l a (2 ^ bits w - 1 - a))) (pow_pos (bits w))
    (λ i within. omega (arith, bit_at_and a (2 ^ bits w - 1 - a) i, complement_bit w a i below within, bit_at-lt a i, bit_at-zero i))

pub or-complement : (w : Width) (a : ℕ) → a < 2 ^ bits w → bit_or a (2 ^ bits w - 1 - a) ≡ 2 ^ bits w - 1
or-complement w a below = or_disjoint a (2 ^ bits w - 1 - a) (and-complement w a below) ∙ omega arith

pub and-full_right : (count a : ℕ) → a < 2 ^ count → bit_and a (2 ^ count - 1) ≡ a
and-full_right count a below = and_mask a count ∙ mod-small a (2 ^ count) below

pub and-full_left : (count a : ℕ) → a < 2 ^ count → bit_and (2 ^ count - 1) a ≡ a
and-full_left count a below = and_comm (2 ^ count - 1) a ∙ and-full_right count a below

pub or-full_left : (count a : ℕ) → a < 2 ^ count → bit_or (2 ^ count - 1) a ≡ 2 ^ count - 1
or-full_left count a below = omega (arith, or_add_and (2 ^ count - 1) a, and-full_left count a below)

pub or-full_right : (count a : ℕ) → a < 2 ^ count → bit_or a (2 ^ count - 1) ≡ 2 ^ count - 1
or-full_right count a below = omega (arith, or_add_and a (2 ^ count - 1), and-full_right count a below)

-- ---- at a known word

pub and-zero_left : (a b : ℕ) → a ≡ 0 → bit_and a b ≡ a
and-zero_left a b e = rw e (and_zero_l b)

pub and-zero_right : (a b : ℕ) → b ≡ 0 → bit_and a b ≡ b
and-zero_right a b e = rw e (and_zero_r a)

pub and-ones_left : (count a b : ℕ) → a ≡ 2 ^ count - 1 → b < 2 ^ count → bit_and a b ≡ b
and-ones_left count a b e below = rw e (and-full_left count b below)

pub and-ones_right : (count a b : ℕ) → b ≡ 2 ^ count - 1 → a < 2 ^ count → bit_and a b ≡ a
and-ones_right count a b e below = rw e (and-full_right count a below)

pub and-equal : (a b : ℕ) → a ≡ b → bit_and a b ≡ a
and-equal a b e = rw (sym e) (and_self a)

pub and-inverse_right : (w : Width) (a b : ℕ) → b ≡ 2 ^ bits w - 1 - a → a < 2 ^ bits w → bit_and a b ≡ 0
and-inverse_right w a b e below = rw e (and-complement w a below)

pub and-inverse_left : (w : Width) (a b : ℕ) → a ≡ 2 ^ bits w - 1 - b → b < 2 ^ bits w → bit_and a b ≡ 0
and-inverse_left w a b e below = rw e (and_comm (2 ^ bits w - 1 - b) b ∙ and-complement w b below)

pub or-zero_left : (a b : ℕ) → a ≡ 0 → bit_or a b ≡ b
or-zero_left a b e = rw e (or_zero_l b)

pub or-zero_right : (a b : ℕ) → b ≡ 0 → bit_or a b ≡ a
or-zero_right a b e = rw e (or_zero_r a)

pub or-ones_left : (count a b : ℕ) → a ≡ 2 ^ count - 1 → b < 2 ^ count → bit_or a b ≡ a
or-ones_left count a b e below = rw e (or-full_left count b below)

pub or-ones_right : (count a b : ℕ) → b ≡ 2 ^ count - 1 → a < 2 ^ count → bit_or a b ≡ b
or-ones_right count a b e below = rw e (or-full_right count a below)

pub or-equal : (a b : ℕ) → a ≡ b → bit_or a b ≡ a
or-equal a b e = rw (sym e) (or_self a)

pub or-inverse_right : (w : Width) (a b : ℕ) → b ≡ 2 ^ bits w - 1 - a → a < 2 ^ bits w → bit_or a b ≡ 2 ^ bits w - 1
or-inverse_right w a b e below = rw e (or-complement w a below)

pub or-inverse_left : (w : Width) (a b : ℕ) → a ≡ 2 ^ bits w - 1 - b → b < 2 ^ bits w → bit_or a b ≡ 2 ^ bits w - 1
or-inverse_left w a b e below = rw e (or_comm (2 ^ bits w - 1 - b) b ∙ or-complement w b below)

pub xor-equal : (a b : ℕ) → a ≡ b → bit_xor a b ≡ 0
xor-equal a b e = rw (sym e) (xor_self a)

pub xor-zero_left : (a b : ℕ) → a ≡ 0 → bit_xor a b ≡ b
xor-zero_left a b e = rw e (xor_zero_l b)

pub xor-zero_right : (a b : ℕ) → b ≡ 0 → bit_xor a b ≡ a
xor-zero_right a b e = rw e (xor_zero_r a)

-- ---- sums and differences modulo 2 ^ width

pub sum_again : (w : Width) (b c d : ℕ) → ((b + c) % 2 ^ bits w + d) % 2 ^ bits w ≡ (b + (c + d) % 2 ^ bits w) % 2 ^ bits w
sum_again W8 b c d = omega arith
sum_again W16 b c d = omega arith
sum_again W32 b c d = omega arith
sum_again W64 b c d = omega arith

pub sum_of_small : (w : Width) (b c : ℕ) → (b + c % 2 ^ bits w) % 2 ^ bits w ≡ (b + c) % 2 ^ bits w
sum_of_small W8 b c = omega arith
sum_of_small W16 b c = omega arith
sum_of_small W32 b c = omega arith
sum_of_small W64 b c = omega arith

pub difference_of_equal : (w : Width) (a b : ℕ) → a ≡ b → a < 2 ^ bits w → (a + (2 ^ bits w - b % 2 ^ bits w)) % 2 ^ bits w ≡ 0
difference_of_equal W8 a b e below = omega arith
difference_of_equal W16 a b e below = omega arith
difference_of_equal W32 a b e below = omega arith
difference_of_equal W64 a b e below = omega arith

pub apart_with_offsets : (w : Width) (v c d : ℕ) → c < 2 ^ bits w → d < 2 ^ bits w → (v + c) % 2 ^ bits w ≡ (v + d) % 2 ^ bits w → c ≡ d
apart_with_offsets W8 v c d below_c below_d e = omega arith
apart_with_offsets W16 v c d below_c below_d e = omega arith
apart_with_offsets W32 v c d below_c below_d e = omega arith
apart_with_offsets W64 v c d below_c below_d e = omega arith
