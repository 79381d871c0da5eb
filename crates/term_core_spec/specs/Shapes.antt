-- Terms for what has no operator of its own: signed comparison and division, high products, and loads and stores
-- of several bytes.
use Rattle.std.specs.Prelude.{ℕ, ◌-◌, ◌^◌}
use Rattle.term_core_spec.specs.declared.Width.{Width}
use Rattle.term_core_spec.specs.declared.Width.TheVariants.{W32, W64}
use Rattle.term_core_spec.specs.Term.{Term, constant, not_term, and_term, equal, less, add, subtract, multiply, bit_xor, divide, remainder, zero_extend, sign_extend, byte, join_two, join_four, choose, load, store}
use Rattle.term_core_spec.specs.Sort.{bits}

-- the word whose top bit alone is set
abbrev pub sign_bit : Width → Term
sign_bit width = constant width (2 ^ (bits width - 1))

-- signed less: unsigned less with both top bits flipped
abbrev pub signed_less : Width → Term → Term → Term
signed_less width x y = less (bit_xor x (sign_bit width)) (bit_xor y (sign_bit width))

-- the top bit of a word of 32 bits is clear
abbrev pub is_positive : Term → Term
is_positive x = less x (sign_bit W32)

abbrev pub negated : Term → Term
negated x = subtract (constant W32 0) x

abbrev pub magnitude : Term → Term
magnitude x = choose (is_positive x) x (negated x)

-- the quotient of the magnitudes, negated where the signs differ and the divisor is not 0
abbrev pub signed_quotient : Term → Term → Term
signed_quotient x y =
    choose (and_term (not_term (equal (is_positive x) (is_positive y))) (not_term (equal y (constant W32 0))))
    (negated (divide (magnitude x) (magnitude y))) (divide (magnitude x) (magnitude y))

-- the remainder of the magnitudes, negated where the dividend is negative
abbrev pub signed_remainder : Term → Term → Term
signed_remainder x y = choose (is_positive x) (remainder (magnitude x) (magnitude y)) (negated (remainder (magnitude x) (magnitude y)))

-- bytes 4 to 7 of a word of 64 bits
abbrev pub high_half : Term → Term
high_half x = join_four (byte 4 x) (byte 5 x) (byte 6 x) (byte 7 x)

-- the high words of the products of two words of 32 bits: both unsigned, both signed, the first alone signed
abbrev pub high_product : Term → Term → Term
high_product x y = high_half (multiply (zero_extend W64 x) (zero_extend W64 y))

abbrev pub high_product_signed : Term → Term → Term
high_product_signed x y = high_half (multiply (sign_extend W64 x) (sign_extend W64 y))

abbrev pub high_product_signed_unsigned : Term → Term → Term
high_product_signed_unsigned x y = high_half (multiply (sign_extend W64 x) (zero_extend W64 y))

-- the address `count` bytes past a, where the count is not 0
abbrev pub past : Term → ℕ → Term
past a count = add a (constant W32 count)

-- the bytes at a, a + 1 and so on, the lowest first
abbrev pub load_half : Term → Term → Term
load_half m a = join_two (load m a) (load m (past a 1))

abbrev pub load_word : Term → Term → Term
load_word m a = join_four (load m a) (load m (past a 1)) (load m (past a 2)) (load m (past a 3))

-- byte 0 of the word at a, byte 1 at a + 1 and so on; the first is written first
abbrev pub store_byte : Term → Term → Term → Term
store_byte m a x = store m a (byte 0 x)

abbrev pub store_half : Term → Term → Term → Term
store_half m a x = store (store_byte m a x) (past a 1) (byte 1 x)

abbrev pub store_word : Term → Term → Term → Term
store_word m a x = store (store (store_half m a x) (past a 2) (byte 2 x)) (past a 3) (byte 3 x)
