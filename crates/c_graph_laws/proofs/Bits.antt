-- Values of types, and their bits.
use Rattle.std.proofs.Common.{◌≡◌, inl, inr, ℕ, ◌+◌, ◌-◌, ◌^◌, ◌<◌, ◌≤◌, true, false, refl, sym, ap, arith, ℤ, pos, negsuc, ◌-ℤ◌, eqb-true, eq-eqb}
use Rattle.std.specs.Prelude.{nat_lt, IsTrue, if◌then◌else◌}
use Rattle.std.proofs.lemmas.Bool.{lt-ltb, le-ltb, le-leb, lt-leb, cases_lt}
use Rattle.std.proofs.lemmas.Int.{ints}
use Rattle.std.proofs.lemmas.Nat.{pow_pos, mod_below}
use Rattle.std.proofs.Math.Nat.{mod-eq_of_lt}
use Rattle.term_core_spec.specs.Value.{low_bits, ones_if, is_negative}
use Rattle.c_types_spec.specs.declared.Scalar.{Scalar}
use Rattle.c_types_spec.specs.Values.{same_value, bits_of, of_bits, converted, is_of}
use Rattle.c_graph_laws.proofs.Extents.{scalar, IsPlain, byte, half, full}

-- ---- numbers that are the same

pub same_value-true : (a b : ℤ) → same_value a b ≡ true → a ≡ b
same_value-true (pos a) (pos b) e = ap pos (eqb-true a b e)
same_value-true (negsuc a) (negsuc b) e = ap negsuc (eqb-true a b e)
same_value-true (pos a) (negsuc b) e = absurd (cc)
same_value-true (negsuc a) (pos b) e = absurd (cc)

pub same_value-same : (a : ℤ) → same_value a a ≡ true
same_value-same (pos a) = eq-eqb a a refl
same_value-same (negsuc a) = eq-eqb a a refl

-- ---- bits

pub bits_below : (width : ℕ) (v : ℤ) → bits_of width v < 2 ^ width
bits_below width (pos n) = mod_below n (2 ^ width) (pow_pos width)
bits_below width (negsuc n) = omega (arith, pow_pos width)

-- a value of the type is that of its bits
pub value_back : (t : Scalar) (v : ℤ) → IsTrue (is_of t v) → v ≡ of_bits t (bits_of t.width v)
unfolding converted
value_back t v h = sym (same_value-true (converted t v) v h)

-- the signed value below half, and from half on
less_than : (n m : ℕ) → n < m → pos n -ℤ pos m ≡ negsuc (m - 1 - n)
less_than n m h = omega (arith, ints)

pub unsigned_is : (width n : ℕ) → of_bits (scalar width false) n ≡ pos n
unsigned_is width n = refl

pub low_is : (width n : ℕ) → n < 2 ^ (width - 1) → of_bits (scalar width true) n ≡ pos n
low_is width n low = rw (lt-ltb n (2 ^ (width - 1)) low) refl

pub high_is : (width n : ℕ) → 2 ^ (width - 1) ≤ n → n < 2 ^ width → of_bits (scalar width true) n ≡ negsuc (2 ^ width - 1 - n)
high_is width n high below = rw (le-ltb n (2 ^ (width - 1)) high) (less_than n (2 ^ width) below)

-- ---- conversions

-- the word of a value at another width
abbrev pub resized : (source type : Scalar) → ℕ → ℕ
resized source type n =
    if nat_lt source.width type.width
    then (if source.is_signed then low_bits type.width (n + ones_if (is_negative source.width n) source.width type.width) else n)
    else if nat_lt type.width source.width then low_bits type.width n
    else n

to_byte : (t : Scalar) → IsPlain t → (n : ℕ) → n < 2 ^ t.width → bits_of 8 (of_bits t n) ≡ resized t (scalar 8 true) n
to_byte _ (byte false) n below = mod-eq_of_lt below
to_byte _ (half false) n below = refl
to_byte _ (full false) n below = refl
to_byte _ (byte true) n below = elim (cases_lt n (2 ^ 7)) [ inl low ↦ rw (low_is 8 n low) (mod-eq_of_lt below) | inr high ↦ rw (high_is 8 n high below) (omega arith) ]
to_byte _ (half true) n below = elim (cases_lt n (2 ^ 15)) [ inl low ↦ rw (low_is 16 n low) refl | inr high ↦ rw (high_is 16 n high below) (omega arith) ]
to_byte _ (full true) n below = elim (cases_lt n (2 ^ 31)) [ inl low ↦ rw (low_is 32 n low) refl | inr high ↦ rw (high_is 32 n high below) (omega arith) ]

to_half : (t : Scalar) → IsPlain t → (n : ℕ) → n < 2 ^ t.width → bits_of 16 (of_bits t n) ≡ resized t (scalar 16 true) n
to_half _ (byte false) n below = omega arith
to_half _ (half false) n below = mod-eq_of_lt below
to_half _ (full false) n below = refl
to_half _ (byte true) n below = elim (cases_lt n (2 ^ 7)) [
  | inl low ↦ rw (low_is 8 n low, lt-leb (2 ^ 7) n low) (omega arith)
  | inr high ↦ rw (high_is 8 n high below, le-leb (2 ^ 7) n high) (omega arith)
]
to_half _ (half true) n below = elim (cases_lt n (2 ^ 15)) [ inl low ↦ rw (low_is 16 n low) (mod-eq_of_lt below) | inr high ↦ rw (high_is 16 n high below) (omega arith) ]
to_half _ (full true) n below = elim (cases_lt n (2 ^ 31)) [ inl low ↦ rw (low_is 32 n low) refl | inr high ↦ rw (high_is 32 n high below) (omega arith) ]

to_full : (t : Scalar) → IsPlain t → (n : ℕ) → n < 2 ^ t.width → bits_of 32 (of_bits t n) ≡ resized t (scalar 32 true) n
to_full _ (byte false) n below = omega arith
to_full _ (half false) n below = omega arith
to_full _ (full false) n below = mod-eq_of_lt below
to_full _ (byte true) n below = elim (cases_lt n (2 ^ 7)) [
  | inl low ↦ rw (low_is 8 n low, lt-leb (2 ^ 7) n low) (omega arith)
  | inr high ↦ rw (high_is 8 n high below, le-leb (2 ^ 7) n high) (omega arith)
]
to_full _ (half true) n below = elim (cases_lt n (2 ^ 15)) [
  | inl low ↦ rw (low_is 16 n low, lt-leb (2 ^ 15) n low) (omega arith)
  | inr high ↦ rw (high_is 16 n high below, le-leb (2 ^ 15) n high) (omega arith)
]
to_full _ (full true) n below = elim (cases_lt n (2 ^ 31)) [ inl low ↦ rw (low_is 32 n low) (mod-eq_of_lt below) | inr high ↦ rw (high_is 32 n high below) (omega arith) ]

-- the bits of a value at another width
pub bits_resized : (s t : Scalar) → IsPlain s → IsPlain t → (n : ℕ) → n < 2 ^ s.width → bits_of t.width (of_bits s n) ≡ resized s t n
bits_resized s _ ps (byte sign) n below = to_byte s ps n below
bits_resized s _ ps (half sign) n below = to_half s ps n below
bits_resized s _ ps (full sign) n below = to_full s ps n below

-- a value has the bits that it is read from
pub bits_back : (t : Scalar) → IsPlain t → (n : ℕ) → n < 2 ^ t.width → bits_of t.width (of_bits t n) ≡ n
bits_back _ (byte sign) n below = bits_resized (scalar 8 sign) (scalar 8 sign) (byte sign) (byte sign) n below
bits_back _ (half sign) n below = bits_resized (scalar 16 sign) (scalar 16 sign) (half sign) (half sign) n below
bits_back _ (full sign) n below = bits_resized (scalar 32 sign) (scalar 32 sign) (full sign) (full sign) n below
