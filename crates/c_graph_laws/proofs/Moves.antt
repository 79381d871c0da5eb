-- Comparisons, moved pointers, indices and alignments: the values of their terms.
use Rattle.std.proofs.Common.{◌≡◌, ◌∙◌, inl, inr, ℕ, zero, suc, ◌+◌, ◌-◌, ◌*◌, ◌%◌, ◌^◌, ◌<◌, ◌≤◌, ◌==◌, Bool, true, false, not, refl, sym, ap, subst, arith, ℤ, pos, negsuc, ◌+ℤ◌, ◌-ℤ◌, ◌*ℤ◌, neg_ℤ, Option, Some, None, eq-eqb, ne_eqb, eqb-true}
use Rattle.std.specs.Prelude.{◌&&◌, nat_lt, int_lt, bit_and, bit_xor, if◌then◌else◌}
use Rattle.std.proofs.lemmas.Bool.{lt-ltb, le-ltb, lt-leb, le-leb, cases_lt}
use Rattle.std.proofs.lemmas.Nat.{and_mask, mul-le}
use Rattle.std.proofs.Math.Nat.{add-mul}
use Rattle.term_core_spec.specs.declared.Width.{Width}
use Rattle.term_core_spec.specs.declared.Width.TheVariants.{W8, W16, W32, W64}
use Rattle.term_core_spec.specs.declared.WordOperator.TheVariants as word_op
use Rattle.term_core_spec.specs.Term.{Term, constant, not_term, equal, less, zero_extend, bit_and as and_words, bit_xor as xor_term}
use Rattle.term_core_spec.specs.Shapes.{sign_bit}
use Rattle.term_core_spec.specs.Sort.{bits}
use Rattle.term_core_spec.specs.Value.{Truth, Number, Assignment, value, operation, low_bits}
use Rattle.c_types_spec.specs.declared.Scalar.{Scalar}
use Rattle.c_types_spec.specs.declared.Comparison.{Comparison}
use Rattle.c_types_spec.specs.declared.Comparison.TheVariants as comparison
use Rattle.c_types_spec.specs.declared.Direction.{Direction}
use Rattle.c_types_spec.specs.declared.Direction.TheVariants.{Up, Down}
use Rattle.c_types_spec.specs.Types.{word}
use Rattle.c_types_spec.specs.Values.{bits_of, of_bits, converted, is_of, compares}
use Rattle.c_run_spec.specs.Evaluation as c
use Rattle.c_graph_spec.specs.State.{width_of, number}
use Rattle.c_graph_spec.specs.Values.{at_width, compared, less_of, scaled, scaled_by, exponent, moved}
use Rattle.c_graph_spec.specs.Guards.{is_pointer_moved, is_within, is_aligned}
use Rattle.c_graph_laws.proofs.Extents.{scalar, IsPlain, byte, half, full, IsAlignment, one_byte, two_bytes, four_bytes}
use Rattle.c_graph_laws.proofs.Evaluates.{constant_is, words_is, less_is, equal_is, not_is, and_is, zero_extend_is, sign_extend_is}
use Rattle.c_graph_laws.proofs.Bits.{bits_resized, low_is, high_is}
use Rattle.c_graph_laws.proofs.Compared.{same_is, signed_less_8, signed_less_16, signed_less_32}
use Rattle.c_graph_laws.proofs.Sums.{mixed_below, mixed_above, less_pos, least_pos}
use Rattle.c_graph_laws.proofs.Divisions.{at_width_is}

-- ---- comparisons

module _ (s : Assignment) (x y : Term) (m n : ℕ) where
  less_of_is : (t : Scalar) → IsPlain t → m < 2 ^ t.width → n < 2 ^ t.width → value s x ≡ Number (width_of t) m → value s y ≡ Number (width_of t) n
      → value s (less_of t x y) ≡ Truth (int_lt (of_bits t m) (of_bits t n))
  unfolding operation
  less_of_is _ (byte false) first second ex ey = less_is s W8 x y m n ex ey
  less_of_is _ (half false) first second ex ey = less_is s W16 x y m n ex ey
  less_of_is _ (full false) first second ex ey = less_is s W32 x y m n ex ey
  less_of_is _ (byte true) first second ex ey =
      less_is s W8 (xor_term x (sign_bit W8)) (xor_term y (sign_bit W8)) (bit_xor m (2 ^ 7)) (bit_xor n (2 ^ 7))
      (words_is s word_op.Xor W8 x (sign_bit W8) m (2 ^ 7) ex (constant_is s W8 (2 ^ 7))) (words_is s word_op.Xor W8 y (sign_bit W8) n (2 ^ 7) ey (constant_is s W8 (2 ^ 7)))
      ∙ ap Truth (signed_less_8 m n first second)
  less_of_is _ (half true) first second ex ey =
      less_is s W16 (xor_term x (sign_bit W16)) (xor_term y (sign_bit W16)) (bit_xor m (2 ^ 15)) (bit_xor n (2 ^ 15))
      (words_is s word_op.Xor W16 x (sign_bit W16) m (2 ^ 15) ex (constant_is s W16 (2 ^ 15))) (words_is s word_op.Xor W16 y (sign_bit W16) n (2 ^ 15) ey (constant_is s W16 (2 ^ 15)))
      ∙ ap Truth (signed_less_16 m n first second)
  less_of_is _ (full true) first second ex ey =
      less_is s W32 (xor_term x (sign_bit W32)) (xor_term y (sign_bit W32)) (bit_xor m (2 ^ 31)) (bit_xor n (2 ^ 31))
      (words_is s word_op.Xor W32 x (sign_bit W32) m (2 ^ 31) ex (constant_is s W32 (2 ^ 31))) (words_is s word_op.Xor W32 y (sign_bit W32) n (2 ^ 31) ey (constant_is s W32 (2 ^ 31)))
      ∙ ap Truth (signed_less_32 m n first second)

pub compared_is : (s : Assignment) (x y : Term) (m n : ℕ) (operator : Comparison) (t : Scalar) → IsPlain t → m < 2 ^ t.width → n < 2 ^ t.width
    → value s x ≡ Number (width_of t) m → value s y ≡ Number (width_of t) n → value s (compared operator t x y) ≡ Truth (compares operator (of_bits t m) (of_bits t n))
unfolding compared
compared_is s x y m n comparison.Equal t plain first second ex ey = equal_is s (width_of t) x y m n ex ey ∙ ap Truth (sym (same_is t plain m n first second))
compared_is s x y m n comparison.NotEqual t plain first second ex ey =
    not_is s (equal x y) (m == n) (equal_is s (width_of t) x y m n ex ey) ∙ ap (λ b. Truth (not b)) (sym (same_is t plain m n first second))
compared_is s x y m n comparison.Less t plain first second ex ey = less_of_is s x y m n t plain first second ex ey
compared_is s x y m n comparison.Greater t plain first second ex ey = less_of_is s y x n m t plain second first ey ex
compared_is s x y m n comparison.LessOrEqual t plain first second ex ey =
    not_is s (less_of t y x) (int_lt (of_bits t n) (of_bits t m)) (less_of_is s y x n m t plain second first ey ex)
compared_is s x y m n comparison.GreaterOrEqual t plain first second ex ey =
    not_is s (less_of t x y) (int_lt (of_bits t m) (of_bits t n)) (less_of_is s x y m n t plain first second ex ey)

-- ---- the values of an index

-- a value of a type: at least 0, or below it
data Index (t : Scalar) (i : ℕ) : Type 0 where
  upward : i < 2 ^ 32 → of_bits t i ≡ pos i → Index t i
  downward : (q : ℕ) → q < 2 ^ 31 → of_bits t i ≡ negsuc q → Index t i

index_is : (t : Scalar) → IsPlain t → (i : ℕ) → i < 2 ^ t.width → Index t i
index_is _ (byte false) i below = upward (omega arith) refl
index_is _ (half false) i below = upward (omega arith) refl
index_is _ (full false) i below = upward (omega arith) refl
index_is _ (byte true) i below = elim (cases_lt i (2 ^ 7)) [ inl la ↦ upward (omega arith) (low_is 8 i la) | inr ha ↦ downward (2 ^ 8 - 1 - i) (omega arith) (high_is 8 i ha below) ]
index_is _ (half true) i below = elim (cases_lt i (2 ^ 15)) [ inl la ↦ upward (omega arith) (low_is 16 i la) | inr ha ↦ downward (2 ^ 16 - 1 - i) (omega arith) (high_is 16 i ha below) ]
index_is _ (full true) i below = elim (cases_lt i (2 ^ 31)) [ inl la ↦ upward (omega arith) (low_is 32 i la) | inr ha ↦ downward (2 ^ 32 - 1 - i) (omega arith) (high_is 32 i ha below) ]

-- the word of a value at 32 and at 64 bits
narrow_is : (s : Assignment) (t : Scalar) → IsPlain t → (x : Term) (i : ℕ) → i < 2 ^ t.width → value s x ≡ Number (width_of t) i
    → value s (at_width t W32 x) ≡ Number W32 (bits_of 32 (of_bits t i))
narrow_is s t plain x i below e = at_width_is s t (scalar 32 false) plain (full false) x i e ∙ ap (Number W32) (sym (bits_resized t (scalar 32 false) plain (full false) i below))

broad_is : (s : Assignment) (t : Scalar) → IsPlain t → (x : Term) (i : ℕ) → i < 2 ^ t.width → value s x ≡ Number (width_of t) i
    → value s (at_width t W64 x) ≡ Number W64 (bits_of 64 (of_bits t i))
broad_is s _ (byte false) x i below e = zero_extend_is s x W8 W64 i e ∙ ap (Number W64) {y = i % 2 ^ 64} (omega arith)
broad_is s _ (half false) x i below e = zero_extend_is s x W16 W64 i e ∙ ap (Number W64) {y = i % 2 ^ 64} (omega arith)
broad_is s _ (full false) x i below e = zero_extend_is s x W32 W64 i e ∙ ap (Number W64) {y = i % 2 ^ 64} (omega arith)
broad_is s _ (byte true) x i below e = sign_extend_is s x W8 W64 i e ∙ ap (Number W64) (elim (cases_lt i (2 ^ 7)) [
  | inl la ↦ rw (low_is 8 i la, lt-leb (2 ^ 7) i la) (omega arith)
  | inr ha ↦ rw (high_is 8 i ha below, le-leb (2 ^ 7) i ha) (omega arith)
])
broad_is s _ (half true) x i below e = sign_extend_is s x W16 W64 i e ∙ ap (Number W64) (elim (cases_lt i (2 ^ 15)) [
  | inl la ↦ rw (low_is 16 i la, lt-leb (2 ^ 15) i la) (omega arith)
  | inr ha ↦ rw (high_is 16 i ha below, le-leb (2 ^ 15) i ha) (omega arith)
])
broad_is s _ (full true) x i below e = sign_extend_is s x W32 W64 i e ∙ ap (Number W64) (elim (cases_lt i (2 ^ 31)) [
  | inl la ↦ rw (low_is 32 i la, lt-leb (2 ^ 31) i la) (omega arith)
  | inr ha ↦ rw (high_is 32 i ha below, le-leb (2 ^ 31) i ha) (omega arith)
])

-- ---- an index below a bound

abbrev pub is_index : (bound : ℕ) → ℤ → Bool
is_index bound index = not (int_lt index (pos 0)) && int_lt index (pos bound)

abbrev pub is_within_alignment : (alignment address : ℕ) → Bool
is_within_alignment alignment address = not (address == 0) && (address % alignment == 0)

index_test : (t : Scalar) (bound i : ℕ) → bound ≤ 2 ^ 31 → Index t i → nat_lt (bits_of 32 (of_bits t i)) bound ≡ is_index bound (of_bits t i)
index_test t bound i most (upward below e) =
    let r : i % 2 ^ 32 ≡ i = omega arith in
    rw (e, r, le-ltb i 0 (omega arith)) refl
index_test t bound i most (downward q below e) = rw (e, le-ltb (2 ^ 32 - 1 - q % 2 ^ 32) bound (omega arith)) refl

pub within_is : (s : Assignment) (t : Scalar) → IsPlain t → (x : Term) (bound i : ℕ) → bound ≤ 2 ^ 31 → i < 2 ^ t.width → value s x ≡ Number (width_of t) i
    → value s (is_within bound t x) ≡ Truth (is_index bound (of_bits t i))
within_is s t plain x bound i most below e =
    less_is s W32 (at_width t W32 x) (number bound) (bits_of 32 (of_bits t i)) bound (narrow_is s t plain x i below e) (constant_is s W32 bound)
    ∙ ap Truth (index_test t bound i most (index_is t plain i below))

-- ---- alignment

pub aligned_is : (s : Assignment) (x : Term) (p alignment : ℕ) → IsAlignment alignment → value s x ≡ Number W32 p
    → value s (is_aligned alignment x) ≡ Truth (is_within_alignment alignment p)
unfolding operation
aligned_is s x p alignment which e =
    and_is s (not_term (equal x (number 0))) (equal (and_words x (number (alignment - 1))) (number 0)) (not (p == 0)) (p % alignment == 0)
    (not_is s (equal x (number 0)) (p == 0) (equal_is s W32 x (number 0) p 0 e (constant_is s W32 0)))
    (equal_is s W32 (and_words x (number (alignment - 1))) (number 0) (bit_and p (alignment - 1)) 0
    (words_is s word_op.And W32 x (number (alignment - 1)) p (alignment - 1) e (constant_is s W32 (alignment - 1))) (constant_is s W32 0)
    ∙ ap (λ r. Truth (r == 0)) (masked alignment which))
  where
    masked : (alignment : ℕ) → IsAlignment alignment → bit_and p (alignment - 1) ≡ p % alignment
    masked _ one_byte = and_mask p 0
    masked _ two_bytes = and_mask p 1
    masked _ four_bytes = and_mask p 2

-- ---- distances

pub exponent_is : (most size k : ℕ) → exponent most size ≡ Some k → (2 ^ k ≡ size) × (k < most)
unfolding exponent
exponent_is zero size k e = absurd (cc)
exponent_is (suc most) size k e = at (2 ^ most == size) refl e (λ later. exponent_is most size k later)
  where
    at : (b : Bool) → (2 ^ most == size) ≡ b → (if b then Some most else exponent most size) ≡ Some k → (exponent most size ≡ Some k → (2 ^ k ≡ size) × (k < most))
        → (2 ^ k ≡ size) × (k < suc most)
    at true is e later =
        let same : most ≡ k = cc in
        (subst (λ j. 2 ^ j ≡ size) same (eqb-true (2 ^ most) size is), omega arith)
    at false is e later = let l = later e in (l.0, omega (arith, l.1))

scaled_is : (s : Assignment) (w : Width) (size : ℕ) (x : Term) (d : ℕ) → 32 ≤ bits w → value s x ≡ Number w d → value s (scaled w size x) ≡ Number w ((d * size) % 2 ^ bits w)
unfolding operation
scaled_is s w size x d wide_enough e = at (exponent 32 size) refl
  where
    at : (o : Option ℕ) → exponent 32 size ≡ o → value s (scaled_by w o size x) ≡ Number w ((d * size) % 2 ^ bits w)
    at None is = words_is s word_op.Multiply w x (constant w size) d size e (constant_is s w size)
    at (Some k) is =
        let found = exponent_is 32 size k is in
        words_is s word_op.ShiftLeft w x (constant w k) d k e (constant_is s w k)
        ∙ ap (λ b. Number w (if b then low_bits (bits w) (d * 2 ^ k) else 0)) (lt-ltb k (bits w) (omega (arith, found.1)))
        ∙ ap (λ n. Number w ((d * n) % 2 ^ bits w)) found.0

abbrev IsBounded : ℤ → Type 0
IsBounded (pos d) = d ≤ 2 ^ 63
IsBounded (negsuc e) = e < 2 ^ 62

-- a distance: bounded, and its low 32 and 64 bits
record Distance (z : ℤ) (narrow broad : ℕ) : Type 0 where
  bounded : IsBounded z
  bits_32 : narrow % 2 ^ 32 ≡ bits_of 32 z
  bits_64 : broad % 2 ^ 64 ≡ bits_of 64 z

distance_is : (t : Scalar) (i size : ℕ) → size < 2 ^ 31 → Index t i
    → Distance (of_bits t i *ℤ pos size) (bits_of 32 (of_bits t i) * size) (bits_of 64 (of_bits t i) * size)
distance_is t i size few (upward below e) =
    let r : i % 2 ^ 32 ≡ i = omega arith in
    let q : i % 2 ^ 64 ≡ i = omega arith in
    let most : i * size ≤ 2 ^ 32 * 2 ^ 31 = mul-le i size (2 ^ 32) (2 ^ 31) (omega arith) (omega arith) in
    rw (e, r, q) (record { bounded = omega arith; bits_32 = refl; bits_64 = refl })
distance_is t i size few (downward q below e) =
    let a : 2 ^ 32 - 1 - q % 2 ^ 32 + suc q ≡ 2 ^ 32 = omega arith in
    let b : 2 ^ 64 - 1 - q % 2 ^ 64 + suc q ≡ 2 ^ 64 = omega arith in
    rw e (at (suc q * size) refl (omega (arith, mul-le (suc q) size (2 ^ 31) (2 ^ 31) (omega arith) (omega arith)))
    (sym (add-mul (2 ^ 32 - 1 - q % 2 ^ 32) (suc q) size) ∙ ap (λ n. n * size) a) (sym (add-mul (2 ^ 64 - 1 - q % 2 ^ 64) (suc q) size) ∙ ap (λ n. n * size) b))
  where
    at : (p : ℕ) → suc q * size ≡ p → suc q * size ≤ 2 ^ 62 → (2 ^ 32 - 1 - q % 2 ^ 32) * size + suc q * size ≡ 2 ^ 32 * size
        → (2 ^ 64 - 1 - q % 2 ^ 64) * size + suc q * size ≡ 2 ^ 64 * size → Distance (neg_ℤ (pos p)) ((2 ^ 32 - 1 - q % 2 ^ 32) * size) ((2 ^ 64 - 1 - q % 2 ^ 64) * size)
    at zero e most narrow broad = record { bounded = omega arith; bits_32 = omega arith; bits_64 = omega arith }
    at (suc r) e most narrow broad = record { bounded = omega arith; bits_32 = omega arith; bits_64 = omega arith }

-- ---- moved pointers

word_fits : (r : ℕ) → is_of word (pos r) ≡ nat_lt r (2 ^ 32)
unfolding converted
word_fits r = elim (cases_lt r (2 ^ 32)) [
  | inl less ↦ eq-eqb (r % 2 ^ 32) r (omega arith) ∙ sym (lt-ltb r (2 ^ 32) less)
  | inr least ↦ ne_eqb (r % 2 ^ 32) r (λ e. omega arith) ∙ sym (le-ltb r (2 ^ 32) least)
]

negative_fits : (r : ℕ) → is_of word (negsuc r) ≡ false
unfolding converted
negative_fits r = refl

record MovedTo (z : ℤ) (narrow broad : ℕ) : Type 0 where
  bits : narrow ≡ bits_of 32 z
  fits : nat_lt broad (2 ^ 32) ≡ is_of word z

up : (p : ℕ) (d : ℤ) → p < 2 ^ 32 → IsBounded d → MovedTo (pos p +ℤ d) ((p + bits_of 32 d) % 2 ^ 32) ((p + bits_of 64 d) % 2 ^ 64)
up p (pos d) below bounded =
    let broad : (p + d % 2 ^ 64) % 2 ^ 64 ≡ p + d = omega arith in
    record { bits = omega arith; fits = ap (λ n. nat_lt n (2 ^ 32)) broad ∙ sym (word_fits (p + d)) }
up p (negsuc e) below bounded = elim (cases_lt e p) [
  | inl less ↦
      let broad : (p + (2 ^ 64 - 1 - e % 2 ^ 64)) % 2 ^ 64 ≡ p - 1 - e = omega arith in
      rw (mixed_above p e less) (record { bits = omega arith; fits = ap (λ n. nat_lt n (2 ^ 32)) broad ∙ sym (word_fits (p - 1 - e)) })
  | inr least ↦
      rw (mixed_below p e least) (record { bits = omega arith; fits = le-ltb ((p + (2 ^ 64 - 1 - e % 2 ^ 64)) % 2 ^ 64) (2 ^ 32) (omega arith) ∙ sym (negative_fits (e - p)) })
]

down : (p : ℕ) (d : ℤ) → p < 2 ^ 32 → IsBounded d → MovedTo (pos p -ℤ d) ((p + (2 ^ 32 - bits_of 32 d % 2 ^ 32)) % 2 ^ 32) ((p + (2 ^ 64 - bits_of 64 d % 2 ^ 64)) % 2 ^ 64)
down p (pos d) below bounded = elim (cases_lt p d) [
  | inl less ↦
      rw (less_pos p d less) (record { bits = omega arith; fits = le-ltb ((p + (2 ^ 64 - d % 2 ^ 64 % 2 ^ 64)) % 2 ^ 64) (2 ^ 32) (omega arith) ∙ sym (negative_fits (d - p - 1)) })
  | inr least ↦
      let broad : (p + (2 ^ 64 - d % 2 ^ 64 % 2 ^ 64)) % 2 ^ 64 ≡ p - d = omega arith in
      rw (least_pos p d least) (record { bits = omega arith; fits = ap (λ n. nat_lt n (2 ^ 32)) broad ∙ sym (word_fits (p - d)) })
]
down p (negsuc e) below bounded =
    let broad : (p + (2 ^ 64 - (2 ^ 64 - 1 - e % 2 ^ 64) % 2 ^ 64)) % 2 ^ 64 ≡ p + suc e = omega arith in
    record { bits = omega arith; fits = ap (λ n. nat_lt n (2 ^ 32)) broad ∙ sym (word_fits (p + suc e)) }

module _ (s : Assignment) (x y : Term) (p i size : ℕ) (t : Scalar) (plain : IsPlain t) (few : size < 2 ^ 31) (first : p < 2 ^ 32) (second : i < 2 ^ t.width)
    (ex : value s x ≡ Number W32 p) (ey : value s y ≡ Number (width_of t) i) where
  abbrev d : ℤ
  d = of_bits t i *ℤ pos size

  made : Distance d (bits_of 32 (of_bits t i) * size) (bits_of 64 (of_bits t i) * size)
  made = distance_is t i size few (index_is t plain i second)

  narrow : value s (scaled W32 size (at_width t W32 y)) ≡ Number W32 (bits_of 32 d)
  narrow = scaled_is s W32 size (at_width t W32 y) (bits_of 32 (of_bits t i)) (omega arith) (narrow_is s t plain y i second ey) ∙ ap (Number W32) made.bits_32

  broad : value s (scaled W64 size (at_width t W64 y)) ≡ Number W64 (bits_of 64 d)
  broad = scaled_is s W64 size (at_width t W64 y) (bits_of 64 (of_bits t i)) (omega arith) (broad_is s t plain y i second ey) ∙ ap (Number W64) made.bits_64

  pub moved_word : (direction : Direction) → value s (moved direction x (scaled W32 size (at_width t W32 y))) ≡ Number W32 (bits_of 32 (c.sum_of direction (pos p) d))
  unfolding operation
  moved_word Up = words_is s word_op.Add W32 x _ p (bits_of 32 d) ex narrow ∙ ap (Number W32) (up p d first made.bounded).bits
  moved_word Down = words_is s word_op.Subtract W32 x _ p (bits_of 32 d) ex narrow ∙ ap (Number W32) (down p d first made.bounded).bits

  pub moved_test : (direction : Direction) → value s (is_pointer_moved direction size x t y) ≡ Truth (is_of word (c.sum_of direction (pos p) d))
  unfolding operation
  moved_test Up =
      less_is s W64 (moved Up (zero_extend W64 x) (scaled W64 size (at_width t W64 y))) (constant W64 (2 ^ 32)) ((p + bits_of 64 d) % 2 ^ 64) (2 ^ 32)
      (words_is s word_op.Add W64 (zero_extend W64 x) _ p (bits_of 64 d) (zero_extend_is s x W32 W64 p ex) broad) (constant_is s W64 (2 ^ 32))
      ∙ ap Truth (up p d first made.bounded).fits
  moved_test Down =
      less_is s W64 (moved Down (zero_extend W64 x) (scaled W64 size (at_width t W64 y))) (constant W64 (2 ^ 32)) ((p + (2 ^ 64 - bits_of 64 d % 2 ^ 64)) % 2 ^ 64) (2 ^ 32)
      (words_is s word_op.Subtract W64 (zero_extend W64 x) _ p (bits_of 64 d) (zero_extend_is s x W32 W64 p ex) broad) (constant_is s W64 (2 ^ 32))
      ∙ ap Truth (down p d first made.bounded).fits
