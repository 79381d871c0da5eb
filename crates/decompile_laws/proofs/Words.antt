-- Words: what the operations of terms come to, as the operations of the machine.
use Rattle.std.proofs.Common.{◌≡◌, ◌∙◌, inl, inr, ℕ, zero, suc, ◌+◌, ◌-◌, ◌*◌, ◌/◌, ◌%◌, ◌^◌, ◌<◌, ◌≤◌, ◌==◌, Bool, true, false, cond, refl, sym, ap, subst, arith, pos, negsuc}
use Rattle.std.specs.Prelude.{nat_lt, nat_le, not, ◌&&◌, ◌*ℤ◌, neg_ℤ, int_lt, int_div, int_rem, bit_and, bit_xor}
use Rattle.std.specs.Int.{int_shr}
use Rattle.std.specs.Int.Bits.{xor_zero_l, xor_zero_r, xor_self}
use Rattle.std.proofs.lemmas.Bool.{lt-ltb, le-ltb, le-leb, lt-leb, eq-eqb, cases_lt}
use Rattle.std.proofs.lemmas.Bool.Decides.{nat_tests}
use Rattle.std.proofs.lemmas.Nat.{and_mask, xor_block, div-add-mod', div-mul-add, div_below, mod_below, pow_pos, pow-add, mul-le}
use Rattle.std.proofs.Math.Nat.{add-mul, mul-add, mul_comm, div-le_self, mod-le}
use Rattle.rv_machine_spec.specs.Arithmetic.{word, high_word, extended, number}
use Rattle.term_core_spec.specs.Value.{low_bits, ones_if, is_negative, shifted_with_sign}

-- ---- a word as a signed number

pub number_low : (a : ℕ) → a < 2 ^ 31 → number a ≡ pos a
number_low a low = rw (lt-ltb a (2 ^ 31) low) refl

pub number_high : (a : ℕ) → 2 ^ 31 ≤ a → a < 2 ^ 32 → number a ≡ negsuc (2 ^ 32 - 1 - a)
number_high a high below = rw (le-ltb a (2 ^ 31) high, lt-ltb a (2 ^ 32) below) (ap negsuc (omega arith))

-- ---- signed comparison

flip_low : (a : ℕ) → a < 2 ^ 31 → bit_xor a (2 ^ 31) ≡ a + 2 ^ 31
flip_low a low =
    let whole : a ≡ 0 * 2 ^ 31 + a = omega arith in
    ap (λ n. bit_xor n (2 ^ 31)) whole ∙ xor_block 31 0 1 a 0 low (omega arith) ∙ omega (arith, xor_zero_l 1, xor_zero_r a)

flip_high : (a : ℕ) → 2 ^ 31 ≤ a → a < 2 ^ 32 → bit_xor a (2 ^ 31) ≡ a - 2 ^ 31
flip_high a high below =
    let whole : a ≡ 1 * 2 ^ 31 + (a - 2 ^ 31) = omega arith in
    ap (λ n. bit_xor n (2 ^ 31)) whole ∙ xor_block 31 1 1 (a - 2 ^ 31) 0 (omega arith) (omega arith) ∙ omega (arith, xor_self 1, xor_zero_r (a - 2 ^ 31))

-- unsigned less with both top bits flipped
pub signed_less_is : (a b : ℕ) → a < 2 ^ 32 → b < 2 ^ 32 → nat_lt (bit_xor a (2 ^ 31)) (bit_xor b (2 ^ 31)) ≡ int_lt (number a) (number b)
signed_less_is a b first second = elim (cases_lt a (2 ^ 31)) [
  | inl la ↦ elim (cases_lt b (2 ^ 31)) [
    | inl lb ↦ rw (flip_low a la, flip_low b lb, number_low a la, number_low b lb) (grind (arith, nat_tests))
    | inr hb ↦ rw (flip_low a la, flip_high b hb second, number_low a la, number_high b hb second) (le-ltb (a + 2 ^ 31) (b - 2 ^ 31) (omega arith))
  ]
  | inr ha ↦ elim (cases_lt b (2 ^ 31)) [
    | inl lb ↦ rw (flip_high a ha first, flip_low b lb, number_high a ha first, number_low b lb) (lt-ltb (a - 2 ^ 31) (b + 2 ^ 31) (omega arith))
    | inr hb ↦ rw (flip_high a ha first, flip_high b hb second, number_high a ha first, number_high b hb second) (grind (arith, nat_tests))
  ]
]

-- ---- shifts

pub five_bits : (b : ℕ) → bit_and b 31 ≡ b % 32
five_bits b = and_mask b 5

-- all bits flipped and moved down
mirrored : (a d m : ℕ) → m * d ≡ 2 ^ 32 → 0 < d → a < 2 ^ 32 → (2 ^ 32 - 1 - a) / d ≡ m - 1 - a / d
mirrored a d m whole some below =
    let q : a / d < m = div_below a d m some (omega arith) in
    let r : a % d < d = mod_below a d some in
    let parts : a / d * d + a % d ≡ a = div-add-mod' a d in
    let split : (m - 1 - a / d + suc (a / d)) * d ≡ (m - 1 - a / d) * d + suc (a / d) * d = add-mul (m - 1 - a / d) (suc (a / d)) d in
    let count : m - 1 - a / d + suc (a / d) ≡ m = omega arith in
    let sum : m * d ≡ (m - 1 - a / d) * d + suc (a / d) * d = ap (λ n. n * d) (sym count) ∙ split in
    let one : suc (a / d) * d ≡ a / d * d + d = omega (arith, add-mul (a / d) 1 d) in
    let this : 2 ^ 32 - 1 - a ≡ (m - 1 - a / d) * d + (d - 1 - a % d) = omega arith in
    ap (λ n. n / d) this ∙ div-mul-add (m - 1 - a / d) d (d - 1 - a % d) (omega arith)

pub shift_signed_is : (a k : ℕ) → a < 2 ^ 32 → k < 32 → shifted_with_sign 32 a k ≡ word (int_shr (number a) k)
shift_signed_is a k first few = elim (cases_lt a (2 ^ 31)) [
  | inl la ↦ rw (number_low a la, no_sign a la) (omega arith)
  | inr ha ↦
      let count : 32 - k + k ≡ 32 = omega arith in
      let powers : 2 ^ (32 - k) * 2 ^ k ≡ 2 ^ 32 = sym (pow-add 2 (32 - k) k) ∙ ap (λ n. 2 ^ n) count in
      let below : a / 2 ^ k < 2 ^ (32 - k) = div_below a (2 ^ k) (2 ^ (32 - k)) (pow_pos k) (omega arith) in
      let most : 2 ^ (32 - k) ≤ 2 ^ 32 = omega (arith, powers, mul-le (2 ^ (32 - k)) 1 (2 ^ (32 - k)) (2 ^ k) (omega arith) (omega (arith, pow_pos k))) in
      rw (number_high a ha first, sign a ha) (omega (arith, mirrored a (2 ^ k) (2 ^ (32 - k)) powers (pow_pos k) first))
]
  where
    no_sign : (a : ℕ) → a < 2 ^ 31 → nat_le (2 ^ 31) a ≡ false
    no_sign a la = lt-leb (2 ^ 31) a la

    sign : (a : ℕ) → 2 ^ 31 ≤ a → nat_le (2 ^ 31) a ≡ true
    sign a ha = le-leb (2 ^ 31) a ha

-- ---- high products

-- a word that is extended by its sign to 64 bits
abbrev pub wide : ℕ → ℕ
wide a = low_bits 64 (a + ones_if (is_negative 32 a) 32 64)

wide_low : (a : ℕ) → a < 2 ^ 31 → wide a ≡ a
wide_low a la = rw (lt-leb (2 ^ 31) a la) (omega arith)

wide_high : (a : ℕ) → 2 ^ 31 ≤ a → a < 2 ^ 32 → wide a ≡ a + (2 ^ 64 - 2 ^ 32)
wide_high a ha below = rw (le-leb (2 ^ 31) a ha) (omega arith)

bound : (a b : ℕ) → a ≤ 2 ^ 32 - 1 → b ≤ 2 ^ 32 - 1 → a * b ≤ (2 ^ 32 - 1) * (2 ^ 32 - 1)
bound a b first second = mul-le a b (2 ^ 32 - 1) (2 ^ 32 - 1) first second

-- the upper half of a product of 64 bits
abbrev pub upper : ℕ → ℕ
upper p = low_bits 64 p / 2 ^ 32

both_plain : (a b : ℕ) → a < 2 ^ 32 → b < 2 ^ 32 → upper (a * b) ≡ word (int_shr (pos (a * b)) 32)
both_plain a b first second = omega (arith, bound a b (omega arith) (omega arith))

-- the product of u and the negative of n, which is v at 64 bits
one_turned : (u v n : ℕ) → u < 2 ^ 32 → n ≤ 2 ^ 31 → v + n ≡ 2 ^ 64 → (t : ℕ) → u * n ≡ t → upper (u * v) ≡ word (int_shr (neg_ℤ (pos t)) 32)
one_turned u v n first second sum zero e =
    let split : u * (v + n) ≡ u * v + u * n = mul-add u v n in
    let whole : u * (v + n) ≡ u * 2 ^ 64 = ap (λ k. u * k) sum in
    omega arith
one_turned u v n first second sum (suc t) e =
    let split : u * (v + n) ≡ u * v + u * n = mul-add u v n in
    let whole : u * (v + n) ≡ u * 2 ^ 64 = ap (λ k. u * k) sum in
    let small : u * n ≤ (2 ^ 32 - 1) * (2 ^ 32 - 1) = bound u n (omega arith) (omega arith) in
    omega arith

both_turned : (u v m n : ℕ) → m ≤ 2 ^ 31 → n ≤ 2 ^ 31 → u + m ≡ 2 ^ 64 → v + n ≡ 2 ^ 64 → upper (u * v) ≡ word (int_shr (pos (m * n)) 32)
both_turned u v m n first second left right =
    let split : u * (v + n) ≡ u * v + u * n = mul-add u v n in
    let whole : u * (v + n) ≡ u * 2 ^ 64 = ap (λ k. u * k) right in
    let parts : (u + m) * n ≡ u * n + m * n = add-mul u m n in
    let one : (u + m) * n ≡ 2 ^ 64 * n = ap (λ k. k * n) left in
    let small : m * n ≤ (2 ^ 32 - 1) * (2 ^ 32 - 1) = bound m n (omega arith) (omega arith) in
    omega arith

pub high_is : (a b : ℕ) → a < 2 ^ 32 → b < 2 ^ 32 → upper (a * b) ≡ a * b / 2 ^ 32
high_is a b first second = omega (arith, bound a b (omega arith) (omega arith))

-- only the first is signed
pub high_signed_unsigned_is : (a b : ℕ) → a < 2 ^ 32 → b < 2 ^ 32 → upper (wide a * b) ≡ high_word (number a *ℤ pos b)
high_signed_unsigned_is a b first second = elim (cases_lt a (2 ^ 31)) [
  | inl la ↦ rw (wide_low a la, number_low a la) (both_plain a b first second)
  | inr ha ↦
      let back : suc (2 ^ 32 - 1 - a) ≡ 2 ^ 32 - a = omega arith in
      rw (wide_high a ha first, number_high a ha first, mul_comm (a + (2 ^ 64 - 2 ^ 32)) b)
      (one_turned b (a + (2 ^ 64 - 2 ^ 32)) (suc (2 ^ 32 - 1 - a)) second (omega arith) (omega arith) (suc (2 ^ 32 - 1 - a) * b) (mul_comm b (suc (2 ^ 32 - 1 - a))))
]

pub high_signed_is : (a b : ℕ) → a < 2 ^ 32 → b < 2 ^ 32 → upper (wide a * wide b) ≡ high_word (number a *ℤ number b)
high_signed_is a b first second = elim (cases_lt b (2 ^ 31)) [
  | inl lb ↦ rw (wide_low b lb, number_low b lb) (high_signed_unsigned_is a b first second)
  | inr hb ↦ elim (cases_lt a (2 ^ 31)) [
    | inl la ↦ rw (wide_low a la, number_low a la, wide_high b hb second, number_high b hb second)
        (one_turned a (b + (2 ^ 64 - 2 ^ 32)) (suc (2 ^ 32 - 1 - b)) first (omega arith) (omega arith) (a * suc (2 ^ 32 - 1 - b)) refl)
    | inr ha ↦ rw (wide_high a ha first, number_high a ha first, wide_high b hb second, number_high b hb second)
        (both_turned (a + (2 ^ 64 - 2 ^ 32)) (b + (2 ^ 64 - 2 ^ 32)) (suc (2 ^ 32 - 1 - a)) (suc (2 ^ 32 - 1 - b)) (omega arith) (omega arith) (omega arith) (omega arith))
  ]
]

-- ---- division

abbrev pub positive : ℕ → Bool
positive a = nat_lt a (2 ^ 31)

abbrev pub negative_of : ℕ → ℕ
negative_of a = low_bits 32 (0 + (2 ^ 32 - low_bits 32 a))

abbrev pub size_of : ℕ → ℕ
size_of a = cond (positive a) a (negative_of a)

abbrev pub quotient : ℕ → ℕ → ℕ
quotient a b = cond (b == 0) (2 ^ 32 - 1) (a / b)

abbrev pub rest : ℕ → ℕ → ℕ
rest a b = cond (b == 0) a (a % b)

abbrev pub same_sign : ℕ → ℕ → Bool
same_sign a b = cond (positive a) (positive b) (not (positive b))

negated_is : (q : ℕ) → q < 2 ^ 32 → negative_of q ≡ word (neg_ℤ (pos q))
negated_is zero below = refl
negated_is (suc q) below = omega arith

plain_is : (q : ℕ) → q < 2 ^ 32 → q ≡ word (pos q)
plain_is q below = omega arith

-- the quotient of the magnitudes, negated where the signs differ and the divisor is not 0
abbrev pub signed_quotient_of : ℕ → ℕ → ℕ
signed_quotient_of a b = cond (not (same_sign a b) && not (b == 0)) (negative_of (quotient (size_of a) (size_of b))) (quotient (size_of a) (size_of b))

over_zero : (a b : ℕ) → b ≡ 0 → signed_quotient_of a b ≡ 2 ^ 32 - 1
over_zero a b e = subst (λ z. signed_quotient_of a z ≡ 2 ^ 32 - 1) (sym e) (either_sign (positive a) (size_of a))
  where
    either_sign : (p : Bool) (s : ℕ) → cond (not (cond p true false) && false) (negative_of (2 ^ 32 - 1)) (2 ^ 32 - 1) ≡ 2 ^ 32 - 1
    either_sign true s = refl
    either_sign false s = refl

some_test : (b : ℕ) → 0 < b → (b == 0) ≡ false
some_test b some = grind (arith, nat_tests)

pub signed_quotient_is : (a b : ℕ) → a < 2 ^ 32 → b < 2 ^ 32 → signed_quotient_of a b ≡ cond (b == 0) (2 ^ 32 - 1) (word (int_div (number a) (number b)))
signed_quotient_is a b first second = elim (cases_lt 0 b) [
  | inr none ↦
      let e : b ≡ 0 = omega arith in
      over_zero a b e ∙ ap (λ (t : Bool). cond t (2 ^ 32 - 1) (word (int_div (number a) (number b)))) (sym (eq-eqb b 0 e))
  | inl some ↦ elim (cases_lt a (2 ^ 31)) [
    | inl la ↦ elim (cases_lt b (2 ^ 31)) [
      | inl lb ↦ rw (number_low a la, number_low b lb, lt-ltb a (2 ^ 31) la, lt-ltb b (2 ^ 31) lb, some_test b some)
          (plain_is (a / b) (omega (arith, div-le_self a b)))
      | inr hb ↦
          let n : suc (2 ^ 32 - 1 - b) ≡ negative_of b = omega arith in
          rw (number_low a la, number_high b hb second, lt-ltb a (2 ^ 31) la, le-ltb b (2 ^ 31) hb, some_test b some, ← n, some_test (suc (2 ^ 32 - 1 - b)) (omega arith))
          (negated_is (a / suc (2 ^ 32 - 1 - b)) (omega (arith, div-le_self a (suc (2 ^ 32 - 1 - b)))))
    ]
    | inr ha ↦
        let m : suc (2 ^ 32 - 1 - a) ≡ negative_of a = omega arith in
        elim (cases_lt b (2 ^ 31)) [
          | inl lb ↦ rw (number_high a ha first, number_low b lb, le-ltb a (2 ^ 31) ha, lt-ltb b (2 ^ 31) lb, some_test b some, ← m)
              (negated_is (suc (2 ^ 32 - 1 - a) / b) (omega (arith, div-le_self (suc (2 ^ 32 - 1 - a)) b)))
          | inr hb ↦
              let n : suc (2 ^ 32 - 1 - b) ≡ negative_of b = omega arith in
              rw (number_high a ha first, number_high b hb second, le-ltb a (2 ^ 31) ha, le-ltb b (2 ^ 31) hb, ← m, ← n, some_test b some, some_test (suc (2 ^ 32 - 1 - b)) (omega arith))
              (plain_is (suc (2 ^ 32 - 1 - a) / suc (2 ^ 32 - 1 - b)) (omega (arith, div-le_self (suc (2 ^ 32 - 1 - a)) (suc (2 ^ 32 - 1 - b)))))
        ]
  ]
]

-- the remainder of the magnitudes, negated where the dividend is negative
abbrev pub signed_remainder_of : ℕ → ℕ → ℕ
signed_remainder_of a b = cond (positive a) (rest (size_of a) (size_of b)) (negative_of (rest (size_of a) (size_of b)))

rest_by_zero : (a b : ℕ) → a < 2 ^ 32 → b ≡ 0 → signed_remainder_of a b ≡ a
rest_by_zero a b first e = subst (λ z. signed_remainder_of a z ≡ a) (sym e) (elim (cases_lt a (2 ^ 31)) [
  | inl la ↦ rw (lt-ltb a (2 ^ 31) la) refl
  | inr ha ↦ rw (le-ltb a (2 ^ 31) ha) (omega arith)
])

pub signed_remainder_is : (a b : ℕ) → a < 2 ^ 32 → b < 2 ^ 32 → signed_remainder_of a b ≡ cond (b == 0) a (word (int_rem (number a) (number b)))
signed_remainder_is a b first second = elim (cases_lt 0 b) [
  | inr none ↦
      let e : b ≡ 0 = omega arith in
      rest_by_zero a b first e ∙ ap (λ (t : Bool). cond t a (word (int_rem (number a) (number b)))) (sym (eq-eqb b 0 e))
  | inl some ↦ elim (cases_lt a (2 ^ 31)) [
    | inl la ↦ elim (cases_lt b (2 ^ 31)) [
      | inl lb ↦ rw (number_low a la, number_low b lb, lt-ltb a (2 ^ 31) la, lt-ltb b (2 ^ 31) lb, some_test b some)
          (plain_is (a % b) (omega (arith, mod-le a b)))
      | inr hb ↦
          let n : suc (2 ^ 32 - 1 - b) ≡ negative_of b = omega arith in
          rw (number_low a la, number_high b hb second, lt-ltb a (2 ^ 31) la, le-ltb b (2 ^ 31) hb, some_test b some, ← n, some_test (suc (2 ^ 32 - 1 - b)) (omega arith))
          (plain_is (a % suc (2 ^ 32 - 1 - b)) (omega (arith, mod-le a (suc (2 ^ 32 - 1 - b)))))
    ]
    | inr ha ↦
        let m : suc (2 ^ 32 - 1 - a) ≡ negative_of a = omega arith in
        elim (cases_lt b (2 ^ 31)) [
          | inl lb ↦ rw (number_high a ha first, number_low b lb, le-ltb a (2 ^ 31) ha, lt-ltb b (2 ^ 31) lb, some_test b some, ← m)
              (negated_is (suc (2 ^ 32 - 1 - a) % b) (omega (arith, mod-le (suc (2 ^ 32 - 1 - a)) b)))
          | inr hb ↦
              let n : suc (2 ^ 32 - 1 - b) ≡ negative_of b = omega arith in
              rw (number_high a ha first, number_high b hb second, le-ltb a (2 ^ 31) ha, le-ltb b (2 ^ 31) hb, ← m, ← n, some_test b some, some_test (suc (2 ^ 32 - 1 - b)) (omega arith))
              (negated_is (suc (2 ^ 32 - 1 - a) % suc (2 ^ 32 - 1 - b)) (omega (arith, mod-le (suc (2 ^ 32 - 1 - a)) (suc (2 ^ 32 - 1 - b)))))
        ]
  ]
]

-- ---- loads with sign

pub byte_extended : (v : ℕ) → v < 2 ^ 8 → low_bits 32 (v + ones_if (is_negative 8 v) 8 32) ≡ extended 8 v
byte_extended v below = elim (cases_lt v (2 ^ 7)) [
  | inl low ↦ rw (lt-leb (2 ^ 7) v low, lt-ltb v (2 ^ 7) low) (omega arith)
  | inr high ↦ rw (le-leb (2 ^ 7) v high, le-ltb v (2 ^ 7) high, lt-ltb v (2 ^ 8) below) (omega arith)
]

pub half_extended : (v : ℕ) → v < 2 ^ 16 → low_bits 32 (v + ones_if (is_negative 16 v) 16 32) ≡ extended 16 v
half_extended v below = elim (cases_lt v (2 ^ 15)) [
  | inl low ↦ rw (lt-leb (2 ^ 15) v low, lt-ltb v (2 ^ 15) low) (omega arith)
  | inr high ↦ rw (le-leb (2 ^ 15) v high, le-ltb v (2 ^ 15) high, lt-ltb v (2 ^ 16) below) (omega arith)
]

-- the upper four bytes of a word of 64 bits
pub upper_bytes : (p : ℕ) → p < 2 ^ 64 → low_bits 8 (p / 2 ^ 32) + 2 ^ 8 * (low_bits 8 (p / 2 ^ 40) + 2 ^ 8 * (low_bits 8 (p / 2 ^ 48) + 2 ^ 8 * low_bits 8 (p / 2 ^ 56))) ≡ p / 2 ^ 32
upper_bytes p below = omega arith
