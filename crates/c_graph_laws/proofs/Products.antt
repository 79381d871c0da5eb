-- Products of signed values of 32 bits, by their bits, and when they overflow.
use Rattle.std.proofs.Common.{◌≡◌, ◌∙◌, inl, inr, ℕ, zero, suc, ◌+◌, ◌-◌, ◌*◌, ◌%◌, ◌^◌, ◌<◌, ◌≤◌, ◌==◌, true, refl, sym, ap, subst, arith, ℤ, pos, negsuc, ◌*ℤ◌, neg_ℤ, eq-eqb, ne_eqb}
use Rattle.std.proofs.lemmas.Bool.{le-leb, lt-leb, cases_lt, cases_eq, false_from_ne_true}
use Rattle.std.proofs.lemmas.Nat.{mul-le}
use Rattle.std.proofs.Math.Nat.{add-mul, mul-add, mul_comm}
use Rattle.term_core_spec.specs.Value.{low_bits, ones_if, is_negative}
use Rattle.c_types_spec.specs.Values.{same_value, bits_of}
use Rattle.c_graph_laws.proofs.Bits.{same_value-true, same_value-same}
use Rattle.c_graph_laws.proofs.Sums.{signed, low, high, Says}

-- a word that is extended by its sign to 64 bits
abbrev pub wide : ℕ → ℕ
wide a = low_bits 64 (a + ones_if (is_negative 32 a) 32 64)

wide_low : (a : ℕ) → a < 2 ^ 31 → wide a ≡ a
wide_low a la = rw (lt-leb (2 ^ 31) a la) (omega arith)

wide_high : (a : ℕ) → 2 ^ 31 ≤ a → a < 2 ^ 32 → wide a ≡ a + (2 ^ 64 - 2 ^ 32)
wide_high a ha below = rw (le-leb (2 ^ 31) a ha) (omega arith)

abbrev pub IsSmall : ℤ → Type 0
IsSmall (pos p) = p ≤ 2 ^ 62
IsSmall (negsuc q) = q < 2 ^ 62

small_signed : (n : ℕ) → n < 2 ^ 32 → IsSmall (signed n)
small_signed n below = elim (cases_lt n (2 ^ 31)) [
  | inl la ↦ subst IsSmall (sym (low n la)) (omega arith)
  | inr ha ↦ subst IsSmall (sym (high n ha below)) (omega arith)
]

wide_is : (n : ℕ) → n < 2 ^ 32 → wide n ≡ bits_of 64 (signed n)
wide_is n below = elim (cases_lt n (2 ^ 31)) [
  | inl la ↦ wide_low n la ∙ rw (low n la) (omega arith)
  | inr ha ↦ wide_high n ha below ∙ rw (high n ha below) (omega arith)
]

apart : (a b : ℤ) → IsSmall a → IsSmall b → bits_of 64 a ≡ bits_of 64 b → a ≡ b
apart (pos a) (pos b) sa sb e = ap pos (omega arith)
apart (pos a) (negsuc b) sa sb e = absurd (omega arith)
apart (negsuc a) (pos b) sa sb e = absurd (omega arith)
apart (negsuc a) (negsuc b) sa sb e = ap negsuc (omega arith)

tested : (a b : ℤ) → IsSmall a → IsSmall b → (bits_of 64 a == bits_of 64 b) ≡ same_value a b
tested a b sa sb = elim (cases_eq (bits_of 64 a) (bits_of 64 b)) [
  | inl e ↦ eq-eqb _ _ e ∙ sym (subst (λ z. same_value a z ≡ true) (apart a b sa sb e) (same_value-same a))
  | inr other ↦ ne_eqb _ _ other ∙ sym (false_from_ne_true (same_value a b) (λ h. other (ap (bits_of 64) (same_value-true a b h))))
]

-- a product, small, with its low 32 and 64 bits
pub record Product (z : ℤ) (narrow broad : ℕ) : Type 0 where
  pub small : IsSmall z
  pub bits_32 : bits_of 32 z ≡ narrow % 2 ^ 32
  pub bits_64 : bits_of 64 z ≡ broad % 2 ^ 64

both_plain : (m n : ℕ) → m < 2 ^ 31 → n < 2 ^ 31 → Product (pos m *ℤ pos n) (m * n) (m * n)
both_plain m n first second =
    let most : m * n ≤ 2 ^ 31 * 2 ^ 31 = mul-le m n (2 ^ 31) (2 ^ 31) (omega arith) (omega arith) in
    record { small = omega arith; bits_32 = refl; bits_64 = refl }

-- the negative of a product p: m times a word n that represents -k
pub one_turned : (m n v k p : ℕ) → m ≤ 2 ^ 31 → k ≤ 2 ^ 31 → n + k ≡ 2 ^ 32 → v + k ≡ 2 ^ 64 → m * k ≡ p → Product (neg_ℤ (pos p)) (m * n) (m * v)
one_turned m n v k p first second word_sum sum e =
    at p
    e
    (omega (arith, mul-le m k (2 ^ 31) (2 ^ 31) first second))
    (sym (mul-add m n k) ∙ ap (λ z. m * z) word_sum)
    (sym (mul-add m v k) ∙ ap (λ z. m * z) sum)
  where
    at : (p : ℕ) → m * k ≡ p → m * k ≤ 2 ^ 62 → m * n + m * k ≡ m * 2 ^ 32 → m * v + m * k ≡ m * 2 ^ 64 → Product (neg_ℤ (pos p)) (m * n) (m * v)
    at zero e most narrow broad = record { small = omega arith; bits_32 = omega arith; bits_64 = omega arith }
    at (suc q) e most narrow broad = record { small = omega arith; bits_32 = omega arith; bits_64 = omega arith }

both_turned : (m u j n v k : ℕ) → j ≤ 2 ^ 31 → k ≤ 2 ^ 31 → m + j ≡ 2 ^ 32 → u + j ≡ 2 ^ 64 → n + k ≡ 2 ^ 32 → v + k ≡ 2 ^ 64 → Product (pos (j * k)) (m * n) (u * v)
both_turned m u j n v k first second wm sm wn sn =
    let most : j * k ≤ 2 ^ 31 * 2 ^ 31 = mul-le j k (2 ^ 31) (2 ^ 31) first second in
    let a : m * n + m * k ≡ m * 2 ^ 32 = sym (mul-add m n k) ∙ ap (λ z. m * z) wn in
    let b : m * k + j * k ≡ 2 ^ 32 * k = sym (add-mul m j k) ∙ ap (λ z. z * k) wm in
    let c : u * v + u * k ≡ u * 2 ^ 64 = sym (mul-add u v k) ∙ ap (λ z. u * z) sn in
    let d : u * k + j * k ≡ 2 ^ 64 * k = sym (add-mul u j k) ∙ ap (λ z. z * k) sm in
    record { small = omega arith; bits_32 = omega arith; bits_64 = omega arith }

product : (m n : ℕ) → m < 2 ^ 32 → n < 2 ^ 32 → Product (signed m *ℤ signed n) (m * n) (wide m * wide n)
product m n first second = elim (cases_lt m (2 ^ 31)) [
  | inl lm ↦ elim (cases_lt n (2 ^ 31)) [
    | inl ln ↦ rw (low m lm, low n ln, wide_low m lm, wide_low n ln) (both_plain m n lm ln)
    | inr hn ↦ rw (low m lm, high n hn second, wide_low m lm, wide_high n hn second)
        (one_turned m n (n + (2 ^ 64 - 2 ^ 32)) (suc (2 ^ 32 - 1 - n)) (m * suc (2 ^ 32 - 1 - n)) (omega arith) (omega arith) (omega arith) (omega arith) refl)
  ]
  | inr hm ↦ elim (cases_lt n (2 ^ 31)) [
    | inl ln ↦ rw (high m hm first, low n ln, wide_high m hm first, wide_low n ln, mul_comm m n, mul_comm (m + (2 ^ 64 - 2 ^ 32)) n)
        (one_turned n m (m + (2 ^ 64 - 2 ^ 32)) (suc (2 ^ 32 - 1 - m)) (suc (2 ^ 32 - 1 - m) * n) (omega arith) (omega arith) (omega arith) (omega arith) (mul_comm n (suc (2 ^ 32 - 1 - m))))
    | inr hn ↦ rw (high m hm first, high n hn second, wide_high m hm first, wide_high n hn second)
        (both_turned m (m + (2 ^ 64 - 2 ^ 32)) (suc (2 ^ 32 - 1 - m)) n (n + (2 ^ 64 - 2 ^ 32)) (suc (2 ^ 32 - 1 - n)) (omega arith) (omega arith) (omega arith) (omega arith) (omega arith) (omega arith))
  ]
]

-- the product of twice the width is that of the width, extended
pub product_says : (m n : ℕ) → m < 2 ^ 32 → n < 2 ^ 32 → Says (signed m *ℤ signed n) ((m * n) % 2 ^ 32) (wide ((m * n) % 2 ^ 32) == (wide m * wide n) % 2 ^ 64)
product_says m n first second =
    let made = product m n first second in
    let small : (m * n) % 2 ^ 32 < 2 ^ 32 = omega arith in
    record {
      bits = made.bits_32;
      fits = ap (λ k. k == (wide m * wide n) % 2 ^ 64) (wide_is ((m * n) % 2 ^ 32) small) ∙ ap (λ k. bits_of 64 (signed ((m * n) % 2 ^ 32)) == k) (sym made.bits_64)
          ∙ tested (signed ((m * n) % 2 ^ 32)) (signed m *ℤ signed n) (small_signed ((m * n) % 2 ^ 32) small) made.small;
    }
