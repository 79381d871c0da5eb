-- Comparison of values, by their bits.
use Rattle.std.proofs.Common.{◌≡◌, ◌∙◌, inl, inr, ℕ, ◌+◌, ◌-◌, ◌*◌, ◌^◌, ◌<◌, ◌≤◌, ◌==◌, true, false, refl, sym, ap, arith, ℤ, pos, negsuc, eq-eqb, ne_eqb}
use Rattle.std.specs.Prelude.{nat_lt, int_lt, bit_xor}
use Rattle.std.specs.Int.Bits.{xor_zero_l, xor_zero_r, xor_self}
use Rattle.std.proofs.lemmas.Bool.{lt-ltb, le-ltb, cases_lt, cases_eq, false_from_ne_true}
use Rattle.std.proofs.lemmas.Bool.Decides.{nat_tests}
use Rattle.std.proofs.lemmas.Nat.{xor_block, pow_pos}
use Rattle.c_types_spec.specs.declared.Scalar.{Scalar}
use Rattle.c_types_spec.specs.Values.{same_value, bits_of, of_bits}
use Rattle.c_graph_laws.proofs.Extents.{scalar, IsPlain, byte, half, full}
use Rattle.c_graph_laws.proofs.Bits.{same_value-true, same_value-same, bits_back, low_is, high_is}

-- ---- the same

pub same_is : (t : Scalar) → IsPlain t → (m n : ℕ) → m < 2 ^ t.width → n < 2 ^ t.width → same_value (of_bits t m) (of_bits t n) ≡ (m == n)
same_is t plain m n first second = elim (cases_eq m n) [
  | inl e ↦ ap (λ k. same_value (of_bits t m) (of_bits t k)) (sym e) ∙ same_value-same (of_bits t m) ∙ sym (eq-eqb m n e)
  | inr other ↦
      false_from_ne_true (same_value (of_bits t m) (of_bits t n))
      (λ e. other (sym (bits_back t plain m first) ∙ ap (bits_of t.width) (same_value-true (of_bits t m) (of_bits t n) e) ∙ bits_back t plain n second))
      ∙ sym (ne_eqb m n other)
]

pub zero_is : (t : Scalar) → IsPlain t → (n : ℕ) → n < 2 ^ t.width → same_value (of_bits t n) (pos 0) ≡ (n == 0)
zero_is _ (byte false) n below = refl
zero_is _ (half false) n below = refl
zero_is _ (full false) n below = refl
zero_is _ (byte true) n below = same_is (scalar 8 true) (byte true) n 0 below (omega arith)
zero_is _ (half true) n below = same_is (scalar 16 true) (half true) n 0 below (omega arith)
zero_is _ (full true) n below = same_is (scalar 32 true) (full true) n 0 below (omega arith)

-- ---- signed less

module _ (h : ℕ) where
  flip_low : (a : ℕ) → a < 2 ^ h → bit_xor a (2 ^ h) ≡ a + 2 ^ h
  flip_low a low =
      let whole : a ≡ 0 * 2 ^ h + a = omega arith in
      let one : 2 ^ h ≡ 1 * 2 ^ h + 0 = omega arith in
      ap (λ n. bit_xor n (2 ^ h)) whole ∙ ap (λ n. bit_xor (0 * 2 ^ h + a) n) one ∙ xor_block h 0 1 a 0 low (pow_pos h) ∙ rw (xor_zero_l 1, xor_zero_r a) (omega arith)

  flip_high : (a : ℕ) → 2 ^ h ≤ a → a < 2 ^ h + 2 ^ h → bit_xor a (2 ^ h) ≡ a - 2 ^ h
  flip_high a high below =
      let whole : a ≡ 1 * 2 ^ h + (a - 2 ^ h) = omega arith in
      let one : 2 ^ h ≡ 1 * 2 ^ h + 0 = omega arith in
      ap (λ n. bit_xor n (2 ^ h)) whole ∙ ap (λ n. bit_xor (1 * 2 ^ h + (a - 2 ^ h)) n) one ∙ xor_block h 1 1 (a - 2 ^ h) 0 (omega arith) (pow_pos h)
      ∙ rw (xor_self 1, xor_zero_r (a - 2 ^ h)) (omega arith)

  less_by : (read : ℕ → ℤ) → ((a : ℕ) → a < 2 ^ h → read a ≡ pos a) → ((a : ℕ) → 2 ^ h ≤ a → a < 2 ^ h + 2 ^ h → read a ≡ negsuc (2 ^ h + 2 ^ h - 1 - a))
      → (a b : ℕ) → a < 2 ^ h + 2 ^ h → b < 2 ^ h + 2 ^ h → nat_lt (bit_xor a (2 ^ h)) (bit_xor b (2 ^ h)) ≡ int_lt (read a) (read b)
  less_by read low high a b first second = elim (cases_lt a (2 ^ h)) [
    | inl la ↦ elim (cases_lt b (2 ^ h)) [
      | inl lb ↦ rw (flip_low a la, flip_low b lb, low a la, low b lb) (grind (arith, nat_tests))
      | inr hb ↦ rw (flip_low a la, flip_high b hb second, low a la, high b hb second) (le-ltb (a + 2 ^ h) (b - 2 ^ h) (omega arith))
    ]
    | inr ha ↦ elim (cases_lt b (2 ^ h)) [
      | inl lb ↦ rw (flip_high a ha first, flip_low b lb, high a ha first, low b lb) (lt-ltb (a - 2 ^ h) (b + 2 ^ h) (omega arith))
      | inr hb ↦ rw (flip_high a ha first, flip_high b hb second, high a ha first, high b hb second) (grind (arith, nat_tests))
    ]
  ]

pub signed_less_8 : (a b : ℕ) → a < 2 ^ 8 → b < 2 ^ 8 → nat_lt (bit_xor a (2 ^ 7)) (bit_xor b (2 ^ 7)) ≡ int_lt (of_bits (scalar 8 true) a) (of_bits (scalar 8 true) b)
signed_less_8 a b first second = less_by 7 (of_bits (scalar 8 true)) (low_is 8) (high_is 8) a b first second

pub signed_less_16 : (a b : ℕ) → a < 2 ^ 16 → b < 2 ^ 16 → nat_lt (bit_xor a (2 ^ 15)) (bit_xor b (2 ^ 15)) ≡ int_lt (of_bits (scalar 16 true) a) (of_bits (scalar 16 true) b)
signed_less_16 a b first second = less_by 15 (of_bits (scalar 16 true)) (low_is 16) (high_is 16) a b first second

pub signed_less_32 : (a b : ℕ) → a < 2 ^ 32 → b < 2 ^ 32 → nat_lt (bit_xor a (2 ^ 31)) (bit_xor b (2 ^ 31)) ≡ int_lt (of_bits (scalar 32 true) a) (of_bits (scalar 32 true) b)
signed_less_32 a b first second = less_by 31 (of_bits (scalar 32 true)) (low_is 32) (high_is 32) a b first second
