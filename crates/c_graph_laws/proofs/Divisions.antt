-- The terms of division, of shifts and of conversions evaluate to what the operators do.
use Rattle.std.proofs.Common.{◌≡◌, ◌∙◌, inl, inr, ℕ, zero, suc, ◌+◌, ◌-◌, ◌*◌, ◌/◌, ◌%◌, ◌^◌, ◌<◌, ◌≤◌, ◌==◌, Bool, true, false, not, refl, sym, ap, subst, arith, ℤ, pos, negsuc, ◌*ℤ◌, neg_ℤ, nat_abs, [], ◌∷◌, Some, None, eq-eqb, ne_eqb}
use Rattle.std.specs.Prelude.{nat_lt, ◌&&◌, ◌||◌, int_lt, int_div, int_rem, bit_and, unsigned_abs, if◌then◌else◌}
use Rattle.std.specs.Int.{int_shr}
use Rattle.std.proofs.lemmas.Bool.{lt-ltb, le-ltb, lt-leb, cases_lt, cases_eq, and_parts, ltb-true}
use Rattle.std.proofs.lemmas.Nat.{pow_below, shr_le, and_mask, div_below}
use Rattle.std.proofs.Math.Nat.{mod-eq_of_lt, mul_comm, div-le_self, mod-le}
use Rattle.rv_instr.specs.declared.ArithmeticOperation.TheVariants as op
use Rattle.rv_machine_spec.specs.Arithmetic.{word, number}
use Rattle.rv_machine_spec.specs.Arithmetic as machine
use Rattle.term_core_spec.specs.declared.Width.TheVariants.{W8, W16, W32}
use Rattle.term_core_spec.specs.declared.WordOperator.TheVariants as word_op
use Rattle.term_core_spec.specs.Term.{Term, constant, and_term, equal, less}
use Rattle.term_core_spec.specs.Shapes.{sign_bit}
use Rattle.term_core_spec.specs.Value.{Truth, Number, Assignment, value, operation, low_bits, shifted_with_sign, ones_if, is_negative}
use Rattle.decompile_spec.specs.InstructionTerms as code
use Rattle.decompile_laws.proofs.InstructionTerms.{computed_evaluates}
use Rattle.decompile_laws.proofs.Words.{shift_signed_is}
use Rattle.c_types_spec.specs.declared.Scalar.{Scalar}
use Rattle.c_types_spec.specs.declared.Arithmetic.{Arithmetic}
use Rattle.c_types_spec.specs.declared.Arithmetic.TheVariants as arithmetic
use Rattle.c_types_spec.specs.Values as c
use Rattle.c_types_spec.specs.Values.{same_value, bits_of, of_bits, converted, is_of, arithmetic_value}
use Rattle.c_graph_spec.specs.State.{width_of}
use Rattle.c_graph_spec.specs.Values.{computed, at_width, places}
use Rattle.c_graph_spec.specs.Guards.{operator_tests, is_divisor, has_quotient, division_test, count_test}
use Rattle.c_graph_laws.proofs.Extents.{scalar, IsPlain, byte, half, full}
use Rattle.c_graph_laws.proofs.Evaluates.{constant_is, words_is, less_is, equal_is, not_is, and_is, sign_extend_is, zero_extend_is, low_is as low_word_is, one_holds}
use Rattle.c_graph_laws.proofs.Bits.{value_back, bits_below, same_value-same, resized, low_is, high_is}
use Rattle.c_graph_laws.proofs.Compared.{zero_is}
use Rattle.c_graph_laws.proofs.Sums.{signed, low, high}
use Rattle.c_graph_laws.proofs.Products.{one_turned}
use Rattle.c_graph_laws.proofs.Operators.{Operated, operated_none, operated_some, word_is, number_is}

abbrev pub IsDivision : Arithmetic → Type 0
IsDivision arithmetic.Divide = Unit {0}
IsDivision arithmetic.Remainder = Unit {0}
IsDivision other = ⊥

abbrev pub IsShift : Arithmetic → Type 0
IsShift arithmetic.ShiftLeft = Unit {0}
IsShift arithmetic.ShiftRight = Unit {0}
IsShift other = ⊥

-- ---- values within the range of a signed word

abbrev IsWithin : ℤ → Type 0
IsWithin (pos p) = p < 2 ^ 31
IsWithin (negsuc q) = q < 2 ^ 31

within_is : (z : ℤ) → IsWithin z → is_of (scalar 32 true) z ≡ true
unfolding converted
within_is (pos p) h =
    let r : p % 2 ^ 32 ≡ p = omega arith in
    rw (r, low p h) (same_value-same (pos p))
within_is (negsuc q) h =
    let r : 2 ^ 32 - 1 - q % 2 ^ 32 ≡ 2 ^ 32 - 1 - q = omega arith in
    let back : 2 ^ 32 - 1 - (2 ^ 32 - 1 - q) ≡ q = omega arith in
    rw (r, high (2 ^ 32 - 1 - q) (omega arith) (omega arith), back) (same_value-same (negsuc q))

too_great : is_of (scalar 32 true) (pos (2 ^ 31)) ≡ false
unfolding converted
too_great = refl

negative_within : (p : ℕ) → p ≤ 2 ^ 31 → IsWithin (neg_ℤ (pos p))
negative_within zero h = omega arith
negative_within (suc q) h = omega arith

-- the quotient of signed words is one, but for the least by -1
quotient_fits : (m n : ℕ) → m < 2 ^ 32 → n < 2 ^ 32 → 0 < n → is_of (scalar 32 true) (int_div (signed m) (signed n)) ≡ not ((m == 2 ^ 31) && (n == 2 ^ 32 - 1))
quotient_fits m n first second some = elim (cases_lt m (2 ^ 31)) [
  | inl lm ↦ rw (ne_eqb m (2 ^ 31) (λ e. omega arith)) (elim (cases_lt n (2 ^ 31)) [
    | inl ln ↦ rw (low m lm, low n ln) (within_is (pos (m / n)) (omega (arith, div-le_self m n)))
    | inr hn ↦ rw (low m lm, high n hn second) (within_is _ (negative_within (m / suc (2 ^ 32 - 1 - n)) (omega (arith, div-le_self m (suc (2 ^ 32 - 1 - n))))))
  ])
  | inr hm ↦ elim (cases_lt n (2 ^ 31)) [
    | inl ln ↦
        rw (ne_eqb n (2 ^ 32 - 1) (λ e. omega arith), high m hm first, low n ln)
        (within_is _ (negative_within (suc (2 ^ 32 - 1 - m) / n) (omega (arith, div-le_self (suc (2 ^ 32 - 1 - m)) n))) ∙ any (m == 2 ^ 31))
    | inr hn ↦ elim (cases_eq m (2 ^ 31)) [
      | inl em ↦ elim (cases_eq n (2 ^ 32 - 1)) [
        | inl en ↦ rw (em, en) too_great
        | inr other ↦
            rw (em, ne_eqb n (2 ^ 32 - 1) other, high n hn second)
            (within_is (pos (2 ^ 31 / suc (2 ^ 32 - 1 - n))) (div_below (2 ^ 31) (suc (2 ^ 32 - 1 - n)) (2 ^ 31) (omega arith) (omega arith)))
      ]
      | inr other ↦
          rw (ne_eqb m (2 ^ 31) other, high m hm first, high n hn second)
          (within_is (pos (suc (2 ^ 32 - 1 - m) / suc (2 ^ 32 - 1 - n))) (omega (arith, div-le_self (suc (2 ^ 32 - 1 - m)) (suc (2 ^ 32 - 1 - n)))))
    ]
  ]
]
  where
    any : (b : Bool) → true ≡ not (b && false)
    any true = refl
    any false = refl

rest_within : (m : ℕ) (d : ℤ) → m < 2 ^ 32 → IsWithin (int_rem (signed m) d)
rest_within m d below = elim (cases_lt m (2 ^ 31)) [
  | inl la ↦ rw (low m la) (omega (arith, mod-le m (nat_abs d)))
  | inr ha ↦ rw (high m ha below) (negative_within (suc (2 ^ 32 - 1 - m) % nat_abs d) (omega (arith, mod-le (suc (2 ^ 32 - 1 - m)) (nat_abs d))))
]

module _ (s : Assignment) (x y : Term) (m n : ℕ) (first : m < 2 ^ 32) (second : n < 2 ^ 32) (ex : value s x ≡ Number W32 m) (ey : value s y ≡ Number W32 n) where
  divisor_tested : value s (is_divisor W32 y) ≡ Truth (not (n == 0))
  divisor_tested = not_is s (equal y (constant W32 0)) (n == 0) (equal_is s W32 y (constant W32 0) n 0 ey (constant_is s W32 0))

  signed_tested : value s (division_test (scalar 32 true) x y) ≡ Truth (not (n == 0) && not ((m == 2 ^ 31) && (n == 2 ^ 32 - 1)))
  signed_tested =
      and_is s (is_divisor W32 y) (has_quotient W32 x y) (not (n == 0)) (not ((m == 2 ^ 31) && (n == 2 ^ 32 - 1))) divisor_tested
      (not_is s (and_term (equal x (sign_bit W32)) (equal y (constant W32 (2 ^ 32 - 1)))) ((m == 2 ^ 31) && (n == 2 ^ 32 - 1))
      (and_is s (equal x (sign_bit W32)) (equal y (constant W32 (2 ^ 32 - 1))) (m == 2 ^ 31) (n == 2 ^ 32 - 1)
      (equal_is s W32 x (sign_bit W32) m (2 ^ 31) ex (constant_is s W32 (2 ^ 31))) (equal_is s W32 y (constant W32 (2 ^ 32 - 1)) n (2 ^ 32 - 1) ey (constant_is s W32 (2 ^ 32 - 1)))))

  -- whether signed words can be divided
  signed_divides : c.can_divide (scalar 32 true) (signed m) (signed n) ≡ not (n == 0) && not ((m == 2 ^ 31) && (n == 2 ^ 32 - 1))
  signed_divides = ap (λ b. not b && is_of (scalar 32 true) (int_div (signed m) (signed n))) (zero_is (scalar 32 true) (full true) n second) ∙ elim (cases_lt 0 n) [
    | inl some ↦ ap (λ b. not (n == 0) && b) (quotient_fits m n first second some)
    | inr none ↦ let e : n ≡ 0 = omega arith in rw (eq-eqb n 0 e) refl
  ]

  unsigned_divides : c.can_divide (scalar 32 false) (pos m) (pos n) ≡ not (n == 0)
  unfolding converted
  unsigned_divides =
      let q : m / n % 2 ^ 32 ≡ m / n = omega (arith, div-le_self m n) in
      rw (q, same_value-same (pos (m / n))) (same (n == 0))
    where
      same : (b : Bool) → not b && true ≡ not b
      same true = refl
      same false = refl

  -- a result where the operands can be divided
  divided_means : (t : Scalar) (test result : Term) (b : Bool) (v : ℤ) (k : ℕ) → value s test ≡ Truth b → c.can_divide t (of_bits t m) (of_bits t n) ≡ b
      → (b ≡ true → (k < 2 ^ t.width) × (v ≡ of_bits t k) × (value s result ≡ Number (width_of t) k))
      → Operated s (test ∷ []) result t (c.divided t (of_bits t m) (of_bits t n) v)
  divided_means t test result b v k et e gives = at (c.can_divide t (of_bits t m) (of_bits t n)) e
    where
      at : (d : Bool) → d ≡ b → Operated s (test ∷ []) result t (if d then Some v else None)
      at true e = let g = gives (sym e) in operated_some v k g.0 g.1 (one_holds s test true (et ∙ ap Truth (sym e))) g.2
      at false e = operated_none (one_holds s test false (et ∙ ap Truth (sym e)))

  some_divisor : (b : Bool) → not (n == 0) && b ≡ true → (n == 0) ≡ false
  some_divisor b = at (n == 0)
    where
      at : (z : Bool) → not z && b ≡ true → z ≡ false
      at true e = absurd (cc)
      at false e = refl

  quotient_is : value s (computed arithmetic.Divide (scalar 32 true) x y) ≡ Number W32 (if n == 0 then 2 ^ 32 - 1 else word (int_div (number m) (number n)))
  unfolding computed code.computed machine.arithmetic
  quotient_is = computed_evaluates s op.Divide x y m n first second ex ey

  rest_is : value s (computed arithmetic.Remainder (scalar 32 true) x y) ≡ Number W32 (if n == 0 then m else word (int_rem (number m) (number n)))
  unfolding computed code.computed machine.arithmetic
  rest_is = computed_evaluates s op.Remainder x y m n first second ex ey

  signed_quotient_gives : not (n == 0) && not ((m == 2 ^ 31) && (n == 2 ^ 32 - 1)) ≡ true
      → (bits_of 32 (int_div (signed m) (signed n)) < 2 ^ 32) × (int_div (signed m) (signed n) ≡ signed (bits_of 32 (int_div (signed m) (signed n))))
      × (value s (computed arithmetic.Divide (scalar 32 true) x y) ≡ Number W32 (bits_of 32 (int_div (signed m) (signed n))))
  signed_quotient_gives e =
      let fits = (and_parts (not (same_value (signed n) (pos 0))) (is_of (scalar 32 true) (int_div (signed m) (signed n))) (signed_divides ∙ e)).1 in
      let some = some_divisor (not ((m == 2 ^ 31) && (n == 2 ^ 32 - 1))) e in (
        bits_below 32 (int_div (signed m) (signed n)),
        value_back (scalar 32 true) (int_div (signed m) (signed n)) fits,
        quotient_is ∙ ap (λ b. Number W32 (if b then 2 ^ 32 - 1 else word (int_div (number m) (number n)))) some ∙ ap (Number W32) (word_is (int_div (number m) (number n)))
            ∙ ap (λ z. Number W32 (bits_of 32 (int_div z (number n)))) (number_is m first) ∙ ap (λ z. Number W32 (bits_of 32 (int_div (signed m) z))) (number_is n second),
      )

  signed_rest_gives : not (n == 0) && not ((m == 2 ^ 31) && (n == 2 ^ 32 - 1)) ≡ true
      → (bits_of 32 (int_rem (signed m) (signed n)) < 2 ^ 32) × (int_rem (signed m) (signed n) ≡ signed (bits_of 32 (int_rem (signed m) (signed n))))
      × (value s (computed arithmetic.Remainder (scalar 32 true) x y) ≡ Number W32 (bits_of 32 (int_rem (signed m) (signed n))))
  signed_rest_gives e =
      let some = some_divisor (not ((m == 2 ^ 31) && (n == 2 ^ 32 - 1))) e in (
        bits_below 32 (int_rem (signed m) (signed n)),
        value_back (scalar 32 true) (int_rem (signed m) (signed n)) (within_is (int_rem (signed m) (signed n)) (rest_within m (signed n) first)),
        rest_is ∙ ap (λ b. Number W32 (if b then m else word (int_rem (number m) (number n)))) some ∙ ap (Number W32) (word_is (int_rem (number m) (number n)))
            ∙ ap (λ z. Number W32 (bits_of 32 (int_rem z (number n)))) (number_is m first) ∙ ap (λ z. Number W32 (bits_of 32 (int_rem (signed m) z))) (number_is n second),
      )

  no_zero : not (n == 0) ≡ true → (n == 0) ≡ false
  no_zero e = some_divisor true (ap (λ b. b && true) e)

  pub division_means : (operator : Arithmetic) (sign : Bool) → IsDivision operator → (sort : Scalar)
      → Operated s (operator_tests operator (scalar 32 sign) sort x y) (computed operator (scalar 32 sign) x y) (scalar 32 sign)
      (arithmetic_value operator (scalar 32 sign) (of_bits (scalar 32 sign) m) (of_bits (scalar 32 sign) n))
  unfolding arithmetic_value operator_tests computed operation
  division_means arithmetic.Divide true which sort =
      divided_means (scalar 32 true) (division_test (scalar 32 true) x y) _ (not (n == 0) && not ((m == 2 ^ 31) && (n == 2 ^ 32 - 1))) (int_div (signed m) (signed n))
      (bits_of 32 (int_div (signed m) (signed n))) signed_tested signed_divides signed_quotient_gives
  division_means arithmetic.Divide false which sort =
      divided_means (scalar 32 false) (division_test (scalar 32 false) x y) _ (not (n == 0)) (pos (m / n)) (m / n) divisor_tested unsigned_divides
      (λ e. (omega (arith, div-le_self m n), refl, words_is s word_op.Divide W32 x y m n ex ey ∙ ap (λ b. Number W32 (if b then 2 ^ 32 - 1 else m / n)) (no_zero e)))
  division_means arithmetic.Remainder true which sort =
      divided_means (scalar 32 true) (division_test (scalar 32 true) x y) _ (not (n == 0) && not ((m == 2 ^ 31) && (n == 2 ^ 32 - 1))) (int_rem (signed m) (signed n))
      (bits_of 32 (int_rem (signed m) (signed n))) signed_tested signed_divides signed_rest_gives
  division_means arithmetic.Remainder false which sort =
      divided_means (scalar 32 false) (division_test (scalar 32 false) x y) _ (not (n == 0)) (pos (m % n)) (m % n) divisor_tested unsigned_divides
      (λ e. (omega (arith, mod-le m n), refl, words_is s word_op.Remainder W32 x y m n ex ey ∙ ap (λ b. Number W32 (if b then m else m % n)) (no_zero e)))
  division_means arithmetic.Add sign which sort = absurd which
  division_means arithmetic.Subtract sign which sort = absurd which
  division_means arithmetic.Multiply sign which sort = absurd which
  division_means arithmetic.ShiftLeft sign which sort = absurd which
  division_means arithmetic.ShiftRight sign which sort = absurd which
  division_means arithmetic.And sign which sort = absurd which
  division_means arithmetic.Or sign which sort = absurd which
  division_means arithmetic.Xor sign which sort = absurd which

-- ---- conversions

-- a word at another width
pub at_width_is : (s : Assignment) (source type : Scalar) → IsPlain source → IsPlain type → (x : Term) (n : ℕ) → value s x ≡ Number (width_of source) n
    → value s (at_width source (width_of type) x) ≡ Number (width_of type) (resized source type n)
at_width_is s _ _ (byte false) (byte t) x n e = e
at_width_is s _ _ (byte true) (byte t) x n e = e
at_width_is s _ _ (half false) (half t) x n e = e
at_width_is s _ _ (half true) (half t) x n e = e
at_width_is s _ _ (full false) (full t) x n e = e
at_width_is s _ _ (full true) (full t) x n e = e
at_width_is s _ _ (byte false) (half t) x n e = zero_extend_is s x W8 W16 n e
at_width_is s _ _ (byte true) (half t) x n e = sign_extend_is s x W8 W16 n e
at_width_is s _ _ (byte false) (full t) x n e = zero_extend_is s x W8 W32 n e
at_width_is s _ _ (byte true) (full t) x n e = sign_extend_is s x W8 W32 n e
at_width_is s _ _ (half false) (full t) x n e = zero_extend_is s x W16 W32 n e
at_width_is s _ _ (half true) (full t) x n e = sign_extend_is s x W16 W32 n e
at_width_is s _ _ (half false) (byte t) x n e = low_word_is s x W16 W8 n e
at_width_is s _ _ (half true) (byte t) x n e = low_word_is s x W16 W8 n e
at_width_is s _ _ (full false) (byte t) x n e = low_word_is s x W32 W8 n e
at_width_is s _ _ (full true) (byte t) x n e = low_word_is s x W32 W8 n e
at_width_is s _ _ (full false) (half t) x n e = low_word_is s x W32 W16 n e
at_width_is s _ _ (full true) (half t) x n e = low_word_is s x W32 W16 n e

-- ---- shifts

-- a count is in its range where its word is
count_is : (t : Scalar) → IsPlain t → (k : ℕ) → k < 2 ^ t.width → (int_lt (of_bits t k) (pos 0) || not (int_lt (of_bits t k) (pos 32))) ≡ not (nat_lt k 32)
count_is _ (byte false) k below = rw (le-ltb k 0 (omega arith)) refl
count_is _ (half false) k below = rw (le-ltb k 0 (omega arith)) refl
count_is _ (full false) k below = rw (le-ltb k 0 (omega arith)) refl
count_is _ (byte true) k below = elim (cases_lt k (2 ^ 7)) [
  | inl la ↦ rw (low_is 8 k la, le-ltb k 0 (omega arith)) refl
  | inr ha ↦ rw (high_is 8 k ha below, le-ltb k 32 (omega arith)) refl
]
count_is _ (half true) k below = elim (cases_lt k (2 ^ 15)) [
  | inl la ↦ rw (low_is 16 k la, le-ltb k 0 (omega arith)) refl
  | inr ha ↦ rw (high_is 16 k ha below, le-ltb k 32 (omega arith)) refl
]
count_is _ (full true) k below = elim (cases_lt k (2 ^ 31)) [
  | inl la ↦ rw (low_is 32 k la, le-ltb k 0 (omega arith)) refl
  | inr ha ↦ rw (high_is 32 k ha below, le-ltb k 32 (omega arith)) refl
]

-- a small count is itself, and its word at 32 bits too
small_count : (t : Scalar) → IsPlain t → (k : ℕ) → k < 32 → (unsigned_abs (of_bits t k) ≡ k) × (resized t (scalar 32 false) k ≡ k)
small_count _ (byte false) k few = (refl, refl)
small_count _ (half false) k few = (refl, refl)
small_count _ (full false) k few = (refl, refl)
small_count _ (byte true) k few = (rw (low_is 8 k (omega arith)) refl, rw (lt-leb (2 ^ 7) k (omega arith)) (omega arith))
small_count _ (half true) k few = (rw (low_is 16 k (omega arith)) refl, rw (lt-leb (2 ^ 15) k (omega arith)) (omega arith))
small_count _ (full true) k few = (rw (low_is 32 k (omega arith)) refl, refl)

two_to : (k : ℕ) → k < 32 → 2 ^ k ≤ 2 ^ 31
two_to k few = elim (cases_lt k 31) [
  | inl less ↦ omega (arith, pow_below k 31 less)
  | inr most ↦ let e : k ≡ 31 = omega arith in rw e (omega arith)
]

-- the bits of a value that is shifted left
left_bits : (sign : Bool) (m k : ℕ) → m < 2 ^ 32 → k < 32 → bits_of 32 (of_bits (scalar 32 sign) m *ℤ pos (2 ^ k)) ≡ (m * 2 ^ k) % 2 ^ 32
left_bits false m k below few = refl
left_bits true m k below few = elim (cases_lt m (2 ^ 31)) [
  | inl la ↦ rw (low m la) refl
  | inr ha ↦
      let q : ℕ = suc (2 ^ 32 - 1 - m) in
      let made = one_turned (2 ^ k) m (m + (2 ^ 64 - 2 ^ 32)) (suc (2 ^ 32 - 1 - m)) (suc (2 ^ 32 - 1 - m) * 2 ^ k) (two_to k few) (omega arith) (omega arith) (omega arith) (mul_comm (2 ^ k) (suc (2 ^ 32 - 1 - m))) in
      rw (high m ha below) (made.bits_32 ∙ ap (λ p. p % 2 ^ 32) (mul_comm (2 ^ k) m))
]

right_bits : (sign : Bool) (m k : ℕ) → m < 2 ^ 32 → bits_of 32 (int_shr (of_bits (scalar 32 sign) m) k) ≡ (if sign then word (int_shr (number m) k) else m / 2 ^ k)
right_bits false m k below = omega (arith, shr_le m k)
right_bits true m k below = ap (λ z. bits_of 32 (int_shr z k)) (sym (number_is m below)) ∙ sym (word_is (int_shr (number m) k))

module _ (s : Assignment) (x y : Term) (m k : ℕ) (sign : Bool) (t : Scalar) (plain : IsPlain t) (first : m < 2 ^ 32) (second : k < 2 ^ t.width)
    (ex : value s x ≡ Number W32 m) (ey : value s y ≡ Number (width_of t) k) where
  abbrev left : ℤ
  left = of_bits (scalar 32 sign) m

  abbrev right : ℤ
  right = of_bits t k

  count_tested : value s (count_test (scalar 32 sign) t y) ≡ Truth (nat_lt k 32)
  count_tested = less_is s (width_of t) y (constant (width_of t) 32) k 32 ey (constant_is s (width_of t) 32)

  -- the places that are moved
  places_is : k < 32 → value s (places W32 (at_width t W32 y)) ≡ Number W32 k
  unfolding operation
  places_is few =
      words_is s word_op.And W32 (at_width t W32 y) (constant W32 31) (resized t (scalar 32 false) k) 31 (at_width_is s t (scalar 32 false) plain (full false) y k ey) (constant_is s W32 31)
      ∙ ap (λ n. Number W32 (bit_and n 31)) (small_count t plain k few).1 ∙ ap (Number W32) (and_mask k 5 ∙ mod-eq_of_lt few)

  shifted_means : (z : ℤ) (r : ℕ) (result : Term) → (k < 32 → (bits_of 32 z ≡ r) × (r < 2 ^ 32) × (value s result ≡ Number W32 r))
      → Operated s (count_test (scalar 32 sign) t y ∷ []) result (scalar 32 sign) (c.shifted (scalar 32 sign) right z)
  unfolding converted
  shifted_means z r result gives = at (nat_lt k 32) refl (count_is t plain k second)
    where
      at : (b : Bool) → nat_lt k 32 ≡ b → (int_lt right (pos 0) || not (int_lt right (pos 32))) ≡ not (nat_lt k 32)
          → Operated s (count_test (scalar 32 sign) t y ∷ []) result (scalar 32 sign) (if int_lt right (pos 0) || not (int_lt right (pos 32)) then None else Some (converted (scalar 32 sign) z))
      at true e out =
          let g = gives (ltb-true k 32 e) in
          subst (λ (b : Bool). Operated s (count_test (scalar 32 sign) t y ∷ []) result (scalar 32 sign) (if b then None else Some (converted (scalar 32 sign) z))) (sym (out ∙ ap not e))
          (operated_some (converted (scalar 32 sign) z) r g.1 (ap (of_bits (scalar 32 sign)) g.0) (one_holds s (count_test (scalar 32 sign) t y) true (count_tested ∙ ap Truth e)) g.2)
      at false e out =
          subst (λ (b : Bool). Operated s (count_test (scalar 32 sign) t y ∷ []) result (scalar 32 sign) (if b then None else Some (converted (scalar 32 sign) z))) (sym (out ∙ ap not e))
          (operated_none (one_holds s (count_test (scalar 32 sign) t y) false (count_tested ∙ ap Truth e)))

  right_below : k < 32 → (if sign then word (int_shr (number m) k) else m / 2 ^ k) < 2 ^ 32
  right_below few = subst (λ n. n < 2 ^ 32) (right_bits sign m k first) (bits_below 32 (int_shr left k))

  right_is : k < 32 → value s (computed arithmetic.ShiftRight (scalar 32 sign) x (at_width t W32 y)) ≡ Number W32 (if sign then word (int_shr (number m) k) else m / 2 ^ k)
  unfolding computed operation
  right_is few = at sign
    where
      at : (sign : Bool) → value s (computed arithmetic.ShiftRight (scalar 32 sign) x (at_width t W32 y)) ≡ Number W32 (if sign then word (int_shr (number m) k) else m / 2 ^ k)
      at true =
          words_is s word_op.ShiftRightSigned W32 x (places W32 (at_width t W32 y)) m k ex (places_is few)
          ∙ ap (λ b. Number W32 (if b then shifted_with_sign 32 m k else ones_if (is_negative 32 m) 0 32)) (lt-ltb k 32 few) ∙ ap (Number W32) (shift_signed_is m k first few)
      at false = words_is s word_op.ShiftRight W32 x (places W32 (at_width t W32 y)) m k ex (places_is few) ∙ ap (λ b. Number W32 (if b then m / 2 ^ k else 0)) (lt-ltb k 32 few)

  pub shift_means : (operator : Arithmetic) → IsShift operator
      → Operated s (operator_tests operator (scalar 32 sign) t x y) (computed operator (scalar 32 sign) x (at_width t W32 y)) (scalar 32 sign)
      (arithmetic_value operator (scalar 32 sign) left right)
  unfolding arithmetic_value operator_tests computed operation
  shift_means arithmetic.ShiftLeft which =
      shifted_means (left *ℤ pos (2 ^ unsigned_abs right)) ((m * 2 ^ k) % 2 ^ 32) _ (λ few. (
        ap (λ n. bits_of 32 (left *ℤ pos (2 ^ n))) (small_count t plain k few).0 ∙ left_bits sign m k first few,
        omega arith,
        words_is s word_op.ShiftLeft W32 x (places W32 (at_width t W32 y)) m k ex (places_is few) ∙ ap (λ b. Number W32 (if b then low_bits 32 (m * 2 ^ k) else 0)) (lt-ltb k 32 few),
      ))
  shift_means arithmetic.ShiftRight which =
      shifted_means (int_shr left (unsigned_abs right)) (if sign then word (int_shr (number m) k) else m / 2 ^ k) _ (λ few. (
        ap (λ n. bits_of 32 (int_shr left n)) (small_count t plain k few).0 ∙ right_bits sign m k first,
        right_below few,
        right_is few,
      ))
  shift_means arithmetic.Add which = absurd which
  shift_means arithmetic.Subtract which = absurd which
  shift_means arithmetic.Multiply which = absurd which
  shift_means arithmetic.Divide which = absurd which
  shift_means arithmetic.Remainder which = absurd which
  shift_means arithmetic.And which = absurd which
  shift_means arithmetic.Or which = absurd which
  shift_means arithmetic.Xor which = absurd which
