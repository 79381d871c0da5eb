-- The term of each operator evaluates to what the operator does, where its test holds.
use Rattle.std.proofs.Common.{◌≡◌, ◌∙◌, inl, inr, ℕ, ◌+◌, ◌-◌, ◌*◌, ◌%◌, ◌^◌, ◌<◌, ◌==◌, Bool, true, false, not, refl, sym, ap, arith, ℤ, pos, negsuc, ◌+ℤ◌, ◌-ℤ◌, ◌*ℤ◌, List, [], ◌∷◌, Option, Some, None}
use Rattle.std.specs.Prelude.{◌&&◌, int_lt, bit_and, bit_or, bit_xor, if◌then◌else◌}
use Rattle.std.proofs.lemmas.Bool.{cases_lt}
use Rattle.std.proofs.lemmas.Nat.{and_le_l, or_of_32, xor_of_32}
use Rattle.std.proofs.Math.Nat.{mod-eq_of_lt}
use Rattle.rv_machine_spec.specs.Arithmetic.{word, number}
use Rattle.term_core_spec.specs.declared.Width.TheVariants.{W32, W64}
use Rattle.term_core_spec.specs.declared.WordOperator.TheVariants as word_op
use Rattle.term_core_spec.specs.Term.{Term, constant, less, add, subtract, multiply, sign_extend, bit_xor as xor_term}
use Rattle.term_core_spec.specs.Shapes.{sign_bit, signed_less}
use Rattle.term_core_spec.specs.Value.{Truth, Number, Assignment, value, operation}
use Rattle.decompile_laws.proofs.Words.{number_low, number_high}
use Rattle.c_types_spec.specs.declared.Scalar.{Scalar}
use Rattle.c_types_spec.specs.declared.Arithmetic.{Arithmetic}
use Rattle.c_types_spec.specs.declared.Arithmetic.TheVariants as arithmetic
use Rattle.c_types_spec.specs.Values as c
use Rattle.c_types_spec.specs.Values.{same_value, bits_of, of_bits, converted, is_of, arithmetic_value}
use Rattle.c_graph_spec.specs.State.{width_of}
use Rattle.c_graph_spec.specs.Values.{computed}
use Rattle.c_graph_spec.specs.Guards.{operator_tests, sum_fits, difference_fits, product_fits}
use Rattle.c_graph_laws.proofs.Extents.{scalar, full}
use Rattle.c_graph_laws.proofs.Steps.{all_hold}
use Rattle.c_graph_laws.proofs.Evaluates.{constant_is, words_is, less_is, equal_is, same_truth_is, sign_extend_is, one_holds}
use Rattle.c_graph_laws.proofs.Bits.{bits_back}
use Rattle.c_graph_laws.proofs.Compared.{signed_less_32}
use Rattle.c_graph_laws.proofs.Sums.{signed, low, high, Says, sum_says, sum_test, difference_says, difference_test, less_pos, least_pos}
use Rattle.c_graph_laws.proofs.Products.{wide, product_says}

-- where all tests hold, an operator has the value of its term; else it has none
pub data Operated (s : Assignment) (tests : List Term) (x : Term) (type : Scalar) : Option ℤ → Type 0 where
  operated_none : all_hold s tests ≡ false → Operated s tests x type None
  operated_some : (v : ℤ) (k : ℕ) → k < 2 ^ type.width → v ≡ of_bits type k → all_hold s tests ≡ true → value s x ≡ Number (width_of type) k → Operated s tests x type (Some v)

-- neither a division nor a shift
abbrev pub IsPlainOperator : Arithmetic → Type 0
IsPlainOperator arithmetic.Divide = ⊥
IsPlainOperator arithmetic.Remainder = ⊥
IsPlainOperator arithmetic.ShiftLeft = ⊥
IsPlainOperator arithmetic.ShiftRight = ⊥
IsPlainOperator other = Unit {0}

-- ---- words of the machine

pub word_is : (z : ℤ) → word z ≡ bits_of 32 z
word_is (pos n) = refl
word_is (negsuc n) = refl

pub number_is : (n : ℕ) → n < 2 ^ 32 → number n ≡ signed n
number_is n below = elim (cases_lt n (2 ^ 31)) [
  | inl la ↦ number_low n la ∙ sym (low n la)
  | inr ha ↦ number_high n ha below ∙ sym (high n ha below)
]

module _ (s : Assignment) (x y : Term) (m n : ℕ) (first : m < 2 ^ 32) (second : n < 2 ^ 32) (ex : value s x ≡ Number W32 m) (ey : value s y ≡ Number W32 n) where
  -- ---- tests of overflow

  less_signed : (x y : Term) (m n : ℕ) → m < 2 ^ 32 → n < 2 ^ 32 → value s x ≡ Number W32 m → value s y ≡ Number W32 n
      → value s (signed_less W32 x y) ≡ Truth (int_lt (signed m) (signed n))
  unfolding operation
  less_signed x y m n first second ex ey =
      less_is s W32 (xor_term x (sign_bit W32)) (xor_term y (sign_bit W32)) (bit_xor m (2 ^ 31)) (bit_xor n (2 ^ 31))
      (words_is s word_op.Xor W32 x (sign_bit W32) m (2 ^ 31) ex (constant_is s W32 (2 ^ 31)))
      (words_is s word_op.Xor W32 y (sign_bit W32) n (2 ^ 31) ey (constant_is s W32 (2 ^ 31)))
      ∙ ap Truth (signed_less_32 m n first second)

  sum_tested : value s (sum_fits W32 x y) ≡ Truth (sum_test m n ((m + n) % 2 ^ 32))
  unfolding operation
  sum_tested =
      same_truth_is s (signed_less W32 (add x y) x) (signed_less W32 y (constant W32 0)) _ _
      (less_signed (add x y) x ((m + n) % 2 ^ 32) m (omega arith) first (words_is s word_op.Add W32 x y m n ex ey) ex)
      (less_signed y (constant W32 0) n 0 second (omega arith) ey (constant_is s W32 0) ∙ ap (λ z. Truth (int_lt (signed n) z)) (low 0 (omega arith)))

  subtracted : value s (subtract x y) ≡ Number W32 ((m + (2 ^ 32 - n)) % 2 ^ 32)
  unfolding operation
  subtracted = words_is s word_op.Subtract W32 x y m n ex ey ∙ ap (λ k. Number W32 ((m + (2 ^ 32 - k)) % 2 ^ 32)) (mod-eq_of_lt second)

  difference_tested : value s (difference_fits W32 x y) ≡ Truth (difference_test m n ((m + (2 ^ 32 - n)) % 2 ^ 32))
  difference_tested =
      same_truth_is s (signed_less W32 (subtract x y) x) (signed_less W32 (constant W32 0) y) _ _
      (less_signed (subtract x y) x ((m + (2 ^ 32 - n)) % 2 ^ 32) m (omega arith) first subtracted ex)
      (less_signed (constant W32 0) y 0 n (omega arith) second (constant_is s W32 0) ey ∙ ap (λ z. Truth (int_lt z (signed n))) (low 0 (omega arith)))

  product_tested : value s (product_fits x y) ≡ Truth (wide ((m * n) % 2 ^ 32) == (wide m * wide n) % 2 ^ 64)
  unfolding operation
  product_tested =
      equal_is s W64 (sign_extend W64 (multiply x y)) (multiply (sign_extend W64 x) (sign_extend W64 y)) (wide ((m * n) % 2 ^ 32)) ((wide m * wide n) % 2 ^ 64)
      (sign_extend_is s (multiply x y) W32 W64 ((m * n) % 2 ^ 32) (words_is s word_op.Multiply W32 x y m n ex ey))
      (words_is s word_op.Multiply W64 (sign_extend W64 x) (sign_extend W64 y) (wide m) (wide n) (sign_extend_is s x W32 W64 m ex) (sign_extend_is s y W32 W64 n ey))

  -- a signed result that has to be a value of the type
  signed_means : (z : ℤ) (r : ℕ) (b : Bool) (test result : Term) → Says z r b → r < 2 ^ 32 → value s test ≡ Truth b → value s result ≡ Number W32 r
      → Operated s (test ∷ []) result (scalar 32 true) (c.computed (scalar 32 true) z)
  unfolding converted
  signed_means z r b test result says below et er =
      at (is_of (scalar 32 true) z) (et ∙ ap Truth (says.fits ∙ ap (λ k. same_value (signed k) z) (sym says.bits)))
    where
      at : (t : Bool) → value s test ≡ Truth t → Operated s (test ∷ []) result (scalar 32 true) (if true && not t then None else Some (converted (scalar 32 true) z))
      at true e = operated_some (converted (scalar 32 true) z) r below (ap signed says.bits) (one_holds s test true e) er
      at false e = operated_none (one_holds s test false e)

  unsigned_means : (z : ℤ) (r : ℕ) (result : Term) → bits_of 32 z ≡ r → r < 2 ^ 32 → value s result ≡ Number W32 r
      → Operated s [] result (scalar 32 false) (c.computed (scalar 32 false) z)
  unfolding converted
  unsigned_means z r result bits below er = operated_some (converted (scalar 32 false) z) r below (ap pos bits) refl er

  unsigned_difference : bits_of 32 (pos m -ℤ pos n) ≡ (m + (2 ^ 32 - n)) % 2 ^ 32
  unsigned_difference = elim (cases_lt m n) [
    | inl less ↦ rw (less_pos m n less) (omega arith)
    | inr least ↦ rw (least_pos m n least) (omega arith)
  ]

  -- a bitwise operator
  bitwise_means : (sign : Bool) (o : ℕ → ℕ → ℕ) (result : Term) → o m n < 2 ^ 32 → value s result ≡ Number W32 (o m n)
      → Operated s [] result (scalar 32 sign) (Some (c.bitwise (scalar 32 sign) o (of_bits (scalar 32 sign) m) (of_bits (scalar 32 sign) n)))
  bitwise_means sign o result below er =
      operated_some (c.bitwise (scalar 32 sign) o (of_bits (scalar 32 sign) m) (of_bits (scalar 32 sign) n)) (o m n) below
      (ap (λ a. of_bits (scalar 32 sign) (o a (bits_of 32 (of_bits (scalar 32 sign) n)))) (bits_back (scalar 32 sign) (full sign) m first)
      ∙ ap (λ b. of_bits (scalar 32 sign) (o m b)) (bits_back (scalar 32 sign) (full sign) n second)) refl er

  pub plain_means : (operator : Arithmetic) (sign : Bool) → IsPlainOperator operator
      → Operated s (operator_tests operator (scalar 32 sign) (scalar 32 sign) x y) (computed operator (scalar 32 sign) x y) (scalar 32 sign)
      (arithmetic_value operator (scalar 32 sign) (of_bits (scalar 32 sign) m) (of_bits (scalar 32 sign) n))
  unfolding arithmetic_value computed operator_tests operation
  plain_means arithmetic.Add true plain = signed_means (signed m +ℤ signed n) ((m + n) % 2 ^ 32) _ _ _ (sum_says m n first second) (omega arith) sum_tested (words_is s word_op.Add W32 x y m n ex ey)
  plain_means arithmetic.Add false plain = unsigned_means (pos m +ℤ pos n) ((m + n) % 2 ^ 32) _ refl (omega arith) (words_is s word_op.Add W32 x y m n ex ey)
  plain_means arithmetic.Subtract true plain =
      signed_means (signed m -ℤ signed n) ((m + (2 ^ 32 - n)) % 2 ^ 32) _ _ _ (difference_says m n first second) (omega arith) difference_tested subtracted
  plain_means arithmetic.Subtract false plain = unsigned_means (pos m -ℤ pos n) ((m + (2 ^ 32 - n)) % 2 ^ 32) _ unsigned_difference (omega arith) subtracted
  plain_means arithmetic.Multiply true plain = signed_means (signed m *ℤ signed n) ((m * n) % 2 ^ 32) _ _ _ (product_says m n first second) (omega arith) product_tested (words_is s word_op.Multiply W32 x y m n ex ey)
  plain_means arithmetic.Multiply false plain = unsigned_means (pos m *ℤ pos n) ((m * n) % 2 ^ 32) _ refl (omega arith) (words_is s word_op.Multiply W32 x y m n ex ey)
  plain_means arithmetic.And sign plain = bitwise_means sign bit_and _ (omega (arith, and_le_l m n)) (words_is s word_op.And W32 x y m n ex ey)
  plain_means arithmetic.Or sign plain = bitwise_means sign bit_or _ (or_of_32 m n first second) (words_is s word_op.Or W32 x y m n ex ey)
  plain_means arithmetic.Xor sign plain = bitwise_means sign bit_xor _ (xor_of_32 m n first second) (words_is s word_op.Xor W32 x y m n ex ey)
  plain_means arithmetic.Divide sign plain = absurd plain
  plain_means arithmetic.Remainder sign plain = absurd plain
  plain_means arithmetic.ShiftLeft sign plain = absurd plain
  plain_means arithmetic.ShiftRight sign plain = absurd plain
