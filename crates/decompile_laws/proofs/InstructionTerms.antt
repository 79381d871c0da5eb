-- The term of each operation and of each branch evaluates to what the machine computes.
use Rattle.std.proofs.Common.{◌≡◌, ◌∙◌, ℕ, ◌+◌, ◌-◌, ◌*◌, ◌/◌, ◌%◌, ◌^◌, ◌<◌, Bool, true, cond, refl, ap, arith}
use Rattle.std.specs.Prelude.{nat_lt, int_lt, bit_xor}
use Rattle.std.proofs.lemmas.Bool.{lt-ltb}
use Rattle.std.proofs.Math.Nat.{mod-eq_of_lt}
use Rattle.rv_instr.specs.declared.ArithmeticOperation.{ArithmeticOperation}
use Rattle.rv_instr.specs.declared.ArithmeticOperation.TheVariants as op
use Rattle.rv_instr.specs.declared.BranchTest.{BranchTest}
use Rattle.rv_instr.specs.declared.BranchTest.TheVariants as branch
use Rattle.rv_machine_spec.specs.Arithmetic.{number, arithmetic, holds}
use Rattle.term_core_spec.specs.declared.Width.TheVariants.{W32, W64}
use Rattle.term_core_spec.specs.declared.WordOperator.TheVariants as word_op
use Rattle.term_core_spec.specs.Term.{Term, constant, equal, less, multiply, bit_xor as xor_term, not_term, and_term, divide, remainder, zero_extend, sign_extend, byte}
use Rattle.term_core_spec.specs.Shapes.{signed_less, sign_bit, is_positive, negated, magnitude, signed_quotient, signed_remainder, high_half}
use Rattle.term_core_spec.specs.Value.{Truth, Number, Assignment, value, operation, low_bits, ones_if, is_negative, shifted_with_sign}
use Rattle.decompile_spec.specs.InstructionTerms.{places, set_if, computed, taken, number as word_term}
use Rattle.decompile_laws.specs.Evaluation.{EvaluatesTo}
use Rattle.decompile_laws.proofs.Words.{signed_less_is, five_bits, shift_signed_is, wide, upper, upper_bytes, high_is, high_signed_is, high_signed_unsigned_is, positive, negative_of, size_of, quotient, rest, signed_quotient_of, signed_quotient_is, signed_remainder_of, signed_remainder_is}
use Rattle.decompile_laws.proofs.Values.{words_evaluates, less_evaluates, equal_evaluates, same_truth_evaluates, not_evaluates, and_evaluates, choose_evaluates, zero_extend_evaluates, sign_extend_evaluates, wide_words_evaluates, byte_evaluates, join_four_evaluates}

pub constant_evaluates : (s : Assignment) (n : ℕ) → EvaluatesTo s (word_term n) n
unfolding value
constant_evaluates s n = refl

module _ (s : Assignment) where
  -- ---- parts

  signed_less_evaluates : (x y : Term) (a b : ℕ) → a < 2 ^ 32 → b < 2 ^ 32 → EvaluatesTo s x a → EvaluatesTo s y b → value s (signed_less W32 x y) ≡ Truth (int_lt (number a) (number b))
  unfolding operation
  signed_less_evaluates x y a b first second ex ey =
      less_evaluates s (xor_term x (sign_bit W32)) (xor_term y (sign_bit W32)) (bit_xor a (2 ^ 31)) (bit_xor b (2 ^ 31))
      (words_evaluates s word_op.Xor x (sign_bit W32) a (2 ^ 31) ex (constant_evaluates s (2 ^ 31)))
      (words_evaluates s word_op.Xor y (sign_bit W32) b (2 ^ 31) ey (constant_evaluates s (2 ^ 31)))
      ∙ ap (λ t. Truth t) (signed_less_is a b first second)

  set_evaluates : (test : Term) (t : Bool) → value s test ≡ Truth t → EvaluatesTo s (set_if test) (cond t 1 0)
  set_evaluates test t e = choose_evaluates s test (word_term 1) (word_term 0) t 1 0 e (constant_evaluates s 1) (constant_evaluates s 0)

  places_evaluates : (y : Term) (b : ℕ) → EvaluatesTo s y b → EvaluatesTo s (places y) (b % 32)
  unfolding operation
  places_evaluates y b ey = words_evaluates s word_op.And y (word_term 31) b 31 ey (constant_evaluates s 31) ∙ ap (λ n. Number W32 n) (five_bits b)

  few : (b : ℕ) → nat_lt (b % 32) 32 ≡ true
  few b = lt-ltb (b % 32) 32 (omega arith)

  -- ---- high products

  high_half_evaluates : (x : Term) (p : ℕ) → p < 2 ^ 64 → value s x ≡ Number W64 p → EvaluatesTo s (high_half x) (p / 2 ^ 32)
  high_half_evaluates x p below ex =
      join_four_evaluates s (byte 4 x) (byte 5 x) (byte 6 x) (byte 7 x) (low_bits 8 (p / 2 ^ 32)) (low_bits 8 (p / 2 ^ 40)) (low_bits 8 (p / 2 ^ 48)) (low_bits 8 (p / 2 ^ 56))
      (omega arith) (omega arith) (omega arith) (omega arith)
      (byte_evaluates s 4 x W64 p ex) (byte_evaluates s 5 x W64 p ex) (byte_evaluates s 6 x W64 p ex) (byte_evaluates s 7 x W64 p ex)
      ∙ ap (λ n. Number W32 n) (upper_bytes p below)

  product_evaluates : (x y : Term) (u v : ℕ) → value s x ≡ Number W64 u → value s y ≡ Number W64 v → EvaluatesTo s (high_half (multiply x y)) (upper (u * v))
  unfolding operation
  product_evaluates x y u v ex ey = high_half_evaluates (multiply x y) (low_bits 64 (u * v)) (omega arith) (wide_words_evaluates s word_op.Multiply x y u v ex ey)

  -- ---- division

  positive_evaluates : (x : Term) (a : ℕ) → EvaluatesTo s x a → value s (is_positive x) ≡ Truth (positive a)
  positive_evaluates x a ex = less_evaluates s x (sign_bit W32) a (2 ^ 31) ex (constant_evaluates s (2 ^ 31))

  negated_evaluates : (x : Term) (a : ℕ) → EvaluatesTo s x a → EvaluatesTo s (negated x) (negative_of a)
  unfolding operation
  negated_evaluates x a ex = words_evaluates s word_op.Subtract (constant W32 0) x 0 a (constant_evaluates s 0) ex

  magnitude_evaluates : (x : Term) (a : ℕ) → EvaluatesTo s x a → EvaluatesTo s (magnitude x) (size_of a)
  magnitude_evaluates x a ex = choose_evaluates s (is_positive x) x (negated x) (positive a) a (negative_of a) (positive_evaluates x a ex) ex (negated_evaluates x a ex)

  sizes_divided : (x y : Term) (a b : ℕ) → EvaluatesTo s x a → EvaluatesTo s y b → EvaluatesTo s (divide (magnitude x) (magnitude y)) (quotient (size_of a) (size_of b))
  unfolding operation
  sizes_divided x y a b ex ey = words_evaluates s word_op.Divide (magnitude x) (magnitude y) (size_of a) (size_of b) (magnitude_evaluates x a ex) (magnitude_evaluates y b ey)

  sizes_left : (x y : Term) (a b : ℕ) → EvaluatesTo s x a → EvaluatesTo s y b → EvaluatesTo s (remainder (magnitude x) (magnitude y)) (rest (size_of a) (size_of b))
  unfolding operation
  sizes_left x y a b ex ey = words_evaluates s word_op.Remainder (magnitude x) (magnitude y) (size_of a) (size_of b) (magnitude_evaluates x a ex) (magnitude_evaluates y b ey)

  quotient_evaluates : (x y : Term) (a b : ℕ) → EvaluatesTo s x a → EvaluatesTo s y b → EvaluatesTo s (signed_quotient x y) (signed_quotient_of a b)
  quotient_evaluates x y a b ex ey =
      choose_evaluates s (and_term (not_term (equal (is_positive x) (is_positive y))) (not_term (equal y (constant W32 0))))
      (negated (divide (magnitude x) (magnitude y))) (divide (magnitude x) (magnitude y)) _ _ _
      (and_evaluates s _ _ _ _ (not_evaluates s _ _ (same_truth_evaluates s (is_positive x) (is_positive y) (positive a) (positive b) (positive_evaluates x a ex) (positive_evaluates y b ey)))
      (not_evaluates s _ _ (equal_evaluates s y (constant W32 0) b 0 ey (constant_evaluates s 0))))
      (negated_evaluates (divide (magnitude x) (magnitude y)) (quotient (size_of a) (size_of b)) (sizes_divided x y a b ex ey))
      (sizes_divided x y a b ex ey)

  remainder_evaluates : (x y : Term) (a b : ℕ) → EvaluatesTo s x a → EvaluatesTo s y b → EvaluatesTo s (signed_remainder x y) (signed_remainder_of a b)
  remainder_evaluates x y a b ex ey =
      choose_evaluates s (is_positive x) (remainder (magnitude x) (magnitude y)) (negated (remainder (magnitude x) (magnitude y))) (positive a) _ _
      (positive_evaluates x a ex) (sizes_left x y a b ex ey)
      (negated_evaluates (remainder (magnitude x) (magnitude y)) (rest (size_of a) (size_of b)) (sizes_left x y a b ex ey))

  -- ---- each operation

  pub computed_evaluates : (operation : ArithmeticOperation) (x y : Term) (a b : ℕ) → a < 2 ^ 32 → b < 2 ^ 32 → EvaluatesTo s x a → EvaluatesTo s y b
      → EvaluatesTo s (computed operation x y) (arithmetic operation a b)
  unfolding computed arithmetic operation
  computed_evaluates op.Add x y a b first second ex ey = words_evaluates s word_op.Add x y a b ex ey
  computed_evaluates op.Subtract x y a b first second ex ey =
      words_evaluates s word_op.Subtract x y a b ex ey ∙ ap (λ n. Number W32 ((a + (2 ^ 32 - n)) % 2 ^ 32)) (mod-eq_of_lt second)
  computed_evaluates op.ShiftLeft x y a b first second ex ey =
      words_evaluates s word_op.ShiftLeft x (places y) a (b % 32) ex (places_evaluates y b ey) ∙ ap (λ t. Number W32 (cond t (low_bits 32 (a * 2 ^ (b % 32))) 0)) (few b)
  computed_evaluates op.SetLess x y a b first second ex ey = set_evaluates (signed_less W32 x y) _ (signed_less_evaluates x y a b first second ex ey)
  computed_evaluates op.SetLessUnsigned x y a b first second ex ey = set_evaluates (less x y) _ (less_evaluates s x y a b ex ey)
  computed_evaluates op.Xor x y a b first second ex ey = words_evaluates s word_op.Xor x y a b ex ey
  computed_evaluates op.ShiftRightLogical x y a b first second ex ey =
      words_evaluates s word_op.ShiftRight x (places y) a (b % 32) ex (places_evaluates y b ey) ∙ ap (λ t. Number W32 (cond t (a / 2 ^ (b % 32)) 0)) (few b)
  computed_evaluates op.ShiftRightArithmetic x y a b first second ex ey =
      words_evaluates s word_op.ShiftRightSigned x (places y) a (b % 32) ex (places_evaluates y b ey)
      ∙ ap (λ t. Number W32 (cond t (shifted_with_sign 32 a (b % 32)) (ones_if (is_negative 32 a) 0 32))) (few b)
      ∙ ap (λ n. Number W32 n) (shift_signed_is a (b % 32) first (omega arith))
  computed_evaluates op.Or x y a b first second ex ey = words_evaluates s word_op.Or x y a b ex ey
  computed_evaluates op.And x y a b first second ex ey = words_evaluates s word_op.And x y a b ex ey
  computed_evaluates op.Multiply x y a b first second ex ey = words_evaluates s word_op.Multiply x y a b ex ey
  computed_evaluates op.MultiplyHigh x y a b first second ex ey =
      product_evaluates (sign_extend W64 x) (sign_extend W64 y) (wide a) (wide b) (sign_extend_evaluates s x a ex) (sign_extend_evaluates s y b ey)
      ∙ ap (λ n. Number W32 n) (high_signed_is a b first second)
  computed_evaluates op.MultiplyHighSignedUnsigned x y a b first second ex ey =
      product_evaluates (sign_extend W64 x) (zero_extend W64 y) (wide a) b (sign_extend_evaluates s x a ex) (zero_extend_evaluates s y W32 W64 b ey)
      ∙ ap (λ n. Number W32 n) (high_signed_unsigned_is a b first second)
  computed_evaluates op.MultiplyHighUnsigned x y a b first second ex ey =
      product_evaluates (zero_extend W64 x) (zero_extend W64 y) a b (zero_extend_evaluates s x W32 W64 a ex) (zero_extend_evaluates s y W32 W64 b ey)
      ∙ ap (λ n. Number W32 n) (high_is a b first second)
  computed_evaluates op.Divide x y a b first second ex ey = quotient_evaluates x y a b ex ey ∙ ap (λ n. Number W32 n) (signed_quotient_is a b first second)
  computed_evaluates op.DivideUnsigned x y a b first second ex ey = words_evaluates s word_op.Divide x y a b ex ey
  computed_evaluates op.Remainder x y a b first second ex ey = remainder_evaluates x y a b ex ey ∙ ap (λ n. Number W32 n) (signed_remainder_is a b first second)
  computed_evaluates op.RemainderUnsigned x y a b first second ex ey = words_evaluates s word_op.Remainder x y a b ex ey

  -- ---- each branch

  pub taken_evaluates : (test : BranchTest) (x y : Term) (a b : ℕ) → a < 2 ^ 32 → b < 2 ^ 32 → EvaluatesTo s x a → EvaluatesTo s y b
      → value s (taken test x y) ≡ Truth (holds test a b)
  unfolding taken holds
  taken_evaluates branch.Equal x y a b first second ex ey = equal_evaluates s x y a b ex ey
  taken_evaluates branch.NotEqual x y a b first second ex ey = not_evaluates s _ _ (equal_evaluates s x y a b ex ey)
  taken_evaluates branch.Less x y a b first second ex ey = signed_less_evaluates x y a b first second ex ey
  taken_evaluates branch.GreaterOrEqual x y a b first second ex ey = not_evaluates s _ _ (signed_less_evaluates x y a b first second ex ey)
  taken_evaluates branch.LessUnsigned x y a b first second ex ey = less_evaluates s x y a b ex ey
  taken_evaluates branch.GreaterOrEqualUnsigned x y a b first second ex ey = not_evaluates s _ _ (less_evaluates s x y a b ex ey)
