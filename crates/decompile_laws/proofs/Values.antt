-- The values of operators, given those of their arguments.
use Rattle.std.proofs.Common.{◌≡◌, ◌∙◌, ℕ, ◌+◌, ◌*◌, ◌/◌, ◌^◌, ◌<◌, ◌==◌, Bool, true, false, cond, ap, arith}
use Rattle.std.specs.Prelude.{nat_lt, not, ◌&&◌, ◌||◌}
use Rattle.std.proofs.Math.Nat.{mod-eq_of_lt}
use Rattle.term_core_spec.specs.declared.Width.{Width}
use Rattle.term_core_spec.specs.declared.Width.TheVariants.{W8, W16, W32, W64}
use Rattle.term_core_spec.specs.declared.WordOperator.{WordOperator}
use Rattle.term_core_spec.specs.declared.UnaryOperator.TheVariants as unary
use Rattle.term_core_spec.specs.declared.BinaryOperator.TheVariants as binary
use Rattle.term_core_spec.specs.declared.TernaryOperator.TheVariants as ternary
use Rattle.term_core_spec.specs.declared.QuaternaryOperator.TheVariants as quaternary
use Rattle.term_core_spec.specs.Term.{Term, not_term, and_term, or_term, equal, less, on_words, zero_extend, sign_extend, byte, load, store, choose, join_two, join_four}
use Rattle.term_core_spec.specs.Value.{Value, Truth, Number, Bytes, Assignment, value, unary_value, binary_value, ternary_value, quaternary_value, operation, low_bits, ones_if, is_negative, with_byte}

once : (f : Value → Value) (x p : Value) → x ≡ p → f x ≡ f p
once f x p e = ap f e

twice : (f : Value → Value → Value) (x p y q : Value) → x ≡ p → y ≡ q → f x y ≡ f p q
twice f x p y q e d = ap (λ v. f v y) e ∙ ap (f p) d

module _ (s : Assignment) where
  -- ---- words of 32 bits

  pub words_evaluates : (operator : WordOperator) (x y : Term) (a b : ℕ) → value s x ≡ Number W32 a → value s y ≡ Number W32 b
      → value s (on_words operator x y) ≡ Number W32 (operation operator 32 a b)
  unfolding value binary_value
  words_evaluates operator x y a b e d = twice (binary_value (binary.Word operator)) _ _ _ _ e d

  pub less_evaluates : (x y : Term) (a b : ℕ) → value s x ≡ Number W32 a → value s y ≡ Number W32 b → value s (less x y) ≡ Truth (nat_lt a b)
  unfolding value binary_value
  less_evaluates x y a b e d = twice (binary_value binary.Less) _ _ _ _ e d

  pub equal_evaluates : (x y : Term) (a b : ℕ) → value s x ≡ Number W32 a → value s y ≡ Number W32 b → value s (equal x y) ≡ Truth (a == b)
  unfolding value binary_value
  equal_evaluates x y a b e d = twice (binary_value binary.Equal) _ _ _ _ e d

  -- ---- truth values

  pub same_truth_evaluates : (x y : Term) (a b : Bool) → value s x ≡ Truth a → value s y ≡ Truth b → value s (equal x y) ≡ Truth (cond a b (not b))
  unfolding value binary_value
  same_truth_evaluates x y a b e d = twice (binary_value binary.Equal) _ _ _ _ e d

  pub not_evaluates : (x : Term) (a : Bool) → value s x ≡ Truth a → value s (not_term x) ≡ Truth (not a)
  unfolding value unary_value
  not_evaluates x a e = once (unary_value unary.Not) _ _ e

  pub and_evaluates : (x y : Term) (a b : Bool) → value s x ≡ Truth a → value s y ≡ Truth b → value s (and_term x y) ≡ Truth (a && b)
  unfolding value binary_value
  and_evaluates x y a b e d = twice (binary_value binary.And) _ _ _ _ e d

  pub or_evaluates : (x y : Term) (a b : Bool) → value s x ≡ Truth a → value s y ≡ Truth b → value s (or_term x y) ≡ Truth (a || b)
  unfolding value binary_value
  or_evaluates x y a b e d = twice (binary_value binary.Or) _ _ _ _ e d

  -- a choice of two words
  pub choose_evaluates : (test x y : Term) (t : Bool) (a b : ℕ) → value s test ≡ Truth t → value s x ≡ Number W32 a → value s y ≡ Number W32 b
      → value s (choose test x y) ≡ Number W32 (cond t a b)
  unfolding value ternary_value
  choose_evaluates test x y t a b et ex ey =
      ap (λ v. ternary_value ternary.Choose v (value s x) (value s y)) et ∙ chosen t
    where
      chosen : (t : Bool) → cond t (value s x) (value s y) ≡ Number W32 (cond t a b)
      chosen true = ex
      chosen false = ey

  -- ---- other widths

  pub zero_extend_evaluates : (x : Term) (w v : Width) (a : ℕ) → value s x ≡ Number w a → value s (zero_extend v x) ≡ Number v a
  unfolding value unary_value
  zero_extend_evaluates x w v a e = once (unary_value (unary.ZeroExtend v)) _ _ e

  pub sign_extend_evaluates : (x : Term) (a : ℕ) → value s x ≡ Number W32 a
      → value s (sign_extend W64 x) ≡ Number W64 (low_bits 64 (a + ones_if (is_negative 32 a) 32 64))
  unfolding value unary_value
  sign_extend_evaluates x a e = once (unary_value (unary.SignExtend W64)) _ _ e

  pub byte_sign_evaluates : (x : Term) (a : ℕ) → value s x ≡ Number W8 a
      → value s (sign_extend W32 x) ≡ Number W32 (low_bits 32 (a + ones_if (is_negative 8 a) 8 32))
  unfolding value unary_value
  byte_sign_evaluates x a e = once (unary_value (unary.SignExtend W32)) _ _ e

  pub half_sign_evaluates : (x : Term) (a : ℕ) → value s x ≡ Number W16 a
      → value s (sign_extend W32 x) ≡ Number W32 (low_bits 32 (a + ones_if (is_negative 16 a) 16 32))
  unfolding value unary_value
  half_sign_evaluates x a e = once (unary_value (unary.SignExtend W32)) _ _ e

  pub wide_words_evaluates : (operator : WordOperator) (x y : Term) (a b : ℕ) → value s x ≡ Number W64 a → value s y ≡ Number W64 b
      → value s (on_words operator x y) ≡ Number W64 (operation operator 64 a b)
  unfolding value binary_value
  wide_words_evaluates operator x y a b e d = twice (binary_value (binary.Word operator)) _ _ _ _ e d

  pub byte_evaluates : (place : ℕ) (x : Term) (w : Width) (a : ℕ) → value s x ≡ Number w a → value s (byte place x) ≡ Number W8 (low_bits 8 (a / 2 ^ (8 * place)))
  unfolding value unary_value
  byte_evaluates place x w a e = once (unary_value (unary.Byte place)) _ _ e

  pub join_two_evaluates : (x y : Term) (a b : ℕ) → a < 2 ^ 8 → b < 2 ^ 8 → value s x ≡ Number W8 a → value s y ≡ Number W8 b
      → value s (join_two x y) ≡ Number W16 (a + 2 ^ 8 * b)
  unfolding value binary_value
  join_two_evaluates x y a b fa fb ex ey = twice (binary_value binary.Join) _ _ _ _ ex ey ∙ ap (λ n. Number W16 n) (omega arith)

  pub join_four_evaluates : (x y z u : Term) (a b c d : ℕ) → a < 2 ^ 8 → b < 2 ^ 8 → c < 2 ^ 8 → d < 2 ^ 8
      → value s x ≡ Number W8 a → value s y ≡ Number W8 b → value s z ≡ Number W8 c → value s u ≡ Number W8 d
      → value s (join_four x y z u) ≡ Number W32 (a + 2 ^ 8 * (b + 2 ^ 8 * (c + 2 ^ 8 * d)))
  unfolding value quaternary_value
  join_four_evaluates x y z u a b c d fa fb fc fd ex ey ez eu =
      ap (λ v. quaternary_value quaternary.Join v (value s y) (value s z) (value s u)) ex
      ∙ ap (λ v. quaternary_value quaternary.Join (Number W8 a) v (value s z) (value s u)) ey
      ∙ ap (λ v. quaternary_value quaternary.Join (Number W8 a) (Number W8 b) v (value s u)) ez
      ∙ ap (λ v. quaternary_value quaternary.Join (Number W8 a) (Number W8 b) (Number W8 c) v) eu
      ∙ ap (λ n. Number W32 n) {y = a + 2 ^ 8 * (b + 2 ^ 8 * (c + 2 ^ 8 * d))} (omega arith)

  -- ---- memory

  pub load_evaluates : (m x : Term) (bytes : ℕ → ℕ) (a : ℕ) → a < 2 ^ 32 → value s m ≡ Bytes bytes → value s x ≡ Number W32 a → value s (load m x) ≡ Number W8 (bytes a)
  unfolding value binary_value
  load_evaluates m x bytes a below em ex = twice (binary_value binary.Load) _ _ _ _ em ex ∙ ap (λ n. Number W8 (bytes n)) (mod-eq_of_lt below)

  pub store_evaluates : (m x y : Term) (bytes : ℕ → ℕ) (a b : ℕ) → a < 2 ^ 32 → b < 2 ^ 8 → value s m ≡ Bytes bytes → value s x ≡ Number W32 a → value s y ≡ Number W8 b
      → value s (store m x y) ≡ Bytes (with_byte bytes a b)
  unfolding value ternary_value
  store_evaluates m x y bytes a b below small em ex ey =
      ap (λ v. ternary_value ternary.Store v (value s x) (value s y)) em
      ∙ ap (λ v. ternary_value ternary.Store (Bytes bytes) v (value s y)) ex
      ∙ ap (λ v. ternary_value ternary.Store (Bytes bytes) (Number W32 a) v) ey
      ∙ ap (λ n. Bytes (with_byte bytes n (low_bits 8 b))) (mod-eq_of_lt below)
      ∙ ap (λ n. Bytes (with_byte bytes a n)) (mod-eq_of_lt small)
