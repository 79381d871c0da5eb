-- The values of operators, given those of their arguments.
use Rattle.std.proofs.Common.{◌≡◌, ◌∙◌, ℕ, ◌+◌, ◌==◌, Bool, true, false, cond, refl, ap, [], ◌∷◌}
use Rattle.std.specs.Prelude.{nat_lt, not, ◌&&◌, ◌||◌}
use Rattle.term_core_spec.specs.declared.Width.{Width}
use Rattle.term_core_spec.specs.declared.WordOperator.{WordOperator}
use Rattle.term_core_spec.specs.declared.UnaryOperator.TheVariants as unary
use Rattle.term_core_spec.specs.declared.BinaryOperator.TheVariants as binary
use Rattle.term_core_spec.specs.declared.TernaryOperator.TheVariants as ternary
use Rattle.term_core_spec.specs.Term.{Term, truth, constant, not_term, and_term, or_term, equal, less, on_words, zero_extend, sign_extend, low, choose}
use Rattle.term_core_spec.specs.Sort.{bits}
use Rattle.term_core_spec.specs.Value.{Value, Truth, Number, Assignment, value, unary_value, binary_value, ternary_value, operation, low_bits, ones_if, is_negative}
use Rattle.term_core_spec.proofs.Soundness.{on_two_words-same}
use Rattle.graph_core_spec.specs.Run.{is_truth}
use Rattle.c_graph_laws.proofs.Steps.{all_hold}

once : (f : Value → Value) (x p : Value) → x ≡ p → f x ≡ f p
once f x p e = ap f e

twice : (f : Value → Value → Value) (x p y q : Value) → x ≡ p → y ≡ q → f x y ≡ f p q
twice f x p y q e d = ap (λ v. f v y) e ∙ ap (f p) d

and_true : (b : Bool) → (b && true) ≡ b
and_true true = refl
and_true false = refl

module _ (s : Assignment) where
  pub truth_is : (b : Bool) → value s (truth b) ≡ Truth b
  unfolding value
  truth_is b = refl

  pub constant_is : (w : Width) (n : ℕ) → value s (constant w n) ≡ Number w n
  unfolding value
  constant_is w n = refl

  pub words_is : (operator : WordOperator) (w : Width) (x y : Term) (a b : ℕ) → value s x ≡ Number w a → value s y ≡ Number w b
      → value s (on_words operator x y) ≡ Number w (operation operator (bits w) a b)
  unfolding value binary_value
  words_is operator w x y a b e d =
      twice (binary_value (binary.Word operator)) (value s x) (Number w a) (value s y) (Number w b) e d ∙ on_two_words-same (λ v c d. Number v (operation operator (bits v) c d)) w a b

  pub less_is : (w : Width) (x y : Term) (a b : ℕ) → value s x ≡ Number w a → value s y ≡ Number w b → value s (less x y) ≡ Truth (nat_lt a b)
  unfolding value binary_value
  less_is w x y a b e d = twice (binary_value binary.Less) (value s x) (Number w a) (value s y) (Number w b) e d ∙ on_two_words-same (λ v c d. Truth (nat_lt c d)) w a b

  pub equal_is : (w : Width) (x y : Term) (a b : ℕ) → value s x ≡ Number w a → value s y ≡ Number w b → value s (equal x y) ≡ Truth (a == b)
  unfolding value binary_value
  equal_is w x y a b e d = twice (binary_value binary.Equal) (value s x) (Number w a) (value s y) (Number w b) e d ∙ on_two_words-same (λ v c d. Truth (c == d)) w a b

  pub same_truth_is : (x y : Term) (a b : Bool) → value s x ≡ Truth a → value s y ≡ Truth b → value s (equal x y) ≡ Truth (cond a b (not b))
  unfolding value binary_value
  same_truth_is x y a b e d = twice (binary_value binary.Equal) (value s x) (Truth a) (value s y) (Truth b) e d

  pub not_is : (x : Term) (a : Bool) → value s x ≡ Truth a → value s (not_term x) ≡ Truth (not a)
  unfolding value unary_value
  not_is x a e = once (unary_value unary.Not) (value s x) (Truth a) e

  pub and_is : (x y : Term) (a b : Bool) → value s x ≡ Truth a → value s y ≡ Truth b → value s (and_term x y) ≡ Truth (a && b)
  unfolding value binary_value
  and_is x y a b e d = twice (binary_value binary.And) (value s x) (Truth a) (value s y) (Truth b) e d

  pub or_is : (x y : Term) (a b : Bool) → value s x ≡ Truth a → value s y ≡ Truth b → value s (or_term x y) ≡ Truth (a || b)
  unfolding value binary_value
  or_is x y a b e d = twice (binary_value binary.Or) (value s x) (Truth a) (value s y) (Truth b) e d

  pub choose_is : (test x y : Term) (t : Bool) (a b : Value) → value s test ≡ Truth t → value s x ≡ a → value s y ≡ b → value s (choose test x y) ≡ cond t a b
  unfolding value ternary_value
  choose_is test x y t a b et ex ey =
      ap (λ v. ternary_value ternary.Choose v (value s x) (value s y)) et ∙ ap (λ v. ternary_value ternary.Choose (Truth t) v (value s y)) ex
      ∙ ap (λ v. ternary_value ternary.Choose (Truth t) a v) ey

  pub zero_extend_is : (x : Term) (w v : Width) (a : ℕ) → value s x ≡ Number w a → value s (zero_extend v x) ≡ Number v a
  unfolding value unary_value
  zero_extend_is x w v a e = once (unary_value (unary.ZeroExtend v)) (value s x) (Number w a) e

  pub sign_extend_is : (x : Term) (w v : Width) (a : ℕ) → value s x ≡ Number w a
      → value s (sign_extend v x) ≡ Number v (low_bits (bits v) (a + ones_if (is_negative (bits w) a) (bits w) (bits v)))
  unfolding value unary_value
  sign_extend_is x w v a e = once (unary_value (unary.SignExtend v)) (value s x) (Number w a) e

  pub low_is : (x : Term) (w v : Width) (a : ℕ) → value s x ≡ Number w a → value s (low v x) ≡ Number v (low_bits (bits v) a)
  unfolding value unary_value
  low_is x w v a e = once (unary_value (unary.Low v)) (value s x) (Number w a) e

  -- one test
  pub one_holds : (t : Term) (b : Bool) → value s t ≡ Truth b → all_hold s (t ∷ []) ≡ b
  one_holds t b e = ap (λ v. is_truth v && true) e ∙ and_true b
