-- The rules of sums and products leave no rule to use.
use Rattle.std.proofs.Common.{◌≡◌, ℕ, suc, ◌+◌, ◌^◌, Bool, true, false, cond, List, refl, sym, ap, ◌∙◌, arith}
use Rattle.std.specs.Prelude.{◌&&◌, ◌==◌}
use Rattle.term_core_spec.specs.declared.Width.{Width}
use Rattle.term_core_spec.specs.declared.Atom.TheVariants as atom
use Rattle.term_core_spec.specs.declared.WordOperator.TheVariants as word
use Rattle.term_core_spec.specs.declared.BinaryOperator.TheVariants as binary
use Rattle.term_core_spec.specs.Term.{Term, Leaf, Binary, constant, add}
use Rattle.term_core_spec.specs.Sort.{bits}
use Rattle.term_core_spec.specs.Value.{Value, Truth, Number, Bytes, low_bits, binary_value}
use Rattle.term_core_spec.specs.Same.{same_term}
use Rattle.term_core_spec.proofs.Words.{low_bits-below}
use Rattle.memory_spec.specs.Runs.{Run}
use Rattle.term_norm_spec.specs.Patterns.{is_constant, is_zero, is_one, known, constant_of, number_of, width_of, base, offset}
use Rattle.term_norm_spec.specs.Normal.{normal_binary, normal_word, with_constant, add_constant, normal_add, negative, normal_subtract, multiply_constant, normal_multiply}
use Rattle.term_norm_spec.proofs.Numbers.{mod-small}
use Rattle.term_norm_spec.proofs.Forms.{IsNormal, choice, value_two}

constant_is : (v : Value) → is_constant (constant_of v) ≡ true
unfolding constant_of is_constant
constant_is (Truth value) = refl
constant_is (Number width number) = refl
constant_is (Bytes memory) = refl

-- how deep the first arguments go
spine : Term → ℕ
spine (Binary operator x y) = suc (spine x)
spine t = 0

no_deeper : (z a b : Term) → z ≡ add (add z a) b → ⊥
unfolding spine
no_deeper z a b e = let same : spine z ≡ suc (suc (spine z)) = ap spine e in absurd (omega (arith, same))

no_deeper_in : (z a b c : Term) → add z c ≡ add (add z a) b → ⊥
unfolding spine
no_deeper_in z a b c e = let same : suc (spine z) ≡ suc (suc (spine z)) = ap spine e in absurd (omega (arith, same))

-- a sum of a constant isn't left
first_varies : (y : Term) (v : Width) (c : ℕ) → normal_add y (constant v c) ≡ add y (constant v c) → is_constant y ≡ false
unfolding normal_add is_constant
first_varies y v c e = by_test (is_constant y) refl
  where
    by_test : (b : Bool) → is_constant y ≡ b → b ≡ false
    by_test false k = refl
    by_test true k =
        let sum : normal_add y (constant v c) ≡ constant_of (binary_value (binary.Word word.Add) (known y) (known (constant v c))) = rw k refl in
        let one : is_constant (constant_of (binary_value (binary.Word word.Add) (known y) (known (constant v c)))) ≡ false = ap is_constant (sym sum ∙ e) in
        let other = constant_is (binary_value (binary.Word word.Add) (known y) (known (constant v c))) in
        absurd (cc)

-- nor one of a sum with a constant
with_constant-apart : (v : Width) (z a b : Term) (n : ℕ) → with_constant v z n ≡ add (add z a) b → ⊥
unfolding with_constant
with_constant-apart v z a b n e = by_test (n == 0) e
  where
    by_test : (t : Bool) → cond t z (add z (constant v n)) ≡ add (add z a) b → ⊥
    by_test true e = no_deeper z a b e
    by_test false e = no_deeper_in z a b (constant v n) e

base_again : (y : Term) (v : Width) (c : ℕ) → normal_add y (constant v c) ≡ add y (constant v c) → (base y ≡ y) × (offset y ≡ 0)
unfolding normal_add add_constant is_constant base offset width_of number_of
base_again (Binary (binary.Word word.Add) z (Leaf (atom.Constant u k))) v c e =
    absurd (with_constant-apart v z (constant u k) (constant v c) (low_bits (bits v) (k + c)) e)
base_again y v c e = (refl, refl)

module _ (runs : List Run) where
  record Based (x : Term) : Type 0 where
    pub left : IsNormal runs (base x)
    pub varies : is_constant (base x) ≡ false
    pub again : base (base x) ≡ base x
    pub none : offset (base x) ≡ 0

  based : (x : Term) → IsNormal runs x → is_constant x ≡ false → Based x
  unfolding IsNormal base offset normal_binary normal_word
  based (Binary (binary.Word word.Add) y (Leaf (atom.Constant v c))) n varies =
      let again = base_again y v c n.2 in
      record { left = n.0; varies = first_varies y v c n.2; again = again.0; none = again.1 }
  based x n varies = record { left = n; varies = varies; again = refl; none = refl }

  -- `add b c` of such a base and a small number that isn't 0
  sum_left : (w : Width) (b : Term) (c : ℕ) → is_constant b ≡ false → base b ≡ b → offset b ≡ 0 → (c == 0) ≡ false → low_bits (bits w) c ≡ c
      → normal_add b (constant w c) ≡ add b (constant w c)
  unfolding normal_add add_constant with_constant is_constant width_of number_of
  sum_left w b c varies again none some small =
      let same : low_bits (bits w) (0 + c) ≡ c = ap (low_bits (bits w)) (omega arith) ∙ small in
      rw (varies, again, none, same, some) refl

  sum_normal : (w : Width) (x : Term) (d : ℕ) → IsNormal runs x → is_constant x ≡ false → IsNormal runs (add_constant w x d)
  unfolding add_constant with_constant IsNormal normal_binary normal_word
  sum_normal w x d n varies =
      let is = based x n varies in
      let c = low_bits (bits w) (offset x + d) in
      let small : low_bits (bits w) c ≡ c = mod-small c (2 ^ bits w) (low_bits-below (bits w) (offset x + d)) in
      choice runs (add_constant w x d) (base x) (add (base x) (constant w c)) (c == 0) (λ t e. is.left)
      (λ t e. (is.left, tt, sum_left w (base x) c is.varies is.again is.none t small)) refl

  -- where not both are constants
  other_varies : (x y : Term) → (is_constant x && is_constant y) ≡ false → is_constant x ≡ true → is_constant y ≡ false
  other_varies x y e k = sym (ap (λ b. b && is_constant y) k) ∙ e

  pub add_normal : (x y : Term) → IsNormal runs x → IsNormal runs y → IsNormal runs (normal_add x y)
  unfolding normal_add IsNormal normal_binary normal_word
  add_normal x y nx ny =
      value_two runs (normal_add x y) (binary.Word word.Add) x y _
      (λ k e. choice runs (normal_add x y) _ _ (is_constant x) (λ t e. sum_normal (width_of x) y (number_of x) ny (other_varies x y k t))
      (λ t e. choice runs (normal_add x y) _ _ (is_constant y) (λ u e. sum_normal (width_of y) x (number_of y) nx t)
      (λ u e. (nx, ny, e)) e) e) refl

  pub subtract_normal : (x y : Term) → IsNormal runs x → IsNormal runs y → IsNormal runs (normal_subtract x y)
  unfolding normal_subtract IsNormal normal_binary normal_word
  subtract_normal x y nx ny =
      value_two runs (normal_subtract x y) (binary.Word word.Subtract) x y _
      (λ k e. choice runs (normal_subtract x y) _ _ (same_term x y) (λ t e. tt)
      (λ t e. choice runs (normal_subtract x y) _ _ (is_constant y) (λ u e. sum_normal (width_of y) x (negative (width_of y) (number_of y)) nx (first_of (is_constant x) (is_constant y) k u))
      (λ u e. (nx, ny, e)) e) e) refl
    where
      first_of : (a b : Bool) → (a && b) ≡ false → b ≡ true → a ≡ false
      first_of true b e k = absurd (cc)
      first_of false b e k = refl

  product_normal : (x c : Term) → IsNormal runs x → IsNormal runs c → is_constant x ≡ false → is_constant c ≡ true → IsNormal runs (multiply_constant x c)
  unfolding multiply_constant IsNormal normal_binary normal_word normal_multiply
  product_normal x c nx nc varies is =
      choice runs (multiply_constant x c) c _ (is_zero c) (λ t e. nc)
      (λ t e. choice runs (multiply_constant x c) x _ (is_one c) (λ u e. nx)
      (λ u e. (nx, nc, rw (varies, is, t, u) refl)) e) refl

  pub multiply_normal : (x y : Term) → IsNormal runs x → IsNormal runs y → IsNormal runs (normal_multiply x y)
  unfolding normal_multiply IsNormal normal_binary normal_word
  multiply_normal x y nx ny =
      value_two runs (normal_multiply x y) (binary.Word word.Multiply) x y _
      (λ k e. choice runs (normal_multiply x y) _ _ (is_constant x) (λ t e. product_normal y x ny nx (other_varies x y k t) t)
      (λ t e. choice runs (normal_multiply x y) _ _ (is_constant y) (λ u e. product_normal x y nx ny t u)
      (λ u e. (nx, ny, e)) e) e) refl
