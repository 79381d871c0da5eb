-- The rules on words keep sort and value.
use Rattle.std.proofs.Common.{◌≡◌, ℕ, ◌+◌, ◌-◌, ◌*◌, ◌%◌, ◌^◌, ◌<◌, ◌≤◌, true, false, List, Some, unwrap_or, refl, sym, ap, ◌∙◌, subst, arith, eqb-true}
use Rattle.std.specs.Prelude.{◌==◌, nat_lt}
use Rattle.std.proofs.lemmas.Bool.{and_parts, le-ltb}
use Rattle.std.proofs.lemmas.Nat.{pow_pos}
use Rattle.term_core_spec.specs.declared.Width.{Width}
use Rattle.term_core_spec.specs.declared.Width.TheVariants.{W8, W16, W32, W64}
use Rattle.term_core_spec.specs.declared.Sort.{Sort}
use Rattle.term_core_spec.specs.declared.Sort.TheVariants as sort
use Rattle.term_core_spec.specs.declared.Atom.TheVariants as atom
use Rattle.term_core_spec.specs.declared.UnaryOperator.TheVariants as unary
use Rattle.term_core_spec.specs.declared.WordOperator.{WordOperator}
use Rattle.term_core_spec.specs.declared.WordOperator.TheVariants as word
use Rattle.term_core_spec.specs.declared.BinaryOperator.TheVariants as binary
use Rattle.term_core_spec.specs.Term.{Term, Leaf, Unary, Binary, truth, constant, complement, on_words, add, subtract, multiply, bit_and as bit_and_term, bit_or as bit_or_term, bit_xor as bit_xor_term, less}
use Rattle.term_core_spec.specs.Sort.{bits, sort_of, sort_of_unary, sort_of_binary, is_word}
use Rattle.term_core_spec.specs.Value.{Truth, Number, Assignment, IsAssignment, operation, low_bits, value, unary_value, binary_value}
use Rattle.term_core_spec.specs.Same.{same_term}
use Rattle.term_core_spec.proofs.Sorts.{sort_if-some, with_one-some, with_two-some, as_word, same_sort-true, word_width}
use Rattle.term_core_spec.proofs.Words.{low_bits-below}
use Rattle.term_core_spec.proofs.Soundness.{value-sort, on_two_words-same}
use Rattle.term_core_spec.proofs.Same.{same_is}
use Rattle.memory_spec.specs.Runs.{Run}
use Rattle.term_norm_spec.specs.Patterns.{is_constant, is_zero, is_one, is_full, number_of, under_complement, are_complements, base, offset, zero_like, full_like, width_of}
use Rattle.term_norm_spec.specs.Normal.{normal_complement, normal_bit_and, normal_bit_or, normal_bit_xor, with_constant, add_constant, normal_add, negative, normal_subtract, multiply_constant, normal_multiply, normal_less}
use Rattle.term_norm_spec.proofs.Numbers.{mod-small, and-zero_left, and-zero_right, and-ones_left, and-ones_right, and-equal, and-inverse_left, and-inverse_right, or-zero_left, or-zero_right, or-ones_left, or-ones_right, or-equal, or-inverse_left, or-inverse_right, xor-equal, xor-zero_left, xor-zero_right, sum_again, sum_of_small, difference_of_equal}
use Rattle.term_norm_spec.proofs.Truths.{either_of, sort-truth}
use Rattle.term_norm_spec.proofs.Keeps.{Keeps, keeps_itself, keeps_then, keeps_if, keeps_value_of_one, keeps_value_of_two, constant_is, zero_is, one_is, full_is, sort-constant, value-constant, value-truth, constant_sorted, width_is}

-- ---- sorts

pub sort-words : (operator : WordOperator) (w : Width) (x y : Term) → sort_of x ≡ Some (sort.Word w) → sort_of y ≡ Some (sort.Word w) → sort_of (on_words operator x y) ≡ Some (sort.Word w)
unfolding sort_of sort_of_binary
sort-words operator W8 x y hx hy = rw (hx, hy) refl
sort-words operator W16 x y hx hy = rw (hx, hy) refl
sort-words operator W32 x y hx hy = rw (hx, hy) refl
sort-words operator W64 x y hx hy = rw (hx, hy) refl

pub sort-less : (w : Width) (x y : Term) → sort_of x ≡ Some (sort.Word w) → sort_of y ≡ Some (sort.Word w) → sort_of (less x y) ≡ Some sort.Truth
unfolding sort_of sort_of_binary
sort-less W8 x y hx hy = rw (hx, hy) refl
sort-less W16 x y hx hy = rw (hx, hy) refl
sort-less W32 x y hx hy = rw (hx, hy) refl
sort-less W64 x y hx hy = rw (hx, hy) refl

pub sort-complement : (w : Width) (x : Term) → sort_of x ≡ Some (sort.Word w) → sort_of (complement x) ≡ Some (sort.Word w)
unfolding sort_of sort_of_unary
sort-complement w x hx = rw hx refl

pub sort-under_complement : (w : Width) (x : Term) → sort_of (complement x) ≡ Some (sort.Word w) → sort_of x ≡ Some (sort.Word w)
unfolding sort_of sort_of_unary
sort-under_complement w x h =
    let parts = with_one-some (sort_of_unary unary.Complement) (sort_of x) (sort.Word w) h in
    let tests = sort_if-some (is_word parts.0) parts.0 (sort.Word w) parts.2 in
    parts.1 ∙ ap Some tests.1

-- both arguments are of the width
pub words_of : (operator : WordOperator) (x y : Term) (s : Sort) → sort_of (on_words operator x y) ≡ Some s
    → (w : Width) × (s ≡ sort.Word w) × (sort_of x ≡ Some (sort.Word w)) × (sort_of y ≡ Some (sort.Word w))
unfolding sort_of sort_of_binary
words_of operator x y s h =
    let parts = with_two-some (sort_of_binary (binary.Word operator)) (sort_of x) (sort_of y) s h in
    let tests = sort_if-some _ parts.0 s parts.4 in
    let both = and_parts (is_word parts.0) _ tests.0 in
    let width = word_width parts.0 both.0 in
    let second : parts.0 ≡ parts.1 = same_sort-true parts.0 parts.1 both.1 in
    (width.0, sym tests.1 ∙ width.1, parts.2 ∙ ap Some width.1, parts.3 ∙ ap Some (sym second ∙ width.1))

-- ---- values

pub word_of : (assignment : Assignment) → IsAssignment assignment → (w : Width) (x : Term) → sort_of x ≡ Some (sort.Word w) → (a : ℕ) × (value assignment x ≡ Number w a) × (a < 2 ^ bits w)
word_of assignment h w x hx = as_word w (value assignment x) (value-sort assignment h x (sort.Word w) hx)

pub value-words : (assignment : Assignment) (operator : WordOperator) (w : Width) (x y : Term) (a b : ℕ) → value assignment x ≡ Number w a → value assignment y ≡ Number w b
    → value assignment (on_words operator x y) ≡ Number w (operation operator (bits w) a b)
unfolding value binary_value
value-words assignment operator w x y a b ex ey = rw (ex, ey) (on_two_words-same (λ v c d. Number v (operation operator (bits v) c d)) w a b)

pub value-less : (assignment : Assignment) (w : Width) (x y : Term) (a b : ℕ) → value assignment x ≡ Number w a → value assignment y ≡ Number w b → value assignment (less x y) ≡ Truth (nat_lt a b)
unfolding value binary_value
value-less assignment w x y a b ex ey = rw (ex, ey) (on_two_words-same (λ v c d. Truth (nat_lt c d)) w a b)

pub value-complement : (assignment : Assignment) (w : Width) (x : Term) (a : ℕ) → value assignment x ≡ Number w a → a < 2 ^ bits w → value assignment (complement x) ≡ Number w (2 ^ bits w - 1 - a)
unfolding value unary_value
value-complement assignment w x a ex below = rw ex (ap (λ n. Number w (2 ^ bits w - 1 - n)) (mod-small a (2 ^ bits w) below))

-- equal terms have one number
pub equal_number : (assignment : Assignment) (w : Width) (x y : Term) (a b : ℕ) → x ≡ y → value assignment x ≡ Number w a → value assignment y ≡ Number w b → a ≡ b
equal_number assignment w x y a b e ex ey = let same : value assignment x ≡ value assignment y = ap (value assignment) e in cc

pub number_is : (assignment : Assignment) (w : Width) (x : Term) (a n : ℕ) → x ≡ constant w n → value assignment x ≡ Number w a → a ≡ n
number_is assignment w x a n e ex = equal_number assignment w x (constant w n) a n e ex (value-constant assignment w n)

-- ---- offsets

pub record Split (w : Width) (x : Term) : Type 0 where
  pub sorted : sort_of (base x) ≡ Some (sort.Word w)
  pub small : offset x < 2 ^ bits w
  pub value_is : (assignment : Assignment) → IsAssignment assignment → (a : ℕ) → value assignment x ≡ Number w a → (b : ℕ) × (value assignment (base x) ≡ Number w b) × (a ≡ (b + offset x) % 2 ^ bits w)

split_itself : (w : Width) (x : Term) → sort_of x ≡ Some (sort.Word w) → base x ≡ x → offset x ≡ 0 → Split w x
split_itself w x hx base_is none =
    record {
      sorted = ap sort_of base_is ∙ hx;
      small = omega (arith, pow_pos (bits w));
      value_is = λ assignment h a ea.
          let va = word_of assignment h w x hx in
          let same : va.0 ≡ a = equal_number assignment w x x va.0 a refl va.1 ea in
          let below : a < 2 ^ bits w = omega arith in
          (a, ap (value assignment) base_is ∙ ea, sym (mod-small a (2 ^ bits w) below) ∙ ap (λ n. n % 2 ^ bits w) (omega arith));
    }

pub split : (w : Width) (x : Term) → sort_of x ≡ Some (sort.Word w) → Split w x
unfolding base offset operation
split w (Binary (binary.Word word.Add) y (Leaf (atom.Constant v c))) hx =
    let parts = words_of word.Add y (constant v c) (sort.Word w) hx in
    let same : parts.0 ≡ w = cc (parts.1) in
    let hy : sort_of y ≡ Some (sort.Word w) = parts.2 ∙ ap (λ u. Some (sort.Word u)) same in
    let hc : sort_of (constant v c) ≡ Some (sort.Word w) = parts.3 ∙ ap (λ u. Some (sort.Word u)) same in
    let is = constant_sorted v c w hc in
    record {
      sorted = hy;
      small = is.1;
      value_is = λ assignment h a ea.
          let vy = word_of assignment h w y hy in
          let vc : value assignment (constant v c) ≡ Number w c = value-constant assignment v c ∙ ap (λ u. Number u c) is.0 in
          (vy.0, vy.1, sum_number assignment w y (constant v c) a vy.0 c ea (value-words assignment word.Add w y (constant v c) vy.0 c vy.1 vc));
    }
  where
    sum_number : (assignment : Assignment) (w : Width) (x y : Term) (a b c : ℕ) → value assignment (add x y) ≡ Number w a → value assignment (add x y) ≡ Number w (operation word.Add (bits w) b c) → a ≡ (b + c) % 2 ^ bits w
    sum_number assignment w x y a b c ea es = cc
split w x hx = split_itself w x hx refl refl

module _ (runs : List Run) where
  pub words_keep : (operator : WordOperator) (w : Width) (x y u : Term) → sort_of x ≡ Some (sort.Word w) → sort_of y ≡ Some (sort.Word w) → sort_of u ≡ Some (sort.Word w)
      → ((assignment : Assignment) (a b : ℕ) → IsAssignment assignment → value assignment x ≡ Number w a → value assignment y ≡ Number w b → a < 2 ^ bits w → b < 2 ^ bits w
      → value assignment u ≡ Number w (operation operator (bits w) a b))
      → Keeps runs (sort.Word w) (on_words operator x y) u
  words_keep operator w x y u hx hy hu f =
      record {
        sorted = hu;
        value_is = λ assignment h fixed.
            let vx = word_of assignment h w x hx in
            let vy = word_of assignment h w y hy in
            f assignment vx.0 vy.0 h vx.1 vy.1 vx.2 vy.2 ∙ sym (value-words assignment operator w x y vx.0 vy.0 vx.1 vy.1);
      }

  -- ---- rule 2

  pub keeps_complement : (w : Width) (x : Term) → sort_of x ≡ Some (sort.Word w) → Keeps runs (sort.Word w) (complement x) (normal_complement x)
  unfolding normal_complement under_complement
  keeps_complement w x hx = keeps_value_of_one runs unary.Complement x (sort.Word w) (unwrap_or (under_complement x) (complement x)) refl (sort-complement w x hx) (inner x hx)
    where
      inner : (x : Term) → sort_of x ≡ Some (sort.Word w) → Keeps runs (sort.Word w) (complement x) (unwrap_or (under_complement x) (complement x))
      inner (Unary unary.Complement y) hx =
          let hy = sort-under_complement w y hx in
          record {
            sorted = hy;
            value_is = λ assignment h fixed.
                let vy = word_of assignment h w y hy in
                let twice : 2 ^ bits w - 1 - (2 ^ bits w - 1 - vy.0) ≡ vy.0 = omega (arith, vy.2) in
                let less : 2 ^ bits w - 1 - vy.0 < 2 ^ bits w = omega (arith, vy.2) in
                vy.1 ∙ ap (Number w) (sym twice) ∙ sym (value-complement assignment w (complement y) (2 ^ bits w - 1 - vy.0) (value-complement assignment w y vy.0 vy.1 vy.2) less);
          }
      inner x hx = keeps_itself runs (sort.Word w) (complement x) (sort-complement w x hx)

  -- ---- rule 3

  sort-zero_like : (w : Width) (x : Term) → sort_of x ≡ Some (sort.Word w) → sort_of (zero_like x) ≡ Some (sort.Word w)
  sort-zero_like w x hx = rw (width_is x w hx) (sort-constant w 0 (pow_pos (bits w)))

  value-zero_like : (assignment : Assignment) (w : Width) (x : Term) → sort_of x ≡ Some (sort.Word w) → value assignment (zero_like x) ≡ Number w 0
  value-zero_like assignment w x hx = rw (width_is x w hx) (value-constant assignment w 0)

  sort-full_like : (w : Width) (x : Term) → sort_of x ≡ Some (sort.Word w) → sort_of (full_like x) ≡ Some (sort.Word w)
  sort-full_like w x hx = rw (width_is x w hx) (sort-constant w (2 ^ bits w - 1) (omega (arith, pow_pos (bits w))))

  value-full_like : (assignment : Assignment) (w : Width) (x : Term) → sort_of x ≡ Some (sort.Word w) → value assignment (full_like x) ≡ Number w (2 ^ bits w - 1)
  value-full_like assignment w x hx = rw (width_is x w hx) (value-constant assignment w (2 ^ bits w - 1))

  pub keeps_bit_and : (w : Width) (x y : Term) → sort_of x ≡ Some (sort.Word w) → sort_of y ≡ Some (sort.Word w) → Keeps runs (sort.Word w) (bit_and_term x y) (normal_bit_and x y)
  unfolding normal_bit_and operation
  keeps_bit_and w x y hx hy =
      keeps_value_of_two runs (binary.Word word.And) x y (sort.Word w) _ refl (sort-words word.And w x y hx hy)
      (keeps_if runs (sort.Word w) _ _ _ (is_zero x) (λ e. words_keep word.And w x y x hx hy hx (λ v a b h ea eb la lb. ea ∙ ap (Number w) (sym (and-zero_left a b (number_is v w x a 0 (zero_is w x hx e) ea)))))
      (λ n1. keeps_if runs (sort.Word w) _ _ _ (is_zero y) (λ e. words_keep word.And w x y y hx hy hy (λ v a b h ea eb la lb. eb ∙ ap (Number w) (sym (and-zero_right a b (number_is v w y b 0 (zero_is w y hy e) eb)))))
      (λ n2. keeps_if runs (sort.Word w) _ _ _ (is_full x) (λ e. words_keep word.And w x y y hx hy hy (λ v a b h ea eb la lb. eb ∙ ap (Number w) (sym (and-ones_left (bits w) a b (number_is v w x a (2 ^ bits w - 1) (full_is w x hx e) ea) lb))))
      (λ n3. keeps_if runs (sort.Word w) _ _ _ (is_full y) (λ e. words_keep word.And w x y x hx hy hx (λ v a b h ea eb la lb. ea ∙ ap (Number w) (sym (and-ones_right (bits w) a b (number_is v w y b (2 ^ bits w - 1) (full_is w y hy e) eb) la))))
      (λ n4. keeps_if runs (sort.Word w) _ _ _ (same_term x y) (λ e. words_keep word.And w x y x hx hy hx (λ v a b h ea eb la lb. ea ∙ ap (Number w) (sym (and-equal a b (equal_number v w x y a b (same_is x y e) ea eb)))))
      (λ n5. keeps_if runs (sort.Word w) _ _ _ (are_complements x y)
      (λ e. words_keep word.And w x y (zero_like x) hx hy (sort-zero_like w x hx) (λ v a b h ea eb la lb. value-zero_like v w x hx ∙ ap (Number w) (sym (either_of (same_term y (complement x)) (same_term x (complement y)) e
      (λ one. and-inverse_right w a b (equal_number v w y (complement x) b (2 ^ bits w - 1 - a) (same_is y (complement x) one) eb (value-complement v w x a ea la)) la)
      (λ other. and-inverse_left w a b (equal_number v w x (complement y) a (2 ^ bits w - 1 - b) (same_is x (complement y) other) ea (value-complement v w y b eb lb)) lb)))))
      (λ n6. keeps_itself runs (sort.Word w) (bit_and_term x y) (sort-words word.And w x y hx hy))))))))

  pub keeps_bit_or : (w : Width) (x y : Term) → sort_of x ≡ Some (sort.Word w) → sort_of y ≡ Some (sort.Word w) → Keeps runs (sort.Word w) (bit_or_term x y) (normal_bit_or x y)
  unfolding normal_bit_or operation
  keeps_bit_or w x y hx hy =
      keeps_value_of_two runs (binary.Word word.Or) x y (sort.Word w) _ refl (sort-words word.Or w x y hx hy)
      (keeps_if runs (sort.Word w) _ _ _ (is_full x) (λ e. words_keep word.Or w x y x hx hy hx (λ v a b h ea eb la lb. ea ∙ ap (Number w) (sym (or-ones_left (bits w) a b (number_is v w x a (2 ^ bits w - 1) (full_is w x hx e) ea) lb))))
      (λ n1. keeps_if runs (sort.Word w) _ _ _ (is_full y) (λ e. words_keep word.Or w x y y hx hy hy (λ v a b h ea eb la lb. eb ∙ ap (Number w) (sym (or-ones_right (bits w) a b (number_is v w y b (2 ^ bits w - 1) (full_is w y hy e) eb) la))))
      (λ n2. keeps_if runs (sort.Word w) _ _ _ (is_zero x) (λ e. words_keep word.Or w x y y hx hy hy (λ v a b h ea eb la lb. eb ∙ ap (Number w) (sym (or-zero_left a b (number_is v w x a 0 (zero_is w x hx e) ea)))))
      (λ n3. keeps_if runs (sort.Word w) _ _ _ (is_zero y) (λ e. words_keep word.Or w x y x hx hy hx (λ v a b h ea eb la lb. ea ∙ ap (Number w) (sym (or-zero_right a b (number_is v w y b 0 (zero_is w y hy e) eb)))))
      (λ n4. keeps_if runs (sort.Word w) _ _ _ (same_term x y) (λ e. words_keep word.Or w x y x hx hy hx (λ v a b h ea eb la lb. ea ∙ ap (Number w) (sym (or-equal a b (equal_number v w x y a b (same_is x y e) ea eb)))))
      (λ n5. keeps_if runs (sort.Word w) _ _ _ (are_complements x y)
      (λ e. words_keep word.Or w x y (full_like x) hx hy (sort-full_like w x hx) (λ v a b h ea eb la lb. value-full_like v w x hx ∙ ap (Number w) (sym (either_of (same_term y (complement x)) (same_term x (complement y)) e
      (λ one. or-inverse_right w a b (equal_number v w y (complement x) b (2 ^ bits w - 1 - a) (same_is y (complement x) one) eb (value-complement v w x a ea la)) la)
      (λ other. or-inverse_left w a b (equal_number v w x (complement y) a (2 ^ bits w - 1 - b) (same_is x (complement y) other) ea (value-complement v w y b eb lb)) lb)))))
      (λ n6. keeps_itself runs (sort.Word w) (bit_or_term x y) (sort-words word.Or w x y hx hy))))))))

  -- ---- rule 4

  pub keeps_bit_xor : (w : Width) (x y : Term) → sort_of x ≡ Some (sort.Word w) → sort_of y ≡ Some (sort.Word w) → Keeps runs (sort.Word w) (bit_xor_term x y) (normal_bit_xor x y)
  unfolding normal_bit_xor operation
  keeps_bit_xor w x y hx hy =
      keeps_value_of_two runs (binary.Word word.Xor) x y (sort.Word w) _ refl (sort-words word.Xor w x y hx hy)
      (keeps_if runs (sort.Word w) _ _ _ (same_term x y) (λ e. words_keep word.Xor w x y (zero_like x) hx hy (sort-zero_like w x hx) (λ v a b h ea eb la lb. value-zero_like v w x hx ∙ ap (Number w) (sym (xor-equal a b (equal_number v w x y a b (same_is x y e) ea eb)))))
      (λ n1. keeps_if runs (sort.Word w) _ _ _ (is_zero x) (λ e. words_keep word.Xor w x y y hx hy hy (λ v a b h ea eb la lb. eb ∙ ap (Number w) (sym (xor-zero_left a b (number_is v w x a 0 (zero_is w x hx e) ea)))))
      (λ n2. keeps_if runs (sort.Word w) _ _ _ (is_zero y) (λ e. words_keep word.Xor w x y x hx hy hx (λ v a b h ea eb la lb. ea ∙ ap (Number w) (sym (xor-zero_right a b (number_is v w y b 0 (zero_is w y hy e) eb)))))
      (λ n3. keeps_itself runs (sort.Word w) (bit_xor_term x y) (sort-words word.Xor w x y hx hy)))))

  -- ---- rule 5

  keeps_with_constant : (w : Width) (x : Term) (c : ℕ) → sort_of x ≡ Some (sort.Word w) → c < 2 ^ bits w → Keeps runs (sort.Word w) (add x (constant w c)) (with_constant w x c)
  unfolding with_constant operation
  keeps_with_constant w x c hx below =
      keeps_if runs (sort.Word w) _ _ _ (c == 0)
      (λ e. words_keep word.Add w x (constant w c) x hx (sort-constant w c below) hx
      (λ v a b h ea eb la lb. ea ∙ ap (Number w) (sym (mod-small a (2 ^ bits w) la) ∙ ap (λ n. n % 2 ^ bits w) (omega (arith, number_is v w (constant w c) b c refl eb, eqb-true c 0 e)))))
      (λ n1. keeps_itself runs (sort.Word w) (add x (constant w c)) (sort-words word.Add w x (constant w c) hx (sort-constant w c below)))

  pub keeps_add_constant : (w : Width) (x : Term) (d : ℕ) → sort_of x ≡ Some (sort.Word w) → d < 2 ^ bits w → Keeps runs (sort.Word w) (add x (constant w d)) (add_constant w x d)
  unfolding add_constant operation
  keeps_add_constant w x d hx below =
      let parts = split w x hx in
      let c : ℕ = low_bits (bits w) (offset x + d) in
      let small : c < 2 ^ bits w = low_bits-below (bits w) (offset x + d) in
      keeps_then runs (sort.Word w) (add x (constant w d)) (add (base x) (constant w c)) (add_constant w x d)
      (words_keep word.Add w x (constant w d) (add (base x) (constant w c)) hx (sort-constant w d below) (sort-words word.Add w (base x) (constant w c) parts.sorted (sort-constant w c small))
      (λ v a b h ea eb la lb.
      let vb = parts.value_is v h a ea in
      let is_d : b ≡ d = number_is v w (constant w d) b d refl eb in
      value-words v word.Add w (base x) (constant w c) vb.0 c vb.1 (value-constant v w c)
      ∙ ap (Number w) (sym (sum_again w vb.0 (offset x) d) ∙ ap (λ n. (n + d) % 2 ^ bits w) (sym vb.2) ∙ ap (λ n. (a + n) % 2 ^ bits w) (sym is_d))))
      (keeps_with_constant w (base x) c parts.sorted small)

  -- a constant is the number at its width
  add_of_constant : (w : Width) (x y : Term) → sort_of x ≡ Some (sort.Word w) → sort_of y ≡ Some (sort.Word w) → is_constant y ≡ true → Keeps runs (sort.Word w) (add x y) (add_constant (width_of y) x (number_of y))
  add_of_constant w x y hx hy e =
      let is = constant_is w y hy e in
      subst (λ u. Keeps runs (sort.Word w) (add x u) (add_constant (width_of y) x (number_of y))) (sym is.0)
      (subst (λ v. Keeps runs (sort.Word w) (add x (constant w (number_of y))) (add_constant v x (number_of y))) (sym (width_is y w hy)) (keeps_add_constant w x (number_of y) hx is.1))

  swapped_sum : (w : Width) (x y : Term) → sort_of x ≡ Some (sort.Word w) → sort_of y ≡ Some (sort.Word w) → Keeps runs (sort.Word w) (add x y) (add y x)
  unfolding operation
  swapped_sum w x y hx hy =
      words_keep word.Add w x y (add y x) hx hy (sort-words word.Add w y x hy hx)
      (λ v a b h ea eb la lb. value-words v word.Add w y x b a eb ea ∙ ap (λ n. Number w (n % 2 ^ bits w)) (omega arith))

  pub keeps_add : (w : Width) (x y : Term) → sort_of x ≡ Some (sort.Word w) → sort_of y ≡ Some (sort.Word w) → Keeps runs (sort.Word w) (add x y) (normal_add x y)
  unfolding normal_add
  keeps_add w x y hx hy =
      keeps_value_of_two runs (binary.Word word.Add) x y (sort.Word w) _ refl (sort-words word.Add w x y hx hy)
      (keeps_if runs (sort.Word w) _ _ _ (is_constant x)
      (λ e. keeps_then runs (sort.Word w) (add x y) (add y x) (add_constant (width_of x) y (number_of x)) (swapped_sum w x y hx hy) (add_of_constant w y x hy hx e))
      (λ n1. keeps_if runs (sort.Word w) _ _ _ (is_constant y) (λ e. add_of_constant w x y hx hy e)
      (λ n2. keeps_itself runs (sort.Word w) (add x y) (sort-words word.Add w x y hx hy))))

  pub keeps_subtract : (w : Width) (x y : Term) → sort_of x ≡ Some (sort.Word w) → sort_of y ≡ Some (sort.Word w) → Keeps runs (sort.Word w) (subtract x y) (normal_subtract x y)
  unfolding normal_subtract operation
  keeps_subtract w x y hx hy =
      keeps_value_of_two runs (binary.Word word.Subtract) x y (sort.Word w) _ refl (sort-words word.Subtract w x y hx hy)
      (keeps_if runs (sort.Word w) _ _ _ (same_term x y)
      (λ e. words_keep word.Subtract w x y (zero_like x) hx hy (sort-zero_like w x hx)
      (λ v a b h ea eb la lb. value-zero_like v w x hx ∙ ap (Number w) (sym (difference_of_equal w a b (equal_number v w x y a b (same_is x y e) ea eb) la))))
      (λ n1. keeps_if runs (sort.Word w) _ _ _ (is_constant y)
      (λ e.
      let is = constant_is w y hy e in
      let c : ℕ = negative w (number_of y) in
      let small : c < 2 ^ bits w = low_bits-below (bits w) _ in
      let sum : Keeps runs (sort.Word w) (subtract x y) (add x (constant w c)) =
      words_keep word.Subtract w x y (add x (constant w c)) hx hy (sort-words word.Add w x (constant w c) hx (sort-constant w c small))
      (λ v a b h ea eb la lb. value-words v word.Add w x (constant w c) a c ea (value-constant v w c)
      ∙ ap (Number w) (sum_of_small w a (2 ^ bits w - low_bits (bits w) (number_of y)) ∙ ap (λ n. (a + (2 ^ bits w - low_bits (bits w) n)) % 2 ^ bits w) (sym (number_is v w y b (number_of y) is.0 eb)))) in
      subst (λ v. Keeps runs (sort.Word w) (subtract x y) (add_constant v x (negative v (number_of y)))) (sym (width_is y w hy))
      (keeps_then runs (sort.Word w) (subtract x y) (add x (constant w c)) (add_constant w x c) sum (keeps_add_constant w x c hx small)))
      (λ n2. keeps_itself runs (sort.Word w) (subtract x y) (sort-words word.Subtract w x y hx hy))))

  keeps_multiply_constant : (w : Width) (x c : Term) → sort_of x ≡ Some (sort.Word w) → sort_of c ≡ Some (sort.Word w) → Keeps runs (sort.Word w) (multiply x c) (multiply_constant x c)
  unfolding multiply_constant operation
  keeps_multiply_constant w x c hx hc =
      keeps_if runs (sort.Word w) _ _ _ (is_zero c)
      (λ e. words_keep word.Multiply w x c c hx hc hc
      (λ v a b h ea eb la lb. eb ∙ ap (Number w) (times_zero a b (number_is v w c b 0 (zero_is w c hc e) eb))))
      (λ n1. keeps_if runs (sort.Word w) _ _ _ (is_one c)
      (λ e. words_keep word.Multiply w x c x hx hc hx
      (λ v a b h ea eb la lb. ea ∙ ap (Number w) (times_one a b (number_is v w c b 1 (one_is w c hc e) eb) la)))
      (λ n2. keeps_itself runs (sort.Word w) (multiply x c) (sort-words word.Multiply w x c hx hc)))
    where
      times_zero : (a b : ℕ) → b ≡ 0 → b ≡ a * b % 2 ^ bits w
      times_zero a b e = let product : 0 ≡ a * b = rw e (omega arith) in e ∙ sym (mod-small 0 (2 ^ bits w) (pow_pos (bits w))) ∙ ap (λ n. n % 2 ^ bits w) product

      times_one : (a b : ℕ) → b ≡ 1 → a < 2 ^ bits w → a ≡ a * b % 2 ^ bits w
      times_one a b e below = let product : a ≡ a * b = rw e (omega arith) in sym (mod-small a (2 ^ bits w) below) ∙ ap (λ n. n % 2 ^ bits w) product

  swapped_product : (w : Width) (x y : Term) → sort_of x ≡ Some (sort.Word w) → sort_of y ≡ Some (sort.Word w) → Keeps runs (sort.Word w) (multiply x y) (multiply y x)
  unfolding operation
  swapped_product w x y hx hy =
      words_keep word.Multiply w x y (multiply y x) hx hy (sort-words word.Multiply w y x hy hx)
      (λ v a b h ea eb la lb. value-words v word.Multiply w y x b a eb ea ∙ ap (λ n. Number w (n % 2 ^ bits w)) (omega arith))

  pub keeps_multiply : (w : Width) (x y : Term) → sort_of x ≡ Some (sort.Word w) → sort_of y ≡ Some (sort.Word w) → Keeps runs (sort.Word w) (multiply x y) (normal_multiply x y)
  unfolding normal_multiply
  keeps_multiply w x y hx hy =
      keeps_value_of_two runs (binary.Word word.Multiply) x y (sort.Word w) _ refl (sort-words word.Multiply w x y hx hy)
      (keeps_if runs (sort.Word w) _ _ _ (is_constant x)
      (λ e. keeps_then runs (sort.Word w) (multiply x y) (multiply y x) (multiply_constant y x) (swapped_product w x y hx hy) (keeps_multiply_constant w y x hy hx))
      (λ n1. keeps_if runs (sort.Word w) _ _ _ (is_constant y) (λ e. keeps_multiply_constant w x y hx hy)
      (λ n2. keeps_itself runs (sort.Word w) (multiply x y) (sort-words word.Multiply w x y hx hy))))

  -- ---- rule 7

  pub keeps_less : (w : Width) (x y : Term) → sort_of x ≡ Some (sort.Word w) → sort_of y ≡ Some (sort.Word w) → Keeps runs sort.Truth (less x y) (normal_less x y)
  unfolding normal_less
  keeps_less w x y hx hy =
      keeps_value_of_two runs binary.Less x y sort.Truth _ refl (sort-less w x y hx hy)
      (keeps_if runs sort.Truth _ _ _ (same_term x y)
      (λ e. not_less (λ v h a b ea eb. omega (arith, equal_number v w x y a b (same_is x y e) ea eb)))
      (λ n1. keeps_if runs sort.Truth _ _ _ (is_zero y)
      (λ e. not_less (λ v h a b ea eb. omega (arith, number_is v w y b 0 (zero_is w y hy e) eb)))
      (λ n2. keeps_itself runs sort.Truth (less x y) (sort-less w x y hx hy))))
    where
      not_less : ((assignment : Assignment) → IsAssignment assignment → (a b : ℕ) → value assignment x ≡ Number w a → value assignment y ≡ Number w b → b ≤ a) → Keeps runs sort.Truth (less x y) (truth false)
      not_less f =
          record {
            sorted = sort-truth false;
            value_is = λ assignment h fixed.
                let vx = word_of assignment h w x hx in
                let vy = word_of assignment h w y hy in
                value-truth assignment false ∙ ap Truth (sym (le-ltb vx.0 vy.0 (f assignment h vx.0 vy.0 vx.1 vy.1))) ∙ sym (value-less assignment w x y vx.0 vy.0 vx.1 vy.1);
          }
