-- The rules on equality keep sort and value.
use Rattle.std.proofs.Common.{◌≡◌, ℕ, ◌+◌, ◌%◌, ◌^◌, Bool, true, false, List, Some, refl, sym, ap, ◌∙◌, eq-eqb, ne_eqb}
use Rattle.std.specs.Prelude.{◌==◌, ◌&&◌, not, if◌then◌else◌, ◌≢◌}
use Rattle.std.proofs.lemmas.Bool.{and_parts}
use Rattle.term_core_spec.specs.declared.Width.{Width}
use Rattle.term_core_spec.specs.declared.Width.TheVariants.{W8, W16, W32, W64}
use Rattle.term_core_spec.specs.declared.Sort.{Sort}
use Rattle.term_core_spec.specs.declared.Sort.TheVariants as sort
use Rattle.term_core_spec.specs.declared.BinaryOperator.TheVariants as binary
use Rattle.term_core_spec.specs.declared.Atom.TheVariants as atom
use Rattle.term_core_spec.specs.declared.WordOperator.TheVariants as word
use Rattle.term_core_spec.specs.Term.{Term, Leaf, Binary, truth, constant, not_term, equal}
use Rattle.term_core_spec.specs.Sort.{bits, sort_of, sort_of_binary, is_memory, same_sort}
use Rattle.term_core_spec.specs.Value.{Truth, Number, Assignment, IsAssignment, value, binary_value}
use Rattle.term_core_spec.specs.Same.{same_term}
use Rattle.term_core_spec.proofs.Sorts.{sort_if-some, with_two-some, same_sort-true}
use Rattle.term_core_spec.proofs.Soundness.{on_two_words-same}
use Rattle.term_core_spec.proofs.Same.{same_is}
use Rattle.memory_spec.specs.Runs.{Run}
use Rattle.term_norm_spec.specs.Patterns.{is_true, is_false, base, offset}
use Rattle.term_norm_spec.specs.Normal.{normal_not, normal_equal}
use Rattle.term_norm_spec.proofs.Numbers.{apart_with_offsets}
use Rattle.term_norm_spec.proofs.Truths.{sort-truth, sort-not, truth_value_of, value-not, same_truths, keeps_not}
use Rattle.term_norm_spec.proofs.Words.{words_of, word_of, equal_number, split}
use Rattle.term_norm_spec.proofs.Keeps.{Keeps, keeps_itself, keeps_then, keeps_if, keeps_value_of_two, true_is, false_is, value-truth}

-- what both arguments are: truth values, or words of one width
pub data Alike (x y : Term) : Type 0 where
  truths : (first : sort_of x ≡ Some sort.Truth) → (second : sort_of y ≡ Some sort.Truth) → Alike x y
  words : (w : Width) → (first : sort_of x ≡ Some (sort.Word w)) → (second : sort_of y ≡ Some (sort.Word w)) → Alike x y

pub alike_of : (x y : Term) (s : Sort) → sort_of (equal x y) ≡ Some s → (s ≡ sort.Truth) × Alike x y
unfolding sort_of sort_of_binary
alike_of x y s h =
    let parts = with_two-some (sort_of_binary binary.Equal) (sort_of x) (sort_of y) s h in
    let tests = sort_if-some _ sort.Truth s parts.4 in
    let both = and_parts (not (is_memory parts.0)) (same_sort parts.0 parts.1) tests.0 in
    let one : parts.0 ≡ parts.1 = same_sort-true parts.0 parts.1 both.1 in
    (sym tests.1, by_sort parts.0 both.0 parts.2 (parts.3 ∙ ap Some (sym one)))
  where
    by_sort : (p : Sort) → not (is_memory p) ≡ true → sort_of x ≡ Some p → sort_of y ≡ Some p → Alike x y
    by_sort sort.Truth e hx hy = truths hx hy
    by_sort (sort.Word w) e hx hy = words w hx hy
    by_sort sort.Memory e hx hy = absurd (cc)

pub sort-equal : (x y : Term) → Alike x y → sort_of (equal x y) ≡ Some sort.Truth
unfolding sort_of sort_of_binary
sort-equal x y (truths hx hy) = rw (hx, hy) refl
sort-equal x y (words W8 hx hy) = rw (hx, hy) refl
sort-equal x y (words W16 hx hy) = rw (hx, hy) refl
sort-equal x y (words W32 hx hy) = rw (hx, hy) refl
sort-equal x y (words W64 hx hy) = rw (hx, hy) refl

-- whether two truth values are equal
abbrev same_truth : Bool → Bool → Bool
same_truth a b = if a then b else not b

value-equal_truths : (assignment : Assignment) (x y : Term) (a b : Bool) → value assignment x ≡ Truth a → value assignment y ≡ Truth b → value assignment (equal x y) ≡ Truth (same_truth a b)
unfolding value binary_value
value-equal_truths assignment x y a b ex ey = rw (ex, ey) refl

pub value-equal_words : (assignment : Assignment) (w : Width) (x y : Term) (a b : ℕ) → value assignment x ≡ Number w a → value assignment y ≡ Number w b → value assignment (equal x y) ≡ Truth (a == b)
unfolding value binary_value
value-equal_words assignment w x y a b ex ey = rw (ex, ey) (on_two_words-same (λ v c d. Truth (c == d)) w a b)

same_truth-same : (a b : Bool) → a ≡ b → same_truth a b ≡ true
same_truth-same true b e = sym e
same_truth-same false b e = rw (sym e) refl

same_truth-true_left : (a b : Bool) → a ≡ true → same_truth a b ≡ b
same_truth-true_left a b e = rw e refl

same_truth-true_right : (a b : Bool) → b ≡ true → same_truth a b ≡ a
same_truth-true_right true b e = e
same_truth-true_right false b e = rw e refl

same_truth-false_left : (a b : Bool) → a ≡ false → same_truth a b ≡ not b
same_truth-false_left a b e = rw e refl

same_truth-false_right : (a b : Bool) → b ≡ false → same_truth a b ≡ not a
same_truth-false_right true b e = e
same_truth-false_right false b e = rw e refl

-- a constant truth value is no word
no_word : (w : Width) (x : Term) (b : Bool) → x ≡ truth b → sort_of x ≡ Some (sort.Word w) → ⊥
no_word w x b e h = let is : sort_of x ≡ Some sort.Truth = ap sort_of e ∙ sort-truth b in absurd (cc)

offset_of_truth : (x : Term) → sort_of x ≡ Some sort.Truth → offset x ≡ 0
unfolding offset
offset_of_truth (Binary (binary.Word word.Add) y (Leaf (atom.Constant v c))) hx =
    let parts = words_of word.Add y (constant v c) sort.Truth hx in
    absurd (cc (parts.1))
offset_of_truth x hx = refl

module _ (runs : List Run) where
  -- equal arguments
  equal_keeps : (x y u : Term) → Alike x y → sort_of u ≡ Some sort.Truth
      → ((assignment : Assignment) (a b : Bool) → value assignment x ≡ Truth a → value assignment y ≡ Truth b → value assignment u ≡ Truth (same_truth a b))
      → ((w : Width) → sort_of x ≡ Some (sort.Word w) → sort_of y ≡ Some (sort.Word w) → (assignment : Assignment) (a b : ℕ) → IsAssignment assignment → value assignment x ≡ Number w a → value assignment y ≡ Number w b → value assignment u ≡ Truth (a == b))
      → Keeps runs sort.Truth (equal x y) u
  equal_keeps x y u (truths hx hy) hu f g =
      record {
        sorted = hu;
        value_is = λ assignment h fixed.
            let vx = truth_value_of assignment h x hx in
            let vy = truth_value_of assignment h y hy in
            f assignment vx.0 vy.0 vx.1 vy.1 ∙ sym (value-equal_truths assignment x y vx.0 vy.0 vx.1 vy.1);
      }
  equal_keeps x y u (words w hx hy) hu f g =
      record {
        sorted = hu;
        value_is = λ assignment h fixed.
            let vx = word_of assignment h w x hx in
            let vy = word_of assignment h w y hy in
            g w hx hy assignment vx.0 vy.0 h vx.1 vy.1 ∙ sym (value-equal_words assignment w x y vx.0 vy.0 vx.1 vy.1);
      }

  -- a term that is known to be a truth value has a truth value beside it
  beside : (x y : Term) (b : Bool) → Alike x y → x ≡ truth b → sort_of y ≡ Some sort.Truth
  beside x y b (truths hx hy) e = hy
  beside x y b (words w hx hy) e = absurd (no_word w x b e hx)

  turned : (x y : Term) → Alike x y → Alike y x
  turned x y (truths hx hy) = truths hy hx
  turned x y (words w hx hy) = words w hy hx

  offsets_apart : (x y : Term) (test : Alike x y) → (same_term (base x) (base y) && not (offset x == offset y)) ≡ true → Keeps runs sort.Truth (equal x y) (truth false)
  offsets_apart x y (truths hx hy) e =
      let both = and_parts (same_term (base x) (base y)) (not (offset x == offset y)) e in
      let equal_offsets : offset x ≡ offset y = offset_of_truth x hx ∙ sym (offset_of_truth y hy) in
      let is : (offset x == offset y) ≡ true = eq-eqb (offset x) (offset y) equal_offsets in
      absurd (cc (both.1))
  offsets_apart x y (words w hx hy) e =
      let both = and_parts (same_term (base x) (base y)) (not (offset x == offset y)) e in
      let one : base x ≡ base y = same_is (base x) (base y) both.0 in
      let sx = split w x hx in
      let sy = split w y hy in
      record {
        sorted = sort-truth false;
        value_is = λ assignment h fixed.
            let vx = word_of assignment h w x hx in
            let vy = word_of assignment h w y hy in
            let bx = sx.value_is assignment h vx.0 vx.1 in
            let by_ = sy.value_is assignment h vy.0 vy.1 in
            let bases : bx.0 ≡ by_.0 = equal_number assignment w (base x) (base y) bx.0 by_.0 one bx.1 by_.1 in
            let apart : vx.0 ≢ vy.0 = λ same. different (offset x) (offset y) both.1
            (apart_with_offsets w bx.0 (offset x) (offset y) sx.small sy.small (sym bx.2 ∙ same ∙ by_.2 ∙ ap (λ n. (n + offset y) % 2 ^ bits w) (sym bases))) in
            value-truth assignment false ∙ ap Truth (sym (ne_eqb vx.0 vy.0 apart)) ∙ sym (value-equal_words assignment w x y vx.0 vy.0 vx.1 vy.1);
      }
    where
      different : (c d : ℕ) → not (c == d) ≡ true → c ≡ d → ⊥
      different c d e same = let is : (c == d) ≡ true = eq-eqb c d same in absurd (cc)

  pub keeps_equal : (x y : Term) → Alike x y → Keeps runs sort.Truth (equal x y) (normal_equal x y)
  unfolding normal_equal
  keeps_equal x y both =
      keeps_value_of_two runs binary.Equal x y sort.Truth _ refl (sort-equal x y both)
      (keeps_if runs sort.Truth _ _ _ (same_term x y)
      (λ e. equal_keeps x y (truth true) both (sort-truth true)
      (λ v a b ea eb. value-truth v true ∙ ap Truth (sym (same_truth-same a b (same_truths v x y a b (same_is x y e) ea eb))))
      (λ w hx hy v a b h ea eb. value-truth v true ∙ ap Truth (sym (eq-eqb a b (equal_number v w x y a b (same_is x y e) ea eb)))))
      (λ n1. keeps_if runs sort.Truth _ _ _ (is_true x)
      (λ e. equal_keeps x y y both (beside x y true both (true_is x e))
      (λ v a b ea eb. eb ∙ ap Truth (sym (same_truth-true_left a b (same_truths v x (truth true) a true (true_is x e) ea (value-truth v true)))))
      (λ w hx hy. absurd (no_word w x true (true_is x e) hx)))
      (λ n2. keeps_if runs sort.Truth _ _ _ (is_true y)
      (λ e. equal_keeps x y x both (beside y x true (turned x y both) (true_is y e))
      (λ v a b ea eb. ea ∙ ap Truth (sym (same_truth-true_right a b (same_truths v y (truth true) b true (true_is y e) eb (value-truth v true)))))
      (λ w hx hy. absurd (no_word w y true (true_is y e) hy)))
      (λ n3. keeps_if runs sort.Truth _ _ _ (is_false x)
      (λ e.
      let hy = beside x y false both (false_is x e) in
      keeps_then runs sort.Truth (equal x y) (not_term y) (normal_not y)
      (equal_keeps x y (not_term y) both (sort-not y hy)
      (λ v a b ea eb. value-not v y b eb ∙ ap Truth (sym (same_truth-false_left a b (same_truths v x (truth false) a false (false_is x e) ea (value-truth v false)))))
      (λ w hx hy. absurd (no_word w x false (false_is x e) hx)))
      (keeps_not runs y hy))
      (λ n4. keeps_if runs sort.Truth _ _ _ (is_false y)
      (λ e.
      let hx = beside y x false (turned x y both) (false_is y e) in
      keeps_then runs sort.Truth (equal x y) (not_term x) (normal_not x)
      (equal_keeps x y (not_term x) both (sort-not x hx)
      (λ v a b ea eb. value-not v x a ea ∙ ap Truth (sym (same_truth-false_right a b (same_truths v y (truth false) b false (false_is y e) eb (value-truth v false)))))
      (λ w hx hy. absurd (no_word w y false (false_is y e) hy)))
      (keeps_not runs x hx))
      (λ n5. keeps_if runs sort.Truth _ _ _ (same_term (base x) (base y) && not (offset x == offset y)) (λ e. offsets_apart x y both e)
      (λ n6. keeps_itself runs sort.Truth (equal x y) (sort-equal x y both))))))))
