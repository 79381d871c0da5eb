-- What the rule `lift` accepts has one value.
use Rattle.std.proofs.Common.{◌≡◌, ℕ, ◌+◌, ◌^◌, ◌<◌, Bool, true, false, cond, Option, Some, None, refl, sym, ap, ◌∙◌, subst, arith, eq-eqb, ne_eqb}
use Rattle.std.specs.Prelude.{◌==◌, ◌&&◌, ◌||◌, not}
use Rattle.std.proofs.lemmas.Bool.{and_parts}
use Rattle.std.proofs.lemmas.Option.{same_Some, cond_some}
use Rattle.term_core_spec.specs.declared.Width.{Width}
use Rattle.term_core_spec.specs.declared.Sort.{Sort}
use Rattle.term_core_spec.specs.declared.Sort.TheVariants as sort
use Rattle.term_core_spec.specs.declared.BinaryOperator.TheVariants as binary
use Rattle.term_core_spec.specs.declared.TernaryOperator.TheVariants as ternary
use Rattle.term_core_spec.specs.Term.{Term, Leaf, Unary, Binary, Ternary, Quaternary, Octonary, truth, constant, not_term, equal, choose}
use Rattle.term_core_spec.specs.Sort.{bits, sort_of, sort_of_ternary, is_truth, same_sort}
use Rattle.term_core_spec.specs.Value.{Truth, Number, Assignment, IsAssignment, value}
use Rattle.term_core_spec.specs.Same.{same_term}
use Rattle.term_core_spec.proofs.Same.{same_is, same_itself}
use Rattle.term_core_spec.proofs.Sorts.{sort_if-some, with_three-some, same_sort-true}
use Rattle.term_norm_spec.specs.Patterns.{width_of, is_constant, number_of}
use Rattle.term_norm_spec.proofs.Keeps.{constant_is, value-constant}
use Rattle.term_norm_spec.proofs.Equals.{Alike, truths, words, alike_of, value-equal_words}
use Rattle.term_norm_spec.proofs.Truths.{truth_value_of, value-not, value-choose}
use Rattle.term_norm_spec.proofs.Words.{word_of}
use Rattle.word_steps_spec.specs.Numbers.{operands, at_places, made, operation_of}
use Rattle.word_steps_spec.specs.Polynomial.{plus, is_empty, polynomial_value}
use Rattle.word_steps_spec.specs.Sides.{are_words}
use Rattle.word_steps_spec.specs.Ring.{polynomial}
use Rattle.word_steps_spec.specs.Choices.{Choice, choice_in, arm_of, arm, arm_or_itself, are_choices, is_join, with_arms, is_lifted_join, without_inner, is_without_inner, equal_choice, are_opposite_words, is_equal_choice, is_lifted_equality, is_lifted, same_by_lifting}
use Rattle.word_steps_spec.proofs.Places.{made-value}
use Rattle.word_steps_spec.proofs.Congruence.{IsCongruent, congruent_same, congruent_sym, congruent_then, congruent_plus, congruent_equal}
use Rattle.word_steps_spec.proofs.Polynomials.{plus_value}
use Rattle.word_steps_spec.proofs.CommHolds.{either_test}
use Rattle.word_steps_spec.proofs.RingHolds.{polynomial_is}
use Rattle.word_steps_spec.proofs.RingSound.{words_are, empty_value, same_test}

made_itself : (t : Term) → made (at_places (λ i u. u) (operation_of t)) ≡ t
unfolding made at_places operation_of
made_itself (Leaf a) = refl
made_itself (Unary o a) = refl
made_itself (Binary o a b) = refl
made_itself (Ternary o a b c) = refl
made_itself (Quaternary o a b c d) = refl
made_itself (Octonary a b c d e f g h) = refl

test_sort : (c x y : Term) (s : Sort) → sort_of (choose c x y) ≡ Some s → sort_of c ≡ Some sort.Truth
unfolding sort_of sort_of_ternary
test_sort c x y s h =
    let parts = with_three-some (sort_of_ternary ternary.Choose) (sort_of c) (sort_of x) (sort_of y) s h in
    let tests = sort_if-some (is_truth parts.0 && same_sort parts.1 parts.2) parts.1 s parts.6 in
    let both = and_parts (is_truth parts.0) (same_sort parts.1 parts.2) tests.0 in
    parts.3 ∙ ap Some (same_sort-true parts.0 sort.Truth both.0)

not_true : (b : Bool) → not b ≡ true → b ≡ false
not_true true e = absurd (cc)
not_true false e = refl

-- two numbers whose sum is 0 are both 0 or neither
opposite_zero : (m f g : ℕ) → f < m → g < m → IsCongruent m (f + g) 0 → (f == 0) ≡ (g == 0)
opposite_zero m f g below_f below_g h =
    same_test f 0 g 0
    (λ e. congruent_equal m g 0 (congruent_then m g (f + g) 0 (congruent_same m g (f + g) (omega arith)) h) below_g (omega arith))
    (λ e. congruent_equal m f 0 (congruent_then m f (f + g) 0 (congruent_same m f (f + g) (omega arith)) h) below_f (omega arith))

module _ (assignment : Assignment) (assigns : IsAssignment assignment) where
  -- ---- arms

  choice_in_is : (t : Term) (k : Choice) → choice_in t ≡ Some k → t ≡ choose k.test k.first k.second
  unfolding choice_in
  choice_in_is (Ternary ternary.Choose c x y) k e =
      subst (λ (j : Choice). choose c x y ≡ choose j.test j.first j.second) (same_Some (record { test = c; first = x; second = y }) k e) refl
  choice_in_is t k e = absurd (cc)

  picked : (b : Bool) (x y : Term) → cond b (value assignment x) (value assignment y) ≡ value assignment (cond b x y)
  picked true x y = refl
  picked false x y = refl

  arm_value : (c : Term) (b : Bool) → value assignment c ≡ Truth b → (t u : Term) → arm c b t ≡ Some u → value assignment t ≡ value assignment u
  arm_value c b vc t u e = by (choice_in t) refl e
    where
      by : (o : Option Choice) → choice_in t ≡ o → arm_of c b o ≡ Some u → value assignment t ≡ value assignment u
      by (Some k) d f =
          let passed = cond_some (same_term k.test c) (cond b k.first k.second) u f in
          ap (value assignment) (choice_in_is t k d) ∙ value-choose assignment k.test k.first k.second b (ap (value assignment) (same_is k.test c passed.0) ∙ vc)
          ∙ picked b k.first k.second ∙ ap (value assignment) passed.1
      by None d f = absurd (cc)

  or_itself_value : (c : Term) (b : Bool) → value assignment c ≡ Truth b → (t : Term) → value assignment (arm_or_itself (arm c b t) t) ≡ value assignment t
  or_itself_value c b vc t = by (arm c b t) refl
    where
      by : (o : Option Term) → arm c b t ≡ o → value assignment (arm_or_itself o t) ≡ value assignment t
      by (Some u) e = sym (arm_value c b vc t u e)
      by None e = refl

  with_arms_value : (c : Term) (b : Bool) → value assignment c ≡ Truth b → (t : Term) → value assignment (with_arms c b t) ≡ value assignment t
  with_arms_value c b vc t =
      made-value (λ i u. arm_or_itself (arm c b u) u) (λ i u. u) assignment (operation_of t) (λ i u at. or_itself_value c b vc u) ∙ ap (value assignment) (made_itself t)

  -- the value of a choice by its condition
  record IsChosen (t : Term) (k : Choice) : Type 0 where
    pub test : Bool
    pub test_is : value assignment k.test ≡ Truth test
    pub value_is : value assignment t ≡ value assignment (cond test k.first k.second)

  chosen : (t : Term) (k : Choice) (s : Sort) → sort_of t ≡ Some s → choice_in t ≡ Some k → IsChosen t k
  chosen t k s h e =
      let is = choice_in_is t k e in
      let vc = truth_value_of assignment assigns k.test (test_sort k.test k.first k.second s (sym (ap sort_of is) ∙ h)) in
      record {
        test = vc.0;
        test_is = vc.1;
        value_is = ap (value assignment) is ∙ value-choose assignment k.test k.first k.second vc.0 vc.1 ∙ picked vc.0 k.first k.second;
      }

  -- ---- joins

  join_sound : (x y : Term) (s : Sort) → sort_of y ≡ Some s → (o : Option Choice) → choice_in y ≡ o → is_lifted_join x o ≡ true → value assignment x ≡ value assignment y
  join_sound x y s hy (Some k) d e =
      let one = and_parts (is_join x) _ e in
      let two = and_parts (are_choices k.test (operands (operation_of x))) _ one.1 in
      let three = and_parts (same_term (with_arms k.test true x) k.first) (same_term (with_arms k.test false x) k.second) two.1 in
      let is = chosen y k s hy d in
      by is.test is.test_is (same_is (with_arms k.test true x) k.first three.0) (same_is (with_arms k.test false x) k.second three.1) ∙ sym is.value_is
    where
      by : (b : Bool) → value assignment k.test ≡ Truth b → with_arms k.test true x ≡ k.first → with_arms k.test false x ≡ k.second
          → value assignment x ≡ value assignment (cond b k.first k.second)
      by true vc first second = sym (with_arms_value k.test true vc x) ∙ ap (value assignment) first
      by false vc first second = sym (with_arms_value k.test false vc x) ∙ ap (value assignment) second
  join_sound x y s hy None d e = absurd (cc)

  -- ---- inner choices

  inner_sound : (x y : Term) (s : Sort) → sort_of x ≡ Some s → (o : Option Choice) → choice_in x ≡ o → is_without_inner o y ≡ true → value assignment x ≡ value assignment y
  inner_sound x y s hx (Some k) d e =
      let is = chosen x k s hx d in
      is.value_is ∙ by is.test is.test_is ∙ ap (value assignment) (same_is (without_inner k) y e)
    where
      by : (b : Bool) → value assignment k.test ≡ Truth b → value assignment (cond b k.first k.second) ≡ value assignment (without_inner k)
      by true vc = sym (value-choose assignment k.test (arm_or_itself (arm k.test true k.first) k.first) (arm_or_itself (arm k.test false k.second) k.second) true vc ∙ or_itself_value k.test true vc k.first)
      by false vc =
          sym (value-choose assignment k.test (arm_or_itself (arm k.test true k.first) k.first) (arm_or_itself (arm k.test false k.second) k.second) false vc ∙ or_itself_value k.test false vc k.second)
  inner_sound x y s hx None d e = absurd (cc)

  -- ---- `eq`

  equal_value : (w : Width) (x n : Term) → sort_of x ≡ Some (sort.Word w) → sort_of n ≡ Some (sort.Word w) → (a : ℕ) × (b : ℕ) × (value assignment x ≡ Number w a) × (value assignment n ≡ Number w b)
      × (value assignment (equal x n) ≡ Truth (a == b))
  equal_value w x n hx hn =
      let vx = word_of assignment assigns w x hx in
      let vn = word_of assignment assigns w n hn in
      (vx.0, vn.0, vx.1, vn.1, value-equal_words assignment w x n vx.0 vn.0 vx.1 vn.1)

  constants_equal : (x n : Term) → are_words x n ≡ true → is_constant x ≡ true → is_constant n ≡ true → value assignment (equal x n) ≡ Truth (same_term x n)
  constants_equal x n h cx cn =
      let are = words_are assignment assigns x n h in
      let kx = (constant_is (width_of x) x are.first cx).0 in
      let kn = (constant_is (width_of x) n are.second cn).0 in
      value-equal_words assignment (width_of x) x n (number_of x) (number_of n) (ap (value assignment) kx ∙ value-constant assignment (width_of x) (number_of x))
      (ap (value assignment) kn ∙ value-constant assignment (width_of x) (number_of n))
      ∙ ap Truth (by kx kn (same_term x n) refl)
    where
      by : x ≡ constant (width_of x) (number_of x) → n ≡ constant (width_of x) (number_of n) → (test : Bool) → same_term x n ≡ test → (number_of x == number_of n) ≡ test
      by kx kn true e = eq-eqb (number_of x) (number_of n) (ap number_of (same_is x n e))
      by kx kn false e =
          ne_eqb (number_of x) (number_of n) (λ same.
          let one : x ≡ n = kx ∙ ap (constant (width_of x)) same ∙ sym kn in
          let found : same_term x n ≡ true = sym (ap (same_term x) one) ∙ same_itself x in
          let wrong : true ≡ false = sym found ∙ e in
          absurd (cc))

  same_equal : (x u n : Term) → value assignment x ≡ value assignment u → value assignment (equal x n) ≡ value assignment (equal u n)
  unfolding value
  same_equal x u n e = rw e refl

  truth_value : (b : Bool) → value assignment (truth b) ≡ Truth b
  unfolding value
  truth_value b = refl

  constant_sound : (k : Choice) (n : Term) (b : Bool) → value assignment k.test ≡ Truth b → are_words k.first n ≡ true → are_words k.second n ≡ true
      → is_constant n ≡ true → is_constant k.first ≡ true → is_constant k.second ≡ true → same_term k.first k.second ≡ false
      → value assignment (equal (cond b k.first k.second) n) ≡ value assignment (equal_choice k n)
  constant_sound k n b vc h g cn cf cs apart = by (same_term k.first n) refl (same_term k.second n) refl b vc
    where
      first_is : value assignment (equal k.first n) ≡ Truth (same_term k.first n)
      first_is = constants_equal k.first n h cf cn

      second_is : value assignment (equal k.second n) ≡ Truth (same_term k.second n)
      second_is = constants_equal k.second n g cs cn

      both : same_term k.first n ≡ true → same_term k.second n ≡ true → ⊥
      both e d =
          let one = same_is k.first n e in
          let two = same_is k.second n d in
          let same : same_term k.first k.second ≡ true = ap (same_term k.first) (two ∙ sym one) ∙ same_itself k.first in
          let wrong : true ≡ false = sym same ∙ apart in
          cc

      by : (p : Bool) → same_term k.first n ≡ p → (q : Bool) → same_term k.second n ≡ q → (b : Bool) → value assignment k.test ≡ Truth b
          → value assignment (equal (cond b k.first k.second) n) ≡ value assignment (cond p k.test (cond q (not_term k.test) (truth false)))
      by true e true d b vc = absurd (both e d)
      by true e false d true vc = first_is ∙ ap Truth e ∙ sym vc
      by true e false d false vc = second_is ∙ ap Truth d ∙ sym vc
      by false e true d true vc = first_is ∙ ap Truth e ∙ sym (value-not assignment k.test true vc)
      by false e true d false vc = second_is ∙ ap Truth d ∙ sym (value-not assignment k.test false vc)
      by false e false d true vc = first_is ∙ ap Truth e ∙ sym (truth_value false)
      by false e false d false vc = second_is ∙ ap Truth d ∙ sym (truth_value false)

  opposite_sound : (k : Choice) (n : Term) (b : Bool) → are_words k.first n ≡ true → are_opposite_words k.first k.second ≡ true → n ≡ constant (width_of k.first) 0
      → value assignment (equal (cond b k.first k.second) n) ≡ value assignment (equal k.first n)
  opposite_sound k n true h g zero_is = refl
  opposite_sound k n false h g zero_is =
      let both = and_parts (are_words k.first k.second) (is_empty (plus (bits (width_of k.first)) (polynomial k.first) (polynomial k.second))) g in
      let are = words_are assignment assigns k.first k.second both.0 in
      let vf = word_of assignment assigns (width_of k.first) k.first are.first in
      let vs = word_of assignment assigns (width_of k.first) k.second are.second in
      let vn : value assignment n ≡ Number (width_of k.first) 0 = ap (value assignment) zero_is ∙ value-constant assignment (width_of k.first) 0 in
      let pf = (polynomial_is assignment assigns k.first (width_of k.first) are.first).value_is vf.0 vf.1 in
      let ps = (polynomial_is assignment assigns k.second (width_of k.first) are.second).value_is vs.0 vs.1 in
      let none = plus_value assignment (bits (width_of k.first)) (polynomial k.first) (polynomial k.second) in
      let empty = empty_value assignment assigns (plus (bits (width_of k.first)) (polynomial k.first) (polynomial k.second)) both.1 in
      let sum : IsCongruent (2 ^ bits (width_of k.first)) (vf.0 + vs.0) 0 =
      congruent_then (2 ^ bits (width_of k.first)) (vf.0 + vs.0) (polynomial_value assignment (polynomial k.first) + polynomial_value assignment (polynomial k.second)) 0
      (congruent_sym (2 ^ bits (width_of k.first)) (polynomial_value assignment (polynomial k.first) + polynomial_value assignment (polynomial k.second)) (vf.0 + vs.0)
      (congruent_plus (2 ^ bits (width_of k.first)) (polynomial_value assignment (polynomial k.first)) vf.0 (polynomial_value assignment (polynomial k.second)) vs.0 pf ps))
      (congruent_sym (2 ^ bits (width_of k.first)) 0 (polynomial_value assignment (polynomial k.first) + polynomial_value assignment (polynomial k.second))
      (subst (λ i. IsCongruent (2 ^ bits (width_of k.first)) i (polynomial_value assignment (polynomial k.first) + polynomial_value assignment (polynomial k.second))) empty none)) in
      value-equal_words assignment (width_of k.first) k.second n vs.0 0 vs.1 vn ∙ ap Truth (sym (opposite_zero (2 ^ bits (width_of k.first)) vf.0 vs.0 vf.2 vs.2 sum))
      ∙ sym (value-equal_words assignment (width_of k.first) k.first n vf.0 0 vf.1 vn)

  equality_sound : (x n y : Term) (s : Sort) → sort_of x ≡ Some s → (o : Option Choice) → choice_in x ≡ o → is_equal_choice o n y ≡ true → value assignment (equal x n) ≡ value assignment y
  equality_sound x n y s hx (Some k) d e =
      let is = chosen x k s hx d in
      let one = and_parts (are_words k.first n) _ e in
      let two = and_parts (are_words k.second n) _ one.1 in
      same_equal x (cond is.test k.first k.second) n is.value_is
      ∙ either_test (is_constant n && (is_constant k.first && (is_constant k.second && (not (same_term k.first k.second) && same_term (equal_choice k n) y))))
      (same_term n (constant (width_of k.first) 0) && (are_opposite_words k.first k.second && same_term (equal k.first n) y)) two.1
      (λ h.
      let c1 = and_parts (is_constant n) _ h in
      let c2 = and_parts (is_constant k.first) _ c1.1 in
      let c3 = and_parts (is_constant k.second) _ c2.1 in
      let c4 = and_parts (not (same_term k.first k.second)) (same_term (equal_choice k n) y) c3.1 in
      constant_sound k n is.test is.test_is one.0 two.0 c1.0 c2.0 c3.0 (not_true (same_term k.first k.second) c4.0) ∙ ap (value assignment) (same_is (equal_choice k n) y c4.1))
      (λ h.
      let c1 = and_parts (same_term n (constant (width_of k.first) 0)) _ h in
      let c2 = and_parts (are_opposite_words k.first k.second) (same_term (equal k.first n) y) c1.1 in
      opposite_sound k n is.test one.0 c2.0 (same_is n (constant (width_of k.first) 0) c1.0) ∙ ap (value assignment) (same_is (equal k.first n) y c2.1))
  equality_sound x n y s hx None d e = absurd (cc)

  lifted_equality_sound : (x y : Term) → sort_of x ≡ Some sort.Truth → is_lifted_equality x y ≡ true → value assignment x ≡ value assignment y
  unfolding is_lifted_equality
  lifted_equality_sound (Binary binary.Equal u n) y h e = by ((alike_of u n sort.Truth h).1)
    where
      by : Alike u n → value assignment (equal u n) ≡ value assignment y
      by (truths hu hn) = equality_sound u n y sort.Truth hu (choice_in u) refl e
      by (words w hu hn) = equality_sound u n y (sort.Word w) hu (choice_in u) refl e
  lifted_equality_sound x y h e = absurd (cc)

  equality_sort : (x y : Term) (s : Sort) → sort_of x ≡ Some s → is_lifted_equality x y ≡ true → sort_of x ≡ Some sort.Truth
  unfolding is_lifted_equality
  equality_sort (Binary binary.Equal u n) y s h e = h ∙ ap Some ((alike_of u n s h).0)
  equality_sort x y s h e = absurd (cc)

  -- ---- the rule

  lifted_sound : (x y : Term) (s : Sort) → sort_of x ≡ Some s → sort_of y ≡ Some s → is_lifted x y ≡ true → value assignment x ≡ value assignment y
  lifted_sound x y s hx hy e =
      either_test (is_lifted_join x (choice_in y)) (is_without_inner (choice_in x) y || is_lifted_equality x y) e
      (λ h. join_sound x y s hy (choice_in y) refl h)
      (λ f.
      either_test (is_without_inner (choice_in x) y) (is_lifted_equality x y) f
      (λ h. inner_sound x y s hx (choice_in x) refl h) (λ h. lifted_equality_sound x y (equality_sort x y s hx h) h))

  pub lifting_sound : (x y : Term) → Alike x y → same_by_lifting x y ≡ true → value assignment x ≡ value assignment y
  unfolding same_by_lifting
  lifting_sound x y (truths hx hy) e =
      either_test (is_lifted x y) (is_lifted y x) e (λ h. lifted_sound x y sort.Truth hx hy h) (λ h. sym (lifted_sound y x sort.Truth hy hx h))
  lifting_sound x y (words w hx hy) e =
      either_test (is_lifted x y) (is_lifted y x) e (λ h. lifted_sound x y (sort.Word w) hx hy h) (λ h. sym (lifted_sound y x (sort.Word w) hy hx h))
