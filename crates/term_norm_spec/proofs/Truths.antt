-- The rules on truth values keep sort and value.
use Rattle.std.proofs.Common.{◌≡◌, Bool, true, false, cond, List, Some, unwrap_or, refl, sym, ap, ◌∙◌}
use Rattle.std.specs.Prelude.{◌&&◌, ◌||◌, not}
use Rattle.std.proofs.lemmas.Bool.{and_parts}
use Rattle.std.proofs.lemmas.Option.{same_Some}
use Rattle.term_core_spec.specs.declared.Sort.{Sort}
use Rattle.term_core_spec.specs.declared.Sort.TheVariants as sort
use Rattle.term_core_spec.specs.declared.UnaryOperator.TheVariants as unary
use Rattle.term_core_spec.specs.declared.BinaryOperator.TheVariants as binary
use Rattle.term_core_spec.specs.Term.{Term, Unary, truth, not_term, and_term, or_term, choose}
use Rattle.term_core_spec.specs.Sort.{sort_of, sort_of_atom, sort_of_unary, sort_of_binary, sort_of_ternary, is_truth}
use Rattle.term_core_spec.specs.Value.{Value, Truth, Assignment, IsAssignment, value, unary_value, binary_value, ternary_value}
use Rattle.term_core_spec.specs.Same.{same_term}
use Rattle.term_core_spec.proofs.Sorts.{sort_if-some, with_one-some, as_truth, same_sort-true, same_sort-same}
use Rattle.term_core_spec.proofs.Soundness.{value-sort}
use Rattle.term_core_spec.proofs.Same.{same_is}
use Rattle.memory_spec.specs.Runs.{Run}
use Rattle.term_norm_spec.specs.Patterns.{is_true, is_false, under_not, are_negations}
use Rattle.term_norm_spec.specs.Normal.{normal_not, normal_and, normal_or, arm_or, normal_choose}
use Rattle.term_norm_spec.proofs.Keeps.{Keeps, keeps_itself, keeps_then, keeps_if, keeps_value_of_one, keeps_value_of_two, true_is, false_is, value-truth}

-- ---- sorts

pub sort-truth : (b : Bool) → sort_of (truth b) ≡ Some sort.Truth
unfolding sort_of sort_of_atom
sort-truth b = refl

pub sort-not : (x : Term) → sort_of x ≡ Some sort.Truth → sort_of (not_term x) ≡ Some sort.Truth
unfolding sort_of sort_of_unary
sort-not x h = rw h refl

pub sort-under_not : (x : Term) → sort_of (not_term x) ≡ Some sort.Truth → sort_of x ≡ Some sort.Truth
unfolding sort_of sort_of_unary
sort-under_not x h =
    let parts = with_one-some (sort_of_unary unary.Not) (sort_of x) sort.Truth h in
    let tests = sort_if-some (is_truth parts.0) sort.Truth sort.Truth parts.2 in
    parts.1 ∙ ap Some (same_sort-true parts.0 sort.Truth tests.0)

pub sort-and : (x y : Term) → sort_of x ≡ Some sort.Truth → sort_of y ≡ Some sort.Truth → sort_of (and_term x y) ≡ Some sort.Truth
unfolding sort_of sort_of_binary
sort-and x y hx hy = rw (hx, hy) refl

pub sort-or : (x y : Term) → sort_of x ≡ Some sort.Truth → sort_of y ≡ Some sort.Truth → sort_of (or_term x y) ≡ Some sort.Truth
unfolding sort_of sort_of_binary
sort-or x y hx hy = rw (hx, hy) refl

-- ---- values

pub truth_value_of : (assignment : Assignment) → IsAssignment assignment → (x : Term) → sort_of x ≡ Some sort.Truth → (a : Bool) × (value assignment x ≡ Truth a)
truth_value_of assignment h x hx = as_truth (value assignment x) (value-sort assignment h x sort.Truth hx)

pub value-not : (assignment : Assignment) (x : Term) (a : Bool) → value assignment x ≡ Truth a → value assignment (not_term x) ≡ Truth (not a)
unfolding value unary_value
value-not assignment x a e = rw e refl

pub value-and : (assignment : Assignment) (x y : Term) (a b : Bool) → value assignment x ≡ Truth a → value assignment y ≡ Truth b → value assignment (and_term x y) ≡ Truth (a && b)
unfolding value binary_value
value-and assignment x y a b ex ey = rw (ex, ey) refl

pub value-or : (assignment : Assignment) (x y : Term) (a b : Bool) → value assignment x ≡ Truth a → value assignment y ≡ Truth b → value assignment (or_term x y) ≡ Truth (a || b)
unfolding value binary_value
value-or assignment x y a b ex ey = rw (ex, ey) refl

pub value-choose : (assignment : Assignment) (c x y : Term) (test : Bool) → value assignment c ≡ Truth test → value assignment (choose c x y) ≡ cond test (value assignment x) (value assignment y)
unfolding value ternary_value
value-choose assignment c x y test e = rw e refl

-- ---- facts of truth values

not-not : (a : Bool) → not (not a) ≡ a
not-not true = refl
not-not false = refl

and-false_left : (a b : Bool) → a ≡ false → (a && b) ≡ a
and-false_left false b e = refl
and-false_left true b e = absurd (cc)

and-false_right : (a b : Bool) → b ≡ false → (a && b) ≡ b
and-false_right true b e = refl
and-false_right false b e = sym e

and-true_left : (a b : Bool) → a ≡ true → (a && b) ≡ b
and-true_left true b e = refl
and-true_left false b e = absurd (cc)

and-true_right : (a b : Bool) → b ≡ true → (a && b) ≡ a
and-true_right true b e = e
and-true_right false b e = refl

and-same : (a b : Bool) → a ≡ b → (a && b) ≡ a
and-same true b e = sym e
and-same false b e = refl

and-not_right : (a b : Bool) → b ≡ not a → (a && b) ≡ false
and-not_right true b e = e
and-not_right false b e = refl

and-not_left : (a b : Bool) → a ≡ not b → (a && b) ≡ false
and-not_left a true e = rw e refl
and-not_left a false e = rw e refl

or-true_left : (a b : Bool) → a ≡ true → (a || b) ≡ a
or-true_left true b e = refl
or-true_left false b e = absurd (cc)

or-true_right : (a b : Bool) → b ≡ true → (a || b) ≡ b
or-true_right true b e = sym e
or-true_right false b e = refl

or-false_left : (a b : Bool) → a ≡ false → (a || b) ≡ b
or-false_left false b e = refl
or-false_left true b e = absurd (cc)

or-false_right : (a b : Bool) → b ≡ false → (a || b) ≡ a
or-false_right true b e = refl
or-false_right false b e = e

or-same : (a b : Bool) → a ≡ b → (a || b) ≡ a
or-same true b e = refl
or-same false b e = sym e

or-not_right : (a b : Bool) → b ≡ not a → (a || b) ≡ true
or-not_right true b e = refl
or-not_right false b e = e

or-not_left : (a b : Bool) → a ≡ not b → (a || b) ≡ true
or-not_left a true e = rw e refl
or-not_left a false e = rw e refl

-- either test
pub either_of : {P : Type 0} (a b : Bool) → cond a true b ≡ true → (a ≡ true → P) → (b ≡ true → P) → P
either_of true b e f g = f refl
either_of false b e f g = g e

-- equal terms have one value
pub same_truths : (assignment : Assignment) (x y : Term) (a b : Bool) → x ≡ y → value assignment x ≡ Truth a → value assignment y ≡ Truth b → a ≡ b
same_truths assignment x y a b e ex ey = let same : value assignment x ≡ value assignment y = ap (value assignment) e in cc

module _ (runs : List Run) where
  -- `and` and `or` as functions of values
  and_keeps : (x y u : Term) → sort_of x ≡ Some sort.Truth → sort_of y ≡ Some sort.Truth → sort_of u ≡ Some sort.Truth
      → ((assignment : Assignment) (a b : Bool) → value assignment x ≡ Truth a → value assignment y ≡ Truth b → value assignment u ≡ Truth (a && b)) → Keeps runs sort.Truth (and_term x y) u
  and_keeps x y u hx hy hu f =
      record {
        sorted = hu;
        value_is = λ assignment h fixed.
            let vx = truth_value_of assignment h x hx in
            let vy = truth_value_of assignment h y hy in
            f assignment vx.0 vy.0 vx.1 vy.1 ∙ sym (value-and assignment x y vx.0 vy.0 vx.1 vy.1);
      }

  or_keeps : (x y u : Term) → sort_of x ≡ Some sort.Truth → sort_of y ≡ Some sort.Truth → sort_of u ≡ Some sort.Truth
      → ((assignment : Assignment) (a b : Bool) → value assignment x ≡ Truth a → value assignment y ≡ Truth b → value assignment u ≡ Truth (a || b)) → Keeps runs sort.Truth (or_term x y) u
  or_keeps x y u hx hy hu f =
      record {
        sorted = hu;
        value_is = λ assignment h fixed.
            let vx = truth_value_of assignment h x hx in
            let vy = truth_value_of assignment h y hy in
            f assignment vx.0 vy.0 vx.1 vy.1 ∙ sym (value-or assignment x y vx.0 vy.0 vx.1 vy.1);
      }

  -- ---- rule 2

  pub keeps_not : (x : Term) → sort_of x ≡ Some sort.Truth → Keeps runs sort.Truth (not_term x) (normal_not x)
  unfolding normal_not under_not
  keeps_not x hx = keeps_value_of_one runs unary.Not x sort.Truth (unwrap_or (under_not x) (not_term x)) refl (sort-not x hx) (inner x hx)
    where
      inner : (x : Term) → sort_of x ≡ Some sort.Truth → Keeps runs sort.Truth (not_term x) (unwrap_or (under_not x) (not_term x))
      inner (Unary unary.Not y) hx =
          record {
            sorted = sort-under_not y hx;
            value_is = λ assignment h fixed.
                let vy = truth_value_of assignment h y (sort-under_not y hx) in
                vy.1 ∙ ap Truth (sym (not-not vy.0)) ∙ sym (value-not assignment (not_term y) (not vy.0) (value-not assignment y vy.0 vy.1));
          }
      inner x hx = keeps_itself runs sort.Truth (not_term x) (sort-not x hx)

  -- ---- rule 3

  pub keeps_and : (x y : Term) → sort_of x ≡ Some sort.Truth → sort_of y ≡ Some sort.Truth → Keeps runs sort.Truth (and_term x y) (normal_and x y)
  unfolding normal_and
  keeps_and x y hx hy =
      keeps_value_of_two runs binary.And x y sort.Truth _ refl (sort-and x y hx hy)
      (keeps_if runs sort.Truth _ _ _ (is_false x) (λ e. and_keeps x y x hx hy hx (λ assignment a b ea eb. ea ∙ ap Truth (sym (and-false_left a b (same_truths assignment x (truth false) a false (false_is x e) ea (value-truth assignment false))))))
      (λ n1. keeps_if runs sort.Truth _ _ _ (is_false y) (λ e. and_keeps x y y hx hy hy (λ assignment a b ea eb. eb ∙ ap Truth (sym (and-false_right a b (same_truths assignment y (truth false) b false (false_is y e) eb (value-truth assignment false))))))
      (λ n2. keeps_if runs sort.Truth _ _ _ (is_true x) (λ e. and_keeps x y y hx hy hy (λ assignment a b ea eb. eb ∙ ap Truth (sym (and-true_left a b (same_truths assignment x (truth true) a true (true_is x e) ea (value-truth assignment true))))))
      (λ n3. keeps_if runs sort.Truth _ _ _ (is_true y) (λ e. and_keeps x y x hx hy hx (λ assignment a b ea eb. ea ∙ ap Truth (sym (and-true_right a b (same_truths assignment y (truth true) b true (true_is y e) eb (value-truth assignment true))))))
      (λ n4. keeps_if runs sort.Truth _ _ _ (same_term x y) (λ e. and_keeps x y x hx hy hx (λ assignment a b ea eb. ea ∙ ap Truth (sym (and-same a b (same_truths assignment x y a b (same_is x y e) ea eb)))))
      (λ n5. keeps_if runs sort.Truth _ _ _ (are_negations x y)
      (λ e. and_keeps x y (truth false) hx hy (sort-truth false) (λ assignment a b ea eb. value-truth assignment false ∙ ap Truth (sym (either_of (same_term y (not_term x)) (same_term x (not_term y)) e
      (λ one. and-not_right a b (same_truths assignment y (not_term x) b (not a) (same_is y (not_term x) one) eb (value-not assignment x a ea)))
      (λ other. and-not_left a b (same_truths assignment x (not_term y) a (not b) (same_is x (not_term y) other) ea (value-not assignment y b eb)))))))
      (λ n6. keeps_itself runs sort.Truth (and_term x y) (sort-and x y hx hy))))))))

  pub keeps_or : (x y : Term) → sort_of x ≡ Some sort.Truth → sort_of y ≡ Some sort.Truth → Keeps runs sort.Truth (or_term x y) (normal_or x y)
  unfolding normal_or
  keeps_or x y hx hy =
      keeps_value_of_two runs binary.Or x y sort.Truth _ refl (sort-or x y hx hy)
      (keeps_if runs sort.Truth _ _ _ (is_true x) (λ e. or_keeps x y x hx hy hx (λ assignment a b ea eb. ea ∙ ap Truth (sym (or-true_left a b (same_truths assignment x (truth true) a true (true_is x e) ea (value-truth assignment true))))))
      (λ n1. keeps_if runs sort.Truth _ _ _ (is_true y) (λ e. or_keeps x y y hx hy hy (λ assignment a b ea eb. eb ∙ ap Truth (sym (or-true_right a b (same_truths assignment y (truth true) b true (true_is y e) eb (value-truth assignment true))))))
      (λ n2. keeps_if runs sort.Truth _ _ _ (is_false x) (λ e. or_keeps x y y hx hy hy (λ assignment a b ea eb. eb ∙ ap Truth (sym (or-false_left a b (same_truths assignment x (truth false) a false (false_is x e) ea (value-truth assignment false))))))
      (λ n3. keeps_if runs sort.Truth _ _ _ (is_false y) (λ e. or_keeps x y x hx hy hx (λ assignment a b ea eb. ea ∙ ap Truth (sym (or-false_right a b (same_truths assignment y (truth false) b false (false_is y e) eb (value-truth assignment false))))))
      (λ n4. keeps_if runs sort.Truth _ _ _ (same_term x y) (λ e. or_keeps x y x hx hy hx (λ assignment a b ea eb. ea ∙ ap Truth (sym (or-same a b (same_truths assignment x y a b (same_is x y e) ea eb)))))
      (λ n5. keeps_if runs sort.Truth _ _ _ (are_negations x y)
      (λ e. or_keeps x y (truth true) hx hy (sort-truth true) (λ assignment a b ea eb. value-truth assignment true ∙ ap Truth (sym (either_of (same_term y (not_term x)) (same_term x (not_term y)) e
      (λ one. or-not_right a b (same_truths assignment y (not_term x) b (not a) (same_is y (not_term x) one) eb (value-not assignment x a ea)))
      (λ other. or-not_left a b (same_truths assignment x (not_term y) a (not b) (same_is x (not_term y) other) ea (value-not assignment y b eb)))))))
      (λ n6. keeps_itself runs sort.Truth (or_term x y) (sort-or x y hx hy))))))))

  -- ---- rule 8

  pub sort-choose : (s : Sort) (c x y : Term) → sort_of c ≡ Some sort.Truth → sort_of x ≡ Some s → sort_of y ≡ Some s → sort_of (choose c x y) ≡ Some s
  unfolding sort_of sort_of_ternary
  sort-choose s c x y hc hx hy = rw (hc, hx, hy) (rw (same_sort-same s) refl)

  keeps_arm : (s : Sort) (c x y otherwise : Term) → sort_of c ≡ Some sort.Truth → sort_of x ≡ Some s → sort_of y ≡ Some s
      → Keeps runs s (choose c x y) otherwise → Keeps runs s (choose c x y) (arm_or c x y otherwise)
  keeps_arm s c x y otherwise hc hx hy other =
      keeps_if runs s _ _ _ (is_true c) (λ e. record { sorted = hx; value_is = λ assignment h fixed. sym (value-choose assignment c x y true (ap (value assignment) (true_is c e) ∙ value-truth assignment true)) })
      (λ n1. keeps_if runs s _ _ _ (is_false c) (λ e. record { sorted = hy; value_is = λ assignment h fixed. sym (value-choose assignment c x y false (ap (value assignment) (false_is c e) ∙ value-truth assignment false)) })
      (λ n2. keeps_if runs s _ _ _ (same_term x y)
      (λ e. record {
        sorted = hx;
        value_is = λ assignment h fixed.
            let vc = truth_value_of assignment h c hc in
            one_arm vc.0 (value assignment x) (value assignment y) (ap (value assignment) (same_is x y e)) ∙ sym (value-choose assignment c x y vc.0 vc.1);
      })
      (λ n3. keeps_if runs s _ _ _ (is_true x && is_false y)
      (λ e.
      let both = and_parts (is_true x) (is_false y) e in
      let x_is = true_is x both.0 in
      let y_is = false_is y both.1 in
      let is_truth : s ≡ sort.Truth = same_Some s sort.Truth (sym hx ∙ ap sort_of x_is ∙ sort-truth true) in
      record {
        sorted = hc ∙ ap Some (sym is_truth);
        value_is = λ assignment h fixed.
            let vc = truth_value_of assignment h c hc in
            vc.1 ∙ test_itself vc.0 (value assignment x) (value assignment y) (ap (value assignment) x_is ∙ value-truth assignment true) (ap (value assignment) y_is ∙ value-truth assignment false)
            ∙ sym (value-choose assignment c x y vc.0 vc.1);
      })
      (λ n4. other))))
    where
      one_arm : (test : Bool) (v w : Value) → v ≡ w → v ≡ cond test v w
      one_arm true v w e = refl
      one_arm false v w e = e

      test_itself : (test : Bool) (v w : Value) → v ≡ Truth true → w ≡ Truth false → Truth test ≡ cond test v w
      test_itself true v w e f = sym e
      test_itself false v w e f = sym f

  pub keeps_choose : (s : Sort) (c x y : Term) → sort_of c ≡ Some sort.Truth → sort_of x ≡ Some s → sort_of y ≡ Some s → Keeps runs s (choose c x y) (normal_choose c x y)
  unfolding normal_choose
  keeps_choose s (Unary unary.Not c) x y hc hx hy =
      keeps_arm s (not_term c) x y (normal_choose c y x) hc hx hy
      (keeps_then runs s (choose (not_term c) x y) (choose c y x) (normal_choose c y x)
      (record {
        sorted = sort-choose s c y x (sort-under_not c hc) hy hx;
        value_is = λ assignment h fixed.
            let vc = truth_value_of assignment h c (sort-under_not c hc) in
            value-choose assignment c y x vc.0 vc.1 ∙ turned vc.0 (value assignment x) (value assignment y) ∙ sym (value-choose assignment (not_term c) x y (not vc.0) (value-not assignment c vc.0 vc.1));
      })
      (keeps_choose s c y x (sort-under_not c hc) hy hx))
    where
      turned : (test : Bool) (v w : Value) → cond test w v ≡ cond (not test) v w
      turned true v w = refl
      turned false v w = refl
  keeps_choose s c x y hc hx hy = keeps_arm s c x y (choose c x y) hc hx hy (keeps_itself runs s (choose c x y) (sort-choose s c x y hc hx hy))
