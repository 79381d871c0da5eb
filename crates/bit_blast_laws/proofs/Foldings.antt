-- A gate of signals, folded, has the value of the gate.
use Rattle.std.proofs.Common.{◌≡◌, Bool, true, false, cond, refl, sym, ap, ◌∙◌, eqb-true}
use Rattle.std.specs.Prelude.{◌&&◌, ◌||◌, not}
use Rattle.clause_check_spec.specs.declared.Literal.{Literal}
use Rattle.clause_check_spec.specs.Clause.{Valuation, holds, negation, same_sign}
use Rattle.bit_blast_spec.specs.Gates.{And, Xor, Mux, Majority}
use Rattle.bit_blast_spec.specs.Folding.{Signal, Known, Of, opposite, Folded, Stands, Needs, reversed, is_before, is_one_variable, have_one_sign, plain, and_of, fold_and, fold_or, xor_of, fold_xor, mux_form, mux_of, fold_mux, majority_form, majority_in_order, majority_of, either_or_both, fold_majority, signal_value, sign, gate_value, folded_value}

-- ---- truth tables

twice : (b : Bool) → not (not b) ≡ b
twice true = refl
twice false = refl

and_comm : (a b : Bool) → (a && b) ≡ (b && a)
and_comm true true = refl
and_comm true false = refl
and_comm false true = refl
and_comm false false = refl

and_itself : (a : Bool) → a ≡ (a && a)
and_itself true = refl
and_itself false = refl

and_none : (a : Bool) → false ≡ (not a && a)
and_none true = refl
and_none false = refl

and_true : (a : Bool) → a ≡ (a && true)
and_true true = refl
and_true false = refl

and_false : (a : Bool) → false ≡ (a && false)
and_false true = refl
and_false false = refl

or_by_and : (a b : Bool) → not (not a && not b) ≡ (a || b)
or_by_and true b = refl
or_by_and false true = refl
or_by_and false false = refl

sign_comm : (a b : Bool) → sign a b ≡ sign b a
sign_comm true true = refl
sign_comm true false = refl
sign_comm false true = refl
sign_comm false false = refl

sign_false : (a : Bool) → a ≡ sign a false
sign_false true = refl
sign_false false = refl

sign_true : (a : Bool) → not a ≡ sign a true
sign_true true = refl
sign_true false = refl

-- signs are moved out of a xor
signs_out : (p q u w : Bool) → sign (not (same_sign p q)) (sign u w) ≡ sign (sign p u) (sign q w)
signs_out true true true w = refl
signs_out true true false w = sym (twice w)
signs_out true false true w = twice w
signs_out true false false w = refl
signs_out false true true w = refl
signs_out false true false w = refl
signs_out false false true w = refl
signs_out false false false w = refl

module _ (values : Valuation) where
  abbrev v : Literal → Bool
  v l = holds values l

  abbrev s : Signal → Bool
  s t = signal_value values t

  abbrev f : Folded → Bool
  f t = folded_value values t

  opposite_is : (l : Literal) → v (negation l) ≡ not (v l)
  opposite_is l = by l.is_negated (values l.variable)
    where
      by : (n u : Bool) → cond (not n) (not u) u ≡ not (cond n (not u) u)
      by true u = sym (twice u)
      by false u = refl

  pub opposite_value : (t : Signal) → s (opposite t) ≡ not (s t)
  opposite_value (Known b) = refl
  opposite_value (Of l) = opposite_is l

  reversed_is : (t : Folded) → f (reversed t) ≡ not (f t)
  reversed_is (Stands t) = opposite_value t
  reversed_is (Needs n gate) = by n (gate_value values gate)
    where
      by : (n u : Bool) → sign (not n) u ≡ not (sign n u)
      by true u = sym (twice u)
      by false u = refl

  one_value : (a b : Literal) → is_one_variable a b ≡ true → values a.variable ≡ values b.variable
  one_value a b e = ap values (eqb-true a.variable b.variable e)

  same_is : (a b : Literal) → is_one_variable a b ≡ true → have_one_sign a b ≡ true → v a ≡ v b
  same_is a b e d = by a.is_negated b.is_negated d (values a.variable) (values b.variable) (one_value a b e)
    where
      by : (p q : Bool) → same_sign p q ≡ true → (u w : Bool) → u ≡ w → sign p u ≡ sign q w
      by true true h u w g = ap not g
      by true false h u w g = absurd (cc)
      by false true h u w g = absurd (cc)
      by false false h u w g = g

  other_is : (a b : Literal) → is_one_variable a b ≡ true → have_one_sign a b ≡ false → v a ≡ not (v b)
  other_is a b e d = by a.is_negated b.is_negated d (values a.variable) (values b.variable) (one_value a b e)
    where
      by : (p q : Bool) → same_sign p q ≡ false → (u w : Bool) → u ≡ w → sign p u ≡ not (sign q w)
      by true true h u w g = absurd (cc)
      by true false h u w g = ap not g
      by false true h u w g = g ∙ sym (twice w)
      by false false h u w g = absurd (cc)

  -- ---- both, and either

  and_of_is : (a b : Literal) → f (and_of a b) ≡ (v a && v b)
  and_of_is a b = by (is_one_variable a b) refl (have_one_sign a b) refl (is_before a b)
    where
      by : (one : Bool) → is_one_variable a b ≡ one → (same : Bool) → have_one_sign a b ≡ same → (before : Bool)
          → f (cond one (Stands (cond same (Of a) (Known false))) (Needs false (cond before (And a b) (And b a)))) ≡ (v a && v b)
      by true e true d before = and_itself (v a) ∙ ap (λ n. v a && n) (same_is a b e d)
      by true e false d before = and_none (v b) ∙ ap (λ n. n && v b) (sym (other_is a b e d))
      by false e same d true = refl
      by false e same d false = and_comm (v b) (v a)

  pub and_is : (t u : Signal) → f (fold_and t u) ≡ (s t && s u)
  and_is (Known true) u = refl
  and_is (Known false) u = refl
  and_is (Of a) (Known true) = and_true (v a)
  and_is (Of a) (Known false) = and_false (v a)
  and_is (Of a) (Of b) = and_of_is a b

  pub or_is : (t u : Signal) → f (fold_or t u) ≡ (s t || s u)
  or_is t u =
      reversed_is (fold_and (opposite t) (opposite u)) ∙ ap not (and_is (opposite t) (opposite u) ∙ ap (λ n. n && s (opposite u)) (opposite_value t) ∙ ap (λ n. not (s t) && n) (opposite_value u))
      ∙ or_by_and (s t) (s u)

  -- ---- one of both alone

  xor_of_is : (a b : Literal) → f (xor_of a b) ≡ sign (v a) (v b)
  xor_of_is a b = by (is_one_variable a b) refl (have_one_sign a b) refl (is_before a b)
    where
      equal_ones : (n : Bool) → false ≡ sign n n
      equal_ones true = refl
      equal_ones false = refl

      other_ones : (n : Bool) → true ≡ sign (not n) n
      other_ones true = refl
      other_ones false = refl

      by : (one : Bool) → is_one_variable a b ≡ one → (same : Bool) → have_one_sign a b ≡ same → (before : Bool)
          → f (cond one (Stands (Known (not same))) (Needs (not same) (cond before (Xor (plain a) (plain b)) (Xor (plain b) (plain a))))) ≡ sign (v a) (v b)
      by true e true d before = equal_ones (v a) ∙ ap (sign (v a)) (same_is a b e d)
      by true e false d before = other_ones (v b) ∙ ap (λ n. sign n (v b)) (sym (other_is a b e d))
      by false e same d true =
          ap (λ n. sign (not n) (sign (values a.variable) (values b.variable))) (sym d) ∙ signs_out a.is_negated b.is_negated (values a.variable) (values b.variable)
      by false e same d false =
          ap (sign (not same)) (sign_comm (values b.variable) (values a.variable)) ∙ ap (λ n. sign (not n) (sign (values a.variable) (values b.variable))) (sym d)
          ∙ signs_out a.is_negated b.is_negated (values a.variable) (values b.variable)

  pub xor_is : (t u : Signal) → f (fold_xor t u) ≡ sign (s t) (s u)
  xor_is (Known true) u = opposite_value u
  xor_is (Known false) u = refl
  xor_is (Of a) (Known true) = opposite_is a ∙ sign_true (v a)
  xor_is (Of a) (Known false) = sign_false (v a)
  xor_is (Of a) (Of b) = xor_of_is a b

  -- ---- a choice

  mux_form_is : (c a b : Literal) → f (mux_form c a b) ≡ cond (v c) (v a) (v b)
  mux_form_is c a b = by a.is_negated
    where
      table : (x y z : Bool) → not (cond x (not y) (not z)) ≡ cond x y z
      table true y z = twice y
      table false y z = twice z

      by : (test : Bool) → f (cond test (Needs true (Mux c (negation a) (negation b))) (Needs false (Mux c a b))) ≡ cond (v c) (v a) (v b)
      by true = ap (λ n. not (cond (v c) n (v (negation b)))) (opposite_is a) ∙ ap (λ n. not (cond (v c) (not (v a)) n)) (opposite_is b) ∙ table (v c) (v a) (v b)
      by false = refl

  mux_of_is : (c a b : Literal) → f (mux_of c a b) ≡ cond (v c) (v a) (v b)
  mux_of_is c a b = arms (is_one_variable a b) refl (have_one_sign a b) refl
    where
      one_arm : (x y : Bool) → y ≡ cond x y y
      one_arm true y = refl
      one_arm false y = refl

      other_arms : (x y : Bool) → not (sign x (not y)) ≡ cond x (not y) y
      other_arms true true = refl
      other_arms true false = refl
      other_arms false true = refl
      other_arms false false = refl

      or_table : (x z : Bool) → (x || z) ≡ cond x x z
      or_table true z = refl
      or_table false z = refl

      and_table : (x z : Bool) → (not x && z) ≡ cond x (not x) z
      and_table true z = refl
      and_table false z = refl

      both_table : (x y : Bool) → (x && y) ≡ cond x y x
      both_table true y = refl
      both_table false y = refl

      either_table : (x y : Bool) → (not x || y) ≡ cond x y (not x)
      either_table true y = refl
      either_table false y = refl

      turned : (n u x y : Bool) → n ≡ true → cond u y x ≡ cond (sign n u) x y
      turned true true x y e = refl
      turned true false x y e = refl
      turned false u x y e = absurd (cc)

      signs : (n : Bool) → c.is_negated ≡ n → f (cond n (mux_form (plain c) b a) (mux_form c a b)) ≡ cond (v c) (v a) (v b)
      signs true e = mux_form_is (plain c) b a ∙ turned c.is_negated (values c.variable) (v a) (v b) e
      signs false e = mux_form_is c a b

      second : (one : Bool) → is_one_variable c b ≡ one → (same : Bool) → have_one_sign c b ≡ same
          → f (cond one (cond same (fold_and (Of c) (Of a)) (fold_or (Of (negation c)) (Of a))) (cond c.is_negated (mux_form (plain c) b a) (mux_form c a b)))
          ≡ cond (v c) (v a) (v b)
      second true e true d = and_is (Of c) (Of a) ∙ both_table (v c) (v a) ∙ ap (cond (v c) (v a)) (same_is c b e d)
      second true e false d =
          or_is (Of (negation c)) (Of a) ∙ ap (λ n. n || v a) (opposite_is c) ∙ either_table (v c) (v a) ∙ ap (cond (v c) (v a)) (ap not (other_is c b e d) ∙ twice (v b))
      second false e same d = signs c.is_negated refl

      first : (one : Bool) → is_one_variable c a ≡ one → (same : Bool) → have_one_sign c a ≡ same
          → f (cond one (cond same (fold_or (Of c) (Of b)) (fold_and (Of (negation c)) (Of b)))
          (cond (is_one_variable c b) (cond (have_one_sign c b) (fold_and (Of c) (Of a)) (fold_or (Of (negation c)) (Of a)))
          (cond c.is_negated (mux_form (plain c) b a) (mux_form c a b)))) ≡ cond (v c) (v a) (v b)
      first true e true d = or_is (Of c) (Of b) ∙ or_table (v c) (v b) ∙ ap (λ n. cond (v c) n (v b)) (same_is c a e d)
      first true e false d =
          and_is (Of (negation c)) (Of b) ∙ ap (λ n. n && v b) (opposite_is c) ∙ and_table (v c) (v b)
          ∙ ap (λ n. cond (v c) n (v b)) (ap not (other_is c a e d) ∙ twice (v a))
      first false e same d = second (is_one_variable c b) refl (have_one_sign c b) refl

      arms : (one : Bool) → is_one_variable a b ≡ one → (same : Bool) → have_one_sign a b ≡ same
          → f (cond one (cond same (Stands (Of a)) (reversed (xor_of c a)))
          (cond (is_one_variable c a) (cond (have_one_sign c a) (fold_or (Of c) (Of b)) (fold_and (Of (negation c)) (Of b)))
          (cond (is_one_variable c b) (cond (have_one_sign c b) (fold_and (Of c) (Of a)) (fold_or (Of (negation c)) (Of a)))
          (cond c.is_negated (mux_form (plain c) b a) (mux_form c a b))))) ≡ cond (v c) (v a) (v b)
      arms true e true d = one_arm (v c) (v a) ∙ ap (cond (v c) (v a)) (same_is a b e d)
      arms true e false d =
          reversed_is (xor_of c a) ∙ ap not (xor_of_is c a ∙ ap (sign (v c)) (other_is a b e d)) ∙ other_arms (v c) (v b) ∙ ap (λ n. cond (v c) n (v b)) (sym (other_is a b e d))
      arms false e same d = first (is_one_variable c a) refl (have_one_sign c a) refl

  pub mux_is : (c a b : Signal) → f (fold_mux c a b) ≡ cond (s c) (s a) (s b)
  mux_is (Known true) t u = refl
  mux_is (Known false) t u = refl
  mux_is (Of c) (Known true) u = or_is (Of c) u ∙ table (v c) (s u)
    where
      table : (x y : Bool) → (x || y) ≡ cond x true y
      table true y = refl
      table false y = refl
  mux_is (Of c) (Known false) u = and_is (Of (negation c)) u ∙ ap (λ n. n && s u) (opposite_is c) ∙ table (v c) (s u)
    where
      table : (x y : Bool) → (not x && y) ≡ cond x false y
      table true y = refl
      table false y = refl
  mux_is (Of c) (Of a) (Known true) = or_is (Of (negation c)) (Of a) ∙ ap (λ n. n || v a) (opposite_is c) ∙ table (v c) (v a)
    where
      table : (x y : Bool) → (not x || y) ≡ cond x y true
      table true y = refl
      table false y = refl
  mux_is (Of c) (Of a) (Known false) = and_is (Of c) (Of a) ∙ table (v c) (v a)
    where
      table : (x y : Bool) → (x && y) ≡ cond x y false
      table true y = refl
      table false y = refl
  mux_is (Of c) (Of a) (Of b) = mux_of_is c a b

  -- ---- two of three

  abbrev two_of : Bool → Bool → Bool → Bool
  two_of x y z = cond x (y || z) (y && z)

  swap_first : (x y z : Bool) → two_of x y z ≡ two_of y x z
  swap_first true true z = refl
  swap_first true false z = refl
  swap_first false true z = refl
  swap_first false false z = refl

  swap_last : (x y z : Bool) → two_of x y z ≡ two_of x z y
  swap_last true true true = refl
  swap_last true true false = refl
  swap_last true false true = refl
  swap_last true false false = refl
  swap_last false true true = refl
  swap_last false true false = refl
  swap_last false false true = refl
  swap_last false false false = refl

  majority_form_is : (a b c : Literal) → f (majority_form a b c) ≡ two_of (v a) (v b) (v c)
  majority_form_is a b c = by a.is_negated
    where
      table : (x y z : Bool) → not (two_of (not x) (not y) (not z)) ≡ two_of x y z
      table true true true = refl
      table true true false = refl
      table true false true = refl
      table true false false = refl
      table false true true = refl
      table false true false = refl
      table false false true = refl
      table false false false = refl

      by : (test : Bool) → f (cond test (Needs true (Majority (negation a) (negation b) (negation c))) (Needs false (Majority a b c))) ≡ two_of (v a) (v b) (v c)
      by true =
          ap (λ n. not (two_of n (v (negation b)) (v (negation c)))) (opposite_is a) ∙ ap (λ n. not (two_of (not (v a)) n (v (negation c)))) (opposite_is b)
          ∙ ap (λ n. not (two_of (not (v a)) (not (v b)) n)) (opposite_is c) ∙ table (v a) (v b) (v c)
      by false = refl

  in_order_is : (a b c : Literal) → f (majority_in_order a b c) ≡ two_of (v a) (v b) (v c)
  in_order_is a b c = by (is_before a b) (is_before b c) (is_before a c)
    where
      by : (p q r : Bool)
          → f (cond p (cond q (majority_form a b c) (cond r (majority_form a c b) (majority_form c a b)))
          (cond r (majority_form b a c) (cond q (majority_form b c a) (majority_form c b a)))) ≡ two_of (v a) (v b) (v c)
      by true true r = majority_form_is a b c
      by true false true = majority_form_is a c b ∙ swap_last (v a) (v c) (v b)
      by true false false = majority_form_is c a b ∙ swap_first (v c) (v a) (v b) ∙ swap_last (v a) (v c) (v b)
      by false q true = majority_form_is b a c ∙ swap_first (v b) (v a) (v c)
      by false true false = majority_form_is b c a ∙ swap_last (v b) (v c) (v a) ∙ swap_first (v b) (v a) (v c)
      by false false false = majority_form_is c b a ∙ swap_first (v c) (v b) (v a) ∙ swap_last (v b) (v c) (v a) ∙ swap_first (v b) (v a) (v c)

  majority_of_is : (a b c : Literal) → f (majority_of a b c) ≡ two_of (v a) (v b) (v c)
  majority_of_is a b c = first (is_one_variable a b) refl (have_one_sign a b) refl
    where
      equal_ones : (x z : Bool) → x ≡ two_of x x z
      equal_ones true z = refl
      equal_ones false z = refl

      other_ones : (x z : Bool) → z ≡ two_of (not x) x z
      other_ones true z = refl
      other_ones false z = refl

      third : (one : Bool) → is_one_variable b c ≡ one → (same : Bool) → have_one_sign b c ≡ same
          → f (cond one (Stands (Of (cond same b a))) (majority_in_order a b c)) ≡ two_of (v a) (v b) (v c)
      third true e true d = equal_ones (v b) (v a) ∙ ap (λ n. two_of (v b) n (v a)) (same_is b c e d) ∙ swap_last (v b) (v c) (v a) ∙ swap_first (v b) (v a) (v c)
      third true e false d =
          other_ones (v c) (v a) ∙ ap (λ n. two_of n (v c) (v a)) (sym (other_is b c e d)) ∙ swap_last (v b) (v c) (v a) ∙ swap_first (v b) (v a) (v c)
      third false e same d = in_order_is a b c

      second : (one : Bool) → is_one_variable a c ≡ one → (same : Bool) → have_one_sign a c ≡ same
          → f (cond one (Stands (Of (cond same a b))) (cond (is_one_variable b c) (Stands (Of (cond (have_one_sign b c) b a))) (majority_in_order a b c)))
          ≡ two_of (v a) (v b) (v c)
      second true e true d = equal_ones (v a) (v b) ∙ ap (λ n. two_of (v a) n (v b)) (same_is a c e d) ∙ swap_last (v a) (v c) (v b)
      second true e false d = other_ones (v c) (v b) ∙ ap (λ n. two_of n (v c) (v b)) (sym (other_is a c e d)) ∙ swap_last (v a) (v c) (v b)
      second false e same d = third (is_one_variable b c) refl (have_one_sign b c) refl

      first : (one : Bool) → is_one_variable a b ≡ one → (same : Bool) → have_one_sign a b ≡ same
          → f (cond one (Stands (Of (cond same a c)))
          (cond (is_one_variable a c) (Stands (Of (cond (have_one_sign a c) a b)))
          (cond (is_one_variable b c) (Stands (Of (cond (have_one_sign b c) b a))) (majority_in_order a b c)))) ≡ two_of (v a) (v b) (v c)
      first true e true d = equal_ones (v a) (v c) ∙ ap (λ n. two_of (v a) n (v c)) (same_is a b e d)
      first true e false d = other_ones (v b) (v c) ∙ ap (λ n. two_of n (v b) (v c)) (sym (other_is a b e d))
      first false e same d = second (is_one_variable a c) refl (have_one_sign a c) refl

  either_or_both_is : (b : Bool) (t u : Signal) → f (either_or_both b t u) ≡ two_of b (s t) (s u)
  either_or_both_is true t u = or_is t u
  either_or_both_is false t u = and_is t u

  pub majority_is : (t u w : Signal) → f (fold_majority t u w) ≡ two_of (s t) (s u) (s w)
  majority_is (Known b) u w = either_or_both_is b u w
  majority_is (Of a) (Known b) w = either_or_both_is b (Of a) w ∙ swap_first b (v a) (s w)
  majority_is (Of a) (Of b) (Known c) = either_or_both_is c (Of a) (Of b) ∙ swap_first c (v a) (v b) ∙ swap_last (v a) c (v b)
  majority_is (Of a) (Of b) (Of c) = majority_of_is a b c
