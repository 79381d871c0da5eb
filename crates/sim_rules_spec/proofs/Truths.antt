-- Which terms are true where others are.
use Rattle.std.proofs.Common.{◌≡◌, ◌∙◌, Bool, true, false, ◌&&◌, ◌||◌, List, [], ◌∷◌, ◌++◌, map, refl, sym, ap, subst}
use Rattle.std.specs.Prelude.{not}
use Rattle.std.specs.List.{All, fold, list_all}
use Rattle.std.proofs.lemmas.Bool.{false≢true, and_parts}
use Rattle.std.proofs.lemmas.List.Elements.{All-nil, All-cons, All-head, All-tail}
use Rattle.term_core_spec.specs.Term.{Term, truth, and_term, or_term, not_term}
use Rattle.term_core_spec.specs.Value.{Assignment, Value, Truth, Number, Bytes, value, unary_value, binary_value, on_truth, on_truths}
use Rattle.graph_core_spec.specs.Run.{is_truth}
use Rattle.path_cond_spec.specs.Passages.{holds}
use Rattle.path_cond_spec.proofs.Truths.{value-and, value-not, value-truth}
use Rattle.sim_rules_spec.specs.Rules.{all_of, under}

-- ---- lists

module _ {X : Type 0} (P : X → Type 0) where
  pub all_left : (xs ys : List X) → All P (xs ++ ys) → All P xs
  all_left [] ys all = All-nil P
  all_left (x ∷ xs) ys all = All-cons P x xs (All-head P x (xs ++ ys) all) (all_left xs ys (All-tail P x (xs ++ ys) all))

  pub all_right : (xs ys : List X) → All P (xs ++ ys) → All P ys
  all_right [] ys all = all
  all_right (x ∷ xs) ys all = all_right xs ys (All-tail P x (xs ++ ys) all)

  pub all_mapped : {Y : Type 0} (f : Y → X) (ys : List Y) → All P (map f ys) → All (λ (y : Y). P (f y)) ys
  all_mapped f [] all = All-nil (λ y. P (f y))
  all_mapped f (y ∷ ys) all = All-cons (λ z. P (f z)) y ys (All-head P (f y) (map f ys) all) (all_mapped f ys (All-tail P (f y) (map f ys) all))

pub all_pass : {X : Type 0} (test : X → Bool) (xs : List X) → list_all test xs ≡ true → All (λ (x : X). test x ≡ true) xs
all_pass test [] h = All-nil (λ x. test x ≡ true)
all_pass test (x ∷ xs) h = let parts = and_parts (test x) (list_all test xs) h in All-cons (λ y. test y ≡ true) x xs parts.0 (all_pass test xs parts.1)

pub pass_all : {X : Type 0} (test : X → Bool) (xs : List X) → All (λ (x : X). test x ≡ true) xs → list_all test xs ≡ true
pass_all test [] all = refl
pass_all test (x ∷ xs) all =
    ap (λ (b : Bool). b && list_all test xs) (All-head (λ y. test y ≡ true) x xs all) ∙ pass_all test xs (All-tail (λ y. test y ≡ true) x xs all)

-- ---- terms

module _ (a : Assignment) where
  abbrev pub IsTrue : Term → Type 0
  IsTrue t = holds a t ≡ true

  pub value_true : (t : Term) → IsTrue t → value a t ≡ Truth true
  value_true t h = by (value a t) h
    where
      by : (u : Value) → is_truth u ≡ true → u ≡ Truth true
      by (Truth b) e = ap Truth e
      by (Number w n) e = absurd (false≢true e)
      by (Bytes m) e = absurd (false≢true e)

  pub true-and : (x y : Term) → IsTrue x → IsTrue y → IsTrue (and_term x y)
  true-and x y h k = ap is_truth (value-and a x y true true (value_true x h) (value_true y k))

  both_true : (u v : Value) → is_truth (on_truths (λ s t. Truth (s && t)) u v) ≡ true → (is_truth u ≡ true) × (is_truth v ≡ true)
  both_true (Truth true) (Truth b) e = (refl, e)
  both_true (Truth true) (Number w n) e = absurd (false≢true e)
  both_true (Truth true) (Bytes m) e = absurd (false≢true e)
  both_true (Truth false) (Truth b) e = absurd (false≢true e)
  both_true (Truth false) (Number w n) e = absurd (false≢true e)
  both_true (Truth false) (Bytes m) e = absurd (false≢true e)
  both_true (Number w n) v e = absurd (false≢true e)
  both_true (Bytes m) v e = absurd (false≢true e)

  pub and_true : (x y : Term) → IsTrue (and_term x y) → IsTrue x × IsTrue y
  unfolding value binary_value
  and_true x y h = both_true (value a x) (value a y) h

  pub not_false : (x : Term) → value a x ≡ Truth false → IsTrue (not_term x)
  not_false x e = ap is_truth (value-not a x false e)

  then_true : (u v : Value) → u ≡ Truth true → is_truth (on_truths (λ s t. Truth (s || t)) (on_truth (λ s. Truth (not s)) u) v) ≡ true → is_truth v ≡ true
  then_true u v e h = by v (subst (λ (x : Value). is_truth (on_truths (λ s t. Truth (s || t)) (on_truth (λ s. Truth (not s)) x) v) ≡ true) e h)
    where
      by : (w : Value) → is_truth (on_truths (λ s t. Truth (s || t)) (Truth false) w) ≡ true → is_truth w ≡ true
      by (Truth b) k = k
      by (Number w n) k = absurd (false≢true k)
      by (Bytes m) k = absurd (false≢true k)

  -- one side of an implication that is true, and the other
  pub implied : (x y : Term) → IsTrue (or_term (not_term x) y) → IsTrue x → IsTrue y
  unfolding value binary_value unary_value
  implied x y h k = then_true (value a x) (value a y) (value_true x k) h

  pub denied : (x : Term) → IsTrue (not_term x) → value a x ≡ Truth true → ⊥
  denied x h e = false≢true (sym (ap is_truth (value-not a x true e)) ∙ h)

  -- ---- many terms

  pub fold_true : (ts : List Term) (t : Term) → IsTrue t → All IsTrue ts → IsTrue (fold and_term t ts)
  fold_true [] t h all = h
  fold_true (s ∷ ts) t h all = fold_true ts (and_term t s) (true-and t s h (All-head IsTrue s ts all)) (All-tail IsTrue s ts all)

  true_fold : (ts : List Term) (t : Term) → IsTrue (fold and_term t ts) → IsTrue t × All IsTrue ts
  true_fold [] t h = (h, All-nil IsTrue)
  true_fold (s ∷ ts) t h =
      let rest = true_fold ts (and_term t s) h in
      let parts = and_true t s rest.0 in
      (parts.0, All-cons IsTrue s ts parts.1 rest.1)

  pub all_true : (ts : List Term) → IsTrue (all_of ts) → All IsTrue ts
  all_true [] h = All-nil IsTrue
  all_true (t ∷ ts) h = let parts = true_fold ts t h in All-cons IsTrue t ts parts.0 parts.1

  pub from_under : (premises : List Term) (goal : Term) → IsTrue (under premises goal) → All IsTrue premises → IsTrue goal
  from_under premises goal h all =
      implied (fold and_term (truth true) premises) goal h (fold_true premises (truth true) (ap is_truth (value-truth a true)) all)
