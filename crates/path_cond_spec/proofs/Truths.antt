-- The values of conditions and of choices.
use Rattle.std.proofs.Common.{◌≡◌, ◌∙◌, Bool, true, false, ◌&&◌, ◌||◌, cond, refl, sym, ap, ap₂}
use Rattle.std.specs.Prelude.{not}
use Rattle.term_core_spec.specs.Term.{Term, truth, and_term, or_term, not_term, choose}
use Rattle.term_core_spec.specs.Value.{Assignment, Value, Truth, value, unary_value, binary_value, ternary_value, on_truth, on_truths}
use Rattle.term_core_spec.specs.Value as spec
use Rattle.graph_core_spec.specs.Run.{is_truth}
use Rattle.path_cond_spec.specs.Passages.{holds}

-- ---- tests

pub or-false : (p : Bool) → (p || false) ≡ p
or-false true = refl
or-false false = refl

pub or_assoc : (p q r : Bool) → ((p || q) || r) ≡ (p || (q || r))
or_assoc true q r = refl
or_assoc false q r = refl

pub and-true : (p : Bool) → (p && true) ≡ p
and-true true = refl
and-true false = refl

module _ (a : Assignment) where
  -- the value is a truth value
  abbrev pub IsTruth : Term → Type 0
  IsTruth t = value a t ≡ Truth (holds a t)

  pub truth_is : (t : Term) (p : Bool) → value a t ≡ Truth p → IsTruth t
  truth_is t p e = e ∙ ap Truth (sym (ap is_truth e))

  pub value-truth : (p : Bool) → value a (truth p) ≡ Truth p
  unfolding value
  value-truth p = refl

  pub value-and : (x y : Term) (p q : Bool) → value a x ≡ Truth p → value a y ≡ Truth q → value a (and_term x y) ≡ Truth (p && q)
  unfolding value binary_value
  value-and x y p q ex ey = ap₂ (λ (u w : Value). on_truths (λ s t. Truth (s && t)) u w) ex ey

  pub value-or : (x y : Term) (p q : Bool) → value a x ≡ Truth p → value a y ≡ Truth q → value a (or_term x y) ≡ Truth (p || q)
  unfolding value binary_value
  value-or x y p q ex ey = ap₂ (λ (u w : Value). on_truths (λ s t. Truth (s || t)) u w) ex ey

  pub value-not : (x : Term) (p : Bool) → value a x ≡ Truth p → value a (not_term x) ≡ Truth (not p)
  unfolding value unary_value
  value-not x p e = ap (λ (u : Value). on_truth (λ s. Truth (not s)) u) e

  pub value-choose : (c x y : Term) (p : Bool) → value a c ≡ Truth p → value a (choose c x y) ≡ cond p (value a x) (value a y)
  unfolding value ternary_value
  value-choose c x y p e = ap (λ (u : Value). spec.chosen u (value a x) (value a y)) e
