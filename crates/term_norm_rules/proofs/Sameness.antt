-- Two terms of a bank are the same exactly where their indices are.
use Rattle.std.proofs.Common.{◌≡◌, ℕ, ◌<◌, Bool, true, false, List, length, Some, None, refl, sym, ap, ◌∙◌, subst, eqb-true}
use Rattle.std.specs.Prelude.{◌==◌}
use Rattle.std.proofs.lemmas.Bool.{eq-eqb, false_from_ne_true}
use Rattle.std.proofs.lemmas.Option.{same_Some}
use Rattle.term_core_spec.specs.declared.UnaryOperator.TheVariants as unary
use Rattle.term_core_spec.specs.Term.{Term, Unary, not_term, complement, byte}
use Rattle.term_core_spec.specs.Same.{same_term}
use Rattle.term_core_spec.proofs.Same.{same_is, same_itself}
use Rattle.term_bank.specs.Nodes.{tree_at, AreDistinct}
use Rattle.term_bank.proofs.Growth.{held}
use Rattle.term_norm_spec.specs.Patterns.{under_not, under_complement}

pub same_bools : (a b : Bool) → (a ≡ true → b ≡ true) → (b ≡ true → a ≡ true) → a ≡ b
same_bools true true f g = refl
same_bools true false f g = sym (f refl)
same_bools false true f g = g refl
same_bools false false f g = refl

pub same_ids : (trees : List Term) (x y : ℕ) → AreDistinct trees → x < length trees → y < length trees → (x == y) ≡ same_term (tree_at trees x) (tree_at trees y)
same_ids trees x y distinct hx hy =
    same_bools (x == y) (same_term (tree_at trees x) (tree_at trees y))
    (λ e. subst (λ z. same_term (tree_at trees x) (tree_at trees z) ≡ true) (eqb-true x y e) (same_itself (tree_at trees x)))
    (λ e. eq-eqb x y (distinct x y (tree_at trees y) (held trees x hx ∙ ap Some (same_is (tree_at trees x) (tree_at trees y) e)) (held trees y hy)))

-- ---- negations

pub under_not-is : (t a : Term) → under_not t ≡ Some a → t ≡ not_term a
unfolding under_not
under_not-is (Unary unary.Not x) a e = ap not_term (same_Some x a e)
under_not-is t a e = absurd (cc)

pub same_not : (t a b : Term) → Some a ≡ under_not t → same_term a b ≡ same_term t (not_term b)
unfolding same_term
same_not t a b e = rw (under_not-is t a (sym e)) refl

pub not_same_not : (t b : Term) → None ≡ under_not t → false ≡ same_term t (not_term b)
unfolding under_not
not_same_not t b none =
    sym
    (false_from_ne_true (same_term t (not_term b))
    (λ e. let some : under_not t ≡ Some b = ap under_not (same_is t (not_term b) e) in cc))

-- ---- complements

under_complement-is : (t a : Term) → under_complement t ≡ Some a → t ≡ complement a
unfolding under_complement
under_complement-is (Unary unary.Complement x) a e = ap complement (same_Some x a e)
under_complement-is t a e = absurd (cc)

pub same_complement : (t a b : Term) → Some a ≡ under_complement t → same_term a b ≡ same_term t (complement b)
unfolding same_term
same_complement t a b e = rw (under_complement-is t a (sym e)) refl

pub not_same_complement : (t b : Term) → None ≡ under_complement t → false ≡ same_term t (complement b)
unfolding under_complement
not_same_complement t b none =
    sym
    (false_from_ne_true (same_term t (complement b))
    (λ e. let some : under_complement t ≡ Some b = ap under_complement (same_is t (complement b) e) in cc))

-- ---- bytes

pub same_byte : (t a word : Term) (at place : ℕ) → t ≡ byte at a → at ≡ place → same_term a word ≡ same_term t (byte place word)
same_byte t a word at place is equal =
    same_bools (same_term a word) (same_term t (byte place word))
    (λ e.
    let one : a ≡ word = same_is a word e in
    let all : t ≡ byte place word = cc in
    subst (λ u. same_term t u ≡ true) all (same_itself t))
    (λ e.
    let all : t ≡ byte place word = same_is t (byte place word) e in
    let one : a ≡ word = cc in
    subst (λ u. same_term a u ≡ true) one (same_itself a))

pub not_same_byte : (t word : Term) (place : ℕ) → (t ≡ byte place word → ⊥) → false ≡ same_term t (byte place word)
not_same_byte t word place differs = sym (false_from_ne_true (same_term t (byte place word)) (λ e. differs (same_is t (byte place word) e)))
