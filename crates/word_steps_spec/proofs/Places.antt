-- Operators with arguments put in: what depends on the arguments alone.
use Rattle.std.proofs.Common.{◌≡◌, ℕ, zero, suc, List, [], ◌∷◌, map, slice_get, Some, Bool, true, false, refl, sym, ap, ◌∙◌}
use Rattle.std.specs.Prelude.{◌||◌}
use Rattle.std.specs.List.{list_any}
use Rattle.std.proofs.lemmas.Option.{same_Some}
use Rattle.term_core_spec.specs.Term.{Term, Leaf, Unary, Binary, Ternary, Quaternary, Octonary}
use Rattle.term_core_spec.specs.Sort.{sort_of}
use Rattle.term_core_spec.specs.Value.{Assignment, value}
use Rattle.term_core_spec.specs.Same.{same_term}
use Rattle.term_core_spec.specs.Subterms.{arguments, IsIn}
use Rattle.term_core_spec.proofs.Same.{same_itself}
use Rattle.word_steps_spec.specs.Numbers.{Operation, Alone, One, Two, Three, Four, Eight, operands, at_places, operand_at, made, operation_of}

module _ {A : Type 0} (f g : ℕ → A → Term) where
  -- equal arguments make equal terms
  pub made-same : (o : Operation A) → ((i : ℕ) (x : A) → operand_at i o ≡ Some x → f i x ≡ g i x) → made (at_places f o) ≡ made (at_places g o)
  unfolding made at_places operands
  made-same (Alone atom) h = refl
  made-same (One p a) h = rw (h 1 a refl) refl
  made-same (Two p a b) h = rw (h 1 a refl, h 2 b refl) refl
  made-same (Three p a b c) h = rw (h 1 a refl, h 2 b refl, h 3 c refl) refl
  made-same (Four p a b c d) h = rw (h 1 a refl, h 2 b refl, h 3 c refl, h 4 d refl) refl
  made-same (Eight a b c d e i j k) h =
      rw (h 1 a refl, h 2 b refl, h 3 c refl, h 4 d refl, h 5 e refl, h 6 i refl, h 7 j refl, h 8 k refl) refl

  -- arguments of equal values make terms of one value
  pub made-value : (assignment : Assignment) (o : Operation A)
      → ((i : ℕ) (x : A) → operand_at i o ≡ Some x → value assignment (f i x) ≡ value assignment (g i x))
      → value assignment (made (at_places f o)) ≡ value assignment (made (at_places g o))
  unfolding made at_places operands value
  made-value assignment (Alone atom) h = refl
  made-value assignment (One p a) h = rw (h 1 a refl) refl
  made-value assignment (Two p a b) h = rw (h 1 a refl, h 2 b refl) refl
  made-value assignment (Three p a b c) h = rw (h 1 a refl, h 2 b refl, h 3 c refl) refl
  made-value assignment (Four p a b c d) h = rw (h 1 a refl, h 2 b refl, h 3 c refl, h 4 d refl) refl
  made-value assignment (Eight a b c d e i j k) h =
      rw (h 1 a refl, h 2 b refl, h 3 c refl, h 4 d refl, h 5 e refl, h 6 i refl, h 7 j refl, h 8 k refl) refl

  -- arguments of equal sorts make terms of one sort
  pub made-sort : (o : Operation A) → ((i : ℕ) (x : A) → operand_at i o ≡ Some x → sort_of (f i x) ≡ sort_of (g i x))
      → sort_of (made (at_places f o)) ≡ sort_of (made (at_places g o))
  unfolding made at_places operands sort_of
  made-sort (Alone atom) h = refl
  made-sort (One p a) h = rw (h 1 a refl) refl
  made-sort (Two p a b) h = rw (h 1 a refl, h 2 b refl) refl
  made-sort (Three p a b c) h = rw (h 1 a refl, h 2 b refl, h 3 c refl) refl
  made-sort (Four p a b c d) h = rw (h 1 a refl, h 2 b refl, h 3 c refl, h 4 d refl) refl
  made-sort (Eight a b c d e i j k) h =
      rw (h 1 a refl, h 2 b refl, h 3 c refl, h 4 d refl, h 5 e refl, h 6 i refl, h 7 j refl, h 8 k refl) refl

-- the arguments of a term, numbered and found again by their numbers
pub made-back : (f : ℕ → Term) (g : Term → ℕ) (t : Term) → ((i : ℕ) (u : Term) → operand_at i (operation_of t) ≡ Some u → f (g u) ≡ u)
    → made (at_places (λ i x. f x) (at_places (λ i u. g u) (operation_of t))) ≡ t
unfolding made at_places operation_of operands
made-back f g (Leaf atom) h = refl
made-back f g (Unary p a) h = rw (h 1 a refl) refl
made-back f g (Binary p a b) h = rw (h 1 a refl, h 2 b refl) refl
made-back f g (Ternary p a b c) h = rw (h 1 a refl, h 2 b refl, h 3 c refl) refl
made-back f g (Quaternary p a b c d) h = rw (h 1 a refl, h 2 b refl, h 3 c refl, h 4 d refl) refl
made-back f g (Octonary a b c d e i j k) h =
    rw (h 1 a refl, h 2 b refl, h 3 c refl, h 4 d refl, h 5 e refl, h 6 i refl, h 7 j refl, h 8 k refl) refl

operands_are : (t : Term) → operands (operation_of t) ≡ arguments t
unfolding operation_of operands arguments
operands_are (Leaf atom) = refl
operands_are (Unary p a) = refl
operands_are (Binary p a b) = refl
operands_are (Ternary p a b c) = refl
operands_are (Quaternary p a b c d) = refl
operands_are (Octonary a b c d e i j k) = refl

operands_map : (g : Term → ℕ) (o : Operation Term) → operands (at_places (λ i u. g u) o) ≡ map g (operands o)
unfolding at_places operands
operands_map g (Alone atom) = refl
operands_map g (One p a) = refl
operands_map g (Two p a b) = refl
operands_map g (Three p a b c) = refl
operands_map g (Four p a b c d) = refl
operands_map g (Eight a b c d e i j k) = refl

in_slice : (ts : List Term) (i : ℕ) (u : Term) → slice_get ts i ≡ Some u → IsIn u ts
in_slice [] i u e = absurd (cc)
in_slice (t ∷ ts) zero u e = rw (same_Some t u e) (rw (same_itself u) refl)
in_slice (t ∷ ts) (suc i) u e = or_right (same_term u t) (list_any (same_term u) ts) (in_slice ts i u e)
  where
    or_right : (p q : Bool) → q ≡ true → (p || q) ≡ true
    or_right true q h = refl
    or_right false q h = h

in_map : (g : Term → ℕ) (ts : List Term) (i x : ℕ) → slice_get (map g ts) i ≡ Some x → (u : Term) × (slice_get ts i ≡ Some u) × (x ≡ g u)
in_map g [] i x e = absurd (cc)
in_map g (t ∷ ts) zero x e = (t, refl, sym (same_Some (g t) x e))
in_map g (t ∷ ts) (suc i) x e = in_map g ts i x e

pub operand_in : (t : Term) (i : ℕ) (u : Term) → operand_at i (operation_of t) ≡ Some u → IsIn u (arguments t)
operand_in t zero u e = absurd (cc)
operand_in t (suc i) u e = in_slice (arguments t) i u (sym (ap (λ us. slice_get us i) (operands_are t)) ∙ e)

-- each number of an argument is that of an argument
pub operand_of : (g : Term → ℕ) (t : Term) (i x : ℕ) → operand_at i (at_places (λ j u. g u) (operation_of t)) ≡ Some x
    → (u : Term) × IsIn u (arguments t) × (x ≡ g u)
operand_of g t zero x e = absurd (cc)
operand_of g t (suc i) x e =
    let found = in_map g (operands (operation_of t)) i x (sym (ap (λ xs. slice_get xs i) (operands_map g (operation_of t))) ∙ e) in
    (found.0, operand_in t (suc i) found.0 found.1, found.2)
