-- What the test of each rule says of the values of terms.
use Rattle.std.proofs.Common.{◌≡◌, Bool, true, false, List, [], ◌∷◌, Some, refl, sym, ap, ◌∙◌, eqb-true}
use Rattle.std.specs.Prelude.{◌==◌}
use Rattle.std.specs.List.{AllByRecursion}
use Rattle.term_core_spec.specs.declared.Sort.TheVariants as sort
use Rattle.term_core_spec.specs.declared.Atom.{Atom}
use Rattle.term_core_spec.specs.Term.{Term, Leaf, equal}
use Rattle.term_core_spec.specs.Value.{Truth, Number, Assignment, IsAssignment, value, binary_value}
use Rattle.term_core_spec.specs.Same.{same_term}
use Rattle.term_core_spec.proofs.Same.{same_is}
use Rattle.term_norm_spec.proofs.Equals.{Alike, truths, words, alike_of, value-equal_words}
use Rattle.term_norm_spec.proofs.Truths.{truth_value_of}
use Rattle.term_norm_spec.proofs.Words.{word_of}
use Rattle.word_steps_spec.specs.Numbers.{are_alike}
use Rattle.word_steps_spec.specs.Bitwise.{same_by_bits, decided_by_bits}
use Rattle.word_steps_spec.specs.Order.{same_by_spelling, decided_by_bounds}
use Rattle.word_steps_spec.specs.Lines.{MergeRule, Same, Ring, Comm, Bits, Quot, Lift, Fit, DecisionRule, RingOf, BitsOf, LowOf, RangeOf, WithinOf, FitOf, is_equality, merges_by, decided_by}
use Rattle.word_steps_spec.proofs.RingSound.{ring_sound, decided_ring_sound}
use Rattle.word_steps_spec.proofs.CommHolds.{either_test, comm_sound}
use Rattle.word_steps_spec.proofs.BitsSound.{bits_sound, decided_bits_sound}
use Rattle.word_steps_spec.proofs.BoundsHold.{else_by_sound, decided_bounds_sound}
use Rattle.word_steps_spec.proofs.SpellingsHold.{spelling_sound}
use Rattle.word_steps_spec.proofs.LowBitsHold.{decided_low_sound}
use Rattle.word_steps_spec.proofs.RangesHold.{decided_range_sound}
use Rattle.word_steps_spec.proofs.ZonesHold.{decided_within_sound}
use Rattle.word_steps_spec.proofs.QuotientsSound.{quotient_sound}
use Rattle.word_steps_spec.proofs.ChoicesHold.{lifting_sound}
use Rattle.word_steps_spec.proofs.SpansHold.{fit_sound, decided_fit_sound}
use Rattle.word_steps_spec.proofs.Sorts.{bool_sort}

module _ (assignment : Assignment) (assigns : IsAssignment assignment) where
  -- ---- `same`

  truths_equal : (x y : Term) (a b : Bool) → value assignment x ≡ Truth a → value assignment y ≡ Truth b → value assignment (equal x y) ≡ Truth true → value assignment x ≡ value assignment y
  unfolding value binary_value
  truths_equal x y true true ea eb e = ea ∙ sym eb
  truths_equal x y false false ea eb e = ea ∙ sym eb
  truths_equal x y true false ea eb e = let d = rw (ea, eb) at e in absurd (cc)
  truths_equal x y false true ea eb e = let d = rw (ea, eb) at e in absurd (cc)

  true_truth : (a : Bool) → Truth a ≡ Truth true → a ≡ true
  true_truth true e = refl
  true_truth false e = absurd (cc)

  -- a true `eq` has sides of one value
  pub sides_equal : (x y : Term) → Alike x y → value assignment (equal x y) ≡ Truth true → value assignment x ≡ value assignment y
  sides_equal x y (truths hx hy) e =
      let vx = truth_value_of assignment assigns x hx in
      let vy = truth_value_of assignment assigns y hy in
      truths_equal x y vx.0 vy.0 vx.1 vy.1 e
  sides_equal x y (words w hx hy) e =
      let vx = word_of assignment assigns w x hx in
      let vy = word_of assignment assigns w y hy in
      let is = true_truth (vx.0 == vy.0) (sym (value-equal_words assignment w x y vx.0 vy.0 vx.1 vy.1) ∙ e) in
      vx.1 ∙ ap (Number w) (eqb-true vx.0 vy.0 is) ∙ sym vy.1

  turned : (x y : Term) → Alike x y → Alike y x
  turned x y (truths hx hy) = truths hy hx
  turned x y (words w hx hy) = words w hy hx

  same_sound : (facts : List Term) (x y : Term) → Alike x y → AllByRecursion (λ t. value assignment t ≡ Truth true) facts → is_equality facts x y ≡ true → value assignment x ≡ value assignment y
  same_sound [] x y alike are e = absurd (cc)
  same_sound (f ∷ []) x y alike are e =
      either_test (same_term f (equal x y)) (same_term f (equal y x)) e
      (λ is. sides_equal x y alike (sym (ap (value assignment) (same_is f (equal x y) is)) ∙ are.0))
      (λ is. sym (sides_equal y x (turned x y alike) (sym (ap (value assignment) (same_is f (equal y x) is)) ∙ are.0)))
  same_sound (f ∷ g ∷ facts) x y alike are e = absurd (cc)

-- the rules

pub merges_sound : (rule : MergeRule) (facts : List Term) (x y : Term) → are_alike x y ≡ true → (assignment : Assignment) → IsAssignment assignment
    → AllByRecursion (λ t. value assignment t ≡ Truth true) facts → merges_by rule facts x y ≡ true → value assignment x ≡ value assignment y
unfolding merges_by
merges_sound Same facts x y alike assignment assigns are e = same_sound assignment assigns facts x y ((alike_of x y sort.Truth (bool_sort (equal x y) alike)).1) are e
merges_sound Ring [] x y alike assignment assigns are e = ring_sound assignment assigns x y e
merges_sound Comm [] x y alike assignment assigns are e = comm_sound assignment assigns x y ((alike_of x y sort.Truth (bool_sort (equal x y) alike)).1) e
merges_sound Bits [] x y alike assignment assigns are e =
    either_test (same_by_bits x y) (same_by_spelling x y) e (bits_sound assignment assigns x y) (spelling_sound assignment assigns x y)
merges_sound Quot facts x y alike assignment assigns are e = quotient_sound assignment assigns facts x y are ((alike_of x y sort.Truth (bool_sort (equal x y) alike)).1) e
merges_sound Lift [] x y alike assignment assigns are e = lifting_sound assignment assigns x y ((alike_of x y sort.Truth (bool_sort (equal x y) alike)).1) e
merges_sound Fit facts x y alike assignment assigns are e = fit_sound assignment assigns facts x y are e
merges_sound Lift (f ∷ facts) x y alike assignment assigns are e = absurd (cc)
merges_sound Ring (f ∷ facts) x y alike assignment assigns are e = absurd (cc)
merges_sound Comm (f ∷ facts) x y alike assignment assigns are e = absurd (cc)
merges_sound Bits (f ∷ facts) x y alike assignment assigns are e = absurd (cc)

pub decided_sound : (rule : DecisionRule) (facts : List Term) (x : Term) (constant : Atom) → are_alike x (Leaf constant) ≡ true → (assignment : Assignment) → IsAssignment assignment
    → AllByRecursion (λ t. value assignment t ≡ Truth true) facts → decided_by rule facts x ≡ Some constant → value assignment x ≡ value assignment (Leaf constant)
unfolding decided_by
decided_sound RingOf [] x constant alike assignment assigns are e = decided_ring_sound assignment assigns x constant e
decided_sound BitsOf [] x constant alike assignment assigns are e =
    else_by_sound assignment assigns x constant (decided_by_bits x) (decided_by_bounds x) (decided_bits_sound assignment assigns x constant) (decided_bounds_sound assignment assigns x constant) e
decided_sound LowOf facts x constant alike assignment assigns are e = decided_low_sound assignment assigns facts x constant are e
decided_sound RangeOf facts x constant alike assignment assigns are e = decided_range_sound assignment assigns facts x constant are e
decided_sound WithinOf facts x constant alike assignment assigns are e = decided_within_sound assignment assigns facts x constant are e
decided_sound FitOf facts x constant alike assignment assigns are e = decided_fit_sound assignment assigns facts x constant are e
decided_sound RingOf (f ∷ facts) x constant alike assignment assigns are e = absurd (cc)
decided_sound BitsOf (f ∷ facts) x constant alike assignment assigns are e = absurd (cc)
