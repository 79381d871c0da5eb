-- What the tests of the rule `bits` say of the values of terms.
use Rattle.std.proofs.Common.{◌≡◌, ℕ, zero, suc, ◌<◌, ◌≤◌, Bool, true, false, cond, List, [], ◌∷◌, Option, Some, None, ◌⊎◌, inl, inr, refl, sym, ap, ◌∙◌, arith, eq-eqb}
use Rattle.std.specs.Prelude.{◌==◌, ◌&&◌}
use Rattle.std.specs.List.{AllByRecursion}
use Rattle.std.proofs.lemmas.Bool.{and_parts, cases_lt}
use Rattle.std.proofs.lemmas.Option.{same_Some}
use Rattle.term_core_spec.specs.declared.Atom.{Atom}
use Rattle.term_core_spec.specs.declared.Atom.TheVariants as atom
use Rattle.term_core_spec.specs.Term.{Term, Leaf}
use Rattle.term_core_spec.specs.Sort.{bits}
use Rattle.term_core_spec.specs.Value.{Truth, Number, Assignment, IsAssignment, value}
use Rattle.term_norm_spec.specs.Patterns.{width_of}
use Rattle.term_norm_spec.proofs.Equals.{value-equal_words}
use Rattle.term_norm_spec.proofs.Words.{word_of}
use Rattle.word_steps_spec.specs.Polynomial.{number_of_value}
use Rattle.word_steps_spec.specs.Sides.{are_words, Sides, sides_of}
use Rattle.word_steps_spec.specs.Bitwise.{Bit, Bits, BitPair, bit_value, same_bit, is_fixed, all_below, bits_of, have_same_bits, same_pair, is_among, are_among, unequal_pairs, pairs_of, have_same_pairs, same_bits_by, same_by_bits, are_opposite, has_opposite, has_none, decided_by_pairs, decided_by_bits}
use Rattle.word_steps_spec.proofs.CommHolds.{either_test}
use Rattle.word_steps_spec.proofs.BitsHold.{all_below_at, same_bit_equal, fixed_value, bits_equal, equal_bits}
use Rattle.word_steps_spec.proofs.RingSound.{words_are, IsEquality, sides_are, not_equal, same_test}

module _ (assignment : Assignment) (assigns : IsAssignment assignment) where
  abbrev number : Term → ℕ
  number t = number_of_value (value assignment t)

  abbrev v : Bit → ℕ
  v p = bit_value assignment p

  -- ---- words

  pub number_value : (x y : Term) → are_words x y ≡ true → (value assignment x ≡ Number (width_of x) (number x)) × (value assignment y ≡ Number (width_of x) (number y))
  number_value x y h =
      let are = words_are assignment assigns x y h in
      let vx = word_of assignment assigns (width_of x) x are.first in
      let vy = word_of assignment assigns (width_of x) y are.second in
      (vx.1 ∙ ap (Number (width_of x)) (sym (ap number_of_value vx.1)), vy.1 ∙ ap (Number (width_of x)) (sym (ap number_of_value vy.1)))

  pub words_same : (x y : Term) → have_same_bits x y ≡ true → value assignment x ≡ value assignment y
  words_same x y e =
      let both = and_parts (are_words x y) (all_below (bits (width_of x)) (λ i. same_bit (bits_of x i) (bits_of y i))) e in
      let are = words_are assignment assigns x y both.0 in
      let values = number_value x y both.0 in
      values.0
      ∙ ap (Number (width_of x))
      (bits_equal assignment assigns (width_of x) x y are.first are.second
      (λ i l. same_bit_equal assignment assigns (bits_of x i) (bits_of y i) (all_below_at (bits (width_of x)) (λ j. same_bit (bits_of x j) (bits_of y j)) both.1 i l)))
      ∙ sym values.1

  -- ---- pairs of bits

  abbrev IsEqualPair : BitPair → Type 0
  IsEqualPair p = v p.first ≡ v p.second

  abbrev AreEqualPairs : List BitPair → Type 0
  AreEqualPairs ps = AllByRecursion IsEqualPair ps

  same_pair_equal : (p q : BitPair) → same_pair p q ≡ true → IsEqualPair q → IsEqualPair p
  same_pair_equal p q e equal =
      either_test (same_bit p.first q.first && same_bit p.second q.second) (same_bit p.first q.second && same_bit p.second q.first) e
      (λ h.
      let both = and_parts (same_bit p.first q.first) (same_bit p.second q.second) h in
      same_bit_equal assignment assigns p.first q.first both.0 ∙ equal ∙ sym (same_bit_equal assignment assigns p.second q.second both.1))
      (λ h.
      let both = and_parts (same_bit p.first q.second) (same_bit p.second q.first) h in
      same_bit_equal assignment assigns p.first q.second both.0 ∙ sym equal ∙ sym (same_bit_equal assignment assigns p.second q.first both.1))

  among_equal : (p : BitPair) (qs : List BitPair) → is_among p qs ≡ true → AreEqualPairs qs → IsEqualPair p
  unfolding is_among
  among_equal p [] e all = absurd (cc)
  among_equal p (q ∷ qs) e all = either_test (same_pair p q) (is_among p qs) e (λ h. same_pair_equal p q h all.0) (λ h. among_equal p qs h all.1)

  all_among_equal : (ps qs : List BitPair) → are_among ps qs ≡ true → AreEqualPairs qs → AreEqualPairs ps
  unfolding are_among
  all_among_equal [] qs e all = tt
  all_among_equal (p ∷ ps) qs e all =
      let both = and_parts (is_among p qs) (are_among ps qs) e in
      (among_equal p qs both.0 all, all_among_equal ps qs both.1 all)

  pairs_equal : (count : ℕ) (f g : Bits) → ((i : ℕ) → i < count → v (f i) ≡ v (g i)) → AreEqualPairs (unequal_pairs count f g)
  unfolding unequal_pairs
  pairs_equal zero f g same = tt
  pairs_equal (suc k) f g same = by (same_bit (f k) (g k)) (pairs_equal k f g (λ i l. same i (omega arith)))
    where
      by : (test : Bool) → AreEqualPairs (unequal_pairs k f g)
          → AreEqualPairs (cond test (unequal_pairs k f g) (record { first = f k; second = g k } ∷ unequal_pairs k f g))
      by true rest = rest
      by false rest = (same k (omega arith), rest)

  equal_at : (count : ℕ) (f g : Bits) → AreEqualPairs (unequal_pairs count f g) → (i : ℕ) → i < count → v (f i) ≡ v (g i)
  unfolding unequal_pairs
  equal_at zero f g all i below = absurd (omega arith)
  equal_at (suc k) f g all i below = by (same_bit (f k) (g k)) refl all (λ rest l. equal_at k f g rest i l)
    where
      at_last : (v (f k) ≡ v (g k)) → (i < k → v (f i) ≡ v (g i)) → (i < k) ⊎ (k ≤ i) → v (f i) ≡ v (g i)
      at_last here later (inl less) = later less
      at_last here later (inr from) = let last : i ≡ k = omega arith in ap (λ j. v (f j)) last ∙ here ∙ ap (λ j. v (g j)) (sym last)

      by : (test : Bool) → same_bit (f k) (g k) ≡ test → AreEqualPairs (cond test (unequal_pairs k f g) (record { first = f k; second = g k } ∷ unequal_pairs k f g))
          → (AreEqualPairs (unequal_pairs k f g) → i < k → v (f i) ≡ v (g i)) → v (f i) ≡ v (g i)
      by true e rest again = at_last (same_bit_equal assignment assigns (f k) (g k) e) (again rest) (cases_lt i k)
      by false e rest again = at_last rest.0 (again rest.1) (cases_lt i k)

  -- ---- an `eq` and its pairs

  pub equality_value : (t : Term) (s : Sides) → IsEquality assignment assigns t s → value assignment t ≡ Truth (number s.left == number s.right)
  equality_value t s of_t =
      let values = number_value s.left s.right of_t.are in
      ap (value assignment) of_t.is ∙ value-equal_words assignment (width_of s.left) s.left s.right (number s.left) (number s.right) values.0 values.1

  equal_pairs : (t : Term) (s : Sides) → IsEquality assignment assigns t s → number s.left ≡ number s.right → AreEqualPairs (pairs_of s)
  equal_pairs t s of_t e =
      let are = words_are assignment assigns s.left s.right of_t.are in
      pairs_equal (bits (width_of s.left)) (bits_of s.left) (bits_of s.right) (equal_bits assignment assigns (width_of s.left) s.left s.right are.first are.second e)

  pairs_make_equal : (t : Term) (s : Sides) → IsEquality assignment assigns t s → AreEqualPairs (pairs_of s) → number s.left ≡ number s.right
  pairs_make_equal t s of_t all =
      let are = words_are assignment assigns s.left s.right of_t.are in
      bits_equal assignment assigns (width_of s.left) s.left s.right are.first are.second (equal_at (bits (width_of s.left)) (bits_of s.left) (bits_of s.right) all)

  equalities_same : (x y : Term) (s t : Sides) → IsEquality assignment assigns x s → IsEquality assignment assigns y t → have_same_pairs s t ≡ true → value assignment x ≡ value assignment y
  equalities_same x y s t of_x of_y e =
      let both = and_parts (are_among (pairs_of s) (pairs_of t)) (are_among (pairs_of t) (pairs_of s)) e in
      equality_value x s of_x
      ∙ ap Truth
      (same_test (number s.left) (number s.right) (number t.left) (number t.right)
      (λ d. pairs_make_equal y t of_y (all_among_equal (pairs_of t) (pairs_of s) both.1 (equal_pairs x s of_x d)))
      (λ d. pairs_make_equal x s of_x (all_among_equal (pairs_of s) (pairs_of t) both.0 (equal_pairs y t of_y d))))
      ∙ sym (equality_value y t of_y)

  pub bits_sound : (x y : Term) → same_by_bits x y ≡ true → value assignment x ≡ value assignment y
  unfolding same_by_bits
  bits_sound x y e = by (sides_of x) refl (sides_of y) refl e
    where
      by : (o : Option Sides) → sides_of x ≡ o → (p : Option Sides) → sides_of y ≡ p → same_bits_by o p x y ≡ true → value assignment x ≡ value assignment y
      by (Some s) d (Some t) f e = equalities_same x y s t (sides_are assignment assigns x s d) (sides_are assignment assigns y t f) e
      by (Some s) d None f e = absurd (cc)
      by None d p f e = words_same x y e

  -- ---- `bits X`

  no_pairs : (ps : List BitPair) → has_none ps ≡ true → AreEqualPairs ps
  no_pairs [] e = tt
  no_pairs (p ∷ ps) e = absurd (cc)

  opposite_unequal : (p : BitPair) → are_opposite p ≡ true → IsEqualPair p → ⊥
  opposite_unequal p e equal =
      either_test (is_fixed false p.first && is_fixed true p.second) (is_fixed true p.first && is_fixed false p.second) e
      (λ h.
      let both = and_parts (is_fixed false p.first) (is_fixed true p.second) h in
      apart (v p.first) (v p.second) (fixed_value assignment assigns false p.first both.0) (fixed_value assignment assigns true p.second both.1) equal)
      (λ h.
      let both = and_parts (is_fixed true p.first) (is_fixed false p.second) h in
      apart (v p.second) (v p.first) (fixed_value assignment assigns false p.second both.1) (fixed_value assignment assigns true p.first both.0) (sym equal))
    where
      apart : (a b : ℕ) → a ≡ 0 → b ≡ 1 → a ≡ b → ⊥
      apart a b e f g = omega arith

  some_opposite : (ps : List BitPair) → has_opposite ps ≡ true → AreEqualPairs ps → ⊥
  unfolding has_opposite
  some_opposite [] e all = cc
  some_opposite (p ∷ ps) e all = either_test (are_opposite p) (has_opposite ps) e (λ h. opposite_unequal p h all.0) (λ h. some_opposite ps h all.1)

  pub decided_bits_sound : (x : Term) (constant : Atom) → decided_by_bits x ≡ Some constant → value assignment x ≡ value assignment (Leaf constant)
  unfolding decided_by_bits value
  decided_bits_sound x constant e = by (sides_of x) refl e
    where
      on_opposite : (s : Sides) → IsEquality assignment assigns x s → (test : Bool) → has_opposite (pairs_of s) ≡ test
          → cond test (Some (atom.Truth false)) None ≡ Some constant → value assignment x ≡ value assignment (Leaf constant)
      on_opposite s of_x true h d =
          equality_value x s of_x
          ∙ ap Truth (not_equal (number s.left) (number s.right) (λ same. some_opposite (pairs_of s) h (equal_pairs x s of_x same)))
          ∙ ap (λ a. value assignment (Leaf a)) (same_Some (atom.Truth false) constant d)
      on_opposite s of_x false h d = absurd (cc)

      on_none : (s : Sides) → IsEquality assignment assigns x s → (test : Bool) → has_none (pairs_of s) ≡ test
          → cond test (Some (atom.Truth true)) (cond (has_opposite (pairs_of s)) (Some (atom.Truth false)) None) ≡ Some constant → value assignment x ≡ value assignment (Leaf constant)
      on_none s of_x true h d =
          equality_value x s of_x
          ∙ ap Truth (eq-eqb (number s.left) (number s.right) (pairs_make_equal x s of_x (no_pairs (pairs_of s) h)))
          ∙ ap (λ a. value assignment (Leaf a)) (same_Some (atom.Truth true) constant d)
      on_none s of_x false h d = on_opposite s of_x (has_opposite (pairs_of s)) refl d

      by : (o : Option Sides) → sides_of x ≡ o → decided_by_pairs o ≡ Some constant → value assignment x ≡ value assignment (Leaf constant)
      by (Some s) d f = on_none s (sides_are assignment assigns x s d) (has_none (pairs_of s)) refl f
      by None d f = absurd (cc)
