-- What the tests of the rule `ring` say of the values of terms.
use Rattle.std.proofs.Common.{◌≡◌, ℕ, ◌+◌, ◌*◌, ◌%◌, ◌^◌, ◌<◌, Bool, true, false, cond, List, [], ◌∷◌, Option, Some, None, refl, sym, ap, ◌∙◌, subst, arith, eqb-true, eq-eqb}
use Rattle.std.specs.Prelude.{◌==◌, ◌||◌, not}
use Rattle.std.proofs.lemmas.Bool.{and_parts}
use Rattle.std.proofs.lemmas.Option.{same_Some}
use Rattle.std.proofs.lemmas.Nat.{pow_pos, mod_below}
use Rattle.term_core_spec.specs.declared.Width.{Width}
use Rattle.term_core_spec.specs.declared.Sort.{Sort}
use Rattle.term_core_spec.specs.declared.Sort.TheVariants as sort
use Rattle.term_core_spec.specs.declared.Atom.{Atom}
use Rattle.term_core_spec.specs.declared.Atom.TheVariants as atom
use Rattle.term_core_spec.specs.declared.BinaryOperator.TheVariants as binary
use Rattle.term_core_spec.specs.Term.{Term, Leaf, Binary, equal}
use Rattle.term_core_spec.specs.Sort.{bits, sort_of}
use Rattle.term_core_spec.specs.Value.{Truth, Number, Assignment, IsAssignment, value, low_bits}
use Rattle.term_core_spec.proofs.Sorts.{same_sort-true}
use Rattle.term_norm_spec.specs.Patterns.{width_of, width_of_sort}
use Rattle.term_norm_spec.proofs.Equals.{Alike, truths, words, alike_of, value-equal_words}
use Rattle.term_norm_spec.proofs.Keeps.{width_is}
use Rattle.term_norm_spec.proofs.Words.{word_of}
use Rattle.word_steps_spec.specs.Numbers.{has_sort, are_alike}
use Rattle.word_steps_spec.specs.Polynomial.{Polynomial, plus, minus, is_empty, has_no_atom, is_only_constant, product, polynomial_value}
use Rattle.word_steps_spec.specs.Ring.{polynomial, difference, have_one_difference, one_polynomial_by, one_polynomial, decided_by_sides, decided_by_polynomials}
use Rattle.word_steps_spec.specs.Sides.{are_words, Sides, sides_of}
use Rattle.word_steps_spec.proofs.Congruence.{IsCongruent, congruent_same, congruent_sym, congruent_then, congruent_plus, congruent_mod, congruent_minus, congruent_equal}
use Rattle.word_steps_spec.proofs.Polynomials.{plus_value, minus_value}
use Rattle.word_steps_spec.proofs.RingHolds.{polynomial_is}
use Rattle.word_steps_spec.proofs.CommHolds.{either_test}
use Rattle.word_steps_spec.proofs.Sorts.{bool_sort}

pub not_equal : (a b : ℕ) → (a ≡ b → ⊥) → (a == b) ≡ false
not_equal a b f = by (a == b) refl
  where
    by : (test : Bool) → (a == b) ≡ test → test ≡ false
    by true h = absurd (f (eqb-true a b h))
    by false h = refl

pub same_test : (a b c d : ℕ) → (a ≡ b → c ≡ d) → (c ≡ d → a ≡ b) → (a == b) ≡ (c == d)
same_test a b c d f g = by (a == b) (c == d) refl refl
  where
    by : (p q : Bool) → (a == b) ≡ p → (c == d) ≡ q → p ≡ q
    by true true h k = refl
    by false false h k = refl
    by true false h k = sym (sym k ∙ eq-eqb c d (f (eqb-true a b h)))
    by false true h k = sym h ∙ eq-eqb a b (g (eqb-true c d k))

module _ (assignment : Assignment) (assigns : IsAssignment assignment) where
  -- ---- `ring`

  -- two words of one width
  pub record AreOf (w : Width) (x y : Term) : Type 0 where
    pub first : sort_of x ≡ Some (sort.Word w)
    pub second : sort_of y ≡ Some (sort.Word w)

  pub words_are : (x y : Term) → are_words x y ≡ true → AreOf (width_of x) x y
  words_are x y h =
      let both = and_parts (has_sort (sort_of x) (sort.Word (width_of x))) (are_alike x y) h in
      let hx = sorted (sort_of x) both.0 in
      by hx ((alike_of x y sort.Truth (bool_sort (equal x y) both.1)).1)
    where
      sorted : (o : Option Sort) → has_sort o (sort.Word (width_of x)) ≡ true → o ≡ Some (sort.Word (width_of x))
      sorted (Some s) e = ap Some (same_sort-true s (sort.Word (width_of x)) e)
      sorted None e = absurd (cc)

      by : sort_of x ≡ Some (sort.Word (width_of x)) → Alike x y → AreOf (width_of x) x y
      by e (truths hx hy) = let d : Some sort.Truth ≡ Some (sort.Word (width_of x)) = sym hx ∙ e in absurd (cc)
      by e (words w hx hy) =
          let one : w ≡ width_of x = ap width_of_sort (same_Some (sort.Word w) (sort.Word (width_of x)) (sym hx ∙ e)) in
          record { first = e; second = hy ∙ ap (λ v. Some (sort.Word v)) one }

  -- what is known of the difference of two words: with the second added it is the first
  pub record Differ (x y : Term) : Type 0 where
    pub first : ℕ
    pub second : ℕ
    pub first_is : value assignment x ≡ Number (width_of x) first
    pub second_is : value assignment y ≡ Number (width_of x) second
    pub first_below : first < 2 ^ bits (width_of x)
    pub second_below : second < 2 ^ bits (width_of x)
    pub sum : IsCongruent (2 ^ bits (width_of x)) (polynomial_value assignment (difference x y) + second) first

  pub differ : (x y : Term) → are_words x y ≡ true → Differ x y
  differ x y h =
      let are = words_are x y h in
      let vx = word_of assignment assigns (width_of x) x are.first in
      let vy = word_of assignment assigns (width_of x) y are.second in
      let px = (polynomial_is assignment assigns x (width_of x) are.first).value_is vx.0 vx.1 in
      let py = (polynomial_is assignment assigns y (width_of x) are.second).value_is vy.0 vy.1 in
      record {
        first = vx.0;
        second = vy.0;
        first_is = vx.1;
        second_is = vy.1;
        first_below = vx.2;
        second_below = vy.2;
        sum =
            congruent_then (2 ^ bits (width_of x)) (polynomial_value assignment (difference x y) + vy.0) (polynomial_value assignment (difference x y) + polynomial_value assignment (polynomial y)) vx.0
            (congruent_plus (2 ^ bits (width_of x)) (polynomial_value assignment (difference x y)) (polynomial_value assignment (difference x y)) vy.0 (polynomial_value assignment (polynomial y))
            (congruent_same (2 ^ bits (width_of x)) (polynomial_value assignment (difference x y)) (polynomial_value assignment (difference x y)) refl) (congruent_sym (2 ^ bits (width_of x)) (polynomial_value assignment (polynomial y)) vy.0 py))
            (congruent_then (2 ^ bits (width_of x)) (polynomial_value assignment (difference x y) + polynomial_value assignment (polynomial y)) (polynomial_value assignment (polynomial x)) vx.0
            (minus_value assignment (bits (width_of x)) (polynomial x) (polynomial y)) px);
      }

  pub empty_value : (p : Polynomial) → is_empty p ≡ true → polynomial_value assignment p ≡ 0
  unfolding polynomial_value
  empty_value [] e = refl
  empty_value (s ∷ p) e = absurd (cc)

  -- where the difference is 0 the words are equal, and the other way round
  pub difference_none : (x y : Term) (d : Differ x y) → IsCongruent (2 ^ bits (width_of x)) (polynomial_value assignment (difference x y)) 0 → d.first ≡ d.second
  difference_none x y d none =
      sym (congruent_equal (2 ^ bits (width_of x)) d.second d.first
      (congruent_then (2 ^ bits (width_of x)) d.second (polynomial_value assignment (difference x y) + d.second) d.first
      (congruent_then (2 ^ bits (width_of x)) d.second (0 + d.second) (polynomial_value assignment (difference x y) + d.second)
      (congruent_same (2 ^ bits (width_of x)) d.second (0 + d.second) (zero_add d.second))
      (congruent_plus (2 ^ bits (width_of x)) 0 (polynomial_value assignment (difference x y)) d.second d.second (congruent_sym (2 ^ bits (width_of x)) (polynomial_value assignment (difference x y)) 0 none) (congruent_same (2 ^ bits (width_of x)) d.second d.second refl)))
      d.sum) d.second_below d.first_below)
    where
      zero_add : (n : ℕ) → n ≡ 0 + n
      zero_add n = omega arith

  pub equal_none : (x y : Term) (d : Differ x y) → d.first ≡ d.second → IsCongruent (2 ^ bits (width_of x)) (polynomial_value assignment (difference x y)) 0
  equal_none x y d e =
      congruent_minus (2 ^ bits (width_of x)) (polynomial_value assignment (difference x y)) 0 d.second
      (congruent_then (2 ^ bits (width_of x)) (polynomial_value assignment (difference x y) + d.second) d.first (0 + d.second) d.sum
      (congruent_same (2 ^ bits (width_of x)) d.first (0 + d.second) (e ∙ zero_add d.second)))
    where
      zero_add : (n : ℕ) → n ≡ 0 + n
      zero_add n = omega arith

  -- the `eq` of two words
  pub equal_value : (x y : Term) (d : Differ x y) → value assignment (equal x y) ≡ Truth (d.first == d.second)
  equal_value x y d = value-equal_words assignment (width_of x) x y d.first d.second d.first_is d.second_is

  -- ---- `ring X Y` of words

  pub words_sound : (x y : Term) → are_words x y ≡ true → is_empty (difference x y) ≡ true → value assignment x ≡ value assignment y
  words_sound x y h e =
      let d = differ x y h in
      d.first_is
      ∙ ap (Number (width_of x)) (difference_none x y d (congruent_same (2 ^ bits (width_of x)) (polynomial_value assignment (difference x y)) 0 (empty_value (difference x y) e)))
      ∙ sym d.second_is

  -- ---- of two `eq`

  -- a term that is the `eq` of two words
  pub record IsEquality (t : Term) (s : Sides) : Type 0 where
    pub is : t ≡ equal s.left s.right
    pub are : are_words s.left s.right ≡ true

  pub sides_are : (t : Term) (s : Sides) → sides_of t ≡ Some s → IsEquality t s
  unfolding sides_of
  sides_are (Binary binary.Equal x y) s e = by (are_words x y) refl e
    where
      by : (test : Bool) → are_words x y ≡ test → cond test (Some (record { left = x; right = y })) None ≡ Some s → IsEquality (Binary binary.Equal x y) s
      by true h d =
          let one = same_Some (record { left = x; right = y }) s d in
          subst (IsEquality (Binary binary.Equal x y)) one (record { is = refl; are = h })
      by false h d = absurd (cc)
  sides_are t s e = absurd (cc)

  -- of two numbers one is 0 modulo m exactly where the other is
  abbrev Together : ℕ → ℕ → ℕ → Type 0
  Together m a b = (IsCongruent m a 0 → IsCongruent m b 0) × (IsCongruent m b 0 → IsCongruent m a 0)

  equal_together : (m a b : ℕ) → IsCongruent m a b → Together m a b
  equal_together m a b h = (λ g. congruent_then m b a 0 (congruent_sym m a b h) g, λ g. congruent_then m a b 0 h g)

  opposite_together : (m a b : ℕ) → IsCongruent m (a + b) 0 → Together m a b
  opposite_together m a b h = (
    λ g. congruent_then m b (a + b) 0 (congruent_then m b (0 + b) (a + b) (congruent_same m b (0 + b) (omega arith)) (congruent_plus m 0 a b b (congruent_sym m a 0 g) (congruent_same m b b refl))) h,
    λ g. congruent_then m a (a + b) 0 (congruent_then m a (a + 0) (a + b) (congruent_same m a (a + 0) (omega arith)) (congruent_plus m a a 0 b (congruent_same m a a refl) (congruent_sym m b 0 g))) h,
  )

  differences_together : (s t : Sides) → (is_empty (minus (bits (width_of s.left)) (difference s.left s.right) (difference t.left t.right))
      || is_empty (plus (bits (width_of s.left)) (difference s.left s.right) (difference t.left t.right))) ≡ true
      → Together (2 ^ bits (width_of s.left)) (polynomial_value assignment (difference s.left s.right)) (polynomial_value assignment (difference t.left t.right))
  differences_together s t e =
      let p = difference s.left s.right in
      let q = difference t.left t.right in
      let c = bits (width_of s.left) in
      either_test (is_empty (minus c p q)) (is_empty (plus c p q)) e
      (λ h.
      equal_together (2 ^ c) (polynomial_value assignment p) (polynomial_value assignment q)
      (congruent_sym (2 ^ c) (polynomial_value assignment q) (polynomial_value assignment p)
      (congruent_then (2 ^ c) (polynomial_value assignment q) (polynomial_value assignment (minus c p q) + polynomial_value assignment q) (polynomial_value assignment p)
      (congruent_same (2 ^ c) (polynomial_value assignment q) (polynomial_value assignment (minus c p q) + polynomial_value assignment q)
      (zero_add (polynomial_value assignment q) ∙ ap (λ n. n + polynomial_value assignment q) (sym (empty_value (minus c p q) h))))
      (minus_value assignment c p q))))
      (λ h.
      opposite_together (2 ^ c) (polynomial_value assignment p) (polynomial_value assignment q)
      (congruent_then (2 ^ c) (polynomial_value assignment p + polynomial_value assignment q) (polynomial_value assignment (plus c p q)) 0
      (congruent_sym (2 ^ c) (polynomial_value assignment (plus c p q)) (polynomial_value assignment p + polynomial_value assignment q) (plus_value assignment c p q))
      (congruent_same (2 ^ c) (polynomial_value assignment (plus c p q)) 0 (empty_value (plus c p q) h))))
    where
      zero_add : (n : ℕ) → n ≡ 0 + n
      zero_add n = omega arith

  equalities_sound : (x y : Term) (s t : Sides) → IsEquality x s → IsEquality y t → have_one_difference s t ≡ true → value assignment x ≡ value assignment y
  equalities_sound x y s t of_x of_y h =
      let both = and_parts (are_words s.left t.left) _ h in
      let ds = differ s.left s.right of_x.are in
      let dt = differ t.left t.right of_y.are in
      let one : width_of t.left ≡ width_of s.left = width_is t.left (width_of s.left) (words_are s.left t.left both.0).second in
      let together = differences_together s t both.1 in
      ap (value assignment) of_x.is ∙ equal_value s.left s.right ds
      ∙ ap Truth
      (same_test ds.first ds.second dt.first dt.second
      (λ e.
      difference_none t.left t.right dt
      (subst (λ w. IsCongruent (2 ^ bits w) (polynomial_value assignment (difference t.left t.right)) 0) (sym one) (together.0 (equal_none s.left s.right ds e))))
      (λ e.
      difference_none s.left s.right ds
      (together.1 (subst (λ w. IsCongruent (2 ^ bits w) (polynomial_value assignment (difference t.left t.right)) 0) one (equal_none t.left t.right dt e)))))
      ∙ sym (equal_value t.left t.right dt) ∙ sym (ap (value assignment) of_y.is)

  pub ring_sound : (x y : Term) → one_polynomial x y ≡ true → value assignment x ≡ value assignment y
  unfolding one_polynomial
  ring_sound x y e = by (sides_of x) refl (sides_of y) refl e
    where
      by : (o : Option Sides) → sides_of x ≡ o → (p : Option Sides) → sides_of y ≡ p → one_polynomial_by o p x y ≡ true → value assignment x ≡ value assignment y
      by (Some s) d (Some t) f e = equalities_sound x y s t (sides_are x s d) (sides_are y t f) e
      by (Some s) d None f e = absurd (cc)
      by None d p f e =
          let both = and_parts (are_words x y) (is_empty (difference x y)) e in
          words_sound x y both.0 both.1

  -- ---- `ring X`

  only_constant_value : (count : ℕ) (p : Polynomial) → is_only_constant count p ≡ true → IsCongruent (2 ^ count) (polynomial_value assignment p) 0 → ⊥
  unfolding polynomial_value product
  only_constant_value count [] e h = cc
  only_constant_value count (s ∷ []) e h =
      let both = and_parts (has_no_atom s.atoms) (not (low_bits count s.coefficient == 0)) e in
      by s.atoms both.0 both.1 h
    where
      by : (atoms : List Term) → has_no_atom atoms ≡ true → not (low_bits count s.coefficient == 0) ≡ true → IsCongruent (2 ^ count) (s.coefficient * product assignment atoms + 0) 0 → ⊥
      by [] d f g =
          let small : s.coefficient % 2 ^ count ≡ 0 =
          congruent_equal (2 ^ count) (s.coefficient % 2 ^ count) 0
          (congruent_then (2 ^ count) (s.coefficient % 2 ^ count) s.coefficient 0 (congruent_mod (2 ^ count) s.coefficient)
          (congruent_then (2 ^ count) s.coefficient (s.coefficient * 1 + 0) 0 (congruent_same (2 ^ count) s.coefficient (s.coefficient * 1 + 0) (omega arith)) g))
          (mod_below s.coefficient (2 ^ count) (pow_pos count)) (pow_pos count) in
          let test = eq-eqb (s.coefficient % 2 ^ count) 0 small in
          let wrong : not true ≡ true = sym (ap not test) ∙ f in
          cc
      by (t ∷ rest) d f g = cc
  only_constant_value count (s ∷ t ∷ p) e h = cc

  pub decided_ring_sound : (x : Term) (constant : Atom) → decided_by_polynomials x ≡ Some constant → value assignment x ≡ value assignment (Leaf constant)
  unfolding decided_by_polynomials value
  decided_ring_sound x constant e = by (sides_of x) refl e
    where
      on_constant : (s : Sides) → IsEquality x s → (test : Bool) → is_only_constant (bits (width_of s.left)) (difference s.left s.right) ≡ test
          → cond test (Some (atom.Truth false)) None ≡ Some constant → value assignment x ≡ value assignment (Leaf constant)
      on_constant s of_x true h d =
          let ds = differ s.left s.right of_x.are in
          let other : (ds.first == ds.second) ≡ false = not_equal ds.first ds.second (λ e. only_constant_value (bits (width_of s.left)) (difference s.left s.right) h (equal_none s.left s.right ds e)) in
          ap (value assignment) of_x.is ∙ equal_value s.left s.right ds ∙ ap Truth other ∙ ap (λ a. value assignment (Leaf a)) (same_Some (atom.Truth false) constant d)
      on_constant s of_x false h d = absurd (cc)

      on_difference : (s : Sides) → IsEquality x s → (test : Bool) → is_empty (difference s.left s.right) ≡ test
          → cond test (Some (atom.Truth true)) (cond (is_only_constant (bits (width_of s.left)) (difference s.left s.right)) (Some (atom.Truth false)) None) ≡ Some constant
          → value assignment x ≡ value assignment (Leaf constant)
      on_difference s of_x true h d =
          let ds = differ s.left s.right of_x.are in
          let one = difference_none s.left s.right ds (congruent_same (2 ^ bits (width_of s.left)) (polynomial_value assignment (difference s.left s.right)) 0 (empty_value (difference s.left s.right) h)) in
          ap (value assignment) of_x.is ∙ equal_value s.left s.right ds ∙ ap Truth (eq-eqb ds.first ds.second one) ∙ ap (λ a. value assignment (Leaf a)) (same_Some (atom.Truth true) constant d)
      on_difference s of_x false h d = on_constant s of_x (is_only_constant (bits (width_of s.left)) (difference s.left s.right)) refl d

      by : (o : Option Sides) → sides_of x ≡ o → decided_by_sides o ≡ Some constant → value assignment x ≡ value assignment (Leaf constant)
      by (Some s) d f = on_difference s (sides_are x s d) (is_empty (difference s.left s.right)) refl f
      by None d f = absurd (cc)
