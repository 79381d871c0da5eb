-- A truth value that reads as a range says that the form is in it, and what ranges decide is so.
use Rattle.std.proofs.Common.{◌≡◌, ℕ, zero, suc, ◌+◌, ◌-◌, ◌%◌, ◌^◌, ◌<◌, ◌≤◌, Bool, true, false, cond, List, [], ◌∷◌, Option, Some, None, option_map, option_and_then, refl, sym, ap, ◌∙◌, subst, arith, eqb-true, lt-ltb, le-ltb, leb-true}
use Rattle.std.specs.Prelude.{◌==◌, ◌&&◌, ◌||◌, not, nat_lt, nat_le, min, max}
use Rattle.std.specs.List.{AllByRecursion}
use Rattle.std.proofs.lemmas.Bool.{and_parts, eqb-false}
use Rattle.std.proofs.lemmas.Option.{same_Some}
use Rattle.std.proofs.lemmas.Nat.{pow_pos, mod_below}
use Rattle.term_core_spec.specs.declared.Atom.{Atom}
use Rattle.term_core_spec.specs.declared.Atom.TheVariants as atom
use Rattle.term_core_spec.specs.declared.UnaryOperator.TheVariants as unary
use Rattle.term_core_spec.specs.declared.BinaryOperator.TheVariants as binary
use Rattle.term_core_spec.specs.Term.{Term, Leaf, Unary, Binary, equal, less}
use Rattle.term_core_spec.specs.Sort.{bits}
use Rattle.term_core_spec.specs.Value.{Truth, Assignment, IsAssignment, value, unary_value, binary_value}
use Rattle.term_norm_spec.specs.Patterns.{width_of}
use Rattle.term_norm_spec.proofs.Truths.{truth_value_of}
use Rattle.word_steps_spec.specs.Numbers.{is_bool}
use Rattle.word_steps_spec.specs.Polynomial.{Polynomial, plus, atom_polynomial, is_empty, number_of_value, polynomial_value}
use Rattle.word_steps_spec.specs.Sides.{are_words}
use Rattle.word_steps_spec.specs.Ring.{polynomial, difference}
use Rattle.word_steps_spec.specs.Order.{Bounds, bounds_of}
use Rattle.word_steps_spec.specs.LowBits.{form_of, constant_of, is_one_form}
use Rattle.word_steps_spec.specs.Ranges.{Range, distance, outside, are_opposite_forms, as_of, is_inside, joined_at, else_range, joined, union, below_range, above_range, order_range_at, order_range, equality_range, both_ranges, range_of, decided_inside, decided_as, atom_of, bounds_of_atom, range_in, range_of_atom, known_range, decided_with, decided_by_range}
use Rattle.word_steps_spec.proofs.Congruence.{IsCongruent, congruent_same, congruent_sym, congruent_then, congruent_mod, congruent_equal}
use Rattle.word_steps_spec.proofs.Polynomials.{plus_value, atom_value}
use Rattle.word_steps_spec.proofs.Sorts.{bool_sort}
use Rattle.word_steps_spec.proofs.CommHolds.{either_test}
use Rattle.word_steps_spec.proofs.BitsHold.{number_below}
use Rattle.word_steps_spec.proofs.RingSound.{words_are, difference_none, Differ, differ, equal_none, equal_value, empty_value}
use Rattle.word_steps_spec.proofs.BoundsHold.{IsWithin, bounds_are, order_value}
use Rattle.word_steps_spec.proofs.LowBitsHold.{form_sum, one_form_value, word_low}
use Rattle.word_steps_spec.proofs.Distances.{mod_least, distance_below, distance_sum, distance_is, distance_same, among, among_others, among_opposite, among_joined, among_inside, among_all, word_place, above_place, order_place}

module _ (assignment : Assignment) (assigns : IsAssignment assignment) where
  abbrev number : Term → ℕ
  number t = number_of_value (value assignment t)

  abbrev pv : Polynomial → ℕ
  pv p = polynomial_value assignment p

  -- the form is in the range
  abbrev pub in_range : Range → Bool
  in_range r = among r.count r.start r.length (pv r.form)

  pub record IsReading (t : Term) (r : Range) : Type 0 where
    pub fits : r.length ≤ 2 ^ r.count
    pub value_is : value assignment t ≡ Truth (in_range r)

  -- ---- ranges of one form

  -- r's form, with another row of numbers
  abbrev like : Range → ℕ → ℕ → Range
  like r s l = record { count = r.count; form = r.form; start = s; length = l }

  pub record IsAs (r q k : Range) : Type 0 where
    pub start : ℕ
    pub is : like r start q.length ≡ k
    pub fits : q.length ≤ 2 ^ r.count
    pub same : in_range (like r start q.length) ≡ in_range q

  pub as_of_is : (r q k : Range) → q.length ≤ 2 ^ q.count → as_of r q ≡ Some k → IsAs r q k
  as_of_is r q k fits e = by (r.count == q.count && is_one_form r.count r.form q.form) refl e
    where
      opposite_of : (n m : ℕ) → n ≡ m → IsCongruent (2 ^ n) (pv r.form + pv q.form) 0 → (le : q.length ≤ 2 ^ m)
          → (among n (distance n (q.start + q.length) 1) q.length (pv r.form) ≡ among m q.start q.length (pv q.form)) × (q.length ≤ 2 ^ n)
      opposite_of n m one none le =
          let short : q.length ≤ 2 ^ n = subst (λ c. q.length ≤ 2 ^ c) (sym one) le in
          (among_opposite n q.start q.length (pv q.form) (pv r.form) short none ∙ ap (λ c. among c q.start q.length (pv q.form)) one, short)

      by_opposite : (test : Bool) → (r.count == q.count && are_opposite_forms r.count r.form q.form) ≡ test
          → cond test (Some (like r (distance r.count (q.start + q.length) 1) q.length)) None ≡ Some k → IsAs r q k
      by_opposite true h d =
          let both = and_parts (r.count == q.count) (are_opposite_forms r.count r.form q.form) h in
          let none : IsCongruent (2 ^ r.count) (pv r.form + pv q.form) 0 =
          congruent_sym (2 ^ r.count) 0 (pv r.form + pv q.form)
          (subst (λ n. IsCongruent (2 ^ r.count) n (pv r.form + pv q.form)) (empty_value assignment assigns (plus r.count r.form q.form) both.1) (plus_value assignment r.count r.form q.form)) in
          let is = opposite_of r.count q.count (eqb-true r.count q.count both.0) none fits in
          record {
            start = distance r.count (q.start + q.length) 1;
            is = same_Some (like r (distance r.count (q.start + q.length) 1) q.length) k d;
            fits = is.1;
            same = is.0;
          }
      by_opposite false h d = absurd (cc)

      by : (test : Bool) → (r.count == q.count && is_one_form r.count r.form q.form) ≡ test
          → cond test (Some (like r q.start q.length))
          (cond (r.count == q.count && are_opposite_forms r.count r.form q.form) (Some (like r (distance r.count (q.start + q.length) 1) q.length)) None) ≡ Some k → IsAs r q k
      by true h d =
          let both = and_parts (r.count == q.count) (is_one_form r.count r.form q.form) h in
          let one = eqb-true r.count q.count both.0 in
          let forms = one_form_value assignment assigns r.count r.form q.form both.1 in
          record {
            start = q.start;
            is = same_Some (like r q.start q.length) k d;
            fits = subst (λ c. q.length ≤ 2 ^ c) (sym one) fits;
            same =
                ap (λ n. nat_lt n q.length) (distance_same r.count q.start (pv r.form) (pv q.form) (congruent_sym (2 ^ r.count) (pv q.form) (pv r.form) forms))
                ∙ ap (λ c. among c q.start q.length (pv q.form)) one;
          }
      by false h d = by_opposite (r.count == q.count && are_opposite_forms r.count r.form q.form) refl d

  pub outside_is : (r : Range) → r.length ≤ 2 ^ r.count → in_range (outside r) ≡ not (in_range r)
  outside_is r le = among_others r.count r.start r.length (pv r.form) le

  pub inside_is : (r q : Range) → is_inside r q ≡ true → r.count ≡ q.count → r.form ≡ q.form → in_range r ≡ true → in_range q ≡ true
  inside_is r q e one form h =
      either_test (q.length == 2 ^ q.count) (nat_le (distance q.count q.start r.start + r.length) q.length) e
      (λ all. ap (λ l. among q.count q.start l (pv q.form)) (eqb-true q.length (2 ^ q.count) all) ∙ among_all q.count q.start (pv q.form))
      (λ le.
      among_inside q.count r.start r.length q.start q.length (pv q.form) (leb-true (distance q.count q.start r.start + r.length) q.length le)
      (ap (λ p. among q.count r.start r.length (pv p)) (sym form) ∙ ap (λ c. among c r.start r.length (pv r.form)) (sym one) ∙ h))

  -- the range of an `or`
  pub record IsUnion (r q k : Range) : Type 0 where
    pub fits : k.length ≤ 2 ^ k.count
    pub same : in_range k ≡ (in_range r || in_range q)

  joined_is : (r : Range) (s l : ℕ) (k : Range) → joined r (like r s l) ≡ Some k → IsUnion r (like r s l) k
  joined_is r s l k e = first (nat_le (distance r.count r.start s) r.length) refl e
    where
      short : (a b : ℕ) → min a b ≤ a
      short a b = omega arith

      or_comm : (a b : Bool) → (a || b) ≡ (b || a)
      or_comm true true = refl
      or_comm true false = refl
      or_comm false true = refl
      or_comm false false = refl

      second : (test : Bool) → nat_le (distance r.count s r.start) l ≡ test
          → cond test (Some (like r s (min (2 ^ r.count) (max l (distance r.count s r.start + r.length))))) None ≡ Some k → IsUnion r (like r s l) k
      second true h d =
          subst (IsUnion r (like r s l)) (same_Some (like r s (min (2 ^ r.count) (max l (distance r.count s r.start + r.length)))) k d) (record {
            fits = short (2 ^ r.count) (max l (distance r.count s r.start + r.length));
            same =
                among_joined r.count s l r.start r.length (pv r.form) (leb-true (distance r.count s r.start) l h)
                ∙ or_comm (among r.count s l (pv r.form)) (among r.count r.start r.length (pv r.form));
          })
      second false h d = absurd (cc)

      first : (test : Bool) → nat_le (distance r.count r.start s) r.length ≡ test
          → else_range (cond test (Some (like r r.start (min (2 ^ r.count) (max r.length (distance r.count r.start s + l))))) None) (joined_at (distance r.count s r.start) (like r s l) r) ≡ Some k
          → IsUnion r (like r s l) k
      first true h d =
          subst (IsUnion r (like r s l)) (same_Some (like r r.start (min (2 ^ r.count) (max r.length (distance r.count r.start s + l)))) k d) (record {
            fits = short (2 ^ r.count) (max r.length (distance r.count r.start s + l));
            same = among_joined r.count r.start r.length s l (pv r.form) (leb-true (distance r.count r.start s) r.length h);
          })
      first false h d = second (nat_le (distance r.count s r.start) l) refl d

  union_is : (r q k : Range) → q.length ≤ 2 ^ q.count → union r q ≡ Some k → IsUnion r q k
  union_is r q k fits e = by (as_of r q) refl e
    where
      by : (o : Option Range) → as_of r q ≡ o → option_and_then (joined r) o ≡ Some k → IsUnion r q k
      by (Some j) d f =
          let read = as_of_is r q j fits d in
          let is = joined_is r read.start q.length k (ap (joined r) read.is ∙ f) in
          record { fits = is.fits; same = is.same ∙ ap (λ b. in_range r || b) read.same }
      by None d f = absurd (cc)

  -- ---- words

  sum_is : (p : Polynomial) (w n : ℕ) → IsCongruent (2 ^ w) (pv p) n → IsCongruent (2 ^ w) (pv (form_of p) + constant_of p) n
  sum_is p w n h = subst (λ k. IsCongruent (2 ^ w) k n) (sym (form_sum assignment assigns p)) h

  -- that a word of the polynomial p is below n
  pub below_is : (count : ℕ) (p : Polynomial) (x n : ℕ) → IsCongruent (2 ^ count) (pv p) x → x < 2 ^ count → in_range (below_range count p n) ≡ nat_lt x n
  below_is count p x n h below = ap (λ k. nat_lt k n) (word_place count (pv (form_of p)) (constant_of p) x (sum_is p count x h) below)

  -- a word with no form is its constant
  constant_is : (count : ℕ) (p : Polynomial) (x : ℕ) → is_empty (form_of p) ≡ true → IsCongruent (2 ^ count) (pv p) x → x < 2 ^ count → constant_of p % 2 ^ count ≡ x
  constant_is count p x e h below =
      congruent_equal (2 ^ count) (constant_of p % 2 ^ count) x
      (congruent_then (2 ^ count) (constant_of p % 2 ^ count) (constant_of p) x (congruent_mod (2 ^ count) (constant_of p))
      (subst (λ n. IsCongruent (2 ^ count) n x) (ap (λ n. n + constant_of p) (empty_value assignment assigns (form_of p) e) ∙ none_more (constant_of p)) (sum_is p count x h)))
      (mod_below (constant_of p) (2 ^ count) (pow_pos count)) below
    where
      none_more : (n : ℕ) → 0 + n ≡ n
      none_more n = omega arith

  pub record IsRangeOf (test : Bool) (r : Range) : Type 0 where
    pub fits : r.length ≤ 2 ^ r.count
    pub same : in_range r ≡ test

  mod_fits : (n m : ℕ) → 0 < m → n % m ≤ m
  mod_fits n m positive = let below = mod_below n m positive in omega arith

  minus_fits : (m n : ℕ) → m - n ≤ m
  minus_fits m n = omega arith

  -- `ult` of words of the polynomials p and q
  order_is : (count : ℕ) (p q : Polynomial) (x y : ℕ) → IsCongruent (2 ^ count) (pv p) x → IsCongruent (2 ^ count) (pv q) y → x < 2 ^ count → y < 2 ^ count → (k : Range)
      → order_range count p q ≡ Some k → IsRangeOf (nat_lt x y) k
  order_is count p q x y hx hy below_x below_y k e = by_second (is_empty (form_of q)) refl e
    where
      apart : (d : ℕ) → (d == 0) ≡ false → 0 < d
      apart d h = let other = eqb-false d 0 h in positive d other
        where
          positive : (d : ℕ) → (d ≡ 0 → ⊥) → 0 < d
          positive zero f = absurd (f refl)
          positive (suc d) f = omega arith

      -- both of one form: y is x + d
      both : (d : ℕ) → distance count (constant_of p) (constant_of q) ≡ d → is_one_form count (form_of p) (form_of q) ≡ true → IsCongruent (2 ^ count) (x + d) y
      both d is h =
          let forms = one_form_value assignment assigns count (form_of p) (form_of q) h in
          let sum = subst (λ i. IsCongruent (2 ^ count) (constant_of p + i) (constant_of q)) is (distance_sum count (constant_of p) (constant_of q)) in
          let px = sum_is p count x hx in
          let qy = sum_is q count y hy in
          let e1 = forms.same in
          let e2 = sum.same in
          let e3 = px.same in
          let e4 = qy.same in
          record {
            first = px.second + sum.first + forms.second + qy.first;
            second = px.first + sum.second + forms.first + qy.second;
            same = omega arith;
          }

      at_distance : (d : ℕ) → distance count (constant_of p) (constant_of q) ≡ d → is_one_form count (form_of p) (form_of q) ≡ true → (test : Bool) → (d == 0) ≡ test
          → cond test None (Some (below_range count p (2 ^ count - d))) ≡ Some k → IsRangeOf (nat_lt x y) k
      at_distance d is h true t f = absurd (cc)
      at_distance d is h false t f =
          let below_d : d < 2 ^ count = subst (λ i. i < 2 ^ count) is (distance_below count (constant_of p) (constant_of q)) in
          subst (IsRangeOf (nat_lt x y)) (same_Some (below_range count p (2 ^ count - d)) k f) (record {
            fits = minus_fits (2 ^ count) d;
            same = below_is count p x (2 ^ count - d) hx below_x ∙ order_place count x y d below_x below_y (apart d t) below_d (both d is h);
          })

      by_forms : (test : Bool) → is_one_form count (form_of p) (form_of q) ≡ test
          → cond test (order_range_at count (distance count (constant_of p) (constant_of q)) p) None ≡ Some k → IsRangeOf (nat_lt x y) k
      by_forms true h f =
          at_distance (distance count (constant_of p) (constant_of q)) refl h (distance count (constant_of p) (constant_of q) == 0) refl f
      by_forms false h f = absurd (cc)

      by_first : (test : Bool) → is_empty (form_of p) ≡ test
          → cond test (Some (above_range count (constant_of p) q))
          (cond (is_one_form count (form_of p) (form_of q)) (order_range_at count (distance count (constant_of p) (constant_of q)) p) None) ≡ Some k → IsRangeOf (nat_lt x y) k
      by_first true h f =
          subst (IsRangeOf (nat_lt x y)) (same_Some (above_range count (constant_of p) q) k f) (record {
            fits = rest_fits (2 ^ count) (constant_of p % 2 ^ count);
            same =
                above_place count (pv (form_of q)) (constant_of q) (constant_of p) y (sum_is q count y hy) below_y
                ∙ ap (λ n. nat_lt n y) (constant_is count p x h hx below_x);
          })
        where
          rest_fits : (m n : ℕ) → m - 1 - n ≤ m
          rest_fits m n = omega arith
      by_first false h f = by_forms (is_one_form count (form_of p) (form_of q)) refl f

      by_none : (test : Bool) → is_empty (form_of q) ≡ true → cond test None (Some (below_range count p (constant_of q % 2 ^ count))) ≡ Some k → IsRangeOf (nat_lt x y) k
      by_none true h f = absurd (cc)
      by_none false h f =
          subst (IsRangeOf (nat_lt x y)) (same_Some (below_range count p (constant_of q % 2 ^ count)) k f) (record {
            fits = mod_fits (constant_of q) (2 ^ count) (pow_pos count);
            same = below_is count p x (constant_of q % 2 ^ count) hx below_x ∙ ap (nat_lt x) (constant_is count q y h hy below_y);
          })

      by_second : (test : Bool) → is_empty (form_of q) ≡ test
          → cond test (cond (is_empty (form_of p)) None (Some (below_range count p (constant_of q % 2 ^ count))))
          (cond (is_empty (form_of p)) (Some (above_range count (constant_of p) q))
          (cond (is_one_form count (form_of p) (form_of q)) (order_range_at count (distance count (constant_of p) (constant_of q)) p) None)) ≡ Some k
          → IsRangeOf (nat_lt x y) k
      by_second true h f = by_none (is_empty (form_of p)) h f
      by_second false h f = by_first (is_empty (form_of p)) refl f

  -- ---- what a truth value reads as

  less_reading : (x y : Term) (r : Range) → cond (are_words x y) (order_range (bits (width_of x)) (polynomial x) (polynomial y)) None ≡ Some r → IsReading (less x y) r
  less_reading x y r e = by (are_words x y) refl e
    where
      by : (test : Bool) → are_words x y ≡ test → cond test (order_range (bits (width_of x)) (polynomial x) (polynomial y)) None ≡ Some r → IsReading (less x y) r
      by true h d =
          let are = words_are assignment assigns x y h in
          let w = width_of x in
          let is = order_is (bits (width_of x)) (polynomial x) (polynomial y) (number x) (number y) (word_low assignment assigns (width_of x) x are.first) (word_low assignment assigns (width_of x) y are.second)
          (number_below assignment assigns (width_of x) x are.first) (number_below assignment assigns (width_of x) y are.second) r d in
          record {
            fits = is.fits;
            value_is = order_value assignment assigns (less x y) (record { left = x; right = y }) (record { is = refl; are = h }) ∙ ap Truth (sym is.same);
          }
      by false h d = absurd (cc)

  -- the difference is 0 modulo 2 ^ count where it is below 1
  none_below_one : (count p : ℕ) → IsCongruent (2 ^ count) p 0 → nat_lt (p % 2 ^ count) 1 ≡ true
  none_below_one count p h =
      let below = mod_below p (2 ^ count) (pow_pos count) in
      let none = congruent_equal (2 ^ count) (p % 2 ^ count) 0 (congruent_then (2 ^ count) (p % 2 ^ count) p 0 (congruent_mod (2 ^ count) p) h) below (pow_pos count) in
      lt-ltb (p % 2 ^ count) 1 (omega arith)

  some_below_one : (count p : ℕ) → (IsCongruent (2 ^ count) p 0 → ⊥) → nat_lt (p % 2 ^ count) 1 ≡ false
  some_below_one count p h = le-ltb (p % 2 ^ count) 1 (positive (p % 2 ^ count) (λ e. h (subst (λ n. IsCongruent (2 ^ count) p n) e (congruent_sym (2 ^ count) (p % 2 ^ count) p (congruent_mod (2 ^ count) p)))))
    where
      positive : (d : ℕ) → (d ≡ 0 → ⊥) → 1 ≤ d
      positive zero f = absurd (f refl)
      positive (suc d) f = omega arith

  equal_reading : (x y : Term) (r : Range) → cond (are_words x y) (equality_range (bits (width_of x)) (difference x y)) None ≡ Some r → IsReading (equal x y) r
  equal_reading x y r e = by (are_words x y) refl e
    where
      one_fits : (count : ℕ) → 1 ≤ 2 ^ count
      one_fits count = pow_pos count

      same_tests : (d : Differ assignment assigns x y) (test : Bool) → (d.first == d.second) ≡ test → nat_lt (pv (difference x y) % 2 ^ bits (width_of x)) 1 ≡ test
      same_tests d true h = none_below_one (bits (width_of x)) (pv (difference x y)) (equal_none assignment assigns x y d (eqb-true d.first d.second h))
      same_tests d false h =
          some_below_one (bits (width_of x)) (pv (difference x y)) (λ none. eqb-false d.first d.second h (difference_none assignment assigns x y d none))

      on_form : are_words x y ≡ true → (test : Bool) → cond test None (Some (below_range (bits (width_of x)) (difference x y) 1)) ≡ Some r → IsReading (equal x y) r
      on_form h true d = absurd (cc)
      on_form h false d =
          let count = bits (width_of x) in
          let p = difference x y in
          let ds = differ assignment assigns x y h in
          subst (IsReading (equal x y)) (same_Some (below_range (bits (width_of x)) (difference x y) 1) r d) (record {
            fits = one_fits (bits (width_of x));
            value_is =
                equal_value assignment assigns x y ds
                ∙ ap Truth
                (sym (below_is (bits (width_of x)) (difference x y) (pv (difference x y) % 2 ^ bits (width_of x)) 1
                (congruent_sym (2 ^ bits (width_of x)) (pv (difference x y) % 2 ^ bits (width_of x)) (pv (difference x y)) (congruent_mod (2 ^ bits (width_of x)) (pv (difference x y))))
                (mod_below (pv (difference x y)) (2 ^ bits (width_of x)) (pow_pos (bits (width_of x))))
                ∙ same_tests ds (ds.first == ds.second) refl));
          })

      by : (test : Bool) → are_words x y ≡ test → cond test (equality_range (bits (width_of x)) (difference x y)) None ≡ Some r → IsReading (equal x y) r
      by true h d = on_form h (is_empty (form_of (difference x y))) d
      by false h d = absurd (cc)

  pub not_value : (x : Term) (a : Bool) → value assignment x ≡ Truth a → value assignment (Unary unary.Not x) ≡ Truth (not a)
  unfolding value unary_value
  not_value x a e = rw e refl

  pub or_value : (x y : Term) (a b : Bool) → value assignment x ≡ Truth a → value assignment y ≡ Truth b → value assignment (Binary binary.Or x y) ≡ Truth (a || b)
  unfolding value binary_value
  or_value x y a b e d = rw (e, d) refl

  pub and_value : (x y : Term) (a b : Bool) → value assignment x ≡ Truth a → value assignment y ≡ Truth b → value assignment (Binary binary.And x y) ≡ Truth (a && b)
  unfolding value binary_value
  and_value x y a b e d = rw (e, d) refl

  outside_fits : (r : Range) → (outside r).length ≤ 2 ^ (outside r).count
  outside_fits r = minus_fits (2 ^ r.count) r.length

  not_reading : (x : Term) (o : Option Range) (r : Range) → ((k : Range) → o ≡ Some k → IsReading x k) → option_map outside o ≡ Some r → IsReading (Unary unary.Not x) r
  not_reading x (Some k) r is e =
      let of_x = is k refl in
      subst (IsReading (Unary unary.Not x)) (same_Some (outside k) r e) (record {
        fits = outside_fits k;
        value_is = not_value x (in_range k) of_x.value_is ∙ ap Truth (sym (outside_is k of_x.fits));
      })
  not_reading x None r is e = absurd (cc)

  or_reading : (x y : Term) (o p : Option Range) (r : Range) → ((k : Range) → o ≡ Some k → IsReading x k) → ((k : Range) → p ≡ Some k → IsReading y k)
      → both_ranges union o p ≡ Some r → IsReading (Binary binary.Or x y) r
  or_reading x y (Some k) (Some j) r of_x of_y e =
      let hx = of_x k refl in
      let hy = of_y j refl in
      let is = union_is k j r hy.fits e in
      record { fits = is.fits; value_is = or_value x y (in_range k) (in_range j) hx.value_is hy.value_is ∙ ap Truth (sym is.same) }
  or_reading x y (Some k) None r of_x of_y e = absurd (cc)
  or_reading x y None p r of_x of_y e = absurd (cc)

  not_or : (a b : Bool) → not (not a || not b) ≡ (a && b)
  not_or true true = refl
  not_or true false = refl
  not_or false true = refl
  not_or false false = refl

  and_reading : (x y : Term) (o p : Option Range) (r : Range) → ((k : Range) → o ≡ Some k → IsReading x k) → ((k : Range) → p ≡ Some k → IsReading y k)
      → option_map outside (both_ranges (λ k j. union (outside k) (outside j)) o p) ≡ Some r → IsReading (Binary binary.And x y) r
  and_reading x y (Some k) (Some j) r of_x of_y e = by (union (outside k) (outside j)) refl e
    where
      by : (u : Option Range) → union (outside k) (outside j) ≡ u → option_map outside u ≡ Some r → IsReading (Binary binary.And x y) r
      by (Some i) d f =
          let hx = of_x k refl in
          let hy = of_y j refl in
          let is = union_is (outside k) (outside j) i (outside_fits j) d in
          let opposites : in_range i ≡ (not (in_range k) || not (in_range j)) = is.same ∙ ap (λ b. b || in_range (outside j)) (outside_is k hx.fits) ∙ ap (λ b. not (in_range k) || b) (outside_is j hy.fits) in
          subst (IsReading (Binary binary.And x y)) (same_Some (outside i) r f) (record {
            fits = outside_fits i;
            value_is =
                and_value x y (in_range k) (in_range j) hx.value_is hy.value_is
                ∙ ap Truth (sym (outside_is i is.fits ∙ ap not opposites ∙ not_or (in_range k) (in_range j)));
          })
      by None d f = absurd (cc)
  and_reading x y (Some k) None r of_x of_y e = absurd (cc)
  and_reading x y None p r of_x of_y e = absurd (cc)

  pub reading_is : (t : Term) (r : Range) → range_of t ≡ Some r → IsReading t r
  unfolding range_of
  reading_is (Unary unary.Not x) r e = not_reading x (range_of x) r (reading_is x) e
  reading_is (Binary binary.Or x y) r e = or_reading x y (range_of x) (range_of y) r (reading_is x) (reading_is y) e
  reading_is (Binary binary.And x y) r e = and_reading x y (range_of x) (range_of y) r (reading_is x) (reading_is y) e
  reading_is (Binary binary.Less x y) r e = less_reading x y r e
  reading_is (Binary binary.Equal x y) r e = equal_reading x y r e
  reading_is t r e = absurd (cc)

  -- ---- what ranges decide

  pub record IsKnownRange (q : Range) : Type 0 where
    pub fits : q.length ≤ 2 ^ q.count
    pub inside : in_range q ≡ true

  pub truth_is : (a : Bool) → Truth a ≡ Truth true → a ≡ true
  truth_is true e = refl
  truth_is false e = absurd (cc)

  pub fact_range : (fact : Term) (q : Range) → value assignment fact ≡ Truth true → range_of fact ≡ Some q → IsKnownRange q
  fact_range fact q h e = let is = reading_is fact q e in record { fits = is.fits; inside = truth_is (in_range q) (sym is.value_is ∙ h) }

  not_true : (b : Bool) → not b ≡ true → b ≡ false
  not_true true e = absurd (cc)
  not_true false e = refl

  decided_inside_is : (r : Range) (s l : ℕ) (constant : Atom) → r.length ≤ 2 ^ r.count → in_range (like r s l) ≡ true → decided_inside (like r s l) r ≡ Some constant
      → Truth (in_range r) ≡ value assignment (Leaf constant)
  unfolding value
  decided_inside_is r s l constant fits h e = first (is_inside (like r s l) r) refl e
    where
      second : (test : Bool) → is_inside (like r s l) (outside r) ≡ test → cond test (Some (atom.Truth false)) None ≡ Some constant → Truth (in_range r) ≡ value assignment (Leaf constant)
      second true d f =
          ap Truth (not_true (in_range r) (sym (outside_is r fits) ∙ inside_is (like r s l) (outside r) d refl refl h))
          ∙ ap (λ a. value assignment (Leaf a)) (same_Some (atom.Truth false) constant f)
      second false d f = absurd (cc)

      first : (test : Bool) → is_inside (like r s l) r ≡ test
          → cond test (Some (atom.Truth true)) (cond (is_inside (like r s l) (outside r)) (Some (atom.Truth false)) None) ≡ Some constant → Truth (in_range r) ≡ value assignment (Leaf constant)
      first true d f = ap Truth (inside_is (like r s l) r d refl refl h) ∙ ap (λ a. value assignment (Leaf a)) (same_Some (atom.Truth true) constant f)
      first false d f = second (is_inside (like r s l) (outside r)) refl f

  -- a range that is known decides another one
  pub decided_as_is : (r q : Range) (constant : Atom) → r.length ≤ 2 ^ r.count → IsKnownRange q → decided_as r q ≡ Some constant → Truth (in_range r) ≡ value assignment (Leaf constant)
  decided_as_is r q constant fits known e = by (as_of r q) refl e
    where
      by : (o : Option Range) → as_of r q ≡ o → option_and_then (λ k. decided_inside k r) o ≡ Some constant → Truth (in_range r) ≡ value assignment (Leaf constant)
      by (Some k) d f =
          let read = as_of_is r q k known.fits d in
          decided_inside_is r read.start q.length constant fits (read.same ∙ known.inside) (ap (λ j. decided_inside j r) read.is ∙ f)
      by None d f = absurd (cc)

  -- a single atom
  bounded_range : (count : ℕ) (t : Term) (b : Bounds) → IsWithin (number t) b → IsKnownRange (range_in count t b)
  bounded_range count t b h =
      let place = distance_is count b.least (pv (atom_polynomial t)) (number t - b.least)
      (congruent_same (2 ^ count) (b.least + (number t - b.least)) (pv (atom_polynomial t)) (back b.least (number t) h.least ∙ sym (atom_value assignment t))) in
      record {
        fits = short (2 ^ count) (b.greatest + 1 - b.least);
        inside =
            ap (λ n. nat_lt n (min (2 ^ count) (b.greatest + 1 - b.least))) place
            ∙ lt-ltb ((number t - b.least) % 2 ^ count) (min (2 ^ count) (b.greatest + 1 - b.least))
            (both ((number t - b.least) % 2 ^ count) (2 ^ count) (number t) (mod_below (number t - b.least) (2 ^ count) (pow_pos count)) (mod_least (number t - b.least) (2 ^ count)) h.least h.greatest);
      }
    where
      back : (l n : ℕ) → l ≤ n → l + (n - l) ≡ n
      back l n le = omega arith

      short : (a b : ℕ) → min a b ≤ a
      short a b = omega arith

      both : (o m n : ℕ) → o < m → o ≤ n - b.least → b.least ≤ n → n ≤ b.greatest → o < min m (b.greatest + 1 - b.least)
      both o m n below le least greatest = omega arith

  bounds_hold : (t : Term) (b : Bounds) → bounds_of_atom t ≡ Some b → IsWithin (number t) b
  bounds_hold t b e = first (is_bool t) refl e
    where
      second : (test : Bool) → are_words t t ≡ test → cond test (Some (bounds_of t)) None ≡ Some b → IsWithin (number t) b
      second true d f = subst (IsWithin (number t)) (same_Some (bounds_of t) b f) (bounds_are assignment assigns t (width_of t) (words_are assignment assigns t t d).first)
      second false d f = absurd (cc)

      digit : (n : ℕ) (a : Bool) → n ≡ cond a 1 0 → IsWithin n (record { least = 0; greatest = 1 })
      digit n true e = record { least = omega arith; greatest = omega arith }
      digit n false e = record { least = omega arith; greatest = omega arith }

      first : (test : Bool) → is_bool t ≡ test → cond test (Some (record { least = 0; greatest = 1 })) (cond (are_words t t) (Some (bounds_of t)) None) ≡ Some b → IsWithin (number t) b
      first true d f =
          let is = truth_value_of assignment assigns t (bool_sort t d) in
          subst (IsWithin (number t)) (same_Some (record { least = 0; greatest = 1 }) b f) (digit (number t) is.0 (ap number_of_value is.1))
      first false d f = second (are_words t t) refl f

  atom_range : (count : ℕ) (o : Option Term) (q : Range) → option_and_then (range_of_atom count) o ≡ Some q → IsKnownRange q
  atom_range count (Some t) q e = by (bounds_of_atom t) refl e
    where
      by : (o : Option Bounds) → bounds_of_atom t ≡ o → option_map (range_in count t) o ≡ Some q → IsKnownRange q
      by (Some b) d f = subst IsKnownRange (same_Some (range_in count t b) q f) (bounded_range count t b (bounds_hold t b d))
      by None d f = absurd (cc)
  atom_range count None q e = absurd (cc)

  pub known_range_is : (facts : List Term) (r q : Range) → AllByRecursion (λ t. value assignment t ≡ Truth true) facts → known_range facts r ≡ Some q → IsKnownRange q
  known_range_is [] r q are e = atom_range r.count (atom_of r.form) q e
  known_range_is (fact ∷ []) r q are e = fact_range fact q are.0 e
  known_range_is (fact ∷ f ∷ facts) r q are e = absurd (cc)

  pub decided_with_is : (facts : List Term) (r : Range) (constant : Atom) → AllByRecursion (λ t. value assignment t ≡ Truth true) facts → r.length ≤ 2 ^ r.count → decided_with facts r ≡ Some constant
      → Truth (in_range r) ≡ value assignment (Leaf constant)
  decided_with_is facts r constant are fits e = by (known_range facts r) refl e
    where
      by : (o : Option Range) → known_range facts r ≡ o → option_and_then (decided_as r) o ≡ Some constant → Truth (in_range r) ≡ value assignment (Leaf constant)
      by (Some q) d f = decided_as_is r q constant fits (known_range_is facts r q are d) f
      by None d f = absurd (cc)

  pub decided_range_sound : (facts : List Term) (x : Term) (constant : Atom) → AllByRecursion (λ t. value assignment t ≡ Truth true) facts → decided_by_range facts x ≡ Some constant
      → value assignment x ≡ value assignment (Leaf constant)
  unfolding decided_by_range
  decided_range_sound facts x constant are e = by (range_of x) refl e
    where
      by : (o : Option Range) → range_of x ≡ o → option_and_then (decided_with facts) o ≡ Some constant → value assignment x ≡ value assignment (Leaf constant)
      by (Some r) d f = let is = reading_is x r d in is.value_is ∙ decided_with_is facts r constant are is.fits f
      by None d f = absurd (cc)
