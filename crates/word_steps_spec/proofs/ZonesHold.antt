-- The ranges that the rules `zone` and `within` find are those of the difference.
use Rattle.std.proofs.Common.{◌≡◌, ℕ, ◌+◌, ◌-◌, ◌*◌, ◌/◌, ◌%◌, ◌^◌, ◌<◌, ◌≤◌, Bool, true, false, cond, List, [], ◌∷◌, Option, Some, None, option_map, option_and_then, ◌⊎◌, inl, inr, refl, sym, ap, ◌∙◌, subst, arith, eqb-true, ltb-true, lt-ltb, le-ltb}
use Rattle.std.specs.Prelude.{◌==◌, ◌&&◌, ◌||◌, not, nat_lt, min}
use Rattle.std.specs.List.{AllByRecursion}
use Rattle.std.proofs.lemmas.Bool.{and_parts, cases_lt}
use Rattle.std.proofs.lemmas.Option.{same_Some, cond_some}
use Rattle.std.proofs.lemmas.Nat.{pow_pos, pow-add, mod_below, mul-le, div_below, div-add-mod'}
use Rattle.term_core_spec.specs.declared.Width.{Width}
use Rattle.term_core_spec.specs.declared.Sort.TheVariants as sort
use Rattle.term_core_spec.specs.declared.Atom.{Atom}
use Rattle.term_core_spec.specs.declared.UnaryOperator.TheVariants as unary
use Rattle.term_core_spec.specs.declared.BinaryOperator.TheVariants as binary
use Rattle.term_core_spec.specs.Term.{Term, Leaf, Unary, Binary}
use Rattle.term_core_spec.specs.Sort.{bits, sort_of}
use Rattle.term_core_spec.specs.Value.{Truth, Assignment, IsAssignment, value}
use Rattle.term_norm_spec.specs.Patterns.{width_of}
use Rattle.term_norm_spec.proofs.Keeps.{width_is}
use Rattle.word_steps_spec.specs.Numbers.{same_sign}
use Rattle.word_steps_spec.specs.Polynomial.{Polynomial, is_empty, number_of_value, polynomial_value}
use Rattle.word_steps_spec.specs.Sides.{are_words, Sides}
use Rattle.word_steps_spec.specs.Ring.{polynomial, difference}
use Rattle.word_steps_spec.specs.Order.{bounds_of, order_of}
use Rattle.word_steps_spec.specs.LowBits.{known, form_of, constant_of, known_forms, low_of_form, low_of}
use Rattle.word_steps_spec.specs.Ranges.{Range, outside, as_of, is_inside, else_range, below_range, range_of, decided_with}
use Rattle.word_steps_spec.specs.Zones.{Order, order_with, order_where, Either, either_order, either_of, either_where, constant_distance, difference_range, is_known_inside, is_inside_by, is_word_below, adds_within, zone_at, zone_of, is_zone, says_zone, are_one_word, window_at, window_of, window_where, window_range, decided_by_window, decided_within}
use Rattle.word_steps_spec.proofs.Congruence.{IsCongruent, congruent_same, congruent_sym, congruent_then, congruent_plus, congruent_mod, congruent_minus, congruent_equal}
use Rattle.word_steps_spec.proofs.Polynomials.{minus_value}
use Rattle.word_steps_spec.proofs.CommHolds.{either_test}
use Rattle.word_steps_spec.proofs.BitsHold.{number_below}
use Rattle.word_steps_spec.proofs.RingSound.{words_are, words_sound, empty_value}
use Rattle.word_steps_spec.proofs.BoundsHold.{bounds_are, order_is, order_value}
use Rattle.word_steps_spec.proofs.LowBitsHold.{lower, form_sum, word_low, forms_known, low_is}
use Rattle.word_steps_spec.proofs.RangesHold.{in_range, as_of_is, outside_is, inside_is, below_is, reading_is, IsReading, IsKnownRange, fact_range, decided_with_is, not_value, or_value, and_value, truth_is}

-- ---- numbers

-- `ult a b` or not `ult c d`, with a = c + k and d = b + s: c - d, which is e, is below m - s - k
zone_number : (m a b c d k s e : ℕ) → a ≡ c + k → d ≡ b + s → s + k < m → d < m → a < m → e < m → IsCongruent m (e + d) c → (nat_lt a b || not (nat_lt c d)) ≡ true → e < m - s - k
zone_number m a b c d k s e is_a is_d small below_d below_a below_e h either = by (cases_lt c d)
  where
    behind : d ≤ c → e ≡ c - d
    behind le =
        congruent_equal m e (c - d) (congruent_minus m e (c - d) d (congruent_then m (e + d) c (c - d + d) h (congruent_same m c (c - d + d) (omega arith)))) below_e (omega arith)

    around : c < d → e ≡ c + m - d
    around less =
        congruent_equal m e (c + m - d) (congruent_minus m e (c + m - d) d (congruent_then m (e + d) c (c + m - d + d) h (once_more less))) below_e (omega arith)
      where
        once_more : c < d → IsCongruent m c (c + m - d + d)
        once_more l = record { first = 1; second = 0; same = omega arith }

    by : (c < d) ⊎ (d ≤ c) → e < m - s - k
    by (inr le) = let is = behind le in omega arith
    by (inl less) =
        let is = around less in
        either_test (nat_lt a b) (not (nat_lt c d)) either
        (λ h1. let l = ltb-true a b h1 in omega arith)
        (λ h2. let f : nat_lt c d ≡ true = lt-ltb c d less in let wrong : not true ≡ true = sym (ap not f) ∙ h2 in absurd (cc))

-- a - l, which is e, is below s exactly where a is from l up to below h = l + s
window_number : (m a l h s e : ℕ) → h ≡ l + s → h < m → a < m → e < m → IsCongruent m (e + l) a → nat_lt e s ≡ not (nat_lt a l || not (nat_lt a h))
window_number m a l h s e is_h below_h below_a below_e sum = by (cases_lt a l) (cases_lt a h)
  where
    behind : l ≤ a → e ≡ a - l
    behind le =
        congruent_equal m e (a - l) (congruent_minus m e (a - l) l (congruent_then m (e + l) a (a - l + l) sum (congruent_same m a (a - l + l) (omega arith)))) below_e (omega arith)

    around : a < l → e ≡ a + m - l
    around less =
        congruent_equal m e (a + m - l) (congruent_minus m e (a + m - l) l (congruent_then m (e + l) a (a + m - l + l) sum (once_more less))) below_e (omega arith)
      where
        once_more : a < l → IsCongruent m a (a + m - l + l)
        once_more k = record { first = 1; second = 0; same = omega arith }

    tests : (p q : Bool) → nat_lt a l ≡ p → nat_lt a h ≡ q → not (p || not q) ≡ not (nat_lt a l || not (nat_lt a h))
    tests p q e d = ap (λ b. not (b || not q)) (sym e) ∙ ap (λ b. not (nat_lt a l || not b)) (sym d)

    by : (a < l) ⊎ (l ≤ a) → (a < h) ⊎ (h ≤ a) → nat_lt e s ≡ not (nat_lt a l || not (nat_lt a h))
    by (inl less) (inl under) = let is = around less in le-ltb e s (omega arith) ∙ tests true true (lt-ltb a l less) (lt-ltb a h under)
    by (inl less) (inr over) = absurd (omega arith)
    by (inr le) (inl under) = let is = behind le in lt-ltb e s (omega arith) ∙ tests false true (le-ltb a l le) (lt-ltb a h under)
    by (inr le) (inr over) = let is = behind le in le-ltb e s (omega arith) ∙ tests false false (le-ltb a l le) (le-ltb a h over)

-- where the low n bits of c and k carry nothing, c + k doesn't wrap
no_wrap : (n count c r k : ℕ) → n ≤ count → c < 2 ^ count → IsCongruent (2 ^ n) c r → r < 2 ^ n → r + k < 2 ^ n → c + k < 2 ^ count
no_wrap n count c r k le below h small within =
    let sum : count ≡ (count - n) + n = omega arith in
    let split : 2 ^ count ≡ 2 ^ (count - n) * 2 ^ n = ap (λ i. 2 ^ i) sum ∙ pow-add 2 (count - n) n in
    let parts = div-add-mod' c (2 ^ n) in
    let rest : c % 2 ^ n ≡ r =
    congruent_equal (2 ^ n) (c % 2 ^ n) r (congruent_then (2 ^ n) (c % 2 ^ n) c r (congruent_mod (2 ^ n) c) h) (mod_below c (2 ^ n) (pow_pos n)) small in
    let under = div_below c (2 ^ n) (2 ^ (count - n)) (pow_pos n) (subst (λ m. c < m) split below) in
    let next = mul-le (c / 2 ^ n + 1) (2 ^ n) (2 ^ (count - n)) (2 ^ n) (omega arith) (omega arith) in
    last (c / 2 ^ n) (2 ^ n) (2 ^ count) (c % 2 ^ n) parts rest (subst (λ m. (c / 2 ^ n + 1) * 2 ^ n ≤ m) (sym split) next) within
  where
    last : (q p m o : ℕ) → q * p + o ≡ c → o ≡ r → (q + 1) * p ≤ m → r + k < p → c + k < m
    last q p m o parts rest le within = omega arith

-- ---- signs

turned_sign : (a b : Bool) → same_sign a (not b) ≡ same_sign (not a) b
turned_sign true b = refl
turned_sign false true = refl
turned_sign false false = refl

or_comm : (a b : Bool) → (a || b) ≡ (b || a)
or_comm true true = refl
or_comm true false = refl
or_comm false true = refl
or_comm false false = refl

not_and : (a b : Bool) → not (a && b) ≡ (not a || not b)
not_and true b = refl
not_and false b = refl

not_true : (b : Bool) → not b ≡ true → b ≡ false
not_true true e = absurd (cc)
not_true false e = refl

same_not : (a b : Bool) → not a ≡ not b → a ≡ b
same_not true true e = refl
same_not false false e = refl
same_not true false e = absurd (cc)
same_not false true e = absurd (cc)

not_not : (a : Bool) → not (not a) ≡ a
not_not true = refl
not_not false = refl

module _ (assignment : Assignment) (assigns : IsAssignment assignment) where
  abbrev number : Term → ℕ
  number t = number_of_value (value assignment t)

  abbrev pv : Polynomial → ℕ
  pv p = polynomial_value assignment p

  abbrev AreTrue : List Term → Type 0
  AreTrue facts = AllByRecursion (λ t. value assignment t ≡ Truth true) facts

  own_sort : (x : Term) (w : Width) → sort_of x ≡ Some (sort.Word w) → sort_of x ≡ Some (sort.Word (width_of x))
  own_sort x w h = h ∙ ap (λ u. Some (sort.Word u)) (sym (width_is x w h))

  -- ---- differences

  difference_sum : (x y : Term) → are_words x y ≡ true → IsCongruent (2 ^ bits (width_of x)) (pv (difference x y) + number y) (number x)
  difference_sum x y h =
      let are = words_are assignment assigns x y h in
      congruent_then (2 ^ bits (width_of x)) (pv (difference x y) + number y) (pv (difference x y) + pv (polynomial y)) (number x)
      (congruent_plus (2 ^ bits (width_of x)) (pv (difference x y)) (pv (difference x y)) (number y) (pv (polynomial y)) (congruent_same (2 ^ bits (width_of x)) (pv (difference x y)) (pv (difference x y)) refl)
      (congruent_sym (2 ^ bits (width_of x)) (pv (polynomial y)) (number y) (word_low assignment assigns (width_of x) y are.second)))
      (congruent_then (2 ^ bits (width_of x)) (pv (difference x y) + pv (polynomial y)) (pv (polynomial x)) (number x) (minus_value assignment (bits (width_of x)) (polynomial x) (polynomial y))
      (word_low assignment assigns (width_of x) x are.first))

  -- y with n added is x
  record IsApart (x y : Term) (n : ℕ) : Type 0 where
    pub are : are_words x y ≡ true
    pub sum : IsCongruent (2 ^ bits (width_of x)) (number y + n) (number x)

  apart_is : (x y : Term) (n : ℕ) → constant_distance x y ≡ Some n → IsApart x y n
  apart_is x y n e =
      let passed = cond_some (are_words x y && is_empty (form_of (difference x y))) (constant_of (difference x y) % 2 ^ bits (width_of x)) n e in
      let both = and_parts (are_words x y) (is_empty (form_of (difference x y))) passed.0 in
      let whole : pv (difference x y) ≡ 0 + constant_of (difference x y) =
      sym (form_sum assignment assigns (difference x y)) ∙ ap (λ k. k + constant_of (difference x y)) (empty_value assignment assigns (form_of (difference x y)) both.1) in
      subst (IsApart x y) passed.1 (record {
        are = both.0;
        sum =
            congruent_then (2 ^ bits (width_of x)) (number y + constant_of (difference x y) % 2 ^ bits (width_of x)) (pv (difference x y) + number y) (number x)
            (congruent_then (2 ^ bits (width_of x)) (number y + constant_of (difference x y) % 2 ^ bits (width_of x)) (number y + constant_of (difference x y)) (pv (difference x y) + number y)
            (congruent_plus (2 ^ bits (width_of x)) (number y) (number y) (constant_of (difference x y) % 2 ^ bits (width_of x)) (constant_of (difference x y))
            (congruent_same (2 ^ bits (width_of x)) (number y) (number y) refl) (congruent_mod (2 ^ bits (width_of x)) (constant_of (difference x y))))
            (congruent_same (2 ^ bits (width_of x)) (number y + constant_of (difference x y)) (pv (difference x y) + number y) (swap (number y) (constant_of (difference x y)) (pv (difference x y)) whole)))
            (difference_sum x y both.0);
      })
    where
      swap : (a c p : ℕ) → p ≡ 0 + c → a + c ≡ p + a
      swap a c p e = omega arith

  -- the difference as a number
  abbrev distance_of : Term → Term → ℕ
  distance_of x y = pv (difference x y) % 2 ^ bits (width_of x)

  distance_below : (x y : Term) → distance_of x y < 2 ^ bits (width_of x)
  distance_below x y = mod_below (pv (difference x y)) (2 ^ bits (width_of x)) (pow_pos (bits (width_of x)))

  distance_adds : (x y : Term) → are_words x y ≡ true → IsCongruent (2 ^ bits (width_of x)) (distance_of x y + number y) (number x)
  distance_adds x y h =
      congruent_then (2 ^ bits (width_of x)) (distance_of x y + number y) (pv (difference x y) + number y) (number x)
      (congruent_plus (2 ^ bits (width_of x)) (distance_of x y) (pv (difference x y)) (number y) (number y) (congruent_mod (2 ^ bits (width_of x)) (pv (difference x y)))
      (congruent_same (2 ^ bits (width_of x)) (number y) (number y) refl))
      (difference_sum x y h)

  difference_in_range : (x y : Term) (n : ℕ) → in_range assignment assigns (difference_range x y n) ≡ nat_lt (distance_of x y) n
  difference_in_range x y n =
      below_is assignment assigns (bits (width_of x)) (difference x y) (distance_of x y) n
      (congruent_sym (2 ^ bits (width_of x)) (distance_of x y) (pv (difference x y)) (congruent_mod (2 ^ bits (width_of x)) (pv (difference x y)))) (distance_below x y)

  -- ---- words below a number

  as_inside_is : (r q : Range) (o : Option Range) → as_of r q ≡ o → IsKnownRange assignment assigns q → is_known_inside r o ≡ true → in_range assignment assigns r ≡ true
  as_inside_is r q (Some k) e known h =
      let read = as_of_is assignment assigns r q k known.fits e in
      inside_is assignment assigns (record { count = r.count; form = r.form; start = read.start; length = q.length }) r (subst (λ j. is_inside j r ≡ true) (sym read.is) h) refl refl (read.same ∙ known.inside)
  as_inside_is r q None e known h = absurd (cc)

  known_inside_is : (r : Range) (o : Option Range) → ((q : Range) → o ≡ Some q → IsKnownRange assignment assigns q) → is_known_inside r (option_and_then (as_of r) o) ≡ true
      → in_range assignment assigns r ≡ true
  known_inside_is r (Some q) known h = as_inside_is r q (as_of r q) refl (known q refl) h
  known_inside_is r None known h = absurd (cc)

  inside_by_is : (r : Range) (facts : List Term) → AreTrue facts → is_inside_by r facts ≡ true → in_range assignment assigns r ≡ true
  unfolding is_inside_by
  inside_by_is r [] are e = absurd (cc)
  inside_by_is r (fact ∷ facts) are e =
      either_test (is_known_inside r (option_and_then (as_of r) (range_of fact))) (is_inside_by r facts) e
      (λ h. known_inside_is r (range_of fact) (λ q d. fact_range assignment assigns fact q are.0 d) h)
      (λ h. inside_by_is r facts are.1 h)

  word_below_is : (facts : List Term) (x : Term) (n : ℕ) → AreTrue facts → sort_of x ≡ Some (sort.Word (width_of x)) → is_word_below facts x n ≡ true → number x < n
  word_below_is facts x n are hx e =
      either_test (nat_lt (bounds_of x).greatest n) (is_inside_by (below_range (bits (width_of x)) (polynomial x) n) facts) e
      (λ h.
      let l = ltb-true (bounds_of x).greatest n h in
      let b = (bounds_are assignment assigns x (width_of x) hx).greatest in
      omega arith)
      (λ h.
      let is = inside_by_is (below_range (bits (width_of x)) (polynomial x) n) facts are h in
      ltb-true (number x) n
      (sym (below_is assignment assigns (bits (width_of x)) (polynomial x) (number x) n (word_low assignment assigns (width_of x) x hx) (number_below assignment assigns (width_of x) x hx)) ∙ is))

  -- ---- two orders

  abbrev lt : Sides → Bool
  lt s = nat_lt (number s.left) (number s.right)

  record IsOrderWhere (holds : Bool) (t : Term) (o : Order) : Type 0 where
    pub truth : Bool
    pub value_is : value assignment t ≡ Truth truth
    pub are : are_words o.sides.left o.sides.right ≡ true
    pub says : same_sign holds truth ≡ same_sign o.holds (lt o.sides)

  order_with_is : (holds : Bool) (t : Term) (o : Order) → order_with holds (order_of t) ≡ Some o → IsOrderWhere holds t o
  order_with_is holds t o e = by (order_of t) refl e
    where
      by : (p : Option Sides) → order_of t ≡ p → order_with holds p ≡ Some o → IsOrderWhere holds t o
      by (Some s) d f =
          let is = order_is assignment assigns t s d in
          subst (IsOrderWhere holds t) (same_Some (record { sides = s; holds = holds }) o f) (record {
            truth = lt s;
            value_is = order_value assignment assigns t s is;
            are = is.are;
            says = refl;
          })
      by None d f = absurd (cc)

  order_where_is : (holds : Bool) (t : Term) (o : Order) → order_where holds t ≡ Some o → IsOrderWhere holds t o
  unfolding order_where
  order_where_is holds (Unary unary.Not x) o e =
      let is = order_where_is (not holds) x o e in
      record {
        truth = not is.truth;
        value_is = not_value assignment assigns x is.truth is.value_is;
        are = is.are;
        says = turned_sign holds is.truth ∙ is.says;
      }
  order_where_is holds t o e = order_with_is holds t o e

  record IsEither (holds : Bool) (t : Term) (e : Either) : Type 0 where
    pub truth : Bool
    pub value_is : value assignment t ≡ Truth truth
    pub first_are : are_words e.first.left e.first.right ≡ true
    pub second_are : are_words e.second.left e.second.right ≡ true
    pub says : same_sign holds truth ≡ (lt e.first || not (lt e.second))

  record ArePaired (o p : Order) (e : Either) : Type 0 where
    pub first_are : are_words e.first.left e.first.right ≡ true
    pub second_are : are_words e.second.left e.second.right ≡ true
    pub says : (same_sign o.holds (lt o.sides) || same_sign p.holds (lt p.sides)) ≡ (lt e.first || not (lt e.second))

  paired : (o p : Order) (q : Either) → are_words o.sides.left o.sides.right ≡ true → are_words p.sides.left p.sides.right ≡ true → either_order o p ≡ Some q → ArePaired o p q
  paired o p q of_o of_p e = first (o.holds && not p.holds) refl e
    where
      second : (test : Bool) → (p.holds && not o.holds) ≡ test → cond test (Some (record { first = p.sides; second = o.sides })) None ≡ Some q → ArePaired o p q
      second true h d =
          let both = and_parts p.holds (not o.holds) h in
          subst (ArePaired o p) (same_Some (record { first = p.sides; second = o.sides }) q d) (record {
            first_are = of_p;
            second_are = of_o;
            says =
                ap (λ b. same_sign b (lt o.sides) || same_sign p.holds (lt p.sides)) (not_true o.holds both.1) ∙ ap (λ b. not (lt o.sides) || same_sign b (lt p.sides)) both.0
                ∙ or_comm (not (lt o.sides)) (lt p.sides);
          })
      second false h d = absurd (cc)

      first : (test : Bool) → (o.holds && not p.holds) ≡ test
          → cond test (Some (record { first = o.sides; second = p.sides })) (cond (p.holds && not o.holds) (Some (record { first = p.sides; second = o.sides })) None) ≡ Some q → ArePaired o p q
      first true h d =
          let both = and_parts o.holds (not p.holds) h in
          subst (ArePaired o p) (same_Some (record { first = o.sides; second = p.sides }) q d) (record {
            first_are = of_o;
            second_are = of_p;
            says =
                ap (λ b. same_sign b (lt o.sides) || same_sign p.holds (lt p.sides)) both.0 ∙ ap (λ b. lt o.sides || same_sign b (lt p.sides)) (not_true p.holds both.1);
          })
      first false h d = second (p.holds && not o.holds) refl d

  -- what both arguments of an `or` or an `and` say
  pair_is : (holds : Bool) (t x y : Term) (e : Either) → ((a b : Bool) → value assignment x ≡ Truth a → value assignment y ≡ Truth b
      → (c : Bool) × (value assignment t ≡ Truth c) × (same_sign holds c ≡ (same_sign holds a || same_sign holds b)))
      → either_of (order_where holds x) (order_where holds y) ≡ Some e → IsEither holds t e
  pair_is holds t x y e f h = by (order_where holds x) refl (order_where holds y) refl h
    where
      by : (o : Option Order) → order_where holds x ≡ o → (p : Option Order) → order_where holds y ≡ p → either_of o p ≡ Some e → IsEither holds t e
      by (Some o) d (Some p) g k =
          let hx = order_where_is holds x o d in
          let hy = order_where_is holds y p g in
          let is = paired o p e hx.are hy.are k in
          let both = f hx.truth hy.truth hx.value_is hy.value_is in
          record {
            truth = both.0;
            value_is = both.1;
            first_are = is.first_are;
            second_are = is.second_are;
            says =
                both.2 ∙ ap (λ b. b || same_sign holds hy.truth) hx.says ∙ ap (λ b. same_sign o.holds (lt o.sides) || b) hy.says ∙ is.says;
          }
      by (Some o) d None g k = absurd (cc)
      by None d p g k = absurd (cc)

  either_where_is : (holds : Bool) (t : Term) (e : Either) → either_where holds t ≡ Some e → IsEither holds t e
  unfolding either_where
  either_where_is holds (Unary unary.Not x) e h =
      let is = either_where_is (not holds) x e h in
      record {
        truth = not is.truth;
        value_is = not_value assignment assigns x is.truth is.value_is;
        first_are = is.first_are;
        second_are = is.second_are;
        says = turned_sign holds is.truth ∙ is.says;
      }
  either_where_is true (Binary binary.Or x y) e h = pair_is true (Binary binary.Or x y) x y e (λ a b va vb. (a || b, or_value assignment assigns x y a b va vb, refl)) h
  either_where_is false (Binary binary.And x y) e h = pair_is false (Binary binary.And x y) x y e (λ a b va vb. (a && b, and_value assignment assigns x y a b va vb, not_and a b)) h
  either_where_is true t e h = absurd (cc)
  either_where_is false t e h = absurd (cc)

  -- ---- `zone`

  fits_minus : (m n k : ℕ) → m - n - k ≤ m
  fits_minus m n k = omega arith

  adds_is : (facts : List Term) (x : Term) (k : ℕ) → AreTrue facts → sort_of x ≡ Some (sort.Word (width_of x))
      → adds_within k (low_of (bits (width_of x)) (known_forms x facts) (polynomial x)) ≡ true → number x + k < 2 ^ bits (width_of x)
  adds_is facts x k are hx e =
      let a = low_of (bits (width_of x)) (known_forms x facts) (polynomial x) in
      let f = low_of_form (bits (width_of x)) (known_forms x facts) (form_of (polynomial x)) in
      let below = number_below assignment assigns (width_of x) x hx in
      either_test (k == 0) (nat_lt (a.rest + k) (2 ^ a.count)) e
      (λ h. let none = eqb-true k 0 h in omega arith)
      (λ h.
      let short : min f.count (bits (width_of x)) ≤ bits (width_of x) = min_short f.count (bits (width_of x)) in
      no_wrap a.count (bits (width_of x)) (number x) a.rest k short below
      (congruent_then (2 ^ a.count) (number x) (pv (polynomial x)) a.rest
      (lower a.count (bits (width_of x)) (number x) (pv (polynomial x)) short
      (congruent_sym (2 ^ bits (width_of x)) (pv (polynomial x)) (number x) (word_low assignment assigns (width_of x) x hx)))
      (low_is assignment assigns (bits (width_of x)) (known_forms x facts) (forms_known assignment assigns x facts are) (polynomial x)))
      (mod_below (f.rest + constant_of (polynomial x)) (2 ^ a.count) (pow_pos a.count))
      (ltb-true (a.rest + k) (2 ^ a.count) h))
    where
      min_short : (a b : ℕ) → min a b ≤ b
      min_short a b = omega arith

  zone_at_is : (facts : List Term) (e : Either) (k s : ℕ) (r : Range) → AreTrue facts → are_words e.second.left e.second.right ≡ true → (lt e.first || not (lt e.second)) ≡ true
      → IsApart e.first.left e.second.left k → IsApart e.second.right e.first.right s → zone_at facts e k s ≡ Some r → IsKnownRange assignment assigns r
  zone_at_is facts e k s r are second_are says apart_k apart_s h =
      let passed = cond_some _ (difference_range e.second.left e.second.right (2 ^ bits (width_of e.second.left) - s - k)) r h in
      let one = and_parts (nat_lt (s + k) (2 ^ bits (width_of e.second.left))) _ passed.0 in
      let two = and_parts (is_word_below facts e.first.right (2 ^ bits (width_of e.second.left) - s)) _ one.1 in
      let of_cd = words_are assignment assigns e.second.left e.second.right second_are in
      let of_ac = words_are assignment assigns e.first.left e.second.left apart_k.are in
      let of_db = words_are assignment assigns e.second.right e.first.right apart_s.are in
      let wide_a : width_of e.first.left ≡ width_of e.second.left = sym (width_is e.second.left (width_of e.first.left) of_ac.second) in
      let wide_d : width_of e.second.right ≡ width_of e.second.left = width_is e.second.right (width_of e.second.left) of_cd.second in
      let sort_a : sort_of e.first.left ≡ Some (sort.Word (width_of e.second.left)) = of_ac.first ∙ ap (λ w. Some (sort.Word w)) wide_a in
      let below_a = number_below assignment assigns (width_of e.second.left) e.first.left sort_a in
      let below_d = number_below assignment assigns (width_of e.second.left) e.second.right of_cd.second in
      let below_b = word_below_is facts e.first.right (2 ^ bits (width_of e.second.left) - s) are (own_sort e.first.right (width_of e.second.right) of_db.second) two.0 in
      let below_c = adds_is facts e.second.left k are of_cd.first two.1 in
      let small = ltb-true (s + k) (2 ^ bits (width_of e.second.left)) one.0 in
      let sum_a = subst (λ w. IsCongruent (2 ^ bits w) (number e.second.left + k) (number e.first.left)) wide_a apart_k.sum in
      let sum_d = subst (λ w. IsCongruent (2 ^ bits w) (number e.first.right + s) (number e.second.right)) wide_d apart_s.sum in
      let is_a = sym (congruent_equal (2 ^ bits (width_of e.second.left)) (number e.second.left + k) (number e.first.left) sum_a below_c below_a) in
      let is_d = sym (congruent_equal (2 ^ bits (width_of e.second.left)) (number e.first.right + s) (number e.second.right) sum_d (omega arith) below_d) in
      subst (IsKnownRange assignment assigns) passed.1 (record {
        fits = fits_minus (2 ^ bits (width_of e.second.left)) s k;
        inside =
            difference_in_range e.second.left e.second.right (2 ^ bits (width_of e.second.left) - s - k)
            ∙ lt-ltb (distance_of e.second.left e.second.right) (2 ^ bits (width_of e.second.left) - s - k)
            (zone_number (2 ^ bits (width_of e.second.left)) (number e.first.left) (number e.first.right) (number e.second.left) (number e.second.right) k s (distance_of e.second.left e.second.right) is_a is_d small below_d
            below_a (distance_below e.second.left e.second.right) (distance_adds e.second.left e.second.right second_are) says);
      })

  zone_of_is : (facts : List Term) (e : Either) (r : Range) → AreTrue facts → are_words e.second.left e.second.right ≡ true → (lt e.first || not (lt e.second)) ≡ true
      → zone_of facts e ≡ Some r → IsKnownRange assignment assigns r
  zone_of_is facts e r are second_are says h = by (constant_distance e.first.left e.second.left) refl h
    where
      then : (k : ℕ) → constant_distance e.first.left e.second.left ≡ Some k → (o : Option ℕ) → constant_distance e.second.right e.first.right ≡ o → option_and_then (zone_at facts e k) o ≡ Some r
          → IsKnownRange assignment assigns r
      then k d (Some s) f g = zone_at_is facts e k s r are second_are says (apart_is e.first.left e.second.left k d) (apart_is e.second.right e.first.right s f) g
      then k d None f g = absurd (cc)

      by : (o : Option ℕ) → constant_distance e.first.left e.second.left ≡ o → option_and_then (λ k. option_and_then (zone_at facts e k) (constant_distance e.second.right e.first.right)) o ≡ Some r
          → IsKnownRange assignment assigns r
      by (Some k) d g = then k d (constant_distance e.second.right e.first.right) refl g
      by None d g = absurd (cc)

  -- what a fact says, as two orders
  fact_zone : (facts : List Term) (fact : Term) (r : Range) → AreTrue facts → value assignment fact ≡ Truth true → option_and_then (zone_of facts) (either_where true fact) ≡ Some r
      → IsKnownRange assignment assigns r
  fact_zone facts fact r are v h = by (either_where true fact) refl h
    where
      by : (o : Option Either) → either_where true fact ≡ o → option_and_then (zone_of facts) o ≡ Some r → IsKnownRange assignment assigns r
      by (Some e) d g =
          let is = either_where_is true fact e d in
          let holds = truth_is assignment assigns is.truth (sym is.value_is ∙ v) in
          zone_of_is facts e r are is.second_are (sym is.says ∙ holds) g
      by None d g = absurd (cc)

  pub zone_sound : (facts : List Term) (x : Term) → AreTrue facts → says_zone facts x ≡ true → value assignment x ≡ Truth true
  unfolding says_zone
  zone_sound [] x are e = absurd (cc)
  zone_sound (fact ∷ facts) x are e = by (range_of x) refl e
    where
      by : (o : Option Range) → range_of x ≡ o → is_zone o (option_and_then (zone_of facts) (either_where true fact)) ≡ true → value assignment x ≡ Truth true
      by (Some r) d h =
          (reading_is assignment assigns x r d).value_is
          ∙ ap Truth (known_inside_is r (option_and_then (zone_of facts) (either_where true fact)) (λ q f. fact_zone facts fact q are.1 are.0 f) h)
      by None d h = absurd (cc)

  -- ---- `within`

  record IsWindow (e : Either) (r : Range) : Type 0 where
    pub fits : r.length ≤ 2 ^ r.count
    pub same : in_range assignment assigns r ≡ not (lt e.first || not (lt e.second))

  window_at_is : (facts : List Term) (e : Either) (s : ℕ) (r : Range) → AreTrue facts → are_words e.first.left e.first.right ≡ true → IsApart e.second.right e.first.right s
      → window_at facts e s ≡ Some r → IsWindow e r
  window_at_is facts e s r are first_are apart h =
      let passed = cond_some _ (difference_range e.first.left e.first.right s) r h in
      let one = and_parts (are_one_word e.first.left e.second.left) _ passed.0 in
      let same = and_parts (are_words e.first.left e.second.left) (is_empty (difference e.first.left e.second.left)) one.0 in
      let of_al = words_are assignment assigns e.first.left e.first.right first_are in
      let of_hl = words_are assignment assigns e.second.right e.first.right apart.are in
      let wide : width_of e.second.right ≡ width_of e.first.left = sym (width_is e.first.right (width_of e.second.right) of_hl.second) ∙ width_is e.first.right (width_of e.first.left) of_al.second in
      let sort_h : sort_of e.second.right ≡ Some (sort.Word (width_of e.first.left)) = of_hl.first ∙ ap (λ w. Some (sort.Word w)) wide in
      let below_a = number_below assignment assigns (width_of e.first.left) e.first.left of_al.first in
      let below_h = number_below assignment assigns (width_of e.first.left) e.second.right sort_h in
      let below_l = word_below_is facts e.first.right (2 ^ bits (width_of e.first.left) - s) are (own_sort e.first.right (width_of e.first.left) of_al.second) one.1 in
      let sum_h = subst (λ w. IsCongruent (2 ^ bits w) (number e.first.right + s) (number e.second.right)) wide apart.sum in
      let is_h = sym (congruent_equal (2 ^ bits (width_of e.first.left)) (number e.first.right + s) (number e.second.right) sum_h (omega arith) below_h) in
      let one_number : number e.first.left ≡ number e.second.left = ap number_of_value (words_sound assignment assigns e.first.left e.second.left same.0 same.1) in
      subst (IsWindow e) passed.1 (record {
        fits = short (2 ^ bits (width_of e.first.left)) (number e.first.right) s below_l;
        same =
            difference_in_range e.first.left e.first.right s
            ∙ window_number (2 ^ bits (width_of e.first.left)) (number e.first.left) (number e.first.right) (number e.second.right) s (distance_of e.first.left e.first.right) is_h below_h below_a
            (distance_below e.first.left e.first.right) (distance_adds e.first.left e.first.right first_are)
            ∙ ap (λ n. not (lt e.first || not (nat_lt n (number e.second.right)))) one_number;
      })
    where
      short : (m l s : ℕ) → l < m - s → s ≤ m
      short m l s below = omega arith

  window_of_is : (facts : List Term) (e : Either) (r : Range) → AreTrue facts → are_words e.first.left e.first.right ≡ true → window_of facts e ≡ Some r → IsWindow e r
  window_of_is facts e r are first_are h = by (constant_distance e.second.right e.first.right) refl h
    where
      by : (o : Option ℕ) → constant_distance e.second.right e.first.right ≡ o → option_and_then (window_at facts e) o ≡ Some r → IsWindow e r
      by (Some s) d g = window_at_is facts e s r are first_are (apart_is e.second.right e.first.right s d) g
      by None d g = absurd (cc)

  record IsWindowWhere (holds : Bool) (x : Term) (r : Range) : Type 0 where
    pub fits : r.length ≤ 2 ^ r.count
    pub truth : Bool
    pub value_is : value assignment x ≡ Truth truth
    pub same : same_sign holds truth ≡ not (in_range assignment assigns r)

  window_where_is : (holds : Bool) (facts : List Term) (x : Term) (r : Range) → AreTrue facts → window_where holds facts x ≡ Some r → IsWindowWhere holds x r
  window_where_is holds facts x r are h = by (either_where holds x) refl h
    where
      by : (o : Option Either) → either_where holds x ≡ o → option_and_then (window_of facts) o ≡ Some r → IsWindowWhere holds x r
      by (Some e) d g =
          let is = either_where_is holds x e d in
          let window = window_of_is facts e r are is.first_are g in
          record {
            fits = window.fits;
            truth = is.truth;
            value_is = is.value_is;
            same = is.says ∙ sym (not_not (lt e.first || not (lt e.second))) ∙ ap not (sym window.same);
          }
      by None d g = absurd (cc)

  window_range_is : (facts : List Term) (x : Term) (r : Range) → AreTrue facts → window_range facts x ≡ Some r → IsReading assignment assigns x r
  window_range_is facts x r are h = by (window_where true facts x) refl h
    where
      other : window_where false facts x ≡ Some r → IsReading assignment assigns x r
      other d =
          let is = window_where_is false facts x r are d in
          record { fits = is.fits; value_is = is.value_is ∙ ap Truth (same_not is.truth (in_range assignment assigns r) is.same) }

      by : (o : Option Range) → window_where true facts x ≡ o → else_range (option_map outside o) (window_where false facts x) ≡ Some r → IsReading assignment assigns x r
      by (Some k) d g =
          let is = window_where_is true facts x k are d in
          subst (IsReading assignment assigns x) (same_Some (outside k) r g) (record {
            fits = fits_minus_one (2 ^ k.count) k.length;
            value_is = is.value_is ∙ ap Truth (is.same ∙ sym (outside_is assignment assigns k is.fits));
          })
        where
          fits_minus_one : (m n : ℕ) → m - n ≤ m
          fits_minus_one m n = omega arith
      by None d g = other g

  by_window : (facts : List Term) (fact x : Term) (constant : Atom) → AreTrue facts → value assignment fact ≡ Truth true → decided_by_window facts fact x ≡ Some constant
      → value assignment x ≡ value assignment (Leaf constant)
  by_window facts fact x constant are v h = by (window_range facts x) refl h
    where
      by : (o : Option Range) → window_range facts x ≡ o → option_and_then (decided_with (fact ∷ [])) o ≡ Some constant → value assignment x ≡ value assignment (Leaf constant)
      by (Some r) d g =
          let is = window_range_is facts x r are d in
          is.value_is ∙ decided_with_is assignment assigns (fact ∷ []) r constant (v, tt) is.fits g
      by None d g = absurd (cc)

  pub decided_within_sound : (facts : List Term) (x : Term) (constant : Atom) → AreTrue facts → decided_within facts x ≡ Some constant → value assignment x ≡ value assignment (Leaf constant)
  unfolding decided_within
  decided_within_sound [] x constant are e = absurd (cc)
  decided_within_sound (fact ∷ []) x constant are e = by_window [] fact x constant tt are.0 e
  decided_within_sound (low ∷ fact ∷ []) x constant are e = by_window (low ∷ []) fact x constant (are.0, tt) are.1.0 e
  decided_within_sound (a ∷ b ∷ c ∷ facts) x constant are e = absurd (cc)
