-- What the rule `quot` accepts has one value.
use Rattle.std.proofs.Common.{◌≡◌, ℕ, zero, suc, ◌+◌, ◌-◌, ◌*◌, ◌/◌, ◌%◌, ◌^◌, ◌<◌, ◌≤◌, Bool, true, false, cond, List, [], ◌∷◌, Option, Some, None, option_and_then, ◌⊎◌, inl, inr, refl, sym, ap, ◌∙◌, subst, arith, eqb-true, ltb-true, leb-true, ne_eqb, div-one}
use Rattle.std.specs.Prelude.{◌==◌, ◌&&◌, nat_lt, nat_le, min, bit_and, bit_or}
use Rattle.std.specs.List.{AllByRecursion}
use Rattle.std.specs.Int.Bits.{or_shifted_r}
use Rattle.std.proofs.lemmas.Bool.{and_parts, lt-ltb, cases_lt}
use Rattle.std.proofs.lemmas.Option.{same_Some, cond_some}
use Rattle.std.proofs.lemmas.Nat.{pow_pos, pow-add, mul-le, div_below, and_mask, shr-shr, div-add-mod'}
use Rattle.std.proofs.Math.Nat.{div-div-eq-div-mul, mul-div_cancel}
use Rattle.term_core_spec.specs.declared.Width.{Width}
use Rattle.term_core_spec.specs.declared.Width.TheVariants.{W32, W64}
use Rattle.term_core_spec.specs.declared.Sort.{Sort}
use Rattle.term_core_spec.specs.declared.Sort.TheVariants as sort
use Rattle.term_core_spec.specs.declared.WordOperator.{WordOperator}
use Rattle.term_core_spec.specs.declared.WordOperator.TheVariants as word
use Rattle.term_core_spec.specs.declared.BinaryOperator.TheVariants as binary
use Rattle.term_core_spec.specs.declared.QuaternaryOperator.TheVariants as quaternary
use Rattle.term_core_spec.specs.Term.{Term, Binary, Quaternary, constant, equal, less, zero_extend, low, on_words}
use Rattle.term_core_spec.specs.Sort.{sort_of}
use Rattle.term_core_spec.specs.Value.{Truth, Number, Assignment, IsAssignment, value, unary_value, operation}
use Rattle.term_core_spec.specs.Same.{same_term}
use Rattle.term_core_spec.proofs.Same.{same_is}
use Rattle.term_core_spec.proofs.Sorts.{same_sort-true}
use Rattle.term_norm_spec.specs.Patterns.{width_of, width_of_sort, is_constant, number_of}
use Rattle.term_norm_spec.proofs.Numbers.{mod-small}
use Rattle.term_norm_spec.proofs.Keeps.{sort-constant, constant_sorted, value-constant}
use Rattle.term_norm_spec.proofs.Equals.{Alike, truths, words, alike_of, value-equal_words}
use Rattle.term_norm_spec.proofs.Cuts.{low_of}
use Rattle.term_norm_spec.proofs.Words.{words_of, word_of, sort-words, sort-less}
use Rattle.word_steps_spec.specs.Numbers.{has_sort}
use Rattle.word_steps_spec.specs.Polynomial.{Polynomial, minus, is_empty, number_of_value, polynomial_value}
use Rattle.word_steps_spec.specs.Sides.{are_words, Sides}
use Rattle.word_steps_spec.specs.Ring.{polynomial}
use Rattle.word_steps_spec.specs.Bitwise.{have_same_bits}
use Rattle.word_steps_spec.specs.Order.{order_of}
use Rattle.word_steps_spec.specs.LowBits.{form_of, constant_of, zeros}
use Rattle.word_steps_spec.specs.Ranges.{Range, distance, opposite, as_of, below_range, range_of}
use Rattle.word_steps_spec.specs.Quotients.{is_word32, number32, is_number32, greatest_in, greatest_known, greatest_by, greatest_of, Floor, if_fits, or_itself, shifted_floor, product_floor, is_rest, under_half, halved_floor_of, else_floor, under_byte, is_upper_half, wide_product, upper_floor_of, upper_floor, floor_of, is_quotient, is_quotient_of, moved, some_below, is_shifted_quotient, is_division, is_nested_division, is_mask_for, is_written, turned, under_turn, is_inverse_product, is_turned_product, is_turned_inverse, tests_divisor, under_remainder, divided_of, is_divisor_test}
use Rattle.word_steps_spec.proofs.Congruence.{IsCongruent, congruent_equal}
use Rattle.word_steps_spec.proofs.Polynomials.{minus_value}
use Rattle.word_steps_spec.proofs.CommHolds.{either_test, word_made}
use Rattle.word_steps_spec.proofs.BitsHold.{number_below, number_is_known}
use Rattle.word_steps_spec.proofs.RingSound.{words_are}
use Rattle.word_steps_spec.proofs.BitsSound.{words_same}
use Rattle.word_steps_spec.proofs.BoundsHold.{bounds_are, IsOrder, order_is, order_value}
use Rattle.word_steps_spec.proofs.LowBitsHold.{form_sum, one_form_value, word_low, zeros_divide}
use Rattle.word_steps_spec.proofs.Distances.{distance_sum, among}
use Rattle.word_steps_spec.proofs.RangesHold.{as_of_is, IsKnownRange, fact_range}
use Rattle.word_steps_spec.proofs.QuotientNumbers.{quotient_by_floor, halved_floor_is, floor_short, moved_up_low, divisor_test}

-- ---- numbers

-- f + a is n, and f one of s, .., s + l - 1
greatest_number : (s l f a n : ℕ) → among 32 s l f ≡ true → IsCongruent (2 ^ 32) (f + a) n → n < 2 ^ 32
    → n ≤ cond (nat_le (distance 32 (opposite 32 a) s + l) (2 ^ 32)) (distance 32 (opposite 32 a) s + l - 1) (2 ^ 32 - 1)
greatest_number s l f a n e h below = by (nat_le (distance 32 (opposite 32 a) s + l) (2 ^ 32)) refl
  where
    far : (o t u : ℕ) → IsCongruent (2 ^ 32) (s + o) f → IsCongruent (2 ^ 32) (a + t) 0 → IsCongruent (2 ^ 32) (t + u) s → IsCongruent (2 ^ 32) (u + o) n
    far o t u g1 g2 g3 =
        let e1 = h.same in
        let e2 = g1.same in
        let e3 = g2.same in
        let e4 = g3.same in
        record {
          first = h.first + g1.first + g2.second + g3.first;
          second = h.second + g1.second + g2.first + g3.second;
          same = omega arith;
        }

    by : (test : Bool) → nat_le (distance 32 (opposite 32 a) s + l) (2 ^ 32) ≡ test → n ≤ cond test (distance 32 (opposite 32 a) s + l - 1) (2 ^ 32 - 1)
    by true d =
        let le = leb-true (distance 32 (opposite 32 a) s + l) (2 ^ 32) d in
        let less = ltb-true (distance 32 s f) l e in
        let is =
        congruent_equal (2 ^ 32) (distance 32 (opposite 32 a) s + distance 32 s f) n
        (far (distance 32 s f) (opposite 32 a) (distance 32 (opposite 32 a) s) (distance_sum 32 s f) (distance_sum 32 a 0) (distance_sum 32 (opposite 32 a) s)) (omega arith) below in
        omega arith
    by false d = omega arith

some_below_is : (count : ℕ) (test : ℕ → Bool) → some_below count test ≡ true → (k : ℕ) × (k < count) × (test k ≡ true)
unfolding some_below
some_below_is zero test e = absurd (cc)
some_below_is (suc k) test e = either_test (test k) (some_below k test) e (λ h. (k, omega arith, h)) (λ h. let is = some_below_is k test h in (is.0, omega (arith, is.1), is.2))

positive_product : (a b : ℕ) → 0 < a * b → (0 < a) × (0 < b)
positive_product zero b l = absurd (omega arith)
positive_product (suc a) zero l = absurd (nothing a l)
  where
    nothing : (a : ℕ) → 0 < suc a * 0 → ⊥
    nothing a l = omega arith
positive_product (suc a) (suc b) l = (omega arith, omega arith)

-- n is a multiple of p
multiple_of : (n p : ℕ) → n % p ≡ 0 → p * (n / p) ≡ n
multiple_of n p e = let parts = div-add-mod' n p in swap p (n / p) ∙ sym (plain (n / p * p)) ∙ ap (λ r. n / p * p + r) (sym e) ∙ parts
  where
    swap : (a b : ℕ) → a * b ≡ b * a
    swap a b = omega arith

    plain : (a : ℕ) → a + 0 ≡ a
    plain a = omega arith

module _ (assignment : Assignment) (assigns : IsAssignment assignment) where
  abbrev number : Term → ℕ
  number t = number_of_value (value assignment t)

  abbrev pv : Polynomial → ℕ
  pv p = polynomial_value assignment p

  abbrev AreTrue : List Term → Type 0
  AreTrue facts = AllByRecursion (λ t. value assignment t ≡ Truth true) facts

  abbrev pub IsWord : Term → Type 0
  IsWord t = sort_of t ≡ Some (sort.Word W32)

  -- ---- sorts and constants

  pub word32 : (t : Term) → is_word32 t ≡ true → IsWord t
  word32 t e = by (sort_of t) refl e
    where
      by : (o : Option Sort) → sort_of t ≡ o → has_sort o (sort.Word W32) ≡ true → IsWord t
      by (Some s) d f = d ∙ ap Some (same_sort-true s (sort.Word W32) f)
      by None d f = absurd (cc)

  pub arguments : (o : WordOperator) (w : Width) (x y : Term) → sort_of (on_words o x y) ≡ Some (sort.Word w) → (sort_of x ≡ Some (sort.Word w)) × (sort_of y ≡ Some (sort.Word w))
  arguments o w x y h =
      let is = words_of o x y (sort.Word w) h in
      let one : is.0 ≡ w = sym (ap width_of_sort is.1) in
      (subst (λ u. sort_of x ≡ Some (sort.Word u)) one is.2, subst (λ u. sort_of y ≡ Some (sort.Word u)) one is.3)

  pub made : (o : WordOperator) (x y : Term) → IsWord (on_words o x y) → number (on_words o x y) ≡ operation o 32 (number x) (number y)
  made o x y h = let are = arguments o W32 x y h in word_made assignment assigns W32 o x y are.0 are.1

  pub known : (y : Term) → IsWord y → is_constant y ≡ true → number y ≡ number_of y
  known y h e = number_is_known assignment assigns W32 y h e

  pub number32_is : (t : Term) (n : ℕ) → is_number32 t n ≡ true → number t ≡ n
  number32_is t n e = ap number (same_is t (number32 n) e) ∙ ap number_of_value (value-constant assignment W32 n)

  pub below32 : (t : Term) → IsWord t → number t < 2 ^ 32
  below32 t h = number_below assignment assigns W32 t h

  pub same_number : (t u : Term) → same_term t u ≡ true → number t ≡ number u
  same_number t u e = ap number (same_is t u e)

  -- ---- the greatest value

  within_range : (x : Term) → IsWord x → (q : Range) → IsKnownRange assignment assigns q → (o : Option Range) → as_of (below_range 32 (polynomial x) 0) q ≡ o → number x ≤ greatest_known x o
  within_range x hx q is (Some k) e =
      let read = as_of_is assignment assigns (below_range 32 (polynomial x) 0) q k is.fits e in
      let sum = subst (λ n. IsCongruent (2 ^ 32) n (number x)) (sym (form_sum assignment assigns (polynomial x))) (word_low assignment assigns W32 x hx) in
      subst (λ j. number x ≤ greatest_in x j) read.is
      (greatest_number read.start q.length (pv (form_of (polynomial x))) (constant_of (polynomial x)) (number x) (read.same ∙ is.inside) sum (below32 x hx))
  within_range x hx q is None e = let below = below32 x hx in omega arith

  within_fact : (x fact : Term) → IsWord x → value assignment fact ≡ Truth true → number x ≤ greatest_by x fact
  within_fact x fact hx h = by (range_of fact) refl
    where
      by : (o : Option Range) → range_of fact ≡ o → number x ≤ greatest_known x (option_and_then (as_of (below_range 32 (polynomial x) 0)) o)
      by (Some q) d = within_range x hx q (fact_range assignment assigns fact q h d) (as_of (below_range 32 (polynomial x) 0) q) refl
      by None d = let below = below32 x hx in omega arith

  greatest_is : (facts : List Term) (x : Term) → AreTrue facts → IsWord x → number x ≤ greatest_of facts x
  unfolding greatest_of
  greatest_is [] x are hx = (bounds_are assignment assigns x W32 hx).greatest
  greatest_is (fact ∷ facts) x are hx = least (number x) (greatest_by x fact) (greatest_of facts x) (within_fact x fact hx are.0) (greatest_is facts x are.1 hx)
    where
      least : (n a b : ℕ) → n ≤ a → n ≤ b → n ≤ min a b
      least n a b h g = omega arith

  -- ---- the upper half of a word of 64 bits

  low_half : (u : Term) (w : Width) (n : ℕ) → value assignment u ≡ Number w n → number (low W32 u) ≡ n % 2 ^ 32
  unfolding value unary_value
  low_half u w n e = rw e refl

  pub upper_half_is : (t h : Term) → is_upper_half t h ≡ true → (sort_of h ≡ Some (sort.Word W64)) × (number t ≡ number h / 2 ^ 32 % 2 ^ 32)
  unfolding operation
  upper_half_is t h e =
      let both = and_parts (are_words t (low W32 (on_words word.ShiftRight h (constant W64 32)))) _ e in
      let are = words_are assignment assigns t (low W32 (on_words word.ShiftRight h (constant W64 32))) both.0 in
      let resized = low_of W32 (on_words word.ShiftRight h (constant W64 32)) (sort.Word (width_of t)) are.second in
      let parts = arguments word.ShiftRight resized.0.from h (constant W64 32) resized.0.sorted in
      let wide : W64 ≡ resized.0.from = (constant_sorted W64 32 resized.0.from parts.1).0 in
      let hh : sort_of h ≡ Some (sort.Word W64) = subst (λ w. sort_of h ≡ Some (sort.Word w)) (sym wide) parts.0 in
      let hk : sort_of (constant W64 32) ≡ Some (sort.Word W64) = subst (λ w. sort_of (constant W64 32) ≡ Some (sort.Word w)) (sym wide) parts.1 in
      let hs = sort-words word.ShiftRight W64 h (constant W64 32) hh hk in
      let vs = word_of assignment assigns W64 (on_words word.ShiftRight h (constant W64 32)) hs in
      let s_is : vs.0 ≡ number h / 2 ^ 32 =
      sym (ap number_of_value vs.1) ∙ word_made assignment assigns W64 word.ShiftRight h (constant W64 32) hh hk
      ∙ ap (λ n. cond (nat_lt n 64) (number h / 2 ^ n) 0) (ap number_of_value (value-constant assignment W64 32)) in (
        hh,
        ap number_of_value (words_same assignment assigns t (low W32 (on_words word.ShiftRight h (constant W64 32))) e)
            ∙ low_half (on_words word.ShiftRight h (constant W64 32)) W64 vs.0 vs.1 ∙ ap (λ n. n % 2 ^ 32) s_is,
      )

  -- ---- scaled floors

  module _ (g : ℕ) (x : Term) (hx : IsWord x) (within : number x ≤ g) where
    abbrev IsFloor : Term → Floor → Type 0
    IsFloor t f = number t ≡ number x * f.multiplier / 2 ^ f.shift

    whole : (n : ℕ) → n ≡ n / 1
    whole n = sym (div-one n)

    itself_is : (t : Term) (o : Option Floor) (f : Floor) → (o ≡ Some f → IsFloor t f) → or_itself x t o ≡ Some f → IsFloor t f
    itself_is t o f h e = by (same_term t x) refl e
      where
        once : (n : ℕ) → n ≡ n * 1
        once n = omega arith

        by : (test : Bool) → same_term t x ≡ test → cond test (Some (record { multiplier = 1; shift = 0 })) o ≡ Some f → IsFloor t f
        by true d k = subst (IsFloor t) (same_Some (record { multiplier = 1; shift = 0 }) f k) (same_number t x d ∙ once (number x) ∙ whole (number x * 1))
        by false d k = h k

    -- a product with what is at most g
    fitting : (f : Floor) → nat_lt (g * f.multiplier) (2 ^ (32 + f.shift)) ≡ true → number x * f.multiplier < 2 ^ (32 + f.shift)
    fitting f e =
        let below = ltb-true (g * f.multiplier) (2 ^ (32 + f.shift)) e in
        let le = mul-le (number x) f.multiplier g f.multiplier within (omega arith) in
        omega arith

    shifted_is : (y c : Term) → IsWord (on_words word.ShiftRight y c) → (o : Option Floor) (f : Floor) → ((h : Floor) → o ≡ Some h → IsFloor y h)
        → shifted_floor c o ≡ Some f → IsFloor (on_words word.ShiftRight y c) f
    unfolding operation
    shifted_is y c ht (Some h) f is e =
        let are = arguments word.ShiftRight W32 y c ht in
        let passed = cond_some (is_constant c && nat_lt (number_of c) 32) (record { multiplier = h.multiplier; shift = h.shift + number_of c }) f e in
        let both = and_parts (is_constant c) (nat_lt (number_of c) 32) passed.0 in
        let n_is = known c are.1 both.0 in
        subst (IsFloor (on_words word.ShiftRight y c)) passed.1
        (made word.ShiftRight y c ht ∙ ap (λ n. cond (nat_lt n 32) (number y / 2 ^ n) 0) n_is ∙ ap (λ b. cond b (number y / 2 ^ number_of c) 0) both.1
        ∙ ap (λ n. n / 2 ^ number_of c) (is h refl) ∙ shr-shr (number x * h.multiplier) h.shift (number_of c))
    shifted_is y c ht None f is e = absurd (cc)

    product_is : (y c : Term) → IsWord (on_words word.Multiply y c) → (f : Floor) → product_floor g x y c ≡ Some f → IsFloor (on_words word.Multiply y c) f
    unfolding operation
    product_is y c ht f e =
        let are = arguments word.Multiply W32 y c ht in
        let passed = first (same_term y x && is_constant c) e in
        let both = and_parts (same_term y x) (is_constant c) passed.0 in
        let fits = cond_some (nat_lt (g * number_of c) (2 ^ (32 + 0))) (record { multiplier = number_of c; shift = 0 }) f passed.1 in
        let small = fitting (record { multiplier = number_of c; shift = 0 }) fits.0 in
        subst (IsFloor (on_words word.Multiply y c)) fits.1
        (made word.Multiply y c ht ∙ ap (λ n. n * number c % 2 ^ 32) (same_number y x both.0) ∙ ap (λ n. number x * n % 2 ^ 32) (known c are.1 both.1)
        ∙ mod-small (number x * number_of c) (2 ^ 32) small ∙ whole (number x * number_of c))
      where
        first : (test : Bool) → cond test (if_fits g (record { multiplier = number_of c; shift = 0 })) None ≡ Some f → (test ≡ true) × (if_fits g (record { multiplier = number_of c; shift = 0 }) ≡ Some f)
        first true d = (refl, d)
        first false d = absurd (cc)

    -- the difference of x and t, where t is at most x
    rest_is : (d t : Term) → IsWord t → is_rest d x t ≡ true → number t ≤ number x → IsWord d × (number d ≡ number x - number t)
    rest_is d t ht e le =
        let both = and_parts (is_word32 d) (is_empty (minus 32 (polynomial d) (minus 32 (polynomial x) (polynomial t)))) e in
        let hd = word32 d both.0 in
        let one = one_form_value assignment assigns 32 (polynomial d) (minus 32 (polynomial x) (polynomial t)) both.1 in
        let sum = minus_value assignment 32 (polynomial x) (polynomial t) in
        let pd = word_low assignment assigns W32 d hd in
        let px = word_low assignment assigns W32 x hx in
        let pt = word_low assignment assigns W32 t ht in
        let below_x = below32 x hx in
        (hd, congruent_equal (2 ^ 32) (number d) (number x - number t) (joined one sum pd px pt) (below32 d hd) (omega arith))
      where
        joined : IsCongruent (2 ^ 32) (pv (minus 32 (polynomial x) (polynomial t))) (pv (polynomial d))
            → IsCongruent (2 ^ 32) (pv (minus 32 (polynomial x) (polynomial t)) + pv (polynomial t)) (pv (polynomial x))
            → IsCongruent (2 ^ 32) (pv (polynomial d)) (number d) → IsCongruent (2 ^ 32) (pv (polynomial x)) (number x) → IsCongruent (2 ^ 32) (pv (polynomial t)) (number t)
            → IsCongruent (2 ^ 32) (number d) (number x - number t)
        joined g1 g2 g3 g4 g5 =
            let e1 = g1.same in
            let e2 = g2.same in
            let e3 = g3.same in
            let e4 = g4.same in
            let e5 = g5.same in
            record {
              first = g1.second + g3.second + g2.first + g4.first + g5.second;
              second = g1.first + g3.first + g2.second + g4.second + g5.first;
              same = omega arith;
            }

    under_half_is : (p d : Term) → IsWord p → under_half p ≡ Some d → number p ≡ number d / 2
    unfolding under_half operation
    under_half_is (Binary (binary.Word word.ShiftRight) u c) d hp e =
        let passed = cond_some (is_number32 c 1) u d e in
        made word.ShiftRight u c hp ∙ ap (λ n. cond (nat_lt n 32) (number u / 2 ^ n) 0) (number32_is c 1 passed.0) ∙ ap (λ v. number v / 2) passed.1
    under_half_is p d hp e = absurd (cc)

    -- the sum of t and half of what x is above t
    halved_is : (s p t : Term) → IsWord p → IsWord t → number s ≡ (number p + number t) % 2 ^ 32 → (o : Option Term) → under_half p ≡ o
        → (q : Option Floor) → ((h : Floor) → q ≡ Some h → IsFloor t h) → (f : Floor) → halved_floor_of x t g o q ≡ Some f → IsFloor s f
    halved_is s p t hp ht sum (Some d) half (Some h) is f e =
        let passed = first (is_rest d x t && nat_le h.multiplier (2 ^ h.shift)) refl e in
        let both = and_parts (is_rest d x t) (nat_le h.multiplier (2 ^ h.shift)) passed.0 in
        let short = leb-true h.multiplier (2 ^ h.shift) both.1 in
        let t_is = is h refl in
        let le : number t ≤ number x = subst (λ n. n ≤ number x) (sym t_is) (floor_short (number x) h.multiplier h.shift short) in
        let rest = rest_is d t ht both.0 le in
        let p_is : number p ≡ (number x - number t) / 2 = under_half_is p d hp half ∙ ap (λ n. n / 2) rest.1 in
        let below = below32 x hx in
        let fits = cond_some (nat_lt (g * (h.multiplier + 2 ^ h.shift)) (2 ^ (32 + (h.shift + 1)))) (record { multiplier = h.multiplier + 2 ^ h.shift; shift = h.shift + 1 }) f passed.1 in
        subst (IsFloor s) fits.1
        (sum ∙ ap (λ n. (n + number t) % 2 ^ 32) p_is ∙ mod-small ((number x - number t) / 2 + number t) (2 ^ 32) (small (number x) (number t) le below)
        ∙ ap (λ n. (number x - n) / 2 + n) t_is ∙ halved_floor_is (number x) h.multiplier h.shift short)
      where
        first : (test : Bool) → (is_rest d x t && nat_le h.multiplier (2 ^ h.shift)) ≡ test
            → cond test (if_fits g (record { multiplier = h.multiplier + 2 ^ h.shift; shift = h.shift + 1 })) None ≡ Some f
            → ((is_rest d x t && nat_le h.multiplier (2 ^ h.shift)) ≡ true) × (if_fits g (record { multiplier = h.multiplier + 2 ^ h.shift; shift = h.shift + 1 }) ≡ Some f)
        first true c k = (c, k)
        first false c k = absurd (cc)

        small : (n m : ℕ) → m ≤ n → n < 2 ^ 32 → (n - m) / 2 + m < 2 ^ 32
        small n m le below = omega arith
    halved_is s p t hp ht sum (Some d) half None is f e = absurd (cc)
    halved_is s p t hp ht sum None half q is f e = absurd (cc)

    either_is : (o p : Option Floor) (f : Floor) (t : Term) → (o ≡ Some f → IsFloor t f) → (p ≡ Some f → IsFloor t f) → else_floor o p ≡ Some f → IsFloor t f
    either_is (Some k) p f t h j e = h e
    either_is None p f t h j e = j e

    sum_is : (p q : Term) → IsWord (on_words word.Add p q) → number (on_words word.Add p q) ≡ (number p + number q) % 2 ^ 32
    unfolding operation
    sum_is p q h = made word.Add p q h

    swapped : (a b : ℕ) → (a + b) % 2 ^ 32 ≡ (b + a) % 2 ^ 32
    swapped a b = ap (λ n. n % 2 ^ 32) (turn a b)
      where
        turn : (a b : ℕ) → a + b ≡ b + a
        turn a b = omega arith

    -- ---- the upper half of a wide product

    extended : number (zero_extend W64 x) ≡ number x
    unfolding value unary_value
    extended = let vx = word_of assignment assigns W32 x hx in rw vx.1 refl

    wide_is : (h : Term) (c : ℕ) → sort_of h ≡ Some (sort.Word W64) → wide_product x h ≡ Some c → number h ≡ number x * c % 2 ^ 64
    unfolding wide_product operation
    wide_is (Binary (binary.Word word.Multiply) y k) c hh e =
        let are = arguments word.Multiply W64 y k hh in
        let passed = cond_some (same_term y (zero_extend W64 x) && is_constant k) (number_of k) c e in
        let both = and_parts (same_term y (zero_extend W64 x)) (is_constant k) passed.0 in
        word_made assignment assigns W64 word.Multiply y k are.0 are.1
        ∙ ap (λ n. n * number k % 2 ^ 64) (same_number y (zero_extend W64 x) both.0 ∙ extended)
        ∙ ap (λ n. number x * n % 2 ^ 64) (number_is_known assignment assigns W64 k are.1 both.1 ∙ passed.1)
    wide_is t c hh e = absurd (cc)

    upper_is : (t h : Term) → is_upper_half t h ≡ true → (f : Floor) → upper_floor_of g (wide_product x h) ≡ Some f → IsFloor t f
    upper_is t h e f d = let half = upper_half_is t h e in by half.0 half.1 (wide_product x h) refl d
      where
        by : sort_of h ≡ Some (sort.Word W64) → number t ≡ number h / 2 ^ 32 % 2 ^ 32 → (o : Option ℕ) → wide_product x h ≡ o → upper_floor_of g o ≡ Some f → IsFloor t f
        by hh t_is (Some c) k j =
            let fits = cond_some (nat_lt (g * c) (2 ^ (32 + 32))) (record { multiplier = c; shift = 32 }) f j in
            let small = fitting (record { multiplier = c; shift = 32 }) fits.0 in
            let h_is : number h ≡ number x * c = wide_is h c hh k ∙ mod-small (number x * c) (2 ^ 64) small in
            subst (IsFloor t) fits.1
            (t_is ∙ ap (λ n. n / 2 ^ 32 % 2 ^ 32) h_is ∙ mod-small (number x * c / 2 ^ 32) (2 ^ 32) (div_below (number x * c) (2 ^ 32) (2 ^ 32) (pow_pos 32) small))
        by hh t_is None k j = absurd (cc)

    upper_floor_is : (t : Term) (o : Option Term) (f : Floor) → upper_floor g x t o ≡ Some f → IsFloor t f
    upper_floor_is t (Some h) f e = by (is_upper_half t h) refl e
      where
        by : (test : Bool) → is_upper_half t h ≡ test → cond test (upper_floor_of g (wide_product x h)) None ≡ Some f → IsFloor t f
        by true d k = upper_is t h d f k
        by false d k = absurd (cc)
    upper_floor_is t None f e = absurd (cc)

    -- ---- all of them

    floor_is : (t : Term) (f : Floor) → IsWord t → floor_of g x t ≡ Some f → IsFloor t f
    unfolding floor_of
    floor_is (Binary (binary.Word word.ShiftRight) y c) f ht e =
        itself_is (on_words word.ShiftRight y c) (shifted_floor c (floor_of g x y)) f
        (shifted_is y c ht (floor_of g x y) f (λ h d. floor_is y h (arguments word.ShiftRight W32 y c ht).0 d)) e
    floor_is (Binary (binary.Word word.Multiply) y c) f ht e = itself_is (on_words word.Multiply y c) (product_floor g x y c) f (product_is y c ht f) e
    floor_is (Binary (binary.Word word.Add) p q) f ht e =
        let are = arguments word.Add W32 p q ht in
        let sum = sum_is p q ht in
        itself_is (on_words word.Add p q) (else_floor (halved_floor_of x q g (under_half p) (floor_of g x q)) (halved_floor_of x p g (under_half q) (floor_of g x p))) f
        (either_is (halved_floor_of x q g (under_half p) (floor_of g x q)) (halved_floor_of x p g (under_half q) (floor_of g x p)) f (on_words word.Add p q)
        (halved_is (on_words word.Add p q) p q are.0 are.1 sum (under_half p) refl (floor_of g x q) (λ h d. floor_is q h are.1 d) f)
        (halved_is (on_words word.Add p q) q p are.1 are.0 (sum ∙ swapped (number p) (number q)) (under_half q) refl (floor_of g x p) (λ h d. floor_is p h are.0 d) f)) e
    floor_is (Quaternary quaternary.Join a b c d) f ht e =
        itself_is (Quaternary quaternary.Join a b c d) (upper_floor g x (Quaternary quaternary.Join a b c d) (under_byte a)) f
        (upper_floor_is (Quaternary quaternary.Join a b c d) (under_byte a) f) e
    floor_is t f ht e = itself_is t None f (λ d. absurd (cc)) e

    quotient_is : (t : Term) (n : ℕ) → IsWord t → (o : Option Floor) → floor_of g x t ≡ o → is_quotient g n o ≡ true → number t ≡ number x / n
    quotient_is t n ht (Some f) d e =
        let both = and_parts (nat_le (2 ^ f.shift) (f.multiplier * n)) (nat_lt ((f.multiplier * n - 2 ^ f.shift) * g) (2 ^ f.shift)) e in
        floor_is t f ht d
        ∙ quotient_by_floor (number x) g f.multiplier (2 ^ f.shift) n within (pow_pos f.shift) (leb-true (2 ^ f.shift) (f.multiplier * n) both.0)
        (ltb-true ((f.multiplier * n - 2 ^ f.shift) * g) (2 ^ f.shift) both.1)
    quotient_is t n ht None d e = absurd (cc)

  -- ---- quotients

  moved_sort : (s : ℕ) (z : Term) → s < 32 → IsWord z → IsWord (moved s z)
  moved_sort s z below hz = by (s == 0)
    where
      by : (test : Bool) → IsWord (cond test z (on_words word.ShiftRight z (number32 s)))
      by true = hz
      by false = sort-words word.ShiftRight W32 z (number32 s) hz (sort-constant W32 s (omega arith))

  moved_number : (s : ℕ) (z : Term) → s < 32 → IsWord z → number (moved s z) ≡ number z / 2 ^ s
  unfolding operation
  moved_number s z below hz = by (s == 0) refl
    where
      by : (test : Bool) → (s == 0) ≡ test → number (cond test z (on_words word.ShiftRight z (number32 s))) ≡ number z / 2 ^ s
      by true e = let none = eqb-true s 0 e in sym (ap (λ k. number z / 2 ^ k) none ∙ div-one (number z))
      by false e =
          made word.ShiftRight z (number32 s) (sort-words word.ShiftRight W32 z (number32 s) hz (sort-constant W32 s (omega arith)))
          ∙ ap (λ n. cond (nat_lt n 32) (number z / 2 ^ n) 0) (ap number_of_value (value-constant assignment W32 s))
          ∙ ap (λ b. cond b (number z / 2 ^ s) 0) (lt-ltb s 32 below)

  pub divided : (z c : Term) → IsWord (on_words word.Divide z c) → 0 < number_of c → is_constant c ≡ true → number (on_words word.Divide z c) ≡ number z / number_of c
  unfolding operation
  divided z c h positive e =
      let are = arguments word.Divide W32 z c h in
      made word.Divide z c h ∙ ap (λ n. cond (n == 0) (2 ^ 32 - 1) (number z / n)) (known c are.1 e)
      ∙ ap (λ b. cond b (2 ^ 32 - 1) (number z / number_of c)) (ne_eqb (number_of c) 0 (λ d. absurd (nothing (number_of c) positive d)))
    where
      nothing : (n : ℕ) → 0 < n → n ≡ 0 → ⊥
      nothing n l d = omega arith

  division_is : (facts : List Term) (t z c : Term) → AreTrue facts → IsWord t → IsWord (on_words word.Divide z c) → is_division facts t z c ≡ true
      → number t ≡ number (on_words word.Divide z c)
  division_is facts t z c are ht hu e =
      let one = and_parts (is_word32 z) (is_constant c && (nat_lt 0 (number_of c) && some_below 32 (is_shifted_quotient facts t z (number_of c)))) e in
      let two = and_parts (is_constant c) (nat_lt 0 (number_of c) && some_below 32 (is_shifted_quotient facts t z (number_of c))) one.1 in
      let three = and_parts (nat_lt 0 (number_of c)) (some_below 32 (is_shifted_quotient facts t z (number_of c))) two.1 in
      let hz = word32 z one.0 in
      let some = some_below_is 32 (is_shifted_quotient facts t z (number_of c)) three.1 in
      let both = and_parts (number_of c % 2 ^ some.0 == 0) (is_quotient_of facts (moved some.0 z) t (number_of c / 2 ^ some.0)) some.2 in
      let hx = moved_sort some.0 z some.1 hz in
      quotient_is (greatest_of facts (moved some.0 z)) (moved some.0 z) hx (greatest_is facts (moved some.0 z) are hx) t (number_of c / 2 ^ some.0) ht
      (floor_of (greatest_of facts (moved some.0 z)) (moved some.0 z) t) refl both.1
      ∙ ap (λ n. n / (number_of c / 2 ^ some.0)) (moved_number some.0 z some.1 hz) ∙ div-div-eq-div-mul (number z) (2 ^ some.0) (number_of c / 2 ^ some.0)
      ∙ ap (λ n. number z / n) (multiple_of (number_of c) (2 ^ some.0) (eqb-true (number_of c % 2 ^ some.0) 0 both.0))
      ∙ sym (divided z c hu (ltb-true 0 (number_of c) three.0) two.0)

  nested_is : (t x c : Term) → IsWord t → IsWord (on_words word.Divide x c) → is_nested_division t x c ≡ true → number t ≡ number (on_words word.Divide x c)
  unfolding is_nested_division
  nested_is (Binary (binary.Word word.Divide) (Binary (binary.Word word.Divide) y a) b) x c ht hu e =
      let one = and_parts (same_term y x) _ e in
      let two = and_parts (is_word32 x) _ one.1 in
      let three = and_parts (is_constant a) _ two.1 in
      let four = and_parts (is_constant b) _ three.1 in
      let five = and_parts (is_constant c) _ four.1 in
      let six = and_parts (nat_lt 0 (number_of c)) _ five.1 in
      let seven = and_parts (number_of c == number_of a * number_of b) (nat_lt (number_of c) (2 ^ 32)) six.1 in
      let positive = ltb-true 0 (number_of c) six.0 in
      let product = eqb-true (number_of c) (number_of a * number_of b) seven.0 in
      let parts = positive_product (number_of a) (number_of b) (subst (λ n. 0 < n) product positive) in
      let inner = (arguments word.Divide W32 (on_words word.Divide y a) b ht).0 in
      divided (on_words word.Divide y a) b ht parts.1 four.0 ∙ ap (λ n. n / number_of b) (divided y a inner parts.0 three.0)
      ∙ div-div-eq-div-mul (number y) (number_of a) (number_of b) ∙ ap (λ n. number y / n) (sym product) ∙ ap (λ n. n / number_of c) (same_number y x one.0)
      ∙ sym (divided x c hu positive five.0)
  nested_is t x c ht hu e = absurd (cc)

  mask_is : (t z c : Term) → IsWord t → IsWord (on_words word.Remainder z c) → is_mask_for t z c ≡ true → number t ≡ number (on_words word.Remainder z c)
  unfolding operation
  mask_is t z c ht hu e =
      let one = and_parts (is_word32 z) (is_constant c && some_below 32 (λ k. number_of c == 2 ^ k && same_term t (on_words word.And z (number32 (2 ^ k - 1))))) e in
      let two = and_parts (is_constant c) (some_below 32 (λ k. number_of c == 2 ^ k && same_term t (on_words word.And z (number32 (2 ^ k - 1))))) one.1 in
      let some = some_below_is 32 (λ k. number_of c == 2 ^ k && same_term t (on_words word.And z (number32 (2 ^ k - 1)))) two.1 in
      let both = and_parts (number_of c == 2 ^ some.0) (same_term t (on_words word.And z (number32 (2 ^ some.0 - 1)))) some.2 in
      let power = eqb-true (number_of c) (2 ^ some.0) both.0 in
      let is_t = same_is t (on_words word.And z (number32 (2 ^ some.0 - 1))) both.1 in
      let h_and : IsWord (on_words word.And z (number32 (2 ^ some.0 - 1))) = subst IsWord is_t ht in
      let are = arguments word.Remainder W32 z c hu in
      ap number is_t ∙ made word.And z (number32 (2 ^ some.0 - 1)) h_and ∙ ap (bit_and (number z)) (ap number_of_value (value-constant assignment W32 (2 ^ some.0 - 1)))
      ∙ and_mask (number z) some.0
      ∙ sym (made word.Remainder z c hu ∙ ap (λ n. cond (n == 0) (number z) (number z % n)) (known c are.1 two.0 ∙ power)
      ∙ ap (λ b. cond b (number z) (number z % 2 ^ some.0)) (ne_eqb (2 ^ some.0) 0 (λ d. absurd (nothing (2 ^ some.0) (pow_pos some.0) d))))
    where
      nothing : (n : ℕ) → 0 < n → n ≡ 0 → ⊥
      nothing n l d = omega arith

  -- words of 32 bits with one number have one value
  pub one_value : (t u : Term) → IsWord t → IsWord u → number t ≡ number u → value assignment t ≡ value assignment u
  one_value t u ht hu e =
      let vt = word_of assignment assigns W32 t ht in
      let vu = word_of assignment assigns W32 u hu in
      vt.1 ∙ ap (Number W32) (sym (ap number_of_value vt.1) ∙ e ∙ ap number_of_value vu.1) ∙ sym vu.1

  -- an operation on z is of its sort
  pub operation_sort : (o : WordOperator) (z c : Term) (w : Width) → IsWord z → sort_of (on_words o z c) ≡ Some (sort.Word w) → w ≡ W32
  operation_sort o z c w hz h = ap width_of_sort (same_Some (sort.Word w) (sort.Word W32) (sym (arguments o w z c h).0 ∙ hz))

  sorted_pair : (o : WordOperator) (t z c : Term) → Alike t (on_words o z c) → IsWord z → IsWord t × IsWord (on_words o z c)
  sorted_pair o t z c (truths ht hu) hz = absurd (no_truth (words_of o z c sort.Truth hu).1)
    where
      no_truth : {w : Width} → sort.Truth ≡ sort.Word w → ⊥
      no_truth e = cc
  sorted_pair o t z c (words w ht hu) hz =
      let one = operation_sort o z c w hz hu in
      (subst (λ v. sort_of t ≡ Some (sort.Word v)) one ht, subst (λ v. sort_of (on_words o z c) ≡ Some (sort.Word v)) one hu)

  nested_word : (t z c : Term) → is_nested_division t z c ≡ true → IsWord z
  unfolding is_nested_division
  nested_word (Binary (binary.Word word.Divide) (Binary (binary.Word word.Divide) y a) b) z c h = word32 z (and_parts (is_word32 z) _ (and_parts (same_term y z) _ h).1).0
  nested_word t z c h = absurd (cc)

  pub written_sound : (facts : List Term) (t u : Term) → AreTrue facts → Alike t u → is_written facts t u ≡ true → value assignment t ≡ value assignment u
  unfolding is_written
  written_sound facts t (Binary (binary.Word word.Divide) z c) are alike e =
      either_test (is_division facts t z c) (is_nested_division t z c) e
      (λ h.
      let sorts = sorted_pair word.Divide t z c alike (word32 z (and_parts (is_word32 z) _ h).0) in
      one_value t (on_words word.Divide z c) sorts.0 sorts.1 (division_is facts t z c are sorts.0 sorts.1 h))
      (λ h.
      let sorts = sorted_pair word.Divide t z c alike (nested_word t z c h) in
      one_value t (on_words word.Divide z c) sorts.0 sorts.1 (nested_is t z c sorts.0 sorts.1 h))
  written_sound facts t (Binary (binary.Word word.Remainder) z c) are alike e =
      let sorts = sorted_pair word.Remainder t z c alike (word32 z (and_parts (is_word32 z) _ e).0) in
      one_value t (on_words word.Remainder z c) sorts.0 sorts.1 (mask_is t z c sorts.0 sorts.1 e)
  written_sound facts t u are alike e = absurd (cc)

  -- ---- whether d divides x

  pub inverse_is : (n : ℕ) (x y : Term) → IsWord y → is_inverse_product n x y ≡ true → (i : ℕ) × (number y ≡ number x * i % 2 ^ 32) × (i * n % 2 ^ 32 ≡ 1)
  unfolding is_inverse_product operation
  inverse_is n x (Binary (binary.Word word.Multiply) u c) hy e =
      let one = and_parts (same_term u x) (is_constant c && number_of c * n % 2 ^ 32 == 1) e in
      let two = and_parts (is_constant c) (number_of c * n % 2 ^ 32 == 1) one.1 in
      let are = arguments word.Multiply W32 u c hy in (
        number_of c,
        made word.Multiply u c hy ∙ ap (λ k. k * number c % 2 ^ 32) (same_number u x one.0) ∙ ap (λ k. number x * k % 2 ^ 32) (known c are.1 two.0),
        eqb-true (number_of c * n % 2 ^ 32) 1 two.1,
      )
  inverse_is n x y hy e = absurd (cc)

  pub powers : (k : ℕ) → k < 32 → 2 ^ 32 ≡ 2 ^ k * 2 ^ (32 - k)
  powers k below = let sum : k + (32 - k) ≡ 32 = omega arith in sym (sym (pow-add 2 k (32 - k)) ∙ ap (λ n. 2 ^ n) sum)

  pub turned_number : (k : ℕ) (y : Term) → (k == 0) ≡ false → k < 32 → IsWord y → number (turned k y) ≡ number y % 2 ^ k * 2 ^ (32 - k) + number y / 2 ^ k
  unfolding operation
  turned_number k y some below hy =
      let hk = sort-constant W32 k (omega arith) in
      let hj = sort-constant W32 (32 - k) (omega arith) in
      let right = sort-words word.ShiftRight W32 y (number32 k) hy hk in
      let left = sort-words word.ShiftLeft W32 y (number32 (32 - k)) hy hj in
      let whole = sort-words word.Or W32 (on_words word.ShiftRight y (number32 k)) (on_words word.ShiftLeft y (number32 (32 - k))) right left in
      let split = powers k below in
      let low_part : number (on_words word.ShiftRight y (number32 k)) ≡ number y / 2 ^ k =
      made word.ShiftRight y (number32 k) right ∙ ap (λ n. cond (nat_lt n 32) (number y / 2 ^ n) 0) (ap number_of_value (value-constant assignment W32 k))
      ∙ ap (λ b. cond b (number y / 2 ^ k) 0) (lt-ltb k 32 below) in
      let high_part : number (on_words word.ShiftLeft y (number32 (32 - k))) ≡ number y % 2 ^ k * 2 ^ (32 - k) =
      made word.ShiftLeft y (number32 (32 - k)) left ∙ ap (λ n. cond (nat_lt n 32) (number y * 2 ^ n % 2 ^ 32) 0) (ap number_of_value (value-constant assignment W32 (32 - k)))
      ∙ ap (λ b. cond b (number y * 2 ^ (32 - k) % 2 ^ 32) 0) (lt-ltb (32 - k) 32 (less k below (positive k some)))
      ∙ ap (λ m. number y * 2 ^ (32 - k) % m) split ∙ moved_up_low (number y) (2 ^ k) (2 ^ (32 - k)) (pow_pos k) (pow_pos (32 - k)) in
      let small = div_below (number y) (2 ^ k) (2 ^ (32 - k)) (pow_pos k) (subst (λ m. number y < m) (split ∙ swap (2 ^ k) (2 ^ (32 - k))) (below32 y hy)) in
      made word.Or (on_words word.ShiftRight y (number32 k)) (on_words word.ShiftLeft y (number32 (32 - k))) whole
      ∙ ap (λ n. bit_or n (number (on_words word.ShiftLeft y (number32 (32 - k))))) low_part ∙ ap (bit_or (number y / 2 ^ k)) high_part
      ∙ or_shifted_r (number y % 2 ^ k) (32 - k) (number y / 2 ^ k) small
    where
      swap : (a b : ℕ) → a * b ≡ b * a
      swap a b = omega arith

      positive : (k : ℕ) → (k == 0) ≡ false → 0 < k
      positive zero e = absurd (cc)
      positive (suc k) e = omega arith

      less : (k : ℕ) → k < 32 → 0 < k → 32 - k < 32
      less k l p = omega arith

  -- r is x times the inverse of n, turned down by k places
  record IsTurned (k n : ℕ) (x r : Term) : Type 0 where
    pub inverse : ℕ
    pub number_is : number r ≡ number x * inverse % 2 ^ 32 % 2 ^ k * 2 ^ (32 - k) + number x * inverse % 2 ^ 32 / 2 ^ k
    pub inverts : inverse * n % 2 ^ 32 ≡ 1

  turned_is : (k n : ℕ) (x r : Term) → k < 32 → IsWord r → is_turned_inverse k n x r ≡ true → IsTurned k n x r
  turned_is k n x r below hr e = by (k == 0) refl e
    where
      plain : (y q : ℕ) → y ≡ y % 1 * q + y / 1
      plain y q = let d = div-one y in let parts = div-add-mod' y 1 in let none : y % 1 ≡ 0 = omega arith in sym (ap (λ l. l * q + y / 1) none ∙ zero_more q (y / 1) ∙ d)
        where
          zero_more : (q h : ℕ) → 0 * q + h ≡ h
          zero_more q h = omega arith

      from : (o : Option Term) → under_turn r ≡ o → (k == 0) ≡ false → is_turned_product k n x r o ≡ true → IsTurned k n x r
      from (Some y) d some h =
          let one = and_parts (have_same_bits r (turned k y)) (is_word32 y && is_inverse_product n x y) h in
          let two = and_parts (is_word32 y) (is_inverse_product n x y) one.1 in
          let hy = word32 y two.0 in
          let is = inverse_is n x y hy two.1 in
          record {
            inverse = is.0;
            number_is =
                ap number_of_value (words_same assignment assigns r (turned k y) one.0) ∙ turned_number k y some below hy
                ∙ ap (λ m. m % 2 ^ k * 2 ^ (32 - k) + m / 2 ^ k) is.1;
            inverts = is.2;
          }
      from None d some h = absurd (cc)

      by : (test : Bool) → (k == 0) ≡ test → cond test (is_inverse_product n x r) (is_turned_product k n x r (under_turn r)) ≡ true → IsTurned k n x r
      by true d h =
          let none = eqb-true k 0 d in
          let is = inverse_is n x r hr h in
          record {
            inverse = is.0;
            number_is =
                subst (λ j. number r ≡ number x * is.0 % 2 ^ 32 % 2 ^ j * 2 ^ (32 - j) + number x * is.0 % 2 ^ 32 / 2 ^ j) (sym none)
                (is.1 ∙ plain (number x * is.0 % 2 ^ 32) (2 ^ 32));
            inverts = is.2;
          }
      by false d h = from (under_turn r) refl d h

  zeros_short : (k n : ℕ) → zeros k n ≤ k
  unfolding zeros
  zeros_short zero n = omega arith
  zeros_short (suc k) n = by (n % 2 == 0) (zeros_short k (n / 2))
    where
      by : (test : Bool) → zeros k (n / 2) ≤ k → cond test (suc (zeros k (n / 2))) 0 ≤ suc k
      by true le = omega arith
      by false le = omega arith

  -- d is n * 2 ^ k
  pub record IsSplit (d : ℕ) : Type 0 where
    pub short : zeros 32 d < 32
    pub positive : 0 < d / 2 ^ zeros 32 d
    pub whole : d / 2 ^ zeros 32 d * 2 ^ zeros 32 d ≡ d

  pub split_is : (d : ℕ) → 0 < d → d < 2 ^ 32 → IsSplit d
  split_is d some below =
      let q = zeros_divide 32 d in
      let is : d / 2 ^ zeros 32 d ≡ q.0 = ap (λ n. n / 2 ^ zeros 32 d) q.1 ∙ mul-div_cancel q.0 (pow_pos (zeros 32 d)) in
      let whole : d / 2 ^ zeros 32 d * 2 ^ zeros 32 d ≡ d = ap (λ n. n * 2 ^ zeros 32 d) is ∙ sym q.1 in
      let parts = positive_product (d / 2 ^ zeros 32 d) (2 ^ zeros 32 d) (subst (λ n. 0 < n) (sym whole) some) in
      record { short = less (zeros 32 d) refl parts.0 whole; positive = parts.0; whole = whole }
    where
      less : (k : ℕ) → k ≡ zeros 32 d → 0 < d / 2 ^ zeros 32 d → d / 2 ^ zeros 32 d * 2 ^ zeros 32 d ≡ d → zeros 32 d < 32
      less k e one whole = by (cases_lt (zeros 32 d) 32)
        where
          by : (zeros 32 d < 32) ⊎ (32 ≤ zeros 32 d) → zeros 32 d < 32
          by (inl l) = l
          by (inr l) =
              let short = zeros_short 32 d in
              let same : zeros 32 d ≡ 32 = omega arith in
              let le = mul-le 1 (2 ^ zeros 32 d) (d / 2 ^ zeros 32 d) (2 ^ zeros 32 d) one (omega arith) in
              let power : 2 ^ zeros 32 d ≡ 2 ^ 32 = ap (λ n. 2 ^ n) same in
              absurd (omega arith)

  divisor_is : (r b x : Term) (d : ℕ) → IsWord r → IsWord x → IsWord b → d < 2 ^ 32 → tests_divisor r b x d ≡ true → nat_lt (number r) (number b) ≡ (number x % d == 0)
  divisor_is r b x d hr hx hb below e =
      let one = and_parts (is_word32 x) _ e in
      let two = and_parts (is_word32 r) _ one.1 in
      let three = and_parts (is_constant b) _ two.1 in
      let four = and_parts (nat_lt 0 d) _ three.1 in
      let five = and_parts (number_of b == (2 ^ 32 - 1) / d + 1) (is_turned_inverse (zeros 32 d) (d / 2 ^ zeros 32 d) x r) four.1 in
      let split = split_is d (ltb-true 0 d four.0) below in
      let is = turned_is (zeros 32 d) (d / 2 ^ zeros 32 d) x r split.short hr five.1 in
      let power = powers (zeros 32 d) split.short in
      let product = sym power in
      let test =
      divisor_test (number x) is.inverse (d / 2 ^ zeros 32 d) (2 ^ zeros 32 d) (2 ^ (32 - zeros 32 d)) (number r) split.positive (pow_pos (zeros 32 d)) (pow_pos (32 - zeros 32 d))
      (subst (λ m. number x < m) power (below32 x hx)) (subst (λ m. is.inverse * (d / 2 ^ zeros 32 d) % m ≡ 1 % m) power is.inverts)
      (subst (λ m. number r ≡ number x * is.inverse % m % 2 ^ zeros 32 d * 2 ^ (32 - zeros 32 d) + number x * is.inverse % m / 2 ^ zeros 32 d) power is.number_is) in
      ap (nat_lt (number r)) (known b hb three.0 ∙ eqb-true (number_of b) ((2 ^ 32 - 1) / d + 1) five.0)
      ∙ subst (λ m. nat_lt (number r) ((m - 1) / d + 1) ≡ (number x % d == 0)) product
      (subst (λ n. nat_lt (number r) ((2 ^ zeros 32 d * 2 ^ (32 - zeros 32 d) - 1) / n + 1) ≡ (number x % n == 0)) split.whole test)

  -- `eq (urem x d) 0`, for a constant d
  pub record IsDivided (u : Term) (s : Sides) : Type 0 where
    pub zero : Term
    pub is : u ≡ equal (on_words word.Remainder s.left s.right) zero
    pub constant : is_constant s.right ≡ true
    pub none : is_number32 zero 0 ≡ true

  under_remainder_is : (t : Term) (s : Sides) → under_remainder t ≡ Some s → (t ≡ on_words word.Remainder s.left s.right) × (is_constant s.right ≡ true)
  unfolding under_remainder
  under_remainder_is (Binary (binary.Word word.Remainder) x d) s e =
      let passed = cond_some (is_constant d) (record { left = x; right = d }) s e in
      subst (λ (p : Sides). (on_words word.Remainder x d ≡ on_words word.Remainder p.left p.right) × (is_constant p.right ≡ true)) passed.1 (refl, passed.0)
  under_remainder_is t s e = absurd (cc)

  pub divided_of_is : (u : Term) (s : Sides) → divided_of u ≡ Some s → IsDivided u s
  unfolding divided_of
  divided_of_is (Binary binary.Equal t z) s e = by (is_number32 z 0) refl e
    where
      by : (test : Bool) → is_number32 z 0 ≡ test → cond test (under_remainder t) None ≡ Some s → IsDivided (Binary binary.Equal t z) s
      by true d h = let is = under_remainder_is t s h in record { zero = z; is = ap (λ a. equal a z) is.0; constant = is.1; none = d }
      by false d h = absurd (cc)
  divided_of_is t s e = absurd (cc)

  pub remainder_number : (x d : Term) → IsWord (on_words word.Remainder x d) → is_constant d ≡ true → 0 < number_of d → number (on_words word.Remainder x d) ≡ number x % number_of d
  unfolding operation
  remainder_number x d h e positive =
      let are = arguments word.Remainder W32 x d h in
      made word.Remainder x d h ∙ ap (λ n. cond (n == 0) (number x) (number x % n)) (known d are.1 e)
      ∙ ap (λ b. cond b (number x) (number x % number_of d)) (ne_eqb (number_of d) 0 (λ g. absurd (nothing (number_of d) positive g)))
    where
      nothing : (n : ℕ) → 0 < n → n ≡ 0 → ⊥
      nothing n l g = omega arith

  test_sound : (t u : Term) (s e : Sides) → IsOrder assignment assigns t s → IsDivided u e → sort_of u ≡ Some sort.Truth → tests_divisor s.left s.right e.left (number_of e.right) ≡ true
      → value assignment t ≡ value assignment u
  test_sound t u s e of_t of_u hu h = by ((alike_of (on_words word.Remainder e.left e.right) of_u.zero sort.Truth (sym (ap sort_of of_u.is) ∙ hu)).1)
    where
      one : (is_word32 e.left ≡ true) × ((is_word32 s.left && (is_constant s.right && (nat_lt 0 (number_of e.right) && (number_of s.right == (2 ^ 32 - 1) / number_of e.right + 1
          && is_turned_inverse (zeros 32 (number_of e.right)) (number_of e.right / 2 ^ zeros 32 (number_of e.right)) e.left s.left)))) ≡ true)
      one = and_parts (is_word32 e.left) _ h

      hx : IsWord e.left
      hx = word32 e.left one.0

      two : (is_word32 s.left ≡ true) × ((is_constant s.right && (nat_lt 0 (number_of e.right) && (number_of s.right == (2 ^ 32 - 1) / number_of e.right + 1
          && is_turned_inverse (zeros 32 (number_of e.right)) (number_of e.right / 2 ^ zeros 32 (number_of e.right)) e.left s.left))) ≡ true)
      two = and_parts (is_word32 s.left) _ one.1

      hr : IsWord s.left
      hr = word32 s.left two.0

      hb : IsWord s.right
      hb =
          let are = words_are assignment assigns s.left s.right of_t.are in
          are.second ∙ ap (λ w. Some (sort.Word w)) (ap width_of_sort (same_Some (sort.Word (width_of s.left)) (sort.Word W32) (sym are.first ∙ hr)))

      positive : 0 < number_of e.right
      positive = ltb-true 0 (number_of e.right) (and_parts (nat_lt 0 (number_of e.right)) _ (and_parts (is_constant s.right) _ two.1).1).0

      no_truth : {w : Width} → sort.Truth ≡ sort.Word w → ⊥
      no_truth d = cc

      by : Alike (on_words word.Remainder e.left e.right) of_u.zero → value assignment t ≡ value assignment u
      by (truths ha hz) = absurd (no_truth (words_of word.Remainder e.left e.right sort.Truth ha).1)
      by (words w ha hz) =
          let wide = operation_sort word.Remainder e.left e.right w hx ha in
          let ha32 : IsWord (on_words word.Remainder e.left e.right) = subst (λ v. sort_of (on_words word.Remainder e.left e.right) ≡ Some (sort.Word v)) wide ha in
          let hz32 : IsWord of_u.zero = subst (λ v. sort_of of_u.zero ≡ Some (sort.Word v)) wide hz in
          let va = word_of assignment assigns W32 (on_words word.Remainder e.left e.right) ha32 in
          let vz = word_of assignment assigns W32 of_u.zero hz32 in
          let hd = (arguments word.Remainder W32 e.left e.right ha32).1 in
          let small : number_of e.right < 2 ^ 32 = subst (λ n. n < 2 ^ 32) (known e.right hd of_u.constant) (below32 e.right hd) in
          let rest : va.0 ≡ number e.left % number_of e.right = sym (ap number_of_value va.1) ∙ remainder_number e.left e.right ha32 of_u.constant positive in
          let none : vz.0 ≡ 0 = sym (ap number_of_value vz.1) ∙ number32_is of_u.zero 0 of_u.none in
          order_value assignment assigns t s of_t ∙ ap Truth (divisor_is s.left s.right e.left (number_of e.right) hr hx hb small h)
          ∙ sym (ap (value assignment) of_u.is ∙ value-equal_words assignment W32 (on_words word.Remainder e.left e.right) of_u.zero va.0 vz.0 va.1 vz.1
          ∙ ap (λ n. Truth (n == vz.0)) rest ∙ ap (λ n. Truth (number e.left % number_of e.right == n)) none)

  pub less_sort : (s : Sides) → are_words s.left s.right ≡ true → sort_of (less s.left s.right) ≡ Some sort.Truth
  less_sort s h = let are = words_are assignment assigns s.left s.right h in sort-less (width_of s.left) s.left s.right are.first are.second

  pub divisor_sound : (t u : Term) → sort_of t ≡ sort_of u → is_divisor_test (order_of t) (divided_of u) ≡ true → value assignment t ≡ value assignment u
  divisor_sound t u same h = by (order_of t) refl (divided_of u) refl h
    where
      by : (o : Option Sides) → order_of t ≡ o → (p : Option Sides) → divided_of u ≡ p → is_divisor_test o p ≡ true → value assignment t ≡ value assignment u
      by (Some s) d (Some e) g k =
          let of_t = order_is assignment assigns t s d in
          test_sound t u s e of_t (divided_of_is u e g) (sym same ∙ ap sort_of of_t.is ∙ less_sort s of_t.are) k
      by (Some s) d None g k = absurd (cc)
      by None d p g k = absurd (cc)
