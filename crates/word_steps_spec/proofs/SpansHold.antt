-- The value of a word is in its span, and what the rule `fit` accepts or decides is so.
use Rattle.std.proofs.Common.{◌≡◌, ℕ, zero, suc, ◌+◌, ◌-◌, ◌*◌, ◌/◌, ◌%◌, ◌^◌, ◌<◌, ◌≤◌, Bool, true, false, cond, List, [], ◌∷◌, Option, Some, None, option_and_then, inl, inr, refl, sym, ap, ◌∙◌, subst, arith, eqb-true, ltb-true, leb-true, lt-ltb}
use Rattle.std.specs.Prelude.{◌==◌, ◌&&◌, nat_lt, nat_le, bit_and}
use Rattle.std.specs.List.{AllByRecursion}
use Rattle.std.proofs.lemmas.Bool.{and_parts, le-leb, lt-leb, leb-false}
use Rattle.std.proofs.lemmas.Option.{same_Some, cond_some}
use Rattle.std.proofs.lemmas.Nat.{pow_pos, pow-add, mod_below, mul-le, and_mask}
use Rattle.std.proofs.Math.Nat.{mul-div_cancel}
use Rattle.term_core_spec.specs.declared.Width.{Width}
use Rattle.term_core_spec.specs.declared.Width.TheVariants.{W8, W16, W32, W64}
use Rattle.term_core_spec.specs.declared.Sort.TheVariants as sort
use Rattle.term_core_spec.specs.declared.Atom.{Atom}
use Rattle.term_core_spec.specs.declared.Atom.TheVariants as atom
use Rattle.term_core_spec.specs.declared.UnaryOperator.TheVariants as unary
use Rattle.term_core_spec.specs.declared.WordOperator.{WordOperator}
use Rattle.term_core_spec.specs.declared.WordOperator.TheVariants as word
use Rattle.term_core_spec.specs.declared.BinaryOperator.TheVariants as binary
use Rattle.term_core_spec.specs.declared.TernaryOperator.TheVariants as ternary
use Rattle.term_core_spec.specs.Term.{Term, Leaf, Unary, Binary, Ternary, choose, zero_extend, sign_extend, low, byte, on_words}
use Rattle.term_core_spec.specs.Sort.{bits, sort_of}
use Rattle.term_core_spec.specs.Value.{Truth, Number, Assignment, IsAssignment, value, unary_value, operation, is_negative, ones_if, low_bits, shifted_with_sign}
use Rattle.term_core_spec.specs.Same.{same_term}
use Rattle.term_core_spec.proofs.Same.{same_is}
use Rattle.term_norm_spec.specs.Patterns.{width_of, width_of_sort, is_constant, number_of}
use Rattle.term_norm_spec.proofs.Numbers.{mod-small}
use Rattle.term_norm_spec.proofs.Keeps.{width_is}
use Rattle.term_norm_spec.proofs.Truths.{truth_value_of, value-choose}
use Rattle.term_norm_spec.proofs.Cuts.{zero_extend_of, sign_extend_of, low_of, byte_parts}
use Rattle.term_norm_spec.proofs.Words.{words_of, word_of}
use Rattle.word_steps_spec.specs.Numbers.{is_bool}
use Rattle.word_steps_spec.specs.Polynomial.{Polynomial, number_of_value, product, polynomial_value}
use Rattle.word_steps_spec.specs.Sides.{are_words, Sides, sides_of}
use Rattle.word_steps_spec.specs.Ring.{polynomial}
use Rattle.word_steps_spec.specs.Order.{is_divisor, bounds_of, order_of, else_by}
use Rattle.word_steps_spec.specs.LowBits.{form_of, constant_of, mask_length}
use Rattle.word_steps_spec.specs.Ranges.{Range, distance, as_of, below_range, range_of}
use Rattle.word_steps_spec.specs.Spans.{Span, all_words, shorter, bounds_span, unsigned_bounds, as_integers, times_coefficient, monomial_interval, polynomial_interval, atom_interval, polynomial_span, sign_extended_span, quotient_span, both_spans, shifted_span, remainder_span, operator_span, cut_by, cut_by_facts, STEPS, span_within, span_of, Kept, kept_low, kept_high, kept_of, fits_signed_bits, fits_bits, fits_in, is_kept, same_by_fit, only_word, equality_by_span, unsigned_of, order_by_span, decided_by_fit}
use Rattle.word_steps_spec.proofs.Congruence.{IsCongruent, congruent_same, congruent_then, congruent_mod, congruent_equal}
use Rattle.word_steps_spec.proofs.Atoms.{IsAtom, AreAtoms, HasAtoms}
use Rattle.word_steps_spec.proofs.Sorts.{bool_sort, sort_bool}
use Rattle.word_steps_spec.proofs.CommHolds.{either_test, word_made}
use Rattle.word_steps_spec.proofs.BitsHold.{number_below, number_is_known, choice_of}
use Rattle.word_steps_spec.proofs.RingHolds.{polynomial_is}
use Rattle.word_steps_spec.proofs.RingSound.{words_are, sides_are, not_equal}
use Rattle.word_steps_spec.proofs.BitsSound.{equality_value}
use Rattle.word_steps_spec.proofs.BoundsHold.{IsWithin, bounds_are, positive_divisor, order_is, order_value, order_decided, else_by_sound}
use Rattle.word_steps_spec.proofs.LowBitsHold.{form_sum, word_low}
use Rattle.word_steps_spec.proofs.Distances.{mod_least, distance_sum, distance_is}
use Rattle.word_steps_spec.proofs.RangesHold.{as_of_is, IsKnownRange, fact_range}
use Rattle.word_steps_spec.proofs.QuotientNumbers.{moved_up_low}
use Rattle.word_steps_spec.proofs.SpanNumbers.{IsIn, IsBetween, signed_back, in_all, in_shorter, in_bounds, unsigned_within, integers_in, span_in, between_same, sum_in, coefficient_in, product_in, in_first, in_second, in_cut, in_quotient, fitting, in_sign_extended}

bits_some : (w : Width) → 0 < bits w
bits_some W8 = omega arith
bits_some W16 = omega arith
bits_some W32 = omega arith
bits_some W64 = omega arith

module _ (assignment : Assignment) (assigns : IsAssignment assignment) where
  abbrev number : Term → ℕ
  number t = number_of_value (value assignment t)

  abbrev pv : Polynomial → ℕ
  pv p = polynomial_value assignment p

  abbrev IsWord : Width → Term → Type 0
  IsWord w t = sort_of t ≡ Some (sort.Word w)

  abbrev AreTrue : List Term → Type 0
  AreTrue facts = AllByRecursion (λ t. value assignment t ≡ Truth true) facts

  below : (w : Width) (t : Term) → IsWord w t → number t < 2 ^ bits w
  below w t h = number_below assignment assigns w t h

  zero_extended : (u to : Width) (x : Term) → IsWord u x → number (zero_extend to x) ≡ number x
  unfolding value unary_value
  zero_extended u to x hx = let vx = word_of assignment assigns u x hx in rw vx.1 refl

  sign_extended : (u to : Width) (x : Term) → IsWord u x → number (sign_extend to x) ≡ low_bits (bits to) (number x + ones_if (is_negative (bits u) (number x)) (bits u) (bits to))
  unfolding value unary_value
  sign_extended u to x hx = let vx = word_of assignment assigns u x hx in rw vx.1 refl

  -- ---- polynomials and operators, where spans of words are known

  module _ (span : Term → Span) (knows : (t : Term) (w : Width) → sort_of t ≡ Some (sort.Word w) → IsIn (bits w) (number_of_value (value assignment t)) (span t)) where
    atom_in : (w : Width) (t : Term) → IsAtom w t → IsBetween (bits w) (number t) (atom_interval (bits w) span t)
    atom_in w t a = by (is_bool t) refl a
      where
        truth_between : (b : Bool) → IsBetween (bits w) (cond b 1 0) (record { down = 0; least = 0; greatest = 1 })
        truth_between true = record { place = 1; least = omega arith; greatest = omega arith; same = record { first = 0; second = 0; same = refl } }
        truth_between false = record { place = 0; least = omega arith; greatest = omega arith; same = record { first = 0; second = 0; same = refl } }

        by : (test : Bool) → is_bool t ≡ test → IsAtom w t
            → IsBetween (bits w) (number t) (cond test (record { down = 0; least = 0; greatest = 1 }) (as_integers (bits w) (span t)))
        by true e a =
            let vt = truth_value_of assignment assigns t (bool_sort t e) in
            subst (λ v. IsBetween (bits w) (number_of_value v) (record { down = 0; least = 0; greatest = 1 })) (sym vt.1) (truth_between vt.0)
        by false e (inl h) = integers_in (bits w) (number t) (span t) (knows t w h)
        by false e (inr h) = let wrong : true ≡ false = sym (sort_bool t h) ∙ e in absurd (cc)

    monomial_in : (w : Width) (ts : List Term) → AreAtoms w ts → IsBetween (bits w) (product assignment ts) (monomial_interval (atom_interval (bits w) span) ts)
    unfolding product monomial_interval
    monomial_in w [] are = record { place = 1; least = omega arith; greatest = omega arith; same = record { first = 0; second = 0; same = refl } }
    monomial_in w (t ∷ ts) are =
        product_in (bits w) (number t) (product assignment ts) (atom_interval (bits w) span t) (monomial_interval (atom_interval (bits w) span) ts)
        (atom_in w t are.0) (monomial_in w ts are.1)

    polynomial_between : (w : Width) (p : Polynomial) → HasAtoms w p → IsBetween (bits w) (pv p) (polynomial_interval (bits w) (atom_interval (bits w) span) p)
    unfolding polynomial_value polynomial_interval
    polynomial_between w [] are = record { place = 0; least = omega arith; greatest = omega arith; same = record { first = 0; second = 0; same = refl } }
    polynomial_between w (s ∷ p) are =
        sum_in (bits w) (s.coefficient * product assignment s.atoms) (pv p)
        (times_coefficient (bits w) s.coefficient (monomial_interval (atom_interval (bits w) span) s.atoms)) (polynomial_interval (bits w) (atom_interval (bits w) span) p)
        (coefficient_in (bits w) s.coefficient (product assignment s.atoms) (monomial_interval (atom_interval (bits w) span) s.atoms) (monomial_in w s.atoms are.0))
        (polynomial_between w p are.1)

    polynomial_in : (w : Width) (t : Term) → IsWord w t → IsIn (bits w) (number t) (polynomial_span (bits w) span (polynomial t))
    polynomial_in w t h =
        let is = polynomial_is assignment assigns t w h in
        span_in (bits w) (number t) (polynomial_interval (bits w) (atom_interval (bits w) span) (polynomial t)) (below w t h)
        (between_same (bits w) (pv (polynomial t)) (number t) (polynomial_interval (bits w) (atom_interval (bits w) span) (polynomial t)) (word_low assignment assigns w t h)
        (polynomial_between w (polynomial t) is.atoms))

    -- ---- operators

    all_in : (w : Width) (t : Term) → IsWord w t → IsIn (bits w) (number t) (all_words (bits w))
    all_in w t h = in_all (bits w) (number t) (below w t h)

    unsigned_in : (w : Width) (t : Term) → IsWord w t → IsWithin (number t) (unsigned_bounds (bits w) (span t))
    unsigned_in w t h = unsigned_within (bits w) (number t) (span t) (below w t h) (knows t w h)

    zero_extended_in : (w to : Width) (x : Term) → IsWord w (zero_extend to x) → IsIn (bits w) (number (zero_extend to x)) (bounds_span (unsigned_bounds (bits (width_of x)) (span x)))
    zero_extended_in w to x h =
        let r = zero_extend_of to x (sort.Word w) h in
        subst (λ u. IsIn (bits w) (number (zero_extend to x)) (bounds_span (unsigned_bounds (bits u) (span x)))) (sym (width_is x r.0.from r.0.sorted))
        (in_bounds (bits w) (number (zero_extend to x)) (unsigned_bounds (bits r.0.from) (span x))
        (subst (λ n. IsWithin n (unsigned_bounds (bits r.0.from) (span x))) (sym (zero_extended r.0.from to x r.0.sorted)) (unsigned_in r.0.from x r.0.sorted)))

    sign_extended_in : (w to : Width) (x : Term) → IsWord w (sign_extend to x) → IsIn (bits w) (number (sign_extend to x)) (sign_extended_span (bits (width_of x)) (bits to) (span x))
    sign_extended_in w to x h =
        let r = sign_extend_of to x (sort.Word w) h in
        let same : w ≡ to = ap width_of_sort r.0.gives in
        subst (λ u. IsIn (bits w) (number (sign_extend to x)) (sign_extended_span (bits u) (bits to) (span x))) (sym (width_is x r.0.from r.0.sorted))
        (subst (λ v. IsIn (bits v) (number (sign_extend to x)) (sign_extended_span (bits r.0.from) (bits to) (span x))) (sym same)
        (subst (λ n. IsIn (bits to) n (sign_extended_span (bits r.0.from) (bits to) (span x))) (sym (sign_extended r.0.from to x r.0.sorted))
        (in_sign_extended (bits r.0.from) (bits to) (number x) (span x) (bits_some r.0.from) (leb-true (bits r.0.from) (bits to) r.1) (below r.0.from x r.0.sorted)
        (knows x r.0.from r.0.sorted))))

    module _ (w : Width) (x y : Term) (hx : IsWord w x) (hy : IsWord w y) where
      made : (o : WordOperator) → number (on_words o x y) ≡ operation o (bits w) (number x) (number y)
      made o = word_made assignment assigns w o x y hx hy

      shifted_in : IsWord w (on_words word.ShiftRight x y) → IsIn (bits w) (number (on_words word.ShiftRight x y)) (shifted_span (bits w) y (span x))
      unfolding operation
      shifted_in h = by (is_constant y && nat_lt (number_of y) (bits w)) refl
        where
          by : (test : Bool) → (is_constant y && nat_lt (number_of y) (bits w)) ≡ test
              → IsIn (bits w) (number (on_words word.ShiftRight x y))
              (cond test (quotient_span (bits w) (unsigned_bounds (bits w) (span x)) (record { least = 2 ^ number_of y; greatest = 2 ^ number_of y })) (all_words (bits w)))
          by true e =
              let both = and_parts (is_constant y) (nat_lt (number_of y) (bits w)) e in
              in_quotient (bits w) (number (on_words word.ShiftRight x y)) (number x) (2 ^ number_of y) (unsigned_bounds (bits w) (span x))
              (record { least = 2 ^ number_of y; greatest = 2 ^ number_of y }) (below w (on_words word.ShiftRight x y) h)
              (λ some.
              made word.ShiftRight ∙ ap (λ k. cond (nat_lt k (bits w)) (number x / 2 ^ k) 0) (number_is_known assignment assigns w y hy both.0)
              ∙ ap (λ test. cond test (number x / 2 ^ number_of y) 0) both.1)
              (unsigned_in w x hx) (record { least = omega arith; greatest = omega arith })
          by false e = all_in w (on_words word.ShiftRight x y) h

      divided_in : IsWord w (on_words word.Divide x y)
          → IsIn (bits w) (number (on_words word.Divide x y)) (quotient_span (bits w) (unsigned_bounds (bits w) (span x)) (unsigned_bounds (bits w) (span y)))
      unfolding operation
      divided_in h =
          in_quotient (bits w) (number (on_words word.Divide x y)) (number x) (number y) (unsigned_bounds (bits w) (span x)) (unsigned_bounds (bits w) (span y))
          (below w (on_words word.Divide x y) h)
          (λ some.
          made word.Divide ∙ ap (λ test. cond test (2 ^ bits w - 1) (number x / number y)) (not_equal (number y) 0 (λ e. absurd (nothing (number y) some e))))
          (unsigned_in w x hx) (unsigned_in w y hy)
        where
          nothing : (n : ℕ) → 0 < n → n ≡ 0 → ⊥
          nothing n l e = omega arith

      remainder_in : IsWord w (on_words word.Remainder x y) → IsIn (bits w) (number (on_words word.Remainder x y)) (remainder_span (bits w) y)
      unfolding operation
      remainder_in h = by (is_divisor y) refl
        where
          by : (test : Bool) → is_divisor y ≡ test → IsIn (bits w) (number (on_words word.Remainder x y)) (cond test (record { first = 0; width = number_of y - 1 }) (all_words (bits w)))
          by true e =
              let both = and_parts (is_constant y) _ e in
              let some = positive_divisor (number_of y) both.1 in
              let less = mod_below (number x) (number_of y) some.0 in
              let is : number (on_words word.Remainder x y) ≡ number x % number_of y =
              made word.Remainder ∙ ap (λ k. cond (k == 0) (number x) (number x % k)) (number_is_known assignment assigns w y hy both.0)
              ∙ ap (λ test. cond test (number x) (number x % number_of y)) some.1 in
              record {
                offset = number (on_words word.Remainder x y);
                within = omega arith;
                same = congruent_same (2 ^ bits w) (0 + number (on_words word.Remainder x y)) (number (on_words word.Remainder x y)) (omega arith);
              }
          by false e = all_in w (on_words word.Remainder x y) h

    chosen_in : (w : Width) (c x y : Term) → IsWord w (choose c x y) → IsIn (bits w) (number (choose c x y)) (both_spans (bits w) (span x) (span y))
    chosen_in w c x y h =
        let is = choice_of assignment assigns w c x y h in
        let vc = truth_value_of assignment assigns c is.test in
        subst (λ a. IsIn (bits w) (number_of_value a) (both_spans (bits w) (span x) (span y))) (sym (value-choose assignment c x y vc.0 vc.1)) (by vc.0 is.first is.second)
      where
        by : (test : Bool) → IsWord w x → IsWord w y → IsIn (bits w) (number_of_value (cond test (value assignment x) (value assignment y))) (both_spans (bits w) (span x) (span y))
        by true hx hy = in_first (bits w) (number x) (span x) (span y) (below w x hx) (knows x w hx)
        by false hx hy = in_second (bits w) (number y) (span x) (span y) (below w y hy) (knows y w hy)

    -- of an operation on words of one width
    on_words_in : (w : Width) (o : WordOperator) (x y : Term) → IsWord w (on_words o x y) → IsWord w x × IsWord w y
    on_words_in w o x y h =
        let is = words_of o x y (sort.Word w) h in
        let one : is.0 ≡ w = sym (ap width_of_sort is.1) in
        (subst (λ u. IsWord u x) one is.2, subst (λ u. IsWord u y) one is.3)

    operator_in : (w : Width) (t : Term) → IsWord w t → IsIn (bits w) (number t) (operator_span (bits w) span t)
    unfolding operator_span
    operator_in w (Unary (unary.SignExtend to) x) h = sign_extended_in w to x h
    operator_in w (Unary (unary.ZeroExtend to) x) h = zero_extended_in w to x h
    operator_in w (Binary (binary.Word word.ShiftRight) x y) h = let are = on_words_in w word.ShiftRight x y h in shifted_in w x y are.0 are.1 h
    operator_in w (Binary (binary.Word word.Divide) x y) h = let are = on_words_in w word.Divide x y h in divided_in w x y are.0 are.1 h
    operator_in w (Binary (binary.Word word.Remainder) x y) h = let are = on_words_in w word.Remainder x y h in remainder_in w x y are.0 are.1 h
    operator_in w (Ternary ternary.Choose c x y) h = chosen_in w c x y h
    operator_in w t h = all_in w t h

  -- ---- facts

  cut_by_in : (w : Width) (t : Term) (s : Span) → IsWord w t → IsIn (bits w) (number t) s → (q : Range) → IsKnownRange assignment assigns q
      → (o : Option Range) → as_of (below_range (bits w) (polynomial t) 0) q ≡ o → IsIn (bits w) (number t) (cut_by (bits w) (polynomial t) s o)
  cut_by_in w t s h is q known (Some k) e =
      let read = as_of_is assignment assigns (below_range (bits w) (polynomial t) 0) q k known.fits e in
      subst (λ (j : Range). IsIn (bits w) (number t) (cut_by (bits w) (polynomial t) s (Some j))) read.is
      (in_cut (bits w) (number t) s (record { first = read.start + constant_of (polynomial t); width = q.length - 1 }) is
      (from read.start (ltb-true (distance (bits w) read.start (pv (form_of (polynomial t)))) q.length (read.same ∙ known.inside))))
    where
      moved : (f a d p n : ℕ) → IsCongruent (2 ^ bits w) (f + d) p → IsCongruent (2 ^ bits w) (p + a) n → IsCongruent (2 ^ bits w) (f + a + d) n
      moved f a d p n c1 c2 =
          let e1 = c1.same in
          let e2 = c2.same in
          record { first = c1.first + c2.first; second = c1.second + c2.second; same = omega arith }

      from : (start : ℕ) → distance (bits w) start (pv (form_of (polynomial t))) < q.length
          → IsIn (bits w) (number t) (record { first = start + constant_of (polynomial t); width = q.length - 1 })
      from start less = record {
        offset = distance (bits w) start (pv (form_of (polynomial t)));
        within = omega arith;
        same =
            moved start (constant_of (polynomial t)) (distance (bits w) start (pv (form_of (polynomial t)))) (pv (form_of (polynomial t))) (number t)
            (distance_sum (bits w) start (pv (form_of (polynomial t))))
            (subst (λ n. IsCongruent (2 ^ bits w) n (number t)) (sym (form_sum assignment assigns (polynomial t))) (word_low assignment assigns w t h));
      }
  cut_by_in w t s h is q known None e = is

  cut_by_facts_in : (w : Width) (t : Term) → IsWord w t → (facts : List Term) → AreTrue facts → (s : Span) → IsIn (bits w) (number t) s
      → IsIn (bits w) (number t) (cut_by_facts (bits w) (polynomial t) facts s)
  unfolding cut_by_facts
  cut_by_facts_in w t h [] are s is = is
  cut_by_facts_in w t h (fact ∷ facts) are s is =
      cut_by_facts_in w t h facts are.1 (cut_by (bits w) (polynomial t) s (option_and_then (as_of (below_range (bits w) (polynomial t) 0)) (range_of fact)))
      (by (range_of fact) refl)
    where
      by : (o : Option Range) → range_of fact ≡ o
          → IsIn (bits w) (number t) (cut_by (bits w) (polynomial t) s (option_and_then (as_of (below_range (bits w) (polynomial t) 0)) o))
      by (Some q) d = cut_by_in w t s h is q (fact_range assignment assigns fact q are.0 d) (as_of (below_range (bits w) (polynomial t) 0) q) refl
      by None d = is

  -- ---- the span of a word

  span_is : (k : ℕ) (facts : List Term) → AreTrue facts → (t : Term) (w : Width) → IsWord w t → IsIn (bits w) (number t) (span_within k facts t)
  unfolding span_within
  span_is zero facts are t w h = in_bounds (bits w) (number t) (bounds_of t) (bounds_are assignment assigns t w h)
  span_is (suc k) facts are t w h =
      subst (λ u.
      IsIn (bits w) (number t)
      (cut_by_facts (bits u) (polynomial t) facts
      (shorter (bounds_span (bounds_of t)) (shorter (polynomial_span (bits u) (span_within k facts) (polynomial t)) (operator_span (bits u) (span_within k facts) t)))))
      (sym (width_is t w h))
      (cut_by_facts_in w t h facts are
      (shorter (bounds_span (bounds_of t)) (shorter (polynomial_span (bits w) (span_within k facts) (polynomial t)) (operator_span (bits w) (span_within k facts) t)))
      (in_shorter (bits w) (number t) (bounds_span (bounds_of t)) (shorter (polynomial_span (bits w) (span_within k facts) (polynomial t)) (operator_span (bits w) (span_within k facts) t))
      (in_bounds (bits w) (number t) (bounds_of t) (bounds_are assignment assigns t w h))
      (in_shorter (bits w) (number t) (polynomial_span (bits w) (span_within k facts) (polynomial t)) (operator_span (bits w) (span_within k facts) t)
      (polynomial_in (span_within k facts) (span_is k facts are) w t h) (operator_in (span_within k facts) (span_is k facts are) w t h))))

  -- ---- words that fit

  -- the number of a term that keeps l low bits of x
  record Keeps (w : Width) (t : Term) (k : Kept) : Type 0 where
    pub short : k.length ≤ bits w
    pub some : k.with_sign ≡ true → 0 < k.length
    pub plain : k.with_sign ≡ false → number t ≡ number k.word % 2 ^ k.length
    pub signed : k.with_sign ≡ true → number t ≡ low_bits (bits w) (number k.word % 2 ^ k.length + ones_if (is_negative k.length (number k.word % 2 ^ k.length)) k.length (bits w))

  kept_value : (w : Width) (t : Term) (k : Kept) (s : Span) → IsWord w k.word → Keeps w t k → IsIn (bits w) (number k.word) s → fits_in (bits w) k s ≡ true → number t ≡ number k.word
  kept_value w t k s h keeps is e = by k.with_sign refl e
    where
      no_more : (n : ℕ) → n + 0 ≡ n
      no_more n = omega arith

      by : (test : Bool) → k.with_sign ≡ test → cond test (fits_signed_bits (bits w) k.length s) (fits_bits (bits w) k.length s) ≡ true → number t ≡ number k.word
      by true d f =
          keeps.signed d ∙ signed_back (bits w) k.length (number k.word) (keeps.some d) keeps.short (below w k.word h) (fitting (bits w) (number k.word) (2 ^ (k.length - 1)) k.length s keeps.short is f)
      by false d f =
          let small = fitting (bits w) (number k.word) 0 k.length s keeps.short is (ap (λ n. nat_lt (n % 2 ^ bits w + s.width) (2 ^ k.length)) (no_more s.first) ∙ f) in
          let plain = mod-small (number k.word) (2 ^ bits w) (below w k.word h) in
          let zero_more = ap (λ n. n % 2 ^ bits w) (no_more (number k.word)) in
          keeps.plain d ∙ mod-small (number k.word) (2 ^ k.length) (omega arith)

  -- `low` and the byte 0
  record IsLow (sign : Bool) (t : Term) (k : Kept) : Type 0 where
    pub from : Width
    pub sorted : IsWord from t
    pub length_is : k.length ≡ bits from
    pub sign_is : k.with_sign ≡ sign
    pub number_is : number t ≡ number k.word % 2 ^ k.length

  low_number : (u v : Width) (x : Term) → IsWord u x → number (low v x) ≡ number x % 2 ^ bits v
  unfolding value unary_value
  low_number u v x h = let vx = word_of assignment assigns u x h in rw vx.1 refl

  byte_number : (u : Width) (x : Term) (place : ℕ) → IsWord u x → number (byte place x) ≡ low_bits 8 (number x / 2 ^ (8 * place))
  unfolding value unary_value
  byte_number u x place h = let vx = word_of assignment assigns u x h in rw vx.1 refl

  kept_low_is : (sign : Bool) (t : Term) (v : Width) (k : Kept) → IsWord v t → kept_low sign t ≡ Some k → IsLow sign t k
  unfolding kept_low
  kept_low_is sign (Unary (unary.Low width) x) v k h e =
      let r = low_of width x (sort.Word v) h in
      let same : v ≡ width = ap width_of_sort r.0.gives in
      subst (IsLow sign (low width x)) (same_Some (record { word = x; length = bits width; with_sign = sign }) k e) (record {
        from = width;
        sorted = subst (λ u. IsWord u (low width x)) same h;
        length_is = refl;
        sign_is = refl;
        number_is = low_number r.0.from width x r.0.sorted;
      })
  kept_low_is sign (Unary (unary.Byte place) x) v k h e =
      let passed = cond_some (place == 0) (record { word = x; length = 8; with_sign = sign }) k e in
      let r = byte_parts place x (sort.Word v) h in
      let none = eqb-true place 0 passed.0 in
      let same : v ≡ W8 = ap width_of_sort r.2 in
      subst (IsLow sign (byte place x)) passed.1 (record {
        from = W8;
        sorted = subst (λ u. IsWord u (byte place x)) same h;
        length_is = refl;
        sign_is = refl;
        number_is = byte_number r.0 x place r.1 ∙ ap (λ n. low_bits 8 (number x / 2 ^ (8 * n))) none ∙ first_byte (number x);
      })
    where
      first_byte : (n : ℕ) → low_bits 8 (n / 2 ^ (8 * 0)) ≡ n % 2 ^ 8
      first_byte n = omega arith
  kept_low_is sign t v k h e = absurd (cc)

  arguments_of : (w : Width) (o : WordOperator) (x y : Term) → IsWord w (on_words o x y) → IsWord w x × IsWord w y
  arguments_of w o x y h =
      let is = words_of o x y (sort.Word w) h in
      let one : is.0 ≡ w = sym (ap width_of_sort is.1) in
      (subst (λ u. IsWord u x) one is.2, subst (λ u. IsWord u y) one is.3)

  -- `shl` by c, moved down again
  record IsHigh (w : Width) (sign : Bool) (c t : Term) (k : Kept) : Type 0 where
    pub sorted : IsWord w k.word
    pub constant : is_constant c ≡ true
    pub small : number_of c < bits w
    pub length_is : k.length ≡ bits w - number_of c
    pub sign_is : k.with_sign ≡ sign
    pub number_is : number t ≡ number k.word % 2 ^ (bits w - number_of c) * 2 ^ number_of c

  powers : (w c : ℕ) → c < w → 2 ^ w ≡ 2 ^ (w - c) * 2 ^ c
  powers w c less = let sum : w ≡ (w - c) + c = omega arith in ap (λ k. 2 ^ k) sum ∙ pow-add 2 (w - c) c

  kept_high_is : (w : Width) (sign : Bool) (c t : Term) (k : Kept) → IsWord w t → IsWord w c → kept_high sign c t ≡ Some k → IsHigh w sign c t k
  unfolding kept_high operation
  kept_high_is w sign c (Binary (binary.Word word.ShiftLeft) x d) k ht hc e =
      let passed =
      cond_some (same_term d c && (is_constant c && nat_lt (number_of c) (bits (width_of x)))) (record { word = x; length = bits (width_of x) - number_of c; with_sign = sign }) k e in
      let one = and_parts (same_term d c) (is_constant c && nat_lt (number_of c) (bits (width_of x))) passed.0 in
      let two = and_parts (is_constant c) (nat_lt (number_of c) (bits (width_of x))) one.1 in
      let are = arguments_of w word.ShiftLeft x d ht in
      let width = width_is x w are.0 in
      let less : number_of c < bits w = subst (λ u. number_of c < bits u) width (ltb-true (number_of c) (bits (width_of x)) two.1) in
      let d_is : number d ≡ number_of c = ap number (same_is d c one.0) ∙ number_is_known assignment assigns w c hc two.0 in
      let split = powers (bits w) (number_of c) less in
      subst (IsHigh w sign c (on_words word.ShiftLeft x d)) passed.1 (record {
        sorted = are.0;
        constant = two.0;
        small = less;
        length_is = ap (λ u. bits u - number_of c) width;
        sign_is = refl;
        number_is =
            word_made assignment assigns w word.ShiftLeft x d are.0 are.1 ∙ ap (λ n. cond (nat_lt n (bits w)) (number x * 2 ^ n % 2 ^ bits w) 0) d_is
            ∙ ap (λ b. cond b (number x * 2 ^ number_of c % 2 ^ bits w) 0) (lt-ltb (number_of c) (bits w) less)
            ∙ ap (λ m. number x * 2 ^ number_of c % m) split
            ∙ moved_up_low (number x) (2 ^ (bits w - number_of c)) (2 ^ number_of c) (pow_pos (bits w - number_of c)) (pow_pos (number_of c));
      })
  kept_high_is w sign c t k ht hc e = absurd (cc)

  -- the top bit of a number moved up
  top_moved : (l c a : ℕ) → 0 < l → is_negative (l + c) (a * 2 ^ c) ≡ is_negative l a
  top_moved l c a some = by (nat_le (2 ^ (l - 1)) a) refl
    where
      split : 2 ^ (l + c - 1) ≡ 2 ^ (l - 1) * 2 ^ c
      split = let sum : l + c - 1 ≡ (l - 1) + c = omega arith in ap (λ k. 2 ^ k) sum ∙ pow-add 2 (l - 1) c

      by : (test : Bool) → nat_le (2 ^ (l - 1)) a ≡ test → nat_le (2 ^ (l + c - 1)) (a * 2 ^ c) ≡ test
      by true e = let s = split in let more = mul-le (2 ^ (l - 1)) (2 ^ c) a (2 ^ c) (leb-true (2 ^ (l - 1)) a e) (omega arith) in le-leb (2 ^ (l + c - 1)) (a * 2 ^ c) (omega arith)
      by false e =
          let s = split in
          let p = pow_pos c in
          let less = leb-false (2 ^ (l - 1)) a e in
          let more = mul-le (a + 1) (2 ^ c) (2 ^ (l - 1)) (2 ^ c) (omega arith) (omega arith) in
          let one : (a + 1) * 2 ^ c ≡ a * 2 ^ c + 2 ^ c = plus_one a (2 ^ c) in
          lt-leb (2 ^ (l + c - 1)) (a * 2 ^ c) (omega arith)
        where
          plus_one : (a b : ℕ) → (a + 1) * b ≡ a * b + b
          plus_one a b = omega arith

  high_parts : (w c n t : ℕ) → c < w → t ≡ n % 2 ^ (w - c) * 2 ^ c → (t / 2 ^ c ≡ n % 2 ^ (w - c)) × (is_negative w t ≡ is_negative (w - c) (n % 2 ^ (w - c)))
  high_parts w c n t less e =
      let sum : w ≡ (w - c) + c = omega arith in (
        ap (λ k. k / 2 ^ c) e ∙ mul-div_cancel (n % 2 ^ (w - c)) (pow_pos c),
        ap (is_negative w) e ∙ ap (λ u. is_negative u (n % 2 ^ (w - c) * 2 ^ c)) sum ∙ top_moved (w - c) c (n % 2 ^ (w - c)) (omega arith),
      )

  mask_short : (k n : ℕ) → mask_length k n ≤ k
  unfolding mask_length
  mask_short zero n = omega arith
  mask_short (suc k) n = by (n == 2 ^ suc k - 1) (mask_short k n)
    where
      by : (test : Bool) → mask_length k n ≤ k → cond test (suc k) (mask_length k n) ≤ suc k
      by true le = omega arith
      by false le = omega arith

  kept_is : (w : Width) (t : Term) (k : Kept) → IsWord w t → IsWord w k.word → kept_of t ≡ Some k → Keeps w t k
  unfolding kept_of operation
  kept_is w (Unary (unary.SignExtend to) t) k h hx e =
      let r = sign_extend_of to t (sort.Word w) h in
      let is = kept_low_is true t r.0.from k r.0.sorted e in
      let same : w ≡ to = ap width_of_sort r.0.gives in
      let from_is : is.from ≡ r.0.from = ap width_of_sort (same_Some (sort.Word is.from) (sort.Word r.0.from) (sym is.sorted ∙ r.0.sorted)) in
      let length_is : k.length ≡ bits r.0.from = is.length_is ∙ ap bits from_is in
      record {
        short = subst (λ n. n ≤ bits w) (sym length_is) (subst (λ v. bits r.0.from ≤ bits v) (sym same) (leb-true (bits r.0.from) (bits to) r.1));
        some = λ d. subst (λ n. 0 < n) (sym length_is) (bits_some r.0.from);
        plain = λ d. let wrong : true ≡ false = sym is.sign_is ∙ d in absurd (cc);
        signed = λ d.
            sign_extended r.0.from to t r.0.sorted
            ∙ ap (λ n. low_bits (bits to) (n + ones_if (is_negative (bits r.0.from) n) (bits r.0.from) (bits to))) is.number_is
            ∙ ap (λ l. low_bits (bits to) (number k.word % 2 ^ k.length + ones_if (is_negative l (number k.word % 2 ^ k.length)) l (bits to))) (sym length_is)
            ∙ ap (λ v. low_bits (bits v) (number k.word % 2 ^ k.length + ones_if (is_negative k.length (number k.word % 2 ^ k.length)) k.length (bits v))) (sym same);
      }
  kept_is w (Unary (unary.ZeroExtend to) t) k h hx e =
      let r = zero_extend_of to t (sort.Word w) h in
      let is = kept_low_is false t r.0.from k r.0.sorted e in
      let same : w ≡ to = ap width_of_sort r.0.gives in
      let from_is : is.from ≡ r.0.from = ap width_of_sort (same_Some (sort.Word is.from) (sort.Word r.0.from) (sym is.sorted ∙ r.0.sorted)) in
      let length_is : k.length ≡ bits r.0.from = is.length_is ∙ ap bits from_is in
      record {
        short = subst (λ n. n ≤ bits w) (sym length_is) (subst (λ v. bits r.0.from ≤ bits v) (sym same) (leb-true (bits r.0.from) (bits to) r.1));
        some = λ d. let wrong : false ≡ true = sym is.sign_is ∙ d in absurd (cc);
        plain = λ d. zero_extended r.0.from to t r.0.sorted ∙ is.number_is;
        signed = λ d. let wrong : false ≡ true = sym is.sign_is ∙ d in absurd (cc);
      }
  kept_is w (Binary (binary.Word word.ShiftRightSigned) t c) k h hx e =
      let are = arguments_of w word.ShiftRightSigned t c h in
      let is = kept_high_is w true c t k are.0 are.1 e in
      let c_is = number_is_known assignment assigns w c are.1 is.constant in
      let parts = high_parts (bits w) (number_of c) (number k.word) (number t) is.small is.number_is in
      record {
        short = subst (λ n. n ≤ bits w) (sym is.length_is) (omega arith);
        some = λ d. subst (λ n. 0 < n) (sym is.length_is) (let less = is.small in omega arith);
        plain = λ d. let wrong : true ≡ false = sym is.sign_is ∙ d in absurd (cc);
        signed = λ d.
            word_made assignment assigns w word.ShiftRightSigned t c are.0 are.1
            ∙ ap (λ n. cond (nat_lt n (bits w)) (shifted_with_sign (bits w) (number t) n) (ones_if (is_negative (bits w) (number t)) 0 (bits w))) c_is
            ∙ ap (λ b. cond b (shifted_with_sign (bits w) (number t) (number_of c)) (ones_if (is_negative (bits w) (number t)) 0 (bits w))) (lt-ltb (number_of c) (bits w) is.small)
            ∙ ap (λ n. low_bits (bits w) (n + ones_if (is_negative (bits w) (number t)) (bits w - number_of c) (bits w))) parts.0
            ∙ ap (λ b. low_bits (bits w) (number k.word % 2 ^ (bits w - number_of c) + ones_if b (bits w - number_of c) (bits w))) parts.1
            ∙ ap (λ l. low_bits (bits w) (number k.word % 2 ^ l + ones_if (is_negative l (number k.word % 2 ^ l)) l (bits w))) (sym is.length_is);
      }
  kept_is w (Binary (binary.Word word.ShiftRight) t c) k h hx e =
      let are = arguments_of w word.ShiftRight t c h in
      let is = kept_high_is w false c t k are.0 are.1 e in
      let c_is = number_is_known assignment assigns w c are.1 is.constant in
      let parts = high_parts (bits w) (number_of c) (number k.word) (number t) is.small is.number_is in
      record {
        short = subst (λ n. n ≤ bits w) (sym is.length_is) (omega arith);
        some = λ d. let wrong : false ≡ true = sym is.sign_is ∙ d in absurd (cc);
        plain = λ d.
            word_made assignment assigns w word.ShiftRight t c are.0 are.1 ∙ ap (λ n. cond (nat_lt n (bits w)) (number t / 2 ^ n) 0) c_is
            ∙ ap (λ b. cond b (number t / 2 ^ number_of c) 0) (lt-ltb (number_of c) (bits w) is.small) ∙ parts.0 ∙ ap (λ l. number k.word % 2 ^ l) (sym is.length_is);
        signed = λ d. let wrong : false ≡ true = sym is.sign_is ∙ d in absurd (cc);
      }
  kept_is w (Binary (binary.Word word.And) x y) k h hx e =
      let are = arguments_of w word.And x y h in
      let passed =
      cond_some (is_constant y && number_of y == 2 ^ mask_length (bits (width_of x)) (number_of y) - 1)
      (record { word = x; length = mask_length (bits (width_of x)) (number_of y); with_sign = false }) k e in
      let both = and_parts (is_constant y) (number_of y == 2 ^ mask_length (bits (width_of x)) (number_of y) - 1) passed.0 in
      let mask_is = number_is_known assignment assigns w y are.1 both.0 ∙ eqb-true (number_of y) (2 ^ mask_length (bits (width_of x)) (number_of y) - 1) both.1 in
      subst (Keeps w (on_words word.And x y)) passed.1 (record {
        short = subst (λ u. mask_length (bits (width_of x)) (number_of y) ≤ bits u) (width_is x w are.0) (mask_short (bits (width_of x)) (number_of y));
        some = λ d. absurd (cc);
        plain = λ d. word_made assignment assigns w word.And x y are.0 are.1 ∙ ap (bit_and (number x)) mask_is ∙ and_mask (number x) (mask_length (bits (width_of x)) (number_of y));
        signed = λ d. absurd (cc);
      })
  kept_is w t k h hx e = absurd (cc)

  -- ---- `fit X Y`

  one_value : (w : Width) (t u : Term) → IsWord w t → IsWord w u → number t ≡ number u → value assignment t ≡ value assignment u
  one_value w t u ht hu e =
      let vt = word_of assignment assigns w t ht in
      let vu = word_of assignment assigns w u hu in
      vt.1 ∙ ap (Number w) (sym (ap number_of_value vt.1) ∙ e ∙ ap number_of_value vu.1) ∙ sym vu.1

  kept_sound : (facts : List Term) (t u : Term) → AreTrue facts → (o : Option Kept) → kept_of t ≡ o → is_kept facts t o u ≡ true → value assignment t ≡ value assignment u
  kept_sound facts t u true_facts (Some k) d e =
      let one = and_parts (same_term k.word u) (are_words t u && fits_in (bits (width_of u)) k (span_of facts u)) e in
      let two = and_parts (are_words t u) (fits_in (bits (width_of u)) k (span_of facts u)) one.1 in
      let are = words_are assignment assigns t u two.0 in
      let same = same_is k.word u one.0 in
      let hx : IsWord (width_of t) k.word = ap sort_of same ∙ are.second in
      let fits : fits_in (bits (width_of t)) k (span_of facts u) ≡ true =
      subst (λ v. fits_in (bits v) k (span_of facts u) ≡ true) (width_is u (width_of t) are.second) two.1 in
      one_value (width_of t) t u are.first are.second
      (kept_value (width_of t) t k (span_of facts u) hx (kept_is (width_of t) t k are.first hx d)
      (subst (λ v. IsIn (bits (width_of t)) (number v) (span_of facts u)) (sym same) (span_is STEPS facts true_facts u (width_of t) are.second)) fits ∙ ap number same)
  kept_sound facts t u true_facts None d e = absurd (cc)

  pub fit_sound : (facts : List Term) (t u : Term) → AreTrue facts → same_by_fit facts t u ≡ true → value assignment t ≡ value assignment u
  unfolding same_by_fit
  fit_sound facts t u are e =
      either_test (is_kept facts t (kept_of t) u) (is_kept facts u (kept_of u) t) e (λ h. kept_sound facts t u are (kept_of t) refl h)
      (λ h. sym (kept_sound facts u t are (kept_of u) refl h))

  -- ---- `fit X`

  only_word_sound : (facts : List Term) (x : Term) (constant : Atom) → AreTrue facts → only_word x (span_of facts x) ≡ Some constant → value assignment x ≡ value assignment (Leaf constant)
  unfolding value
  only_word_sound facts x constant true_facts e =
      let passed = cond_some (are_words x x && (span_of facts x).width == 0) (atom.Constant (width_of x) ((span_of facts x).first % 2 ^ bits (width_of x))) constant e in
      let both = and_parts (are_words x x) ((span_of facts x).width == 0) passed.0 in
      let h = (words_are assignment assigns x x both.0).first in
      let is = span_is STEPS facts true_facts x (width_of x) h in
      let vx = word_of assignment assigns (width_of x) x h in
      vx.1 ∙ ap (Number (width_of x)) (sym (ap number_of_value vx.1) ∙ sym (only (bits (width_of x)) (number x) (span_of facts x) (eqb-true (span_of facts x).width 0 both.1) is (below (width_of x) x h)))
      ∙ ap (λ a. value assignment (Leaf a)) passed.1
    where
      only : (count n : ℕ) (s : Span) → s.width ≡ 0 → IsIn count n s → n < 2 ^ count → s.first % 2 ^ count ≡ n
      only count n s none is below_n =
          let w = is.within in
          congruent_equal (2 ^ count) (s.first % 2 ^ count) n
          (congruent_then (2 ^ count) (s.first % 2 ^ count) s.first n (congruent_mod (2 ^ count) s.first)
          (congruent_then (2 ^ count) s.first (s.first + is.offset) n (congruent_same (2 ^ count) s.first (s.first + is.offset) (omega arith)) is.same))
          (mod_below s.first (2 ^ count) (pow_pos count)) below_n

  equality_sound : (facts : List Term) (x : Term) (constant : Atom) → AreTrue facts → (o : Option Sides) → sides_of x ≡ o → equality_by_span facts o ≡ Some constant
      → value assignment x ≡ value assignment (Leaf constant)
  unfolding value
  equality_sound facts x constant true_facts (Some s) d e =
      let of_x = sides_are assignment assigns x s d in
      let are = words_are assignment assigns s.left s.right of_x.are in
      let passed =
      cond_some (is_constant s.right && nat_lt (span_of facts s.left).width (distance (bits (width_of s.left)) (span_of facts s.left).first (number_of s.right)))
      (atom.Truth false) constant e in
      let both = and_parts (is_constant s.right) (nat_lt (span_of facts s.left).width (distance (bits (width_of s.left)) (span_of facts s.left).first (number_of s.right))) passed.0 in
      let less = ltb-true (span_of facts s.left).width (distance (bits (width_of s.left)) (span_of facts s.left).first (number_of s.right)) both.1 in
      let known = number_is_known assignment assigns (width_of s.left) s.right are.second both.0 in
      equality_value assignment assigns x s of_x
      ∙ ap Truth (not_equal (number s.left) (number s.right) (λ same.
      outside (bits (width_of s.left)) (number s.left) (number_of s.right) (span_of facts s.left) (span_is STEPS facts true_facts s.left (width_of s.left) are.first) (same ∙ known) less))
      ∙ ap (λ a. value assignment (Leaf a)) passed.1
    where
      outside : (count n c : ℕ) (s : Span) → IsIn count n s → n ≡ c → s.width < distance count s.first c → ⊥
      outside count n c s is same less =
          let w = is.within in
          let far = distance_is count s.first c is.offset (subst (λ k. IsCongruent (2 ^ count) (s.first + is.offset) k) same is.same) in
          let le = mod_least is.offset (2 ^ count) in
          omega arith
  equality_sound facts x constant true_facts None d e = absurd (cc)

  order_sound : (facts : List Term) (x : Term) (constant : Atom) → AreTrue facts → (o : Option Sides) → order_of x ≡ o → order_by_span facts o ≡ Some constant
      → value assignment x ≡ value assignment (Leaf constant)
  order_sound facts x constant true_facts (Some s) d e =
      let of_x = order_is assignment assigns x s d in
      let are = words_are assignment assigns s.left s.right of_x.are in
      order_value assignment assigns x s of_x
      ∙ order_decided assignment assigns (number s.left) (number s.right) (unsigned_of facts s.left) (unsigned_of facts s.right)
      (unsigned_is s.left (width_of s.left) are.first) (unsigned_is s.right (width_of s.left) are.second) constant e
    where
      unsigned_is : (t : Term) (w : Width) → IsWord w t → IsWithin (number t) (unsigned_of facts t)
      unsigned_is t w h =
          subst (λ u. IsWithin (number t) (unsigned_bounds (bits u) (span_of facts t))) (sym (width_is t w h))
          (unsigned_within (bits w) (number t) (span_of facts t) (below w t h) (span_is STEPS facts true_facts t w h))
  order_sound facts x constant true_facts None d e = absurd (cc)

  pub decided_fit_sound : (facts : List Term) (x : Term) (constant : Atom) → AreTrue facts → decided_by_fit facts x ≡ Some constant → value assignment x ≡ value assignment (Leaf constant)
  unfolding decided_by_fit
  decided_fit_sound facts x constant are e =
      else_by_sound assignment assigns x constant (only_word x (span_of facts x)) (else_by (equality_by_span facts (sides_of x)) (order_by_span facts (order_of x)))
      (λ h. only_word_sound facts x constant are h)
      (λ g.
      else_by_sound assignment assigns x constant (equality_by_span facts (sides_of x)) (order_by_span facts (order_of x))
      (λ h. equality_sound facts x constant are (sides_of x) refl h) (λ h. order_sound facts x constant are (order_of x) refl h) g) e
