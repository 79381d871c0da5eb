-- The bits of a word are those of its value.
use Rattle.std.proofs.Common.{◌≡◌, ℕ, zero, suc, ◌+◌, ◌-◌, ◌*◌, ◌/◌, ◌%◌, ◌^◌, ◌<◌, ◌≤◌, Bool, true, false, cond, List, [], ◌∷◌, map, length, Some, ◌⊎◌, inl, inr, refl, sym, ap, ◌∙◌, subst, arith, eqb-true, ltb-true, ltb-false}
use Rattle.std.specs.Prelude.{◌==◌, ◌&&◌, ◌||◌, nat_lt, nat_le, min, max}
use Rattle.std.specs.Int.{bit_at}
use Rattle.std.specs.List.{AllByRecursion}
use Rattle.std.proofs.lemmas.Bool.{and_parts, leb-true, cases_lt}
use Rattle.std.proofs.lemmas.Option.{same_Some}
use Rattle.std.proofs.lemmas.Nat.Bits.{bit_at-lt, bit_at_and, bit_at_or, bit_at_xor, bit_at_above, same_from_bits_below}
use Rattle.term_core_spec.specs.declared.Width.{Width}
use Rattle.term_core_spec.specs.declared.Width.TheVariants.{W8, W16, W32, W64}
use Rattle.term_core_spec.specs.declared.Sort.{Sort}
use Rattle.term_core_spec.specs.declared.Sort.TheVariants as sort
use Rattle.term_core_spec.specs.declared.Atom.TheVariants as atom
use Rattle.term_core_spec.specs.declared.UnaryOperator.{UnaryOperator}
use Rattle.term_core_spec.specs.declared.UnaryOperator.TheVariants as unary
use Rattle.term_core_spec.specs.declared.WordOperator.{WordOperator}
use Rattle.term_core_spec.specs.declared.WordOperator.TheVariants as word
use Rattle.term_core_spec.specs.declared.BinaryOperator.TheVariants as binary
use Rattle.term_core_spec.specs.declared.TernaryOperator.TheVariants as ternary
use Rattle.term_core_spec.specs.declared.QuaternaryOperator.TheVariants as quaternary
use Rattle.term_core_spec.specs.Term.{Term, Leaf, Unary, Binary, Ternary, Quaternary, Octonary, choose, low, byte, zero_extend, sign_extend, on_words}
use Rattle.term_core_spec.specs.Sort.{bits, bits_of as bits_of_sort, is_word, is_truth, same_sort, sort_of, sort_of_unary, sort_of_ternary}
use Rattle.term_core_spec.specs.Value.{Number, Assignment, IsAssignment, value, unary_value, operation, low_bits, is_negative, ones_if, byte_of, number_of_bytes}
use Rattle.term_core_spec.specs.Same.{same_term}
use Rattle.term_core_spec.proofs.Same.{same_is}
use Rattle.term_core_spec.proofs.Sorts.{sort_if-some, with_one-some, with_three-some, same_sort-true, word_width}
use Rattle.term_norm_spec.specs.Patterns.{width_of_sort, is_constant, number_of}
use Rattle.term_norm_spec.proofs.Bytes.{AllBytes, number_more, number_of_all}
use Rattle.term_norm_spec.proofs.Cuts.{zero_extend_of, sign_extend_of, low_of, IsJoin, join_two_is, join_four_is, join_eight_is}
use Rattle.term_norm_spec.proofs.Keeps.{width_is, constant_is}
use Rattle.term_norm_spec.proofs.Truths.{truth_value_of, value-choose}
use Rattle.term_norm_spec.proofs.Words.{words_of, word_of}
use Rattle.word_steps_spec.specs.Polynomial.{number_of_value}
use Rattle.word_steps_spec.specs.Bitwise.{Bit, Fixed, Of, Bits, bit_value, same_bit, is_fixed, all_below, and_bit, or_bit, xor_bit, choose_bit, are_apart, moved_up, moved_down, moved_with_sign, joined_bits, bits_of_operation, bits_of_unary, bits_of}
use Rattle.word_steps_spec.proofs.CommHolds.{either_test, word_made}
use Rattle.word_steps_spec.proofs.BitPlaces.{bit_low, bit_moved_down, shifted_left, shifted_right, shifted_signed, sign_bit, signed_low, signed_high, sum_apart, joined_low, joined_high}

pub all_below_at : (count : ℕ) (test : ℕ → Bool) → all_below count test ≡ true → (i : ℕ) → i < count → test i ≡ true
unfolding all_below
all_below_at zero test e i below = absurd (omega arith)
all_below_at (suc k) test e i below =
    let both = and_parts (test k) (all_below k test) e in
    by both.0 (all_below_at k test both.1 i) (cases_lt i k)
  where
    by : test k ≡ true → (i < k → test i ≡ true) → (i < k) ⊎ (k ≤ i) → test i ≡ true
    by here later (inl less) = later less
    by here later (inr from) = let last : k ≡ i = omega arith in ap test (sym last) ∙ here

one_or_zero : (b : ℕ) → b < 2 → cond (b == 1) 1 0 ≡ b
one_or_zero zero small = refl
one_or_zero (suc zero) small = refl
one_or_zero (suc (suc b)) small = absurd (omega arith)

-- ---- single bits

min_first : (a b : ℕ) → a ≡ 0 → 0 ≡ min a b
min_first a b e = omega arith

min_second : (a b : ℕ) → b ≡ 0 → 0 ≡ min a b
min_second a b e = omega arith

min_one_first : (a b : ℕ) → a ≡ 1 → b < 2 → b ≡ min a b
min_one_first a b e small = omega arith

min_one_second : (a b : ℕ) → b ≡ 1 → a < 2 → a ≡ min a b
min_one_second a b e small = omega arith

min_same : (a b : ℕ) → a ≡ b → a ≡ min a b
min_same a b e = omega arith

max_first : (a b : ℕ) → a ≡ 1 → b < 2 → 1 ≡ max a b
max_first a b e small = omega arith

max_second : (a b : ℕ) → b ≡ 1 → a < 2 → 1 ≡ max a b
max_second a b e small = omega arith

max_zero_first : (a b : ℕ) → a ≡ 0 → b ≡ max a b
max_zero_first a b e = omega arith

max_zero_second : (a b : ℕ) → b ≡ 0 → a ≡ max a b
max_zero_second a b e = omega arith

max_same : (a b : ℕ) → a ≡ b → a ≡ max a b
max_same a b e = omega arith

odd_zero_first : (a b : ℕ) → a ≡ 0 → b < 2 → b ≡ (a + b) % 2
odd_zero_first a b e small = omega arith

odd_zero_second : (a b : ℕ) → b ≡ 0 → a < 2 → a ≡ (a + b) % 2
odd_zero_second a b e small = omega arith

odd_same : (a b : ℕ) → a ≡ b → 0 ≡ (a + b) % 2
odd_same a b e = omega arith

module _ (assignment : Assignment) (assigns : IsAssignment assignment) where
  abbrev number : Term → ℕ
  number t = number_of_value (value assignment t)

  abbrev v : Bit → ℕ
  v p = bit_value assignment p

  bit_small : (p : Bit) → v p < 2
  bit_small (Fixed true) = omega arith
  bit_small (Fixed false) = omega arith
  bit_small (Of t i) = bit_at-lt (number t) i

  pub same_bit_equal : (p q : Bit) → same_bit p q ≡ true → v p ≡ v q
  same_bit_equal (Fixed true) (Fixed true) e = refl
  same_bit_equal (Fixed false) (Fixed false) e = refl
  same_bit_equal (Of t i) (Of u j) e =
      let both = and_parts (i == j) (same_term t u) e in
      ap (λ w. bit_at (number w) i) (same_is t u both.1) ∙ ap (bit_at (number u)) (eqb-true i j both.0)
  same_bit_equal p q e = absurd (cc)

  pub fixed_value : (b : Bool) (p : Bit) → is_fixed b p ≡ true → v p ≡ cond b 1 0
  fixed_value true (Fixed true) e = refl
  fixed_value false (Fixed false) e = refl
  fixed_value b p e = absurd (cc)

  picks : (n : ℕ) (test : Bool) (p q : Bit) → (test ≡ true → v p ≡ n) → (test ≡ false → v q ≡ n) → v (cond test p q) ≡ n
  picks n true p q f g = f refl
  picks n false p q f g = g refl

  and_bit_is : (p q o : Bit) → v o ≡ min (v p) (v q) → v (and_bit p q o) ≡ min (v p) (v q)
  and_bit_is p q o h =
      picks (min (v p) (v q)) (is_fixed false p || is_fixed false q) (Fixed false) _
      (λ e. either_test (is_fixed false p) (is_fixed false q) e (λ z. min_first (v p) (v q) (fixed_value false p z)) (λ z. min_second (v p) (v q) (fixed_value false q z)))
      (λ n1. picks (min (v p) (v q)) (is_fixed true p) q _ (λ e. min_one_first (v p) (v q) (fixed_value true p e) (bit_small q))
      (λ n2. picks (min (v p) (v q)) (is_fixed true q) p _ (λ e. min_one_second (v p) (v q) (fixed_value true q e) (bit_small p))
      (λ n3. picks (min (v p) (v q)) (same_bit p q) p o (λ e. min_same (v p) (v q) (same_bit_equal p q e)) (λ n4. h))))

  or_bit_is : (p q o : Bit) → v o ≡ max (v p) (v q) → v (or_bit p q o) ≡ max (v p) (v q)
  or_bit_is p q o h =
      picks (max (v p) (v q)) (is_fixed true p || is_fixed true q) (Fixed true) _
      (λ e. either_test (is_fixed true p) (is_fixed true q) e
      (λ z. max_first (v p) (v q) (fixed_value true p z) (bit_small q)) (λ z. max_second (v p) (v q) (fixed_value true q z) (bit_small p)))
      (λ n1. picks (max (v p) (v q)) (is_fixed false p) q _ (λ e. max_zero_first (v p) (v q) (fixed_value false p e))
      (λ n2. picks (max (v p) (v q)) (is_fixed false q) p _ (λ e. max_zero_second (v p) (v q) (fixed_value false q e))
      (λ n3. picks (max (v p) (v q)) (same_bit p q) p o (λ e. max_same (v p) (v q) (same_bit_equal p q e)) (λ n4. h))))

  xor_bit_is : (p q o : Bit) → v o ≡ (v p + v q) % 2 → v (xor_bit p q o) ≡ (v p + v q) % 2
  xor_bit_is p q o h =
      picks ((v p + v q) % 2) (is_fixed false p) q _ (λ e. odd_zero_first (v p) (v q) (fixed_value false p e) (bit_small q))
      (λ n1. picks ((v p + v q) % 2) (is_fixed false q) p _ (λ e. odd_zero_second (v p) (v q) (fixed_value false q e) (bit_small p))
      (λ n2. picks ((v p + v q) % 2) (same_bit p q) (Fixed false) o (λ e. odd_same (v p) (v q) (same_bit_equal p q e)) (λ n3. h)))

  -- ---- the bits of a word

  abbrev pub IsBits : Width → Term → Bits → Type 0
  IsBits w t f = (i : ℕ) → i < bits w → v (f i) ≡ bit_at (number t) i

  pub number_below : (w : Width) (t : Term) → sort_of t ≡ Some (sort.Word w) → number t < 2 ^ bits w
  number_below w t h = let vt = word_of assignment assigns w t h in subst (λ n. n < 2 ^ bits w) (sym (ap number_of_value vt.1)) vt.2

  pub number_is_known : (w : Width) (y : Term) → sort_of y ≡ Some (sort.Word w) → is_constant y ≡ true → number y ≡ number_of y
  unfolding value
  number_is_known w y hy e = ap number ((constant_is w y hy e).0)

  positive : (w : Width) → 0 < bits w
  positive W8 = omega arith
  positive W16 = omega arith
  positive W32 = omega arith
  positive W64 = omega arith

  -- where a test fails the bits are those of the term itself
  or_itself : (w : Width) (t : Term) (test : Bool) (p : Bit) (i : ℕ) → (test ≡ true → v p ≡ bit_at (number t) i) → v (cond test p (Of t i)) ≡ bit_at (number t) i
  or_itself w t test p i f = picks (bit_at (number t) i) test p (Of t i) f (λ n1. refl)

  -- ---- operators on two words

  module _ (w : Width) (x y : Term) (hx : sort_of x ≡ Some (sort.Word w)) (hy : sort_of y ≡ Some (sort.Word w)) (f g : Bits)
      (is_f : (i : ℕ) → i < bits w → bit_value assignment (f i) ≡ bit_at (number_of_value (value assignment x)) i)
      (is_g : (i : ℕ) → i < bits w → bit_value assignment (g i) ≡ bit_at (number_of_value (value assignment y)) i) where
    made : (o : WordOperator) → number (on_words o x y) ≡ operation o (bits w) (number x) (number y)
    made o = word_made assignment assigns w o x y hx hy

    and_is : (i : ℕ) → i < bits w → v (Of (on_words word.And x y) i) ≡ min (v (f i)) (v (g i))
    unfolding operation
    and_is i l = ap (λ n. bit_at n i) (made word.And) ∙ bit_at_and (number x) (number y) i ∙ ap (λ b. min b (bit_at (number y) i)) (sym (is_f i l)) ∙ ap (min (v (f i))) (sym (is_g i l))

    or_is : (i : ℕ) → i < bits w → v (Of (on_words word.Or x y) i) ≡ max (v (f i)) (v (g i))
    unfolding operation
    or_is i l = ap (λ n. bit_at n i) (made word.Or) ∙ bit_at_or (number x) (number y) i ∙ ap (λ b. max b (bit_at (number y) i)) (sym (is_f i l)) ∙ ap (max (v (f i))) (sym (is_g i l))

    xor_is : (i : ℕ) → i < bits w → v (Of (on_words word.Xor x y) i) ≡ (v (f i) + v (g i)) % 2
    unfolding operation
    xor_is i l =
        ap (λ n. bit_at n i) (made word.Xor) ∙ bit_at_xor (number x) (number y) i ∙ ap (λ b. (b + bit_at (number y) i) % 2) (sym (is_f i l)) ∙ ap (λ b. (v (f i) + b) % 2) (sym (is_g i l))

    apart_at : are_apart (bits w) f g ≡ true → (i : ℕ) → i < bits w → min (bit_at (number x) i) (bit_at (number y) i) ≡ 0
    apart_at e i l =
        ap (λ b. min b (bit_at (number y) i)) (sym (is_f i l)) ∙ ap (min (v (f i))) (sym (is_g i l))
        ∙ either_test (is_fixed false (f i)) (is_fixed false (g i)) (all_below_at (bits w) (λ j. is_fixed false (f j) || is_fixed false (g j)) e i l)
        (λ z. sym (min_first (v (f i)) (v (g i)) (fixed_value false (f i) z))) (λ z. sym (min_second (v (f i)) (v (g i)) (fixed_value false (g i) z)))

    add_is : are_apart (bits w) f g ≡ true → (i : ℕ) → i < bits w → v (Of (on_words word.Add x y) i) ≡ max (v (f i)) (v (g i))
    unfolding operation
    add_is e i l =
        ap (λ n. bit_at n i) (made word.Add ∙ sum_apart (bits w) (number x) (number y) (number_below w x hx) (number_below w y hy) (apart_at e))
        ∙ bit_at_or (number x) (number y) i ∙ ap (λ b. max b (bit_at (number y) i)) (sym (is_f i l)) ∙ ap (max (v (f i))) (sym (is_g i l))

    at_known : (o : WordOperator) → is_constant y ≡ true → number (on_words o x y) ≡ operation o (bits w) (number x) (number_of y)
    at_known o e = made o ∙ ap (operation o (bits w) (number x)) (number_is_known w y hy e)

    left_is : is_constant y ≡ true → (i : ℕ) → i < bits w → v (moved_up (number_of y) f i) ≡ bit_at (number (on_words word.ShiftLeft x y)) i
    unfolding operation
    left_is e i l =
        by (nat_lt i (number_of y)) refl ∙ sym (shifted_left (bits w) (number x) (number_of y) i l) ∙ ap (λ n. bit_at n i) (sym (at_known word.ShiftLeft e))
      where
        by : (test : Bool) → nat_lt i (number_of y) ≡ test → v (cond test (Fixed false) (f (i - number_of y))) ≡ cond test 0 (bit_at (number x) (i - number_of y))
        by true d = refl
        by false d = is_f (i - number_of y) (omega arith)

    right_is : is_constant y ≡ true → (i : ℕ) → i < bits w → v (moved_down (bits w) (number_of y) f i) ≡ bit_at (number (on_words word.ShiftRight x y)) i
    unfolding operation
    right_is e i l =
        by (nat_lt (number_of y + i) (bits w)) refl ∙ sym (shifted_right (bits w) (number x) (number_of y) i l (number_below w x hx)) ∙ ap (λ n. bit_at n i) (sym (at_known word.ShiftRight e))
      where
        by : (test : Bool) → nat_lt (number_of y + i) (bits w) ≡ test → v (cond test (f (number_of y + i)) (Fixed false)) ≡ cond test (bit_at (number x) (number_of y + i)) 0
        by true d = is_f (number_of y + i) (ltb-true (number_of y + i) (bits w) d)
        by false d = refl

    signed_is : is_constant y ≡ true → (i : ℕ) → i < bits w → v (moved_with_sign (bits w) (number_of y) f i) ≡ bit_at (number (on_words word.ShiftRightSigned x y)) i
    unfolding operation
    signed_is e i l =
        by (nat_lt (number_of y + i) (bits w)) refl ∙ sym (shifted_signed (bits w) (number x) (number_of y) i l (number_below w x hx)) ∙ ap (λ n. bit_at n i) (sym (at_known word.ShiftRightSigned e))
      where
        by : (test : Bool) → nat_lt (number_of y + i) (bits w) ≡ test
            → v (cond test (f (number_of y + i)) (f (bits w - 1))) ≡ cond test (bit_at (number x) (number_of y + i)) (bit_at (number x) (bits w - 1))
        by true d = is_f (number_of y + i) (ltb-true (number_of y + i) (bits w) d)
        by false d = is_f (bits w - 1) (omega arith)

    -- at the width of the first argument
    operation_bits : (o : WordOperator) (i : ℕ) → i < bits w → v (bits_of_operation o x y f g i) ≡ bit_at (number (on_words o x y)) i
    unfolding bits_of_operation
    operation_bits word.And i l = and_bit_is (f i) (g i) (Of (on_words word.And x y) i) (and_is i l) ∙ sym (and_is i l)
    operation_bits word.Or i l = or_bit_is (f i) (g i) (Of (on_words word.Or x y) i) (or_is i l) ∙ sym (or_is i l)
    operation_bits word.Xor i l = xor_bit_is (f i) (g i) (Of (on_words word.Xor x y) i) (xor_is i l) ∙ sym (xor_is i l)
    operation_bits word.Add i l =
        subst (λ u. v (cond (are_apart (bits u) f g) (or_bit (f i) (g i) (Of (on_words word.Add x y) i)) (Of (on_words word.Add x y) i)) ≡ bit_at (number (on_words word.Add x y)) i) (sym (width_is x w hx))
        (or_itself w (on_words word.Add x y) (are_apart (bits w) f g) (or_bit (f i) (g i) (Of (on_words word.Add x y) i)) i
        (λ e. or_bit_is (f i) (g i) (Of (on_words word.Add x y) i) (add_is e i l) ∙ sym (add_is e i l)))
    operation_bits word.ShiftLeft i l = or_itself w (on_words word.ShiftLeft x y) (is_constant y) (moved_up (number_of y) f i) i (λ e. left_is e i l)
    operation_bits word.ShiftRight i l =
        subst (λ u. v (cond (is_constant y) (moved_down (bits u) (number_of y) f i) (Of (on_words word.ShiftRight x y) i)) ≡ bit_at (number (on_words word.ShiftRight x y)) i) (sym (width_is x w hx))
        (or_itself w (on_words word.ShiftRight x y) (is_constant y) (moved_down (bits w) (number_of y) f i) i (λ e. right_is e i l))
    operation_bits word.ShiftRightSigned i l =
        subst (λ u. v (cond (is_constant y) (moved_with_sign (bits u) (number_of y) f i) (Of (on_words word.ShiftRightSigned x y) i)) ≡ bit_at (number (on_words word.ShiftRightSigned x y)) i) (sym (width_is x w hx))
        (or_itself w (on_words word.ShiftRightSigned x y) (is_constant y) (moved_with_sign (bits w) (number_of y) f i) i (λ e. signed_is e i l))
    operation_bits o i l = refl

  -- ---- operators on one word

  module _ (u : Width) (x : Term) (hx : sort_of x ≡ Some (sort.Word u)) (f : Bits)
      (is_f : (i : ℕ) → i < bits u → bit_value assignment (f i) ≡ bit_at (number_of_value (value assignment x)) i) where
    zero_extended : (w : Width) → number (zero_extend w x) ≡ number x
    unfolding value unary_value
    zero_extended w = let vx = word_of assignment assigns u x hx in rw vx.1 refl

    sign_extended : (w : Width) → number (sign_extend w x) ≡ low_bits (bits w) (number x + ones_if (is_negative (bits u) (number x)) (bits u) (bits w))
    unfolding value unary_value
    sign_extended w = let vx = word_of assignment assigns u x hx in rw vx.1 refl

    cut_low : (w : Width) → number (low w x) ≡ low_bits (bits w) (number x)
    unfolding value unary_value
    cut_low w = let vx = word_of assignment assigns u x hx in rw vx.1 refl

    cut_byte : (place : ℕ) → number (byte place x) ≡ low_bits 8 (number x / 2 ^ (8 * place))
    unfolding value unary_value
    cut_byte place = let vx = word_of assignment assigns u x hx in rw vx.1 refl

    zero_bits : (w : Width) (i : ℕ) → v (moved_down (bits u) 0 f i) ≡ bit_at (number (zero_extend w x)) i
    zero_bits w i = by (nat_lt (0 + i) (bits u)) refl ∙ ap (λ n. bit_at n i) (sym (zero_extended w))
      where
        same : 0 + i ≡ i
        same = omega arith

        by : (test : Bool) → nat_lt (0 + i) (bits u) ≡ test → v (cond test (f (0 + i)) (Fixed false)) ≡ bit_at (number x) i
        by true d = is_f (0 + i) (ltb-true (0 + i) (bits u) d) ∙ ap (bit_at (number x)) same
        by false d = let above = ltb-false (0 + i) (bits u) d in sym (bit_at_above (number x) (bits u) i (number_below u x hx) (omega arith))

    sign_bits : (w : Width) → nat_le (bits u) (bits w) ≡ true → (i : ℕ) → i < bits w → v (moved_with_sign (bits u) 0 f i) ≡ bit_at (number (sign_extend w x)) i
    sign_bits w le i l = by (nat_lt (0 + i) (bits u)) refl ∙ ap (λ n. bit_at n i) (sym (sign_extended w))
      where
        wider : bits u ≤ bits w
        wider = leb-true (bits u) (bits w) le

        by : (test : Bool) → nat_lt (0 + i) (bits u) ≡ test
            → v (cond test (f (0 + i)) (f (bits u - 1))) ≡ bit_at (low_bits (bits w) (number x + ones_if (is_negative (bits u) (number x)) (bits u) (bits w))) i
        by true d =
            let below = ltb-true (0 + i) (bits u) d in
            let same : 0 + i ≡ i = omega arith in
            is_f (0 + i) below ∙ ap (bit_at (number x)) same
            ∙ sym (signed_low (bits u) (bits w) (number x) (is_negative (bits u) (number x)) wider (number_below u x hx) i (omega arith))
        by false d =
            let above = ltb-false (0 + i) (bits u) d in
            let some = positive u in
            is_f (bits u - 1) (omega arith) ∙ sign_bit (bits u) (number x) some (number_below u x hx)
            ∙ sym (signed_high (bits u) (bits w) (number x) (is_negative (bits u) (number x)) wider (number_below u x hx) i (omega arith) l)

    low_bits_is : (w : Width) → nat_le (bits w) (bits u) ≡ true → (i : ℕ) → i < bits w → v (f i) ≡ bit_at (number (low w x)) i
    low_bits_is w le i l =
        let narrower = leb-true (bits w) (bits u) le in
        is_f i (omega arith) ∙ sym (bit_low (number x) (bits w) i l) ∙ ap (λ n. bit_at n i) (sym (cut_low w))

    byte_bits_is : (place : ℕ) → nat_lt (8 * place) (bits u) ≡ true → (i : ℕ) → i < 8 → v (f (8 * place + i)) ≡ bit_at (number (byte place x)) i
    byte_bits_is place within i l =
        is_f (8 * place + i) (whole u (ltb-true (8 * place) (bits u) within)) ∙ sym (bit_moved_down (number x) (8 * place) i)
        ∙ sym (bit_low (number x / 2 ^ (8 * place)) 8 i l) ∙ ap (λ n. bit_at n i) (sym (cut_byte place))
      where
        whole : (w : Width) → 8 * place < bits w → 8 * place + i < bits w
        whole W8 less = omega arith
        whole W16 less = omega arith
        whole W32 less = omega arith
        whole W64 less = omega arith

  -- the byte is one that the word has
  byte_within : (place : ℕ) (x : Term) (s : Sort) → sort_of (byte place x) ≡ Some s → (u : Width) × (sort_of x ≡ Some (sort.Word u)) × (nat_lt (8 * place) (bits u) ≡ true) × (s ≡ sort.Word W8)
  unfolding sort_of sort_of_unary
  byte_within place x s h =
      let parts = with_one-some (sort_of_unary (unary.Byte place)) (sort_of x) s h in
      let tests = sort_if-some (is_word parts.0 && nat_lt (8 * place) (bits_of_sort parts.0)) (sort.Word W8) s parts.2 in
      let both = and_parts (is_word parts.0) (nat_lt (8 * place) (bits_of_sort parts.0)) tests.0 in
      let width = word_width parts.0 both.0 in
      (width.0, parts.1 ∙ ap Some width.1, subst (λ p. nat_lt (8 * place) (bits_of_sort p) ≡ true) width.1 both.1, sym tests.1)

  unary_bits : (o : UnaryOperator) (w : Width) (x : Term) (f : Bits) → sort_of (Unary o x) ≡ Some (sort.Word w) → ((u : Width) → sort_of x ≡ Some (sort.Word u) → IsBits u x f)
      → (i : ℕ) → i < bits w → v (bits_of_unary o x f i) ≡ bit_at (number (Unary o x)) i
  unfolding bits_of_unary
  unary_bits (unary.ZeroExtend to) w x f h is i l =
      let r = zero_extend_of to x (sort.Word w) h in
      subst (λ u. v (moved_down (bits u) 0 f i) ≡ bit_at (number (zero_extend to x)) i) (sym (width_is x r.0.from r.0.sorted))
      (zero_bits r.0.from x r.0.sorted f (is r.0.from r.0.sorted) to i)
  unary_bits (unary.SignExtend to) w x f h is i l =
      let r = sign_extend_of to x (sort.Word w) h in
      subst (λ u. v (moved_with_sign (bits u) 0 f i) ≡ bit_at (number (sign_extend to x)) i) (sym (width_is x r.0.from r.0.sorted))
      (sign_bits r.0.from x r.0.sorted f (is r.0.from r.0.sorted) to r.1 i (subst (λ k. i < bits k) (ap width_of_sort r.0.gives) l))
  unary_bits (unary.Low to) w x f h is i l =
      let r = low_of to x (sort.Word w) h in
      low_bits_is r.0.from x r.0.sorted f (is r.0.from r.0.sorted) to r.1 i (subst (λ k. i < bits k) (ap width_of_sort r.0.gives) l)
  unary_bits (unary.Byte place) w x f h is i l =
      let r = byte_within place x (sort.Word w) h in
      byte_bits_is r.0 x r.1 f (is r.0 r.1) place r.2 i (subst (λ k. i < bits k) (ap width_of_sort r.3) l)
  unary_bits o w x f h is i l = refl

  -- ---- joins

  abbrev AllBits : List Term → Type 0
  AllBits ts = AllByRecursion (λ t. IsBits W8 t (bits_of t)) ts

  parts_bits : (parts : List Term) → AllBytes parts → AllBits parts → (n : ℕ) → number_of_bytes (map byte_of (map (value assignment) parts)) ≡ Some n
      → (i : ℕ) → i < 8 * length parts → v (joined_bits (map bits_of parts) i) ≡ bit_at n i
  unfolding joined_bits
  parts_bits [] all are n e i l = absurd (omega arith)
  parts_bits (t ∷ rest) all are n e i l =
      let first = word_of assignment assigns W8 t all.0 in
      let later = number_of_all assignment assigns rest all.1 in
      let whole : n ≡ first.0 + 2 ^ 8 * later.0 =
      same_Some n (first.0 + 2 ^ 8 * later.0) (sym e ∙ number_more (value assignment t) (map (value assignment) rest) first.0 later.0 first.1 first.2 later.1) in
      by first.0 later.0 (ap number_of_value first.1) first.2 whole (nat_lt i 8) refl (parts_bits rest all.1 are.1 later.0 later.1 (i - 8))
    where
      by : (a m : ℕ) → number t ≡ a → a < 2 ^ 8 → n ≡ a + 2 ^ 8 * m → (test : Bool) → nat_lt i 8 ≡ test
          → (i - 8 < 8 * length rest → v (joined_bits (map bits_of rest) (i - 8)) ≡ bit_at m (i - 8))
          → v (cond test (bits_of t i) (joined_bits (map bits_of rest) (i - 8))) ≡ bit_at n i
      by a m is small whole true d again =
          let below = ltb-true i 8 d in
          are.0 i below ∙ ap (λ k. bit_at k i) is ∙ sym (joined_low a m i below) ∙ ap (λ k. bit_at k i) (sym whole)
      by a m is small whole false d again =
          let above = ltb-false i 8 d in
          let more : 8 * length (t ∷ rest) ≡ 8 * length rest + 8 = omega arith in
          again (omega arith) ∙ sym (joined_high a m i small above) ∙ ap (λ k. bit_at k i) (sym whole)

  join_bits : (w : Width) (parts : List Term) (t : Term) → IsJoin [] w parts t → AllBits parts → (i : ℕ) → i < bits w → v (joined_bits (map bits_of parts) i) ≡ bit_at (number t) i
  join_bits w parts t join are i l =
      let all = number_of_all assignment assigns parts join.bytes in
      let is : value assignment t ≡ Number w all.0 = join.value_is assignment ∙ rw all.1 refl in
      parts_bits parts join.bytes are all.0 all.1 i (subst (λ k. i < k) join.full l) ∙ ap (λ n. bit_at n i) (sym (ap number_of_value is))

  -- ---- `ite`

  pub record IsChoice (w : Width) (c x y : Term) : Type 0 where
    pub test : sort_of c ≡ Some sort.Truth
    pub first : sort_of x ≡ Some (sort.Word w)
    pub second : sort_of y ≡ Some (sort.Word w)

  pub choice_of : (w : Width) (c x y : Term) → sort_of (choose c x y) ≡ Some (sort.Word w) → IsChoice w c x y
  unfolding sort_of sort_of_ternary
  choice_of w c x y h =
      let parts = with_three-some (sort_of_ternary ternary.Choose) (sort_of c) (sort_of x) (sort_of y) (sort.Word w) h in
      let tests = sort_if-some (is_truth parts.0 && same_sort parts.1 parts.2) parts.1 (sort.Word w) parts.6 in
      let both = and_parts (is_truth parts.0) (same_sort parts.1 parts.2) tests.0 in
      record {
        test = parts.3 ∙ ap Some (same_sort-true parts.0 sort.Truth both.0);
        first = parts.4 ∙ ap Some tests.1;
        second = parts.5 ∙ ap Some (sym (same_sort-true parts.1 parts.2 both.1) ∙ tests.1);
      }

  choice_bits : (w : Width) (c x y : Term) (f g : Bits) → IsChoice w c x y → IsBits w x f → IsBits w y g
      → (i : ℕ) → i < bits w → v (choose_bit (f i) (g i) (Of (choose c x y) i)) ≡ bit_at (number (choose c x y)) i
  choice_bits w c x y f g is is_f is_g i l =
      or_itself w (choose c x y) (same_bit (f i) (g i)) (f i) i
      (λ e.
      let vc = truth_value_of assignment assigns c is.test in
      by vc.0 (same_bit_equal (f i) (g i) e) ∙ ap (λ a. bit_at (number_of_value a) i) (sym (value-choose assignment c x y vc.0 vc.1)))
    where
      by : (test : Bool) → v (f i) ≡ v (g i) → v (f i) ≡ bit_at (number_of_value (cond test (value assignment x) (value assignment y))) i
      by true e = is_f i l
      by false e = e ∙ is_g i l

  -- ---- the theorem

  pub bits_are : (t : Term) (w : Width) → sort_of t ≡ Some (sort.Word w) → IsBits w t (bits_of t)
  unfolding bits_of value
  bits_are (Leaf (atom.Constant u n)) w h i l = one_or_zero (bit_at n i) (bit_at-lt n i)
  bits_are (Unary o x) w h i l = unary_bits o w x (bits_of x) h (bits_are x) i l
  bits_are (Binary (binary.Word o) x y) w h i l =
      let is = words_of o x y (sort.Word w) h in
      operation_bits is.0 x y is.2 is.3 (bits_of x) (bits_of y) (bits_are x is.0 is.2) (bits_are y is.0 is.3) o i (subst (λ k. i < bits k) (ap width_of_sort is.1) l)
  bits_are (Binary binary.Join a b) w h i l =
      let join = join_two_is [] a b (sort.Word w) h in
      let all = join.1.bytes in
      join_bits W16 (a ∷ b ∷ []) (Binary binary.Join a b) join.1 (bits_are a W8 all.0, (bits_are b W8 all.1.0, tt)) i (subst (λ k. i < bits k) (ap width_of_sort join.0) l)
  bits_are (Ternary ternary.Choose c x y) w h i l =
      let is = choice_of w c x y h in
      choice_bits w c x y (bits_of x) (bits_of y) is (bits_are x w is.first) (bits_are y w is.second) i l
  bits_are (Quaternary quaternary.Join a b c d) w h i l =
      let join = join_four_is [] a b c d (sort.Word w) h in
      let all = join.1.bytes in
      join_bits W32 (a ∷ b ∷ c ∷ d ∷ []) (Quaternary quaternary.Join a b c d) join.1
      (bits_are a W8 all.0, (bits_are b W8 all.1.0, (bits_are c W8 all.1.1.0, (bits_are d W8 all.1.1.1.0, tt)))) i
      (subst (λ k. i < bits k) (ap width_of_sort join.0) l)
  bits_are (Octonary a b c d e f g j) w h i l =
      let join = join_eight_is [] a b c d e f g j (sort.Word w) h in
      let all = join.1.bytes in
      let later = all.1.1.1.1 in
      join_bits W64 (a ∷ b ∷ c ∷ d ∷ e ∷ f ∷ g ∷ j ∷ []) (Octonary a b c d e f g j) join.1 (
        bits_are a W8 all.0,
        (
          bits_are b W8 all.1.0,
          (
            bits_are c W8 all.1.1.0,
            (
              bits_are d W8 all.1.1.1.0,
              (bits_are e W8 later.0, (bits_are f W8 later.1.0, (bits_are g W8 later.1.1.0, (bits_are j W8 later.1.1.1.0, tt)))),
            ),
          ),
        ),
      )
      i (subst (λ k. i < bits k) (ap width_of_sort join.0) l)
  bits_are t w h i l = refl

  -- words of one width with the same bits
  pub bits_equal : (w : Width) (x y : Term) → sort_of x ≡ Some (sort.Word w) → sort_of y ≡ Some (sort.Word w) → ((i : ℕ) → i < bits w → v (bits_of x i) ≡ v (bits_of y i)) → number x ≡ number y
  bits_equal w x y hx hy same =
      same_from_bits_below (bits w) (number x) (number y) (number_below w x hx) (number_below w y hy)
      (λ i l. sym (bits_are x w hx i l) ∙ same i l ∙ bits_are y w hy i l)

  pub equal_bits : (w : Width) (x y : Term) → sort_of x ≡ Some (sort.Word w) → sort_of y ≡ Some (sort.Word w) → number x ≡ number y → (i : ℕ) → i < bits w → v (bits_of x i) ≡ v (bits_of y i)
  equal_bits w x y hx hy same i l = bits_are x w hx i l ∙ ap (λ n. bit_at n i) same ∙ sym (bits_are y w hy i l)
