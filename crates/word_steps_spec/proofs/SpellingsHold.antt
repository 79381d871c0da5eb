-- Other spellings of `ult` have its value.
use Rattle.std.proofs.Common.{◌≡◌, ℕ, ◌+◌, ◌-◌, ◌*◌, ◌^◌, ◌<◌, Bool, true, false, cond, Option, Some, None, refl, sym, ap, ◌∙◌, subst, arith, eqb-true, eq-eqb, lt-ltb, le-ltb, ltb-true, ltb-false, leb-false}
use Rattle.std.specs.Prelude.{◌==◌, ◌&&◌, not, nat_lt, bit_xor}
use Rattle.std.specs.Int.{bit_at}
use Rattle.std.proofs.lemmas.Bool.{and_parts}
use Rattle.std.proofs.lemmas.Option.{same_Some}
use Rattle.std.proofs.lemmas.Nat.{pow_pos, xor_lt, xor_comm}
use Rattle.term_core_spec.specs.declared.Width.{Width}
use Rattle.term_core_spec.specs.declared.Width.TheVariants.{W8, W16, W32, W64}
use Rattle.term_core_spec.specs.declared.Sort.TheVariants as sort
use Rattle.term_core_spec.specs.declared.WordOperator.TheVariants as word
use Rattle.term_core_spec.specs.declared.BinaryOperator.TheVariants as binary
use Rattle.term_core_spec.specs.Term.{Term, Binary, constant, not_term, equal, less, bit_xor as bit_xor_term}
use Rattle.term_core_spec.specs.Sort.{bits, sort_of}
use Rattle.term_core_spec.specs.Value.{Truth, Number, Assignment, IsAssignment, value, operation, is_negative}
use Rattle.term_core_spec.proofs.Same.{same_is}
use Rattle.term_norm_spec.specs.Patterns.{width_of, is_constant, number_of}
use Rattle.term_norm_spec.proofs.Equals.{value-equal_words}
use Rattle.term_norm_spec.proofs.Keeps.{width_is, value-constant}
use Rattle.term_norm_spec.proofs.Truths.{value-not}
use Rattle.term_norm_spec.proofs.Words.{words_of, word_of, value-less}
use Rattle.word_steps_spec.specs.Polynomial.{number_of_value}
use Rattle.word_steps_spec.specs.Ring.{top_bit, is_top_bit}
use Rattle.word_steps_spec.specs.Sides.{Sides}
use Rattle.word_steps_spec.specs.Bitwise.{is_fixed, bits_of}
use Rattle.word_steps_spec.specs.Order.{order_of, under_flip, has_no_top, is_number_like, below_one, above_constant, both_flipped, flipped_below_top, flipped_above_rest, is_spelled, is_spelling, spells, same_by_spelling}
use Rattle.word_steps_spec.proofs.Congruence.{IsCongruent, congruent_sym, congruent_then, congruent_multiple, congruent_equal}
use Rattle.word_steps_spec.proofs.CommHolds.{either_test, word_made}
use Rattle.word_steps_spec.proofs.RingHolds.{top_flipped}
use Rattle.word_steps_spec.proofs.RingSound.{words_are}
use Rattle.word_steps_spec.proofs.BitPlaces.{sign_bit}
use Rattle.word_steps_spec.proofs.BitsHold.{bits_are, fixed_value, number_below, number_is_known}
use Rattle.word_steps_spec.proofs.BoundsHold.{order_is, order_value}

-- ---- numbers

-- the top bit of a word of `width` bits
abbrev top : Width → ℕ
top w = 2 ^ (bits w - 1)

twice : (w : Width) → 2 ^ bits w ≡ top w + top w
twice W8 = refl
twice W16 = refl
twice W32 = refl
twice W64 = refl

abbrev flip : ℕ → ℕ → ℕ
flip half n = cond (nat_lt n half) (n + half) (n - half)

flipped : (w : Width) (n : ℕ) → n < 2 ^ bits w → bit_xor n (top w) ≡ flip (top w) n
flipped w n below = by (nat_lt n (top w)) refl
  where
    m : ℕ
    m = 2 ^ bits w

    small : bit_xor n (top w) < 2 ^ bits w
    small = let double = twice w in let some = pow_pos (bits w - 1) in xor_lt (bits w) n (top w) below (omega arith)

    by : (test : Bool) → nat_lt n (top w) ≡ test → bit_xor n (top w) ≡ cond test (n + top w) (n - top w)
    by true e =
        let less = ltb-true n (top w) e in
        let double = twice w in
        let turn : top w + n ≡ n + top w = omega arith in
        sym (congruent_equal (2 ^ bits w) (n + top w) (bit_xor n (top w))
        (subst (λ k. IsCongruent (2 ^ bits w) k (bit_xor n (top w))) turn (top_flipped w n below)) (omega arith) small)
    by false e =
        let from = ltb-false n (top w) e in
        let double = twice w in
        let wrapped : top w + n ≡ 1 * 2 ^ bits w + (n - top w) = omega arith in
        congruent_equal (2 ^ bits w) (bit_xor n (top w)) (n - top w)
        (congruent_then (2 ^ bits w) (bit_xor n (top w)) (1 * 2 ^ bits w + (n - top w)) (n - top w)
        (congruent_sym (2 ^ bits w) (1 * 2 ^ bits w + (n - top w)) (bit_xor n (top w)) (subst (λ k. IsCongruent (2 ^ bits w) k (bit_xor n (top w))) wrapped (top_flipped w n below)))
        (congruent_multiple (2 ^ bits w) 1 (n - top w)))
        small (omega arith)

below_one_is : (n m : ℕ) → m ≡ 1 → nat_lt n m ≡ (n == 0)
below_one_is n m e = ap (nat_lt n) e ∙ by (n == 0) refl
  where
    by : (test : Bool) → (n == 0) ≡ test → nat_lt n 1 ≡ test
    by true h = let none : n ≡ 0 = eqb-true n 0 h in lt-ltb n 1 (omega arith)
    by false h = above (nat_lt n 1) refl
      where
        above : (test : Bool) → nat_lt n 1 ≡ test → test ≡ false
        above false k = refl
        above true k =
            let less = ltb-true n 1 k in
            let none : n ≡ 0 = omega arith in
            let is = eq-eqb n 0 none in
            sym is ∙ h

below_is_not : (n m : ℕ) → nat_lt n m ≡ not (nat_lt m (n + 1))
below_is_not n m = by (nat_lt m (n + 1)) refl
  where
    by : (test : Bool) → nat_lt m (n + 1) ≡ test → nat_lt n m ≡ not test
    by true e = let less = ltb-true m (n + 1) e in le-ltb n m (omega arith)
    by false e = let from = ltb-false m (n + 1) e in lt-ltb n m (omega arith)

both_moved : (half n m : ℕ) → n < half → m < half → nat_lt (flip half n) (flip half m) ≡ nat_lt n m
both_moved half n m small_n small_m =
    ap (λ test. nat_lt (cond test (n + half) (n - half)) (flip half m)) (lt-ltb n half small_n)
    ∙ ap (λ test. nat_lt (n + half) (cond test (m + half) (m - half))) (lt-ltb m half small_m) ∙ by (nat_lt n m) refl
  where
    by : (test : Bool) → nat_lt n m ≡ test → nat_lt (n + half) (m + half) ≡ test
    by true e = let less = ltb-true n m e in lt-ltb (n + half) (m + half) (omega arith)
    by false e = let from = ltb-false n m e in le-ltb (n + half) (m + half) (omega arith)

flip_below : (half n : ℕ) → n < half + half → nat_lt (flip half n) half ≡ not (nat_lt n half)
flip_below half n below = by (nat_lt n half) refl
  where
    by : (test : Bool) → nat_lt n half ≡ test → nat_lt (cond test (n + half) (n - half)) half ≡ not test
    by true e = le-ltb (n + half) half (omega arith)
    by false e = let from = ltb-false n half e in lt-ltb (n - half) half (omega arith)

flip_above : (half n : ℕ) → 0 < half → n < half + half → nat_lt (half - 1) (flip half n) ≡ nat_lt n half
flip_above half n positive below = by (nat_lt n half) refl
  where
    by : (test : Bool) → nat_lt n half ≡ test → nat_lt (half - 1) (cond test (n + half) (n - half)) ≡ test
    by true e = lt-ltb (half - 1) (n + half) (omega arith)
    by false e = let from = ltb-false n half e in le-ltb (half - 1) (n - half) (omega arith)

module _ (assignment : Assignment) (assigns : IsAssignment assignment) where
  abbrev number : Term → ℕ
  number t = number_of_value (value assignment t)

  number_is : (w : Width) (x : Term) → sort_of x ≡ Some (sort.Word w) → value assignment x ≡ Number w (number x)
  number_is w x hx = let vx = word_of assignment assigns w x hx in vx.1 ∙ ap (Number w) (sym (ap number_of_value vx.1))

  -- the constant at the width of a word
  constant_like : (w : Width) (x : Term) (n : ℕ) → sort_of x ≡ Some (sort.Word w) → value assignment (constant (width_of x) n) ≡ Number w n
  constant_like w x n hx = value-constant assignment (width_of x) n ∙ ap (λ u. Number u n) (width_is x w hx)

  like_number : (w : Width) (x y : Term) (n : ℕ) → sort_of x ≡ Some (sort.Word w) → is_number_like x n y ≡ true → number y ≡ n
  like_number w x y n hx e = ap number (same_is y (constant (width_of x) n) e) ∙ ap number_of_value (constant_like w x n hx)

  top_number : (w : Width) (y : Term) → sort_of y ≡ Some (sort.Word w) → is_top_bit y ≡ true → number y ≡ top w
  top_number w y hy e = like_number w y y (top_bit y) hy e ∙ ap (λ u. 2 ^ (bits u - 1)) (width_is y w hy)

  -- a word whose top bit is flipped
  record IsFlip (w : Width) (x a : Term) : Type 0 where
    pub sorted : sort_of a ≡ Some (sort.Word w)
    pub value_is : number x ≡ flip (top w) (number a)

  flip_is : (w : Width) (x a : Term) → sort_of x ≡ Some (sort.Word w) → under_flip x ≡ Some a → IsFlip w x a
  unfolding under_flip operation
  flip_is w (Binary (binary.Word word.Xor) x y) a h e = first (is_top_bit y) refl e
    where
      both : (sort_of x ≡ Some (sort.Word w)) × (sort_of y ≡ Some (sort.Word w))
      both = let parts = words_of word.Xor x y (sort.Word w) h in (parts.2 ∙ ap Some (sym parts.1), parts.3 ∙ ap Some (sym parts.1))

      made : number (bit_xor_term x y) ≡ bit_xor (number x) (number y)
      made = word_made assignment assigns w word.Xor x y both.0 both.1

      second : (test : Bool) → is_top_bit x ≡ test → cond test (Some y) None ≡ Some a → IsFlip w (bit_xor_term x y) a
      second true d f =
          subst (IsFlip w (bit_xor_term x y)) (same_Some y a f)
          (record {
            sorted = both.1;
            value_is =
                made ∙ ap (λ n. bit_xor n (number y)) (top_number w x both.0 d) ∙ xor_comm (top w) (number y) ∙ flipped w (number y) (number_below assignment assigns w y both.1);
          })
      second false d f = absurd (cc)

      first : (test : Bool) → is_top_bit y ≡ test → cond test (Some x) (cond (is_top_bit x) (Some y) None) ≡ Some a → IsFlip w (bit_xor_term x y) a
      first true d f =
          subst (IsFlip w (bit_xor_term x y)) (same_Some x a f)
          (record { sorted = both.0; value_is = made ∙ ap (bit_xor (number x)) (top_number w y both.1 d) ∙ flipped w (number x) (number_below assignment assigns w x both.0) })
      first false d f = second (is_top_bit x) refl f
  flip_is w x a h e = absurd (cc)

  no_top : (w : Width) (a : Term) → sort_of a ≡ Some (sort.Word w) → has_no_top a ≡ true → number a < top w
  no_top w a ha e = by (is_negative (bits w) (number a)) refl
    where
      some : 0 < bits w
      some = positive w
        where
          positive : (w : Width) → 0 < bits w
          positive W8 = omega arith
          positive W16 = omega arith
          positive W32 = omega arith
          positive W64 = omega arith

      zero_is : bit_at (number a) (bits w - 1) ≡ 0
      zero_is =
          let last = some in
          sym (bits_are assignment assigns a w ha (bits w - 1) (omega arith))
          ∙ fixed_value assignment assigns false (bits_of a (bits w - 1)) (subst (λ u. is_fixed false (bits_of a (bits u - 1)) ≡ true) (width_is a w ha) e)

      by : (test : Bool) → is_negative (bits w) (number a) ≡ test → number a < top w
      by true d =
          let sign = sign_bit (bits w) (number a) some (number_below assignment assigns w a ha) in
          let one : bit_at (number a) (bits w - 1) ≡ 1 = sign ∙ ap (λ test. cond test 1 0) d in
          let none = zero_is in
          absurd (omega arith)
      by false d = leb-false (top w) (number a) d

  half_positive : (w : Width) → 0 < top w
  half_positive w = pow_pos (bits w - 1)

  word_below : (w : Width) (a : Term) → sort_of a ≡ Some (sort.Word w) → number a < top w + top w
  word_below w a ha = subst (λ m. number a < m) (twice w) (number_below assignment assigns w a ha)

  -- ---- spellings

  module _ (w : Width) (x y : Term) (hx : sort_of x ≡ Some (sort.Word w)) (hy : sort_of y ≡ Some (sort.Word w)) where
    abbrev Spells : Term → Type 0
    Spells t = Truth (nat_lt (number x) (number y)) ≡ value assignment t

    spelled : (o : Option Term) (t : Term) → is_spelled o t ≡ true → ((s : Term) → o ≡ Some s → Spells s) → Spells t
    spelled (Some s) t e f = f s refl ∙ ap (value assignment) (same_is s t e)
    spelled None t e f = absurd (cc)

    spells_below_one : (s : Term) → below_one x y ≡ Some s → Spells s
    spells_below_one s e = by (is_number_like x 1 y) refl e
      where
        by : (test : Bool) → is_number_like x 1 y ≡ test → cond test (Some (equal x (constant (width_of x) 0))) None ≡ Some s → Spells s
        by true d f =
            subst Spells (same_Some (equal x (constant (width_of x) 0)) s f)
            (ap Truth (below_one_is (number x) (number y) (like_number w x y 1 hx d))
            ∙ sym (value-equal_words assignment w x (constant (width_of x) 0) (number x) 0 (number_is w x hx) (constant_like w x 0 hx)))
        by false d f = absurd (cc)

    spells_above : (s : Term) → above_constant x y ≡ Some s → Spells s
    spells_above s e = by (is_constant x && nat_lt (number_of x + 1) (2 ^ bits (width_of x))) refl e
      where
        by : (test : Bool) → (is_constant x && nat_lt (number_of x + 1) (2 ^ bits (width_of x))) ≡ test
            → cond test (Some (not_term (less y (constant (width_of x) (number_of x + 1))))) None ≡ Some s → Spells s
        by true d f =
            let both = and_parts (is_constant x) (nat_lt (number_of x + 1) (2 ^ bits (width_of x))) d in
            let known = number_is_known assignment assigns w x hx both.0 in
            subst Spells (same_Some (not_term (less y (constant (width_of x) (number_of x + 1)))) s f)
            (ap Truth (ap (λ n. nat_lt n (number y)) known ∙ below_is_not (number_of x) (number y))
            ∙ sym (value-not assignment (less y (constant (width_of x) (number_of x + 1))) (nat_lt (number y) (number_of x + 1))
            (value-less assignment w y (constant (width_of x) (number_of x + 1)) (number y) (number_of x + 1) (number_is w y hy) (constant_like w x (number_of x + 1) hx))))
        by false d f = absurd (cc)

    spells_flipped : (o p : Option Term) → under_flip x ≡ o → under_flip y ≡ p → (s : Term) → both_flipped o p ≡ Some s → Spells s
    spells_flipped (Some a) (Some b) ea eb s e = by (has_no_top a && has_no_top b) refl e
      where
        by : (test : Bool) → (has_no_top a && has_no_top b) ≡ test → cond test (Some (less a b)) None ≡ Some s → Spells s
        by true d f =
            let both = and_parts (has_no_top a) (has_no_top b) d in
            let fa = flip_is w x a hx ea in
            let fb = flip_is w y b hy eb in
            subst Spells (same_Some (less a b) s f)
            (ap Truth (ap (λ n. nat_lt n (number y)) fa.value_is ∙ ap (nat_lt (flip (top w) (number a))) fb.value_is
            ∙ both_moved (top w) (number a) (number b) (no_top w a fa.sorted both.0) (no_top w b fb.sorted both.1))
            ∙ sym (value-less assignment w a b (number a) (number b) (number_is w a fa.sorted) (number_is w b fb.sorted)))
        by false d f = absurd (cc)
    spells_flipped (Some a) None ea eb s e = absurd (cc)
    spells_flipped None p ea eb s e = absurd (cc)

    spells_flipped_below : (o : Option Term) → under_flip x ≡ o → (s : Term) → flipped_below_top o y ≡ Some s → Spells s
    spells_flipped_below (Some a) ea s e = by (is_top_bit y) refl e
      where
        by : (test : Bool) → is_top_bit y ≡ test → cond test (Some (not_term (less a y))) None ≡ Some s → Spells s
        by true d f =
            let fa = flip_is w x a hx ea in
            let ny = top_number w y hy d in
            subst Spells (same_Some (not_term (less a y)) s f)
            (ap Truth (ap (λ n. nat_lt n (number y)) fa.value_is ∙ ap (nat_lt (flip (top w) (number a))) ny ∙ flip_below (top w) (number a) (word_below w a fa.sorted)
            ∙ ap (λ n. not (nat_lt (number a) n)) (sym ny))
            ∙ sym (value-not assignment (less a y) (nat_lt (number a) (number y)) (value-less assignment w a y (number a) (number y) (number_is w a fa.sorted) (number_is w y hy))))
        by false d f = absurd (cc)
    spells_flipped_below None ea s e = absurd (cc)

    spells_flipped_above : (o : Option Term) → under_flip y ≡ o → (s : Term) → flipped_above_rest x o ≡ Some s → Spells s
    spells_flipped_above (Some b) eb s e = by (is_number_like x (top_bit x - 1) x) refl e
      where
        by : (test : Bool) → is_number_like x (top_bit x - 1) x ≡ test → cond test (Some (less b (constant (width_of x) (top_bit x)))) None ≡ Some s → Spells s
        by true d f =
            let fb = flip_is w y b hy eb in
            let half : top_bit x ≡ top w = ap (λ u. 2 ^ (bits u - 1)) (width_is x w hx) in
            let nx : number x ≡ top w - 1 = like_number w x x (top_bit x - 1) hx d ∙ ap (λ n. n - 1) half in
            subst Spells (same_Some (less b (constant (width_of x) (top_bit x))) s f)
            (ap Truth (ap (λ n. nat_lt n (number y)) nx ∙ ap (nat_lt (top w - 1)) fb.value_is ∙ flip_above (top w) (number b) (half_positive w) (word_below w b fb.sorted)
            ∙ ap (nat_lt (number b)) (sym half))
            ∙ sym (value-less assignment w b (constant (width_of x) (top_bit x)) (number b) (top_bit x) (number_is w b fb.sorted) (constant_like w x (top_bit x) hx)))
        by false d f = absurd (cc)
    spells_flipped_above None eb s e = absurd (cc)

    spelling_is : (t : Term) → is_spelling x y t ≡ true → Spells t
    spelling_is t e =
        either_test (is_spelled (below_one x y) t) _ e (λ h. spelled (below_one x y) t h spells_below_one)
        (λ e1. either_test (is_spelled (above_constant x y) t) _ e1 (λ h. spelled (above_constant x y) t h spells_above)
        (λ e2. either_test (is_spelled (both_flipped (under_flip x) (under_flip y)) t) _ e2
        (λ h. spelled (both_flipped (under_flip x) (under_flip y)) t h (spells_flipped (under_flip x) (under_flip y) refl refl))
        (λ e3. either_test (is_spelled (flipped_below_top (under_flip x) y) t) (is_spelled (flipped_above_rest x (under_flip y)) t) e3
        (λ h. spelled (flipped_below_top (under_flip x) y) t h (spells_flipped_below (under_flip x) refl))
        (λ h. spelled (flipped_above_rest x (under_flip y)) t h (spells_flipped_above (under_flip y) refl)))))

  spells_value : (t u : Term) → spells (order_of t) u ≡ true → value assignment t ≡ value assignment u
  spells_value t u e = by (order_of t) refl e
    where
      by : (o : Option Sides) → order_of t ≡ o → spells o u ≡ true → value assignment t ≡ value assignment u
      by (Some s) d f =
          let of_t = order_is assignment assigns t s d in
          let are = words_are assignment assigns s.left s.right of_t.are in
          order_value assignment assigns t s of_t ∙ spelling_is (width_of s.left) s.left s.right are.first are.second u f
      by None d f = absurd (cc)

  pub spelling_sound : (t u : Term) → same_by_spelling t u ≡ true → value assignment t ≡ value assignment u
  unfolding same_by_spelling
  spelling_sound t u e = either_test (spells (order_of t) u) (spells (order_of u) t) e (λ h. spells_value t u h) (λ h. sym (spells_value u t h))
