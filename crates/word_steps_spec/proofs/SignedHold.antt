-- What the rule `quot` accepts as a quotient of words with a sign, rounded towards 0, has one value.
use Rattle.std.proofs.Common.{◌≡◌, ℕ, zero, suc, ◌+◌, ◌-◌, ◌*◌, ◌/◌, ◌%◌, ◌^◌, ◌<◌, ◌≤◌, Bool, true, false, cond, List, [], ◌∷◌, Option, Some, None, option_and_then, ◌⊎◌, inl, inr, refl, sym, ap, ◌∙◌, subst, arith, ltb-true, leb-true, leb-false}
use Rattle.std.specs.Prelude.{◌&&◌, nat_lt, nat_le, min}
use Rattle.std.specs.List.{AllByRecursion}
use Rattle.std.proofs.lemmas.Bool.{and_parts, lt-ltb, le-ltb, cases_lt}
use Rattle.std.proofs.lemmas.Option.{same_Some, cond_some}
use Rattle.std.proofs.lemmas.Nat.{pow_pos, pow-add}
use Rattle.term_core_spec.specs.declared.Width.TheVariants.{W32, W64}
use Rattle.term_core_spec.specs.declared.Sort.TheVariants as sort
use Rattle.term_core_spec.specs.declared.WordOperator.TheVariants as word
use Rattle.term_core_spec.specs.declared.BinaryOperator.TheVariants as binary
use Rattle.term_core_spec.specs.declared.TernaryOperator.TheVariants as ternary
use Rattle.term_core_spec.specs.declared.QuaternaryOperator.TheVariants as quaternary
use Rattle.term_core_spec.specs.Term.{Term, Binary, Ternary, Quaternary, choose, sign_extend, on_words}
use Rattle.term_core_spec.specs.Sort.{sort_of}
use Rattle.term_core_spec.specs.Value.{Truth, Assignment, IsAssignment, value, unary_value, operation, is_negative, ones_if, low_bits, shifted_with_sign}
use Rattle.term_core_spec.specs.Same.{same_term}
use Rattle.term_core_spec.proofs.Same.{same_is}
use Rattle.term_norm_spec.specs.Patterns.{is_constant, number_of}
use Rattle.term_norm_spec.proofs.Numbers.{mod-small}
use Rattle.term_norm_spec.proofs.Keeps.{sort-constant, value-constant}
use Rattle.term_norm_spec.proofs.Truths.{value-choose}
use Rattle.term_norm_spec.proofs.Words.{word_of, value-less}
use Rattle.word_steps_spec.specs.Polynomial.{number_of_value, polynomial_value}
use Rattle.word_steps_spec.specs.Ring.{polynomial}
use Rattle.word_steps_spec.specs.LowBits.{form_of, constant_of}
use Rattle.word_steps_spec.specs.Ranges.{Range, as_of, below_range, range_of}
use Rattle.word_steps_spec.specs.Sides.{Sides}
use Rattle.word_steps_spec.specs.Quotients.{is_word32, number32, is_number32, reach_known, reach_by, reach_of, SignedFloor, fits_signed, signed_or_itself, signed_shifted, under_byte, is_upper_half, signed_product, signed_product_of, upper_signed, signed_upper_floor, signed_sum_if, else_signed, signed_floor_of, under_sign, under_signs, is_above_zero, has_sign, rounded_floor, rounds_to, is_rounded_quotient, at_least_zero, negated, magnitude, truncated, divided_by, under_less, truncated_with, truncated_of, is_signed_division}
use Rattle.word_steps_spec.proofs.Congruence.{IsCongruent, congruent_mod}
use Rattle.word_steps_spec.proofs.LowBitsHold.{form_sum, word_low}
use Rattle.word_steps_spec.proofs.RangesHold.{as_of_is, IsKnownRange, fact_range}
use Rattle.word_steps_spec.proofs.CommHolds.{word_made}
use Rattle.word_steps_spec.proofs.BitsHold.{number_below, number_is_known, IsChoice, choice_of}
use Rattle.word_steps_spec.proofs.QuotientNumbers.{quotient_by_floor}
use Rattle.word_steps_spec.proofs.SignedDivisorNumbers.{without_sign}
use Rattle.word_steps_spec.proofs.SignedNumbers.{below_floor, shift_positive, shift_negative, quotient_below}
use Rattle.word_steps_spec.proofs.SignedFloors.{place, Reaches, reaches_all, reaches_in, IsScaled, scaled_itself, room, scaled_sum, scaled_shift, scaled_upper, scaled_positive, scaled_negative}
use Rattle.word_steps_spec.proofs.QuotientsHold.{IsWord, word32, arguments, made, known, number32_is, below32, same_number, upper_half_is, divided, one_value}

-- ---- numbers

-- the sign of y, as 0 or 1
sign_positive : (y : ℕ) → y < 2 ^ 31 → y / 2 ^ 31 ≡ 0
sign_positive y below = omega arith

sign_negative : (y : ℕ) → 2 ^ 31 ≤ y → y < 2 ^ 32 → y / 2 ^ 31 ≡ 1
sign_negative y from below = omega arith

signs_positive : (y : ℕ) → y < 2 ^ 31 → shifted_with_sign 32 y 31 ≡ 0
signs_positive y below = shift_positive y 31 below ∙ sign_positive y below

signs_negative : (y : ℕ) → 2 ^ 31 ≤ y → y < 2 ^ 32 → shifted_with_sign 32 y 31 ≡ 2 ^ 32 - 1
signs_negative y from below = shift_negative y 31 (omega arith) from below ∙ ap (λ n. n + (2 ^ 32 - 2 ^ 1)) (sign_negative y from below)

plus_nothing : (p : ℕ) → p < 2 ^ 32 → (p + 0) % 2 ^ 32 ≡ p
plus_nothing p below = ap (λ n. n % 2 ^ 32) (plain p) ∙ mod-small p (2 ^ 32) below
  where
    plain : (p : ℕ) → p + 0 ≡ p
    plain p = omega arith

minus_nothing : (p : ℕ) → p < 2 ^ 32 → (p + (2 ^ 32 - 0 % 2 ^ 32)) % 2 ^ 32 ≡ p
minus_nothing p below = omega arith

minus_ones : (p : ℕ) → (p + (2 ^ 32 - (2 ^ 32 - 1) % 2 ^ 32)) % 2 ^ 32 ≡ (p + 1) % 2 ^ 32
minus_ones p = refl

extended_positive : (x : ℕ) → x < 2 ^ 31 → low_bits 64 (x + ones_if (is_negative 32 x) 32 64) ≡ x
extended_positive x below = by (is_negative 32 x) refl
  where
    by : (test : Bool) → is_negative 32 x ≡ test → low_bits 64 (x + ones_if test 32 64) ≡ x
    by true e = let le = leb-true (2 ^ 31) x e in absurd (omega arith)
    by false e = omega arith

extended_negative : (x : ℕ) → 2 ^ 31 ≤ x → x < 2 ^ 32 → low_bits 64 (x + ones_if (is_negative 32 x) 32 64) ≡ x + (2 ^ 64 - 2 ^ 32)
extended_negative x from below = by (is_negative 32 x) refl
  where
    by : (test : Bool) → is_negative 32 x ≡ test → low_bits 64 (x + ones_if test 32 64) ≡ x + (2 ^ 64 - 2 ^ 32)
    by true e = omega arith
    by false e = let less = leb-false (2 ^ 31) x e in absurd (omega arith)

module _ (assignment : Assignment) (assigns : IsAssignment assignment) where
  abbrev number : Term → ℕ
  number t = number_of_value (value assignment t)

  abbrev Is32 : Term → Type 0
  Is32 t = IsWord assignment assigns t

  -- ---- how far a word is from 0

  reach_range : (x : Term) → Is32 x → (q : Range) → IsKnownRange assignment assigns q → (o : Option Range) → as_of (below_range 32 (polynomial x) 0) q ≡ o
      → Reaches (number x) (reach_known x o)
  reach_range x hx q is (Some k) e =
      let read = as_of_is assignment assigns (below_range 32 (polynomial x) 0) q k is.fits e in
      let sum = subst (λ n. IsCongruent (2 ^ 32) n (number x)) (sym (form_sum assignment assigns (polynomial x))) (word_low assignment assigns W32 x hx) in
      subst (λ (j : Range). Reaches (number x) (reach_known x (Some j))) read.is
      (reaches_in read.start q.length (polynomial_value assignment (form_of (polynomial x))) (constant_of (polynomial x)) (number x) (read.same ∙ is.inside) sum)
  reach_range x hx q is None e = reaches_all (number x)

  reach_fact : (x fact : Term) → Is32 x → value assignment fact ≡ Truth true → Reaches (number x) (reach_by x fact)
  reach_fact x fact hx h = by (range_of fact) refl
    where
      by : (o : Option Range) → range_of fact ≡ o → Reaches (number x) (reach_known x (option_and_then (as_of (below_range 32 (polynomial x) 0)) o))
      by (Some q) d = reach_range x hx q (fact_range assignment assigns fact q h d) (as_of (below_range 32 (polynomial x) 0) q) refl
      by None d = reaches_all (number x)

  reach_is : (facts : List Term) (x : Term) → AllByRecursion (λ t. value assignment t ≡ Truth true) facts → Is32 x → Reaches (number x) (reach_of facts x)
  unfolding reach_of
  reach_is [] x are hx = reaches_all (number x)
  reach_is (fact ∷ facts) x are hx = least (reach_by x fact) (reach_of facts x) (reach_fact x fact hx are.0) (reach_is facts x are.1 hx)
    where
      least : (a b : ℕ) → Reaches (number x) a → Reaches (number x) b → Reaches (number x) (min a b)
      least a b h g = by (nat_le a b) refl
        where
          by : (test : Bool) → nat_le a b ≡ test → Reaches (number x) (min a b)
          by true d = let le = leb-true a b d in let same : min a b ≡ a = omega arith in subst (Reaches (number x)) (sym same) h
          by false d = let less = leb-false a b d in let same : min a b ≡ b = omega arith in subst (Reaches (number x)) (sym same) g

  module _ (x : Term) (hx : Is32 x) where
    below_x : number x < 2 ^ 32
    below_x = below32 assignment assigns x hx

    -- ---- the quotient as C means it

    zero_sort : Is32 (number32 0)
    zero_sort = sort-constant W32 0 (omega arith)

    negated_is : (u : Term) → Is32 (negated u) → number (negated u) ≡ (0 + (2 ^ 32 - number u % 2 ^ 32)) % 2 ^ 32
    unfolding operation
    negated_is u h = made assignment assigns word.Subtract (number32 0) u h ∙ ap (λ n. (n + (2 ^ 32 - number u % 2 ^ 32)) % 2 ^ 32) (ap number_of_value (value-constant assignment W32 0))

    test_is : value assignment (at_least_zero x) ≡ Truth (nat_lt (number x) (2 ^ 31))
    test_is =
        let vx = word_of assignment assigns W32 x hx in
        value-less assignment W32 x (number32 (2 ^ 31)) vx.0 (2 ^ 31) vx.1 (value-constant assignment W32 (2 ^ 31)) ∙ ap (λ n. Truth (nat_lt n (2 ^ 31))) (sym (ap number_of_value vx.1))

    chosen : (u v : Term) (b : Bool) → nat_lt (number x) (2 ^ 31) ≡ b → number (choose (at_least_zero x) u v) ≡ number_of_value (cond b (value assignment u) (value assignment v))
    chosen u v b e = ap number_of_value (value-choose assignment (at_least_zero x) u v b (test_is ∙ ap Truth e))

    opposite : (n : ℕ) → n < 2 ^ 32 → 2 ^ 31 ≤ n → (0 + (2 ^ 32 - n % 2 ^ 32)) % 2 ^ 32 ≡ 2 ^ 32 - n
    opposite n below from = omega arith

    magnitude_positive : number x < 2 ^ 31 → number (magnitude x) ≡ number x
    magnitude_positive below = chosen x (negated x) true (lt-ltb (number x) (2 ^ 31) below)

    magnitude_negative : Is32 (magnitude x) → 2 ^ 31 ≤ number x → number (magnitude x) ≡ 2 ^ 32 - number x
    magnitude_negative hm from =
        let sorts = choice_of assignment assigns W32 (at_least_zero x) x (negated x) hm in
        chosen x (negated x) false (le-ltb (number x) (2 ^ 31) from) ∙ negated_is x sorts.second ∙ opposite (number x) below_x from

    pub magnitude_is : Is32 (magnitude x) → number (magnitude x) ≡ without_sign (number x)
    magnitude_is hm = by (cases_lt (number x) (2 ^ 31))
      where
        by : (number x < 2 ^ 31) ⊎ (2 ^ 31 ≤ number x) → number (magnitude x) ≡ without_sign (number x)
        by (inl less) = magnitude_positive less ∙ sym (ap (λ t. cond t (number x) (2 ^ 32 - number x)) (lt-ltb (number x) (2 ^ 31) less))
        by (inr from) = magnitude_negative hm from ∙ sym (ap (λ t. cond t (number x) (2 ^ 32 - number x)) (le-ltb (number x) (2 ^ 31) from))

    module _ (d : Term) (hd : is_constant d ≡ true) (ht : Is32 (truncated x d)) where
      abbrev quotient : Term
      quotient = on_words word.Divide (magnitude x) d

      both : IsChoice assignment assigns W32 (at_least_zero x) quotient (negated quotient)
      both = choice_of assignment assigns W32 (at_least_zero x) quotient (negated quotient) ht

      quotient_sorts : Is32 (magnitude x) × Is32 d
      quotient_sorts = arguments assignment assigns word.Divide W32 (magnitude x) d both.first

      truncated_positive : 0 < number_of d → number x < 2 ^ 31 → number (truncated x d) ≡ number x / number_of d
      truncated_positive some below =
          let test = lt-ltb (number x) (2 ^ 31) below in
          chosen quotient (negated quotient) true test ∙ divided assignment assigns (magnitude x) d both.first some hd ∙ ap (λ n. n / number_of d) (magnitude_positive below)

      truncated_negative : 0 < number_of d → 2 ^ 31 ≤ number x → number (truncated x d) ≡ (2 ^ 32 - (2 ^ 32 - number x) / number_of d) % 2 ^ 32
      truncated_negative some from =
          let test = le-ltb (number x) (2 ^ 31) from in
          let quotient_is2 : number quotient ≡ (2 ^ 32 - number x) / number_of d =
          divided assignment assigns (magnitude x) d both.first some hd ∙ ap (λ n. n / number_of d) (magnitude_negative quotient_sorts.0 from) in
          let small = below32 assignment assigns quotient both.first in
          chosen quotient (negated quotient) false test ∙ negated_is quotient both.second ∙ ap (λ n. (0 + (2 ^ 32 - n)) % 2 ^ 32) (mod-small (number quotient) (2 ^ 32) small)
          ∙ ap (λ n. (0 + (2 ^ 32 - n)) % 2 ^ 32) quotient_is2 ∙ ap (λ n. n % 2 ^ 32) (plain (2 ^ 32 - (2 ^ 32 - number x) / number_of d))
        where
          plain : (n : ℕ) → 0 + n ≡ n
          plain n = omega arith

    -- ---- upper halves

    abbrev extended : ℕ
    extended = number (sign_extend W64 x)

    extended_is : extended ≡ low_bits 64 (number x + ones_if (is_negative 32 (number x)) 32 64)
    unfolding value unary_value
    extended_is = let vx = word_of assignment assigns W32 x hx in rw vx.1 refl

    extended_place : IsCongruent (2 ^ 64) (extended + 2 ^ 31) (place (number x))
    extended_place = by (cases_lt (number x) (2 ^ 31))
      where
        by : (number x < 2 ^ 31) ⊎ (2 ^ 31 ≤ number x) → IsCongruent (2 ^ 64) (extended + 2 ^ 31) (place (number x))
        by (inl below) = let e = extended_is ∙ extended_positive (number x) below in record { first = 0; second = 0; same = omega arith }
        by (inr from) =
            let small = below_x in
            let e = extended_is ∙ extended_negative (number x) from below_x in
            record { first = 0; second = 1; same = omega arith }

    product_is : (h : Term) (c : ℕ) → sort_of h ≡ Some (sort.Word W64) → signed_product x h ≡ Some c → (number h ≡ extended * c % 2 ^ 64) × (c < 2 ^ 64)
    unfolding signed_product operation
    product_is (Binary (binary.Word word.Multiply) y k) c hh e =
        let are = arguments assignment assigns word.Multiply W64 y k hh in
        let passed = cond_some (same_term y (sign_extend W64 x) && is_constant k) (number_of k) c e in
        let both = and_parts (same_term y (sign_extend W64 x)) (is_constant k) passed.0 in
        let n_is = number_is_known assignment assigns W64 k are.1 both.1 ∙ passed.1 in (
          word_made assignment assigns W64 word.Multiply y k are.0 are.1 ∙ ap (λ n. n * number k % 2 ^ 64) (same_number assignment assigns y (sign_extend W64 x) both.0)
              ∙ ap (λ n. extended * n % 2 ^ 64) n_is,
          subst (λ n. n < 2 ^ 64) n_is (number_below assignment assigns W64 k are.1),
        )
    product_is t c hh e = absurd (cc)

    -- what the upper half of a product is
    record IsUpper (t : Term) (c : ℕ) : Type 0 where
      pub number_is : number t ≡ extended * c % 2 ^ 64 / 2 ^ 32 % 2 ^ 32
      pub below : c < 2 ^ 64

    product_of_is : (t : Term) (o : Option Term) (c : ℕ) → signed_product_of x t o ≡ Some c → IsUpper t c
    product_of_is t (Some h) c e = by (is_upper_half t h) refl e
      where
        by : (test : Bool) → is_upper_half t h ≡ test → cond test (signed_product x h) None ≡ Some c → IsUpper t c
        by true d k =
            let half = upper_half_is assignment assigns t h d in
            let product = product_is h c half.0 k in
            record { number_is = half.1 ∙ ap (λ n. n / 2 ^ 32 % 2 ^ 32) product.0; below = product.1 }
        by false d k = absurd (cc)
    product_of_is t None c e = absurd (cc)

    upper_signed_is : (t : Term) (c : ℕ) → upper_signed x t ≡ Some c → IsUpper t c
    unfolding upper_signed
    upper_signed_is (Quaternary quaternary.Join a b d f) c e = product_of_is (Quaternary quaternary.Join a b d f) (under_byte a) c e
    upper_signed_is t c e = absurd (cc)

    record IsQuotient (t : Term) (d : ℕ) : Type 0 where
      pub divides : 0 < d
      pub positive : number x < 2 ^ 31 → number t ≡ number x / d
      pub negative : 2 ^ 31 ≤ number x → number t ≡ (2 ^ 32 - (2 ^ 32 - number x) / d) % 2 ^ 32

    truncated_equal : (d : Term) → is_constant d ≡ true → Is32 (truncated x d) → (t : Term) → IsQuotient t (number_of d) → number t ≡ number (truncated x d)
    truncated_equal d hd ht t is = by (cases_lt (number x) (2 ^ 31))
      where
        by : (number x < 2 ^ 31) ⊎ (2 ^ 31 ≤ number x) → number t ≡ number (truncated x d)
        by (inl below) = is.positive below ∙ sym (truncated_positive d hd ht is.divides below)
        by (inr from) = is.negative from ∙ sym (truncated_negative d hd ht is.divides from)

    swapped : (a b : ℕ) → (a + b) % 2 ^ 32 ≡ (b + a) % 2 ^ 32
    swapped a b = ap (λ n. n % 2 ^ 32) (turn a b)
      where
        turn : (a b : ℕ) → a + b ≡ b + a
        turn a b = omega arith

    sum_is : (p q : Term) → Is32 (on_words word.Add p q) → number (on_words word.Add p q) ≡ (number p + number q) % 2 ^ 32
    unfolding operation
    sum_is p q h = made assignment assigns word.Add p q h

    either_is : (P : SignedFloor → Type 0) (o p : Option SignedFloor) (f : SignedFloor) → (o ≡ Some f → P f) → (p ≡ Some f → P f) → else_signed o p ≡ Some f → P f
    either_is P (Some k) p f h j e = h e
    either_is P None p f h j e = j e

    -- ---- scaled floors of x, which is from -g - 1 to g

    module _ (g : ℕ) (reach : Reaches (number x) g) where
      abbrev IsSigned : Term → SignedFloor → Type 0
      IsSigned t f = IsScaled (number x) (number t) f.raised (2 ^ f.shift)

      itself_is : (t : Term) (o : Option SignedFloor) (f : SignedFloor) → (o ≡ Some f → IsSigned t f) → signed_or_itself x t o ≡ Some f → IsSigned t f
      itself_is t o f h e = by (same_term t x) refl e
        where
          by : (test : Bool) → same_term t x ≡ test → cond test (Some (record { raised = 2; shift = 0 })) o ≡ Some f → IsSigned t f
          by true d k =
              subst (IsSigned t) (same_Some (record { raised = 2; shift = 0 }) f k)
              (subst (λ n. IsScaled (number x) n 2 1) (sym (same_number assignment assigns t x d)) (scaled_itself (number x)))
          by false d k = h k

      shifted_is : (y c : Term) → Is32 (on_words word.ShiftRightSigned y c) → (o : Option SignedFloor) (f : SignedFloor) → ((h : SignedFloor) → o ≡ Some h → IsSigned y h)
          → signed_shifted c o ≡ Some f → IsSigned (on_words word.ShiftRightSigned y c) f
      unfolding operation
      shifted_is y c ht (Some h) f is e =
          let are = arguments assignment assigns word.ShiftRightSigned W32 y c ht in
          let passed =
          cond_some (is_constant c && nat_lt (number_of c) 32)
          (record { raised = h.raised + 2 ^ h.shift * 2 ^ number_of c - 2 ^ h.shift; shift = h.shift + number_of c }) f e in
          let both = and_parts (is_constant c) (nat_lt (number_of c) 32) passed.0 in
          let n_is = known assignment assigns c are.1 both.0 in
          let made_is : number (on_words word.ShiftRightSigned y c) ≡ shifted_with_sign 32 (number y) (number_of c) =
          made assignment assigns word.ShiftRightSigned y c ht
          ∙ ap (λ n. cond (nat_lt n 32) (shifted_with_sign 32 (number y) n) (ones_if (is_negative 32 (number y)) 0 32)) n_is
          ∙ ap (λ b. cond b (shifted_with_sign 32 (number y) (number_of c)) (ones_if (is_negative 32 (number y)) 0 32)) both.1 in
          subst (IsSigned (on_words word.ShiftRightSigned y c)) passed.1
          (subst (λ p. IsScaled (number x) (number (on_words word.ShiftRightSigned y c)) (h.raised + 2 ^ h.shift * 2 ^ number_of c - 2 ^ h.shift) p)
          (sym (pow-add 2 h.shift (number_of c)))
          (subst (λ n. IsScaled (number x) n (h.raised + 2 ^ h.shift * 2 ^ number_of c - 2 ^ h.shift) (2 ^ h.shift * 2 ^ number_of c)) (sym made_is)
          (scaled_shift (number x) (number y) h.raised (2 ^ h.shift) (number_of c) (ltb-true (number_of c) 32 both.1) (below32 assignment assigns y are.0) (is h refl))))
      shifted_is y c ht None f is e = absurd (cc)

      half_is : (t : Term) (f : SignedFloor) → signed_upper_floor g (upper_signed x t) ≡ Some f → IsSigned t f
      half_is t f e = by (upper_signed x t) refl e
        where
          by : (o : Option ℕ) → upper_signed x t ≡ o → signed_upper_floor g o ≡ Some f → IsSigned t f
          by (Some c) d k =
              let fits = cond_some (fits_signed g ((c + 2 ^ 32) % 2 ^ 64) 32) (record { raised = (c + 2 ^ 32) % 2 ^ 64; shift = 32 }) f k in
              subst (IsSigned t) fits.1
              (scaled_upper (number x) extended c (number t) ((c + 2 ^ 32) % 2 ^ 64) extended_place (congruent_mod (2 ^ 64) (c + 2 ^ 32)) (upper_signed_is t c d).number_is
              (room (number x) g ((c + 2 ^ 32) % 2 ^ 64) 32 reach fits.0))
          by None d k = absurd (cc)

      added_x : (s p q : Term) → Is32 p → number s ≡ (number p + number q) % 2 ^ 32 → (o : Option SignedFloor) → ((h : SignedFloor) → o ≡ Some h → IsSigned p h)
          → (f : SignedFloor) → signed_sum_if g (same_term q x) o ≡ Some f → IsSigned s f
      added_x s p q hp sum o is f e = by (same_term q x) refl o refl e
        where
          by : (test : Bool) → same_term q x ≡ test → (r : Option SignedFloor) → o ≡ r → signed_sum_if g test r ≡ Some f → IsSigned s f
          by true d (Some h) same k =
              let fits = cond_some (fits_signed g (h.raised + 2 ^ h.shift) h.shift) (record { raised = h.raised + 2 ^ h.shift; shift = h.shift }) f k in
              subst (IsSigned s) fits.1
              (subst (λ n. IsScaled (number x) n (h.raised + 2 ^ h.shift) (2 ^ h.shift)) (sym (sum ∙ ap (λ n. (number p + n) % 2 ^ 32) (same_number assignment assigns q x d)))
              (scaled_sum (number x) (number p) h.raised (2 ^ h.shift) below_x (below32 assignment assigns p hp) (is h same)
              (room (number x) g (h.raised + 2 ^ h.shift) h.shift reach fits.0)))
          by true d None same k = absurd (cc)
          by false d r same k = absurd (cc)

      signed_is : (t : Term) (f : SignedFloor) → Is32 t → signed_floor_of g x t ≡ Some f → IsSigned t f
      unfolding signed_floor_of
      signed_is (Binary (binary.Word word.ShiftRightSigned) y c) f ht e =
          itself_is (on_words word.ShiftRightSigned y c) (signed_shifted c (signed_floor_of g x y)) f
          (shifted_is y c ht (signed_floor_of g x y) f (λ h d. signed_is y h (arguments assignment assigns word.ShiftRightSigned W32 y c ht).0 d)) e
      signed_is (Binary (binary.Word word.Add) p q) f ht e =
          let are = arguments assignment assigns word.Add W32 p q ht in
          let sum = sum_is p q ht in
          itself_is (on_words word.Add p q)
          (else_signed (signed_sum_if g (same_term q x) (signed_floor_of g x p)) (signed_sum_if g (same_term p x) (signed_floor_of g x q))) f
          (either_is (IsSigned (on_words word.Add p q)) (signed_sum_if g (same_term q x) (signed_floor_of g x p)) (signed_sum_if g (same_term p x) (signed_floor_of g x q)) f
          (added_x (on_words word.Add p q) p q are.0 sum (signed_floor_of g x p) (λ h d. signed_is p h are.0 d) f)
          (added_x (on_words word.Add p q) q p are.1 (sum ∙ swapped (number p) (number q)) (signed_floor_of g x q) (λ h d. signed_is q h are.1 d) f)) e
      signed_is (Quaternary quaternary.Join a b c d) f ht e =
          itself_is (Quaternary quaternary.Join a b c d) (signed_upper_floor g (upper_signed x (Quaternary quaternary.Join a b c d))) f
          (half_is (Quaternary quaternary.Join a b c d) f) e
      signed_is t f ht e = itself_is t None f (λ d. absurd (cc)) e

      -- ---- with 1 added below 0

      -- the multiplier of a floor where it is above 0
      abbrev multiplier : SignedFloor → ℕ
      multiplier f = f.raised - 2 ^ f.shift

      at_positive : (t : Term) (f : SignedFloor) → Is32 t → 2 ^ f.shift < f.raised → IsSigned t f → number x < 2 ^ 31
          → (number t ≡ number x * multiplier f / 2 ^ f.shift) × (number t < 2 ^ 31)
      at_positive t f ht above is below =
          scaled_positive (number x) (number t) f.raised (multiplier f) f.shift (below32 assignment assigns t ht) (omega arith) is below

      at_negative : (t : Term) (f : SignedFloor) → Is32 t → 2 ^ f.shift < f.raised → IsSigned t f → 2 ^ 31 ≤ number x
          → (number t ≡ below_floor f.shift ((2 ^ 32 - number x) * multiplier f)) × (2 ^ 31 ≤ number t)
      at_negative t f ht above is from =
          scaled_negative (number x) (number t) f.raised (multiplier f) f.shift (below32 assignment assigns t ht) (omega arith) is (omega arith) from below_x

      record IsRounded (t : Term) (f : SignedFloor) : Type 0 where
        pub positive : number x < 2 ^ 31 → number t ≡ number x * multiplier f / 2 ^ f.shift
        pub negative : 2 ^ 31 ≤ number x → number t ≡ (below_floor f.shift ((2 ^ 32 - number x) * multiplier f) + 1) % 2 ^ 32

      -- y has the sign of x
      record HasSign (y : Term) : Type 0 where
        pub sorted : Is32 y
        pub kept : number x < 2 ^ 31 → number y < 2 ^ 31
        pub from : 2 ^ 31 ≤ number x → 2 ^ 31 ≤ number y

      sign_is : (y : Term) → (is_word32 y && is_above_zero (signed_floor_of g x y)) ≡ true → HasSign y
      sign_is y e =
          let both = and_parts (is_word32 y) (is_above_zero (signed_floor_of g x y)) e in
          by (word32 assignment assigns y both.0) (signed_floor_of g x y) refl both.1
        where
          by : Is32 y → (o : Option SignedFloor) → signed_floor_of g x y ≡ o → is_above_zero o ≡ true → HasSign y
          by hy (Some f) d h =
              let above = ltb-true (2 ^ f.shift) f.raised h in
              let is = signed_is y f hy d in
              record { sorted = hy; kept = λ below. (at_positive y f hy above is below).1; from = λ from. (at_negative y f hy above is from).1 }
          by hy None d h = absurd (cc)

      under_sign_is : (q y : Term) → Is32 q → under_sign q ≡ Some y → number q ≡ number y / 2 ^ 31
      unfolding under_sign operation
      under_sign_is (Binary (binary.Word word.ShiftRight) u c) y hq e =
          let passed = cond_some (is_number32 c 31) u y e in
          made assignment assigns word.ShiftRight u c hq ∙ ap (λ n. cond (nat_lt n 32) (number u / 2 ^ n) 0) (number32_is assignment assigns c 31 passed.0)
          ∙ ap (λ v. number v / 2 ^ 31) passed.1
      under_sign_is q y hq e = absurd (cc)

      under_signs_is : (q y : Term) → Is32 q → under_signs q ≡ Some y → number q ≡ shifted_with_sign 32 (number y) 31
      unfolding under_signs operation
      under_signs_is (Binary (binary.Word word.ShiftRightSigned) u c) y hq e =
          let passed = cond_some (is_number32 c 31) u y e in
          made assignment assigns word.ShiftRightSigned u c hq
          ∙ ap (λ n. cond (nat_lt n 32) (shifted_with_sign 32 (number u) n) (ones_if (is_negative 32 (number u)) 0 32)) (number32_is assignment assigns c 31 passed.0)
          ∙ ap (λ v. shifted_with_sign 32 (number v) 31) passed.1
      under_signs_is q y hq e = absurd (cc)

      added_is : (s p q : Term) → Is32 p → Is32 q → number s ≡ (number p + number q) % 2 ^ 32 → (f : SignedFloor) → 2 ^ f.shift < f.raised
          → cond (has_sign g x (under_sign q)) (signed_floor_of g x p) None ≡ Some f → IsRounded s f
      added_is s p q hp hq sum f above e = by (under_sign q) refl e
        where
          then : (y : Term) → under_sign q ≡ Some y → (test : Bool) → has_sign g x (Some y) ≡ test → cond test (signed_floor_of g x p) None ≡ Some f → IsRounded s f
          then y d true h k =
              let is = signed_is p f hp k in
              let sign = sign_is y h in
              let q_is = under_sign_is q y hq d in
              let below_p = below32 assignment assigns p hp in
              let below_y = below32 assignment assigns y sign.sorted in
              record {
                positive = λ below.
                    sum ∙ ap (λ n. (number p + n) % 2 ^ 32) (q_is ∙ sign_positive (number y) (sign.kept below)) ∙ plus_nothing (number p) below_p
                    ∙ (at_positive p f hp above is below).0;
                negative = λ from.
                    sum ∙ ap (λ n. (number p + n) % 2 ^ 32) (q_is ∙ sign_negative (number y) (sign.from from) below_y)
                    ∙ ap (λ n. (n + 1) % 2 ^ 32) (at_negative p f hp above is from).0;
              }
          then y d false h k = absurd (cc)

          by : (o : Option Term) → under_sign q ≡ o → cond (has_sign g x o) (signed_floor_of g x p) None ≡ Some f → IsRounded s f
          by (Some y) d k = then y d (has_sign g x (Some y)) refl k
          by None d k = absurd (cc)

      taken_is : (p q : Term) → Is32 (on_words word.Subtract p q) → (f : SignedFloor) → 2 ^ f.shift < f.raised
          → cond (has_sign g x (under_signs q)) (signed_floor_of g x p) None ≡ Some f → IsRounded (on_words word.Subtract p q) f
      unfolding operation
      taken_is p q hs f above e = by (under_signs q) refl e
        where
          hp : Is32 p
          hp = (arguments assignment assigns word.Subtract W32 p q hs).0

          hq : Is32 q
          hq = (arguments assignment assigns word.Subtract W32 p q hs).1

          sum : number (on_words word.Subtract p q) ≡ (number p + (2 ^ 32 - number q % 2 ^ 32)) % 2 ^ 32
          sum = made assignment assigns word.Subtract p q hs

          then : (y : Term) → under_signs q ≡ Some y → (test : Bool) → has_sign g x (Some y) ≡ test → cond test (signed_floor_of g x p) None ≡ Some f
              → IsRounded (on_words word.Subtract p q) f
          then y d true h k =
              let is = signed_is p f hp k in
              let sign = sign_is y h in
              let q_is = under_signs_is q y hq d in
              let below_p = below32 assignment assigns p hp in
              let below_y = below32 assignment assigns y sign.sorted in
              record {
                positive = λ below.
                    sum ∙ ap (λ n. (number p + (2 ^ 32 - n % 2 ^ 32)) % 2 ^ 32) (q_is ∙ signs_positive (number y) (sign.kept below)) ∙ minus_nothing (number p) below_p
                    ∙ (at_positive p f hp above is below).0;
                negative = λ from.
                    sum ∙ ap (λ n. (number p + (2 ^ 32 - n % 2 ^ 32)) % 2 ^ 32) (q_is ∙ signs_negative (number y) (sign.from from) below_y) ∙ minus_ones (number p)
                    ∙ ap (λ n. (n + 1) % 2 ^ 32) (at_negative p f hp above is from).0;
              }
          then y d false h k = absurd (cc)

          by : (o : Option Term) → under_signs q ≡ o → cond (has_sign g x o) (signed_floor_of g x p) None ≡ Some f → IsRounded (on_words word.Subtract p q) f
          by (Some y) d k = then y d (has_sign g x (Some y)) refl k
          by None d k = absurd (cc)

      rounded_is : (t : Term) (f : SignedFloor) → Is32 t → 2 ^ f.shift < f.raised → rounded_floor g x t ≡ Some f → IsRounded t f
      unfolding rounded_floor
      rounded_is (Binary (binary.Word word.Add) p q) f ht above e =
          let are = arguments assignment assigns word.Add W32 p q ht in
          let sum = sum_is p q ht in
          either_is (IsRounded (on_words word.Add p q)) (cond (has_sign g x (under_sign q)) (signed_floor_of g x p) None)
          (cond (has_sign g x (under_sign p)) (signed_floor_of g x q) None) f (added_is (on_words word.Add p q) p q are.0 are.1 sum f above)
          (added_is (on_words word.Add p q) q p are.1 are.0 (sum ∙ swapped (number p) (number q)) f above) e
      rounded_is (Binary (binary.Word word.Subtract) p q) f ht above e = taken_is p q ht f above e
      rounded_is t f ht above e = absurd (cc)

      -- ---- quotients

      quotient_positive : (n k d : ℕ) → 2 ^ k < n * d → (n * d - 2 ^ k) * (g + 1) ≤ 2 ^ k → number x < 2 ^ 31 → number x * n / 2 ^ k ≡ number x / d
      quotient_positive n k d over small below =
          let high = reach.high in
          let one : (n * d - 2 ^ k) * (g + 1) ≡ (n * d - 2 ^ k) * g + (n * d - 2 ^ k) = spread (n * d - 2 ^ k) g in
          quotient_by_floor (number x) g n (2 ^ k) d (omega arith) (pow_pos k) (omega arith) (omega arith)
        where
          spread : (a b : ℕ) → a * (b + 1) ≡ a * b + a
          spread a b = omega arith

      quotient_is : (t : Term) (d : ℕ) → Is32 t → (o : Option SignedFloor) → rounded_floor g x t ≡ o → is_rounded_quotient g d o ≡ true → IsQuotient t d
      quotient_is t d ht (Some f) e h =
          let one = and_parts (nat_lt (2 ^ f.shift) f.raised) (rounds_to g d (multiplier f) (2 ^ f.shift)) h in
          let both = and_parts (nat_lt (2 ^ f.shift) (multiplier f * d)) (nat_le ((multiplier f * d - 2 ^ f.shift) * (g + 1)) (2 ^ f.shift)) one.1 in
          let over = ltb-true (2 ^ f.shift) (multiplier f * d) both.0 in
          let small = leb-true ((multiplier f * d - 2 ^ f.shift) * (g + 1)) (2 ^ f.shift) both.1 in
          let is = rounded_is t f ht (ltb-true (2 ^ f.shift) f.raised one.0) e in
          let below = below_x in
          let low = reach.low in
          record {
            divides = factor (multiplier f) (2 ^ f.shift) d over;
            positive = λ under. is.positive under ∙ quotient_positive (multiplier f) f.shift d over small under;
            negative = λ from.
                is.negative from ∙ ap (λ n. n % 2 ^ 32) (quotient_below (2 ^ 32 - number x) (multiplier f) f.shift d g (omega arith) (omega arith) (omega arith) over small);
          }
        where
          factor : (n p d : ℕ) → p < n * d → 0 < d
          factor n p zero l = let e : n * 0 ≡ 0 = omega arith in absurd (omega arith)
          factor n p (suc d) l = omega arith
      quotient_is t d ht None e h = absurd (cc)

  truncated_is : (u : Term) (s : Sides) → truncated_of u ≡ Some s → u ≡ truncated s.left s.right
  unfolding truncated_of
  truncated_is (Ternary ternary.Choose p q v) s e = first (under_less p) (divided_by q) e
    where
      second : (x d : Term) (test : Bool) → same_term (Ternary ternary.Choose p q v) (truncated x d) ≡ test → cond test (Some (record { left = x; right = d })) None ≡ Some s
          → Ternary ternary.Choose p q v ≡ truncated s.left s.right
      second x d true h k = subst (λ (r : Sides). Ternary ternary.Choose p q v ≡ truncated r.left r.right) (same_Some (record { left = x; right = d }) s k) (same_is (Ternary ternary.Choose p q v) (truncated x d) h)
      second x d false h k = absurd (cc)

      first : (o r : Option Term) → truncated_with (Ternary ternary.Choose p q v) o r ≡ Some s → Ternary ternary.Choose p q v ≡ truncated s.left s.right
      first (Some x) (Some d) k = second x d (same_term (Ternary ternary.Choose p q v) (truncated x d)) refl k
      first (Some x) None k = absurd (cc)
      first None r k = absurd (cc)
  truncated_is t s e = absurd (cc)

  pub signed_division_sound : (facts : List Term) (t u : Term) → AllByRecursion (λ t. value assignment t ≡ Truth true) facts → sort_of t ≡ sort_of u
      → is_signed_division facts t (truncated_of u) ≡ true → value assignment t ≡ value assignment u
  signed_division_sound facts t u true_facts same h = by (truncated_of u) refl h
    where
      by : (o : Option Sides) → truncated_of u ≡ o → is_signed_division facts t o ≡ true → value assignment t ≡ value assignment u
      by (Some s) d e =
          let one = and_parts (is_word32 s.left) _ e in
          let two = and_parts (is_word32 t) _ one.1 in
          let three = and_parts (is_constant s.right) (is_rounded_quotient (reach_of facts s.left) (number_of s.right) (rounded_floor (reach_of facts s.left) s.left t)) two.1 in
          let hx = word32 assignment assigns s.left one.0 in
          let ht = word32 assignment assigns t two.0 in
          let is_u = truncated_is u s d in
          let hu : Is32 u = sym same ∙ ht in
          let ht2 : Is32 (truncated s.left s.right) = sym (ap sort_of is_u) ∙ hu in
          let quotient =
          quotient_is s.left hx (reach_of facts s.left) (reach_is facts s.left true_facts hx) t (number_of s.right) ht (rounded_floor (reach_of facts s.left) s.left t) refl three.1 in
          one_value assignment assigns t u ht hu (truncated_equal s.left hx s.right three.0 ht2 t quotient ∙ ap number (sym is_u))
      by None d e = absurd (cc)
