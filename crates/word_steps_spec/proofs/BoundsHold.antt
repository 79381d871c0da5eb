-- The value of a word is within its bounds, and what bounds decide is so.
use Rattle.std.proofs.Common.{◌≡◌, ℕ, zero, suc, ◌+◌, ◌-◌, ◌*◌, ◌/◌, ◌%◌, ◌^◌, ◌<◌, ◌≤◌, Bool, true, false, cond, Option, Some, None, refl, sym, ap, ◌∙◌, subst, arith, eq-eqb, ne_eqb, lt-ltb, le-ltb, ltb-true, leb-true}
use Rattle.std.specs.Prelude.{◌==◌, ◌&&◌, ◌||◌, not, nat_lt, nat_le, min, max}
use Rattle.std.specs.Int.{bit_at}
use Rattle.std.proofs.lemmas.Bool.{and_parts}
use Rattle.std.proofs.lemmas.Option.{same_Some}
use Rattle.std.proofs.lemmas.Nat.{pow_pos, mod_below, mod-mul-add, mod-pow-add, mul-le, div_below, div-add-mod'}
use Rattle.std.proofs.lemmas.Nat.Bits.{bit_at-lt}
use Rattle.term_core_spec.specs.declared.Width.{Width}
use Rattle.term_core_spec.specs.declared.Sort.TheVariants as sort
use Rattle.term_core_spec.specs.declared.Atom.{Atom}
use Rattle.term_core_spec.specs.declared.Atom.TheVariants as atom
use Rattle.term_core_spec.specs.declared.WordOperator.{WordOperator}
use Rattle.term_core_spec.specs.declared.WordOperator.TheVariants as word
use Rattle.term_core_spec.specs.declared.BinaryOperator.TheVariants as binary
use Rattle.term_core_spec.specs.declared.TernaryOperator.TheVariants as ternary
use Rattle.term_core_spec.specs.Term.{Term, Leaf, Binary, Ternary, choose, less, on_words}
use Rattle.term_core_spec.specs.Sort.{bits, sort_of}
use Rattle.term_core_spec.specs.Value.{Truth, Assignment, IsAssignment, value, operation}
use Rattle.term_norm_spec.specs.Patterns.{width_of, is_constant, number_of}
use Rattle.term_norm_spec.proofs.Numbers.{mod-small}
use Rattle.term_norm_spec.proofs.Keeps.{width_is}
use Rattle.term_norm_spec.proofs.Truths.{truth_value_of, value-choose}
use Rattle.term_norm_spec.proofs.Words.{words_of, value-less}
use Rattle.word_steps_spec.specs.Polynomial.{number_of_value}
use Rattle.word_steps_spec.specs.Sides.{are_words, Sides, sides_of}
use Rattle.word_steps_spec.specs.Bitwise.{bit_value, is_fixed, bits_of}
use Rattle.word_steps_spec.specs.Order.{Bounds, least_of_bits, greatest_of_bits, bounds_by_bits, within_both, within_one, divided_bounds, is_divisor, bounds_of_operation, bounds_by_own_bits, bounds_of, is_below, are_one_value, equality_by_bounds, order_by_bounds, order_of, by_sides, else_by, decided_by_bounds}
use Rattle.word_steps_spec.proofs.CommHolds.{either_test, word_made}
use Rattle.word_steps_spec.proofs.BitsHold.{bits_are, fixed_value, number_below, number_is_known, choice_of}
use Rattle.word_steps_spec.proofs.RingSound.{words_are, sides_are, not_equal}
use Rattle.word_steps_spec.proofs.BitsSound.{number_value, equality_value}

-- ---- numbers

next_least : (test : Bool) (p b r l : ℕ) → (test ≡ true → b ≡ 1) → l ≤ r → cond test p 0 + l ≤ b * p + r
next_least true p b r l is le = rw (is refl) (step p r l le)
  where
    step : (p r l : ℕ) → l ≤ r → p + l ≤ 1 * p + r
    step p r l le = omega arith
next_least false p b r l is le = omega arith

next_greatest : (test : Bool) (p b r g : ℕ) → b < 2 → (test ≡ true → b ≡ 0) → r ≤ g → b * p + r ≤ cond test 0 p + g
next_greatest true p b r g small is le = rw (is refl) (step p r g le)
  where
    step : (p r g : ℕ) → r ≤ g → 0 * p + r ≤ 0 + g
    step p r g le = omega arith
next_greatest false p zero r g small is le = omega arith
next_greatest false p (suc zero) r g small is le = omega arith
next_greatest false p (suc (suc b)) r g small is le = absurd (omega arith)

next_bit : (n k : ℕ) → n % 2 ^ suc k ≡ bit_at n k * 2 ^ k + n % 2 ^ k
next_bit n k = let e : suc k ≡ 1 + k = omega arith in ap (λ j. n % 2 ^ j) e ∙ mod-pow-add n 1 k

pub div_mono : (a m k : ℕ) → 0 < k → a ≤ m → a / k ≤ m / k
div_mono a m k positive le =
    let split = div-add-mod' m k in
    let rest = mod_below m k positive in
    let above : a < (m / k + 1) * k = omega arith in
    let less = div_below a k (m / k + 1) positive above in
    omega arith

-- ---- within bounds

pub record IsWithin (n : ℕ) (b : Bounds) : Type 0 where
  pub least : b.least ≤ n
  pub greatest : n ≤ b.greatest

in_both : (n : ℕ) (b c : Bounds) → IsWithin n b → IsWithin n c → IsWithin n (within_both b c)
in_both n b c h g = record { least = largest b.least c.least n h.least g.least; greatest = smallest b.greatest c.greatest n h.greatest g.greatest }
  where
    largest : (p q n : ℕ) → p ≤ n → q ≤ n → max p q ≤ n
    largest p q n e f = omega arith

    smallest : (p q n : ℕ) → n ≤ p → n ≤ q → n ≤ min p q
    smallest p q n e f = omega arith

in_first : (n : ℕ) (b c : Bounds) → IsWithin n b → IsWithin n (within_one b c)
in_first n b c h = record { least = smallest b.least c.least n h.least; greatest = largest b.greatest c.greatest n h.greatest }
  where
    smallest : (p q n : ℕ) → p ≤ n → min p q ≤ n
    smallest p q n e = omega arith

    largest : (p q n : ℕ) → n ≤ p → n ≤ max p q
    largest p q n e = omega arith

in_second : (n : ℕ) (b c : Bounds) → IsWithin n c → IsWithin n (within_one b c)
in_second n b c h = record { least = smallest b.least c.least n h.least; greatest = largest b.greatest c.greatest n h.greatest }
  where
    smallest : (p q n : ℕ) → q ≤ n → min p q ≤ n
    smallest p q n e = omega arith

    largest : (p q n : ℕ) → n ≤ q → n ≤ max p q
    largest p q n e = omega arith

within_if : (n : ℕ) (test : Bool) (b c : Bounds) → (test ≡ true → IsWithin n b) → IsWithin n c → IsWithin n (cond test b c)
within_if n true b c f g = f refl
within_if n false b c f g = g

divided : (n k : ℕ) (b : Bounds) → 0 < k → IsWithin n b → IsWithin (n / k) (divided_bounds k b)
divided n k b positive h = record { least = div_mono b.least n k positive h.least; greatest = div_mono n b.greatest k positive h.greatest }

pub positive_divisor : (n : ℕ) → not (n == 0) ≡ true → (0 < n) × ((n == 0) ≡ false)
positive_divisor zero e = absurd (cc)
positive_divisor (suc k) e = (omega arith, ne_eqb (suc k) 0 (λ same. absurd (omega arith)))

module _ (assignment : Assignment) (assigns : IsAssignment assignment) where
  abbrev number : Term → ℕ
  number t = number_of_value (value assignment t)

  below_place : (w : Width) (t : Term) → sort_of t ≡ Some (sort.Word w) → (k : ℕ) → k ≤ bits w → IsWithin (number t % 2 ^ k) (bounds_by_bits k (bits_of t))
  unfolding least_of_bits greatest_of_bits
  below_place w t h zero le = record { least = omega arith; greatest = omega arith }
  below_place w t h (suc k) le = by (below_place w t h k (omega arith))
    where
      bit_is : bit_value assignment (bits_of t k) ≡ bit_at (number t) k
      bit_is = bits_are assignment assigns t w h k (omega arith)

      by : IsWithin (number t % 2 ^ k) (bounds_by_bits k (bits_of t)) → IsWithin (number t % 2 ^ suc k) (bounds_by_bits (suc k) (bits_of t))
      by rest = record {
        least =
            subst (λ n. cond (is_fixed true (bits_of t k)) (2 ^ k) 0 + least_of_bits k (bits_of t) ≤ n) (sym (next_bit (number t) k))
            (next_least (is_fixed true (bits_of t k)) (2 ^ k) (bit_at (number t) k) (number t % 2 ^ k) (least_of_bits k (bits_of t))
            (λ e. sym bit_is ∙ fixed_value assignment assigns true (bits_of t k) e) rest.least);
        greatest =
            subst (λ n. n ≤ cond (is_fixed false (bits_of t k)) 0 (2 ^ k) + greatest_of_bits k (bits_of t)) (sym (next_bit (number t) k))
            (next_greatest (is_fixed false (bits_of t k)) (2 ^ k) (bit_at (number t) k) (number t % 2 ^ k) (greatest_of_bits k (bits_of t)) (bit_at-lt (number t) k)
            (λ e. sym bit_is ∙ fixed_value assignment assigns false (bits_of t k) e) rest.greatest);
      }

  within_own_bits : (w : Width) (t : Term) → sort_of t ≡ Some (sort.Word w) → IsWithin (number t) (bounds_by_own_bits t)
  within_own_bits w t h =
      subst (λ u. IsWithin (number t) (bounds_by_bits (bits u) (bits_of t))) (sym (width_is t w h))
      (subst (λ n. IsWithin n (bounds_by_bits (bits w) (bits_of t))) (mod-small (number t) (2 ^ bits w) (number_below assignment assigns w t h))
      (below_place w t h (bits w) (omega arith)))

  -- ---- operators

  module _ (w : Width) (x y : Term) (hx : sort_of x ≡ Some (sort.Word w)) (hy : sort_of y ≡ Some (sort.Word w)) (b c : Bounds) where
    made : (o : WordOperator) → number (on_words o x y) ≡ operation o (bits w) (number x) (number y)
    made o = word_made assignment assigns w o x y hx hy

    sum_within : IsWithin (number x) b → IsWithin (number y) c → nat_lt (b.greatest + c.greatest) (2 ^ bits w) ≡ true
        → IsWithin (number (on_words word.Add x y)) (record { least = b.least + c.least; greatest = b.greatest + c.greatest })
    unfolding operation
    sum_within hb hc e =
        let below = ltb-true (b.greatest + c.greatest) (2 ^ bits w) e in
        let l1 = hb.least in
        let l2 = hb.greatest in
        let l3 = hc.least in
        let l4 = hc.greatest in
        subst (λ n. IsWithin n (record { least = b.least + c.least; greatest = b.greatest + c.greatest }))
        (sym (made word.Add ∙ mod-small (number x + number y) (2 ^ bits w) (omega arith)))
        (record { least = omega arith; greatest = omega arith })

    difference_within : IsWithin (number x) b → IsWithin (number y) c → nat_le c.greatest b.least ≡ true
        → IsWithin (number (on_words word.Subtract x y)) (record { least = b.least - c.greatest; greatest = b.greatest - c.least })
    unfolding operation
    difference_within hb hc e =
        let apart = leb-true c.greatest b.least e in
        let l1 = hb.least in
        let l2 = hb.greatest in
        let l3 = hc.least in
        let l4 = hc.greatest in
        subst (λ n. IsWithin n (record { least = b.least - c.greatest; greatest = b.greatest - c.least }))
        (sym (made word.Subtract ∙ unwrapped (2 ^ bits w) (number x) (number y) (number_below assignment assigns w x hx) (omega arith)))
        (record { least = omega arith; greatest = omega arith })
      where
        unwrapped : (m p q : ℕ) → p < m → q ≤ p → (p + (m - q % m)) % m ≡ p - q
        unwrapped m p q below le =
            let small : q % m ≡ q = mod-small q m (omega arith) in
            let one : p + (m - q) ≡ 1 * m + (p - q) = omega arith in
            ap (λ r. (p + (m - r)) % m) small ∙ ap (λ r. r % m) one ∙ mod-mul-add 1 m (p - q) (omega arith)

    product_within : IsWithin (number x) b → IsWithin (number y) c → nat_lt (b.greatest * c.greatest) (2 ^ bits w) ≡ true
        → IsWithin (number (on_words word.Multiply x y)) (record { least = b.least * c.least; greatest = b.greatest * c.greatest })
    unfolding operation
    product_within hb hc e =
        let below = ltb-true (b.greatest * c.greatest) (2 ^ bits w) e in
        let least = mul-le b.least c.least (number x) (number y) hb.least hc.least in
        let greatest = mul-le (number x) (number y) b.greatest c.greatest hb.greatest hc.greatest in
        subst (λ n. IsWithin n (record { least = b.least * c.least; greatest = b.greatest * c.greatest }))
        (sym (made word.Multiply ∙ mod-small (number x * number y) (2 ^ bits w) (omega arith)))
        (record { least = least; greatest = greatest })

    shifted_within : IsWithin (number x) b → (is_constant y && nat_lt (number_of y) (bits w)) ≡ true → IsWithin (number (on_words word.ShiftRight x y)) (divided_bounds (2 ^ number_of y) b)
    unfolding operation
    shifted_within hb e =
        let both = and_parts (is_constant y) (nat_lt (number_of y) (bits w)) e in
        subst (λ n. IsWithin n (divided_bounds (2 ^ number_of y) b))
        (sym (made word.ShiftRight ∙ ap (λ k. cond (nat_lt k (bits w)) (number x / 2 ^ k) 0) (number_is_known assignment assigns w y hy both.0) ∙ ap (λ test. cond test (number x / 2 ^ number_of y) 0) both.1))
        (divided (number x) (2 ^ number_of y) b (pow_pos (number_of y)) hb)

    divided_within : IsWithin (number x) b → is_divisor y ≡ true → IsWithin (number (on_words word.Divide x y)) (divided_bounds (number_of y) b)
    unfolding operation
    divided_within hb e =
        let both = and_parts (is_constant y) (not (number_of y == 0)) e in
        let some = positive_divisor (number_of y) both.1 in
        subst (λ n. IsWithin n (divided_bounds (number_of y) b))
        (sym (made word.Divide ∙ ap (λ k. cond (k == 0) (2 ^ bits w - 1) (number x / k)) (number_is_known assignment assigns w y hy both.0) ∙ ap (λ test. cond test (2 ^ bits w - 1) (number x / number_of y)) some.1))
        (divided (number x) (number_of y) b some.0 hb)

    remainder_within : is_divisor y ≡ true → IsWithin (number (on_words word.Remainder x y)) (record { least = 0; greatest = number_of y - 1 })
    unfolding operation
    remainder_within e =
        let both = and_parts (is_constant y) (not (number_of y == 0)) e in
        let some = positive_divisor (number_of y) both.1 in
        let below = mod_below (number x) (number_of y) some.0 in
        subst (λ n. IsWithin n (record { least = 0; greatest = number_of y - 1 }))
        (sym (made word.Remainder ∙ ap (λ k. cond (k == 0) (number x) (number x % k)) (number_is_known assignment assigns w y hy both.0) ∙ ap (λ test. cond test (number x) (number x % number_of y)) some.1))
        (record { least = omega arith; greatest = omega arith })

    operation_within : (o : WordOperator) (d : Bounds) → IsWithin (number x) b → IsWithin (number y) c → IsWithin (number (on_words o x y)) d
        → IsWithin (number (on_words o x y)) (bounds_of_operation o (bits w) y b c d)
    unfolding bounds_of_operation
    operation_within word.Add d hb hc hd = within_if (number (on_words word.Add x y)) (nat_lt (b.greatest + c.greatest) (2 ^ bits w)) _ d (sum_within hb hc) hd
    operation_within word.Subtract d hb hc hd = within_if (number (on_words word.Subtract x y)) (nat_le c.greatest b.least) _ d (difference_within hb hc) hd
    operation_within word.Multiply d hb hc hd = within_if (number (on_words word.Multiply x y)) (nat_lt (b.greatest * c.greatest) (2 ^ bits w)) _ d (product_within hb hc) hd
    operation_within word.ShiftRight d hb hc hd = within_if (number (on_words word.ShiftRight x y)) (is_constant y && nat_lt (number_of y) (bits w)) _ d (shifted_within hb) hd
    operation_within word.Divide d hb hc hd = within_if (number (on_words word.Divide x y)) (is_divisor y) _ d (divided_within hb) hd
    operation_within word.Remainder d hb hc hd = within_if (number (on_words word.Remainder x y)) (is_divisor y) _ d remainder_within hd
    operation_within o d hb hc hd = hd

  chosen_within : (w : Width) (c x y : Term) (b d : Bounds) → sort_of (choose c x y) ≡ Some (sort.Word w)
      → (sort_of x ≡ Some (sort.Word w) → IsWithin (number x) b) → (sort_of y ≡ Some (sort.Word w) → IsWithin (number y) d) → IsWithin (number (choose c x y)) (within_one b d)
  chosen_within w c x y b d h first second =
      let is = choice_of assignment assigns w c x y h in
      let vc = truth_value_of assignment assigns c is.test in
      subst (λ a. IsWithin (number_of_value a) (within_one b d)) (sym (value-choose assignment c x y vc.0 vc.1)) (by vc.0 (first is.first) (second is.second))
    where
      by : (test : Bool) → IsWithin (number x) b → IsWithin (number y) d → IsWithin (number_of_value (cond test (value assignment x) (value assignment y))) (within_one b d)
      by true hb hd = in_first (number x) b d hb
      by false hb hd = in_second (number y) b d hd

  -- the value of a word is within its bounds
  pub bounds_are : (t : Term) (w : Width) → sort_of t ≡ Some (sort.Word w) → IsWithin (number t) (bounds_of t)
  unfolding bounds_of
  bounds_are (Binary (binary.Word o) x y) w h =
      let is = words_of o x y (sort.Word w) h in
      let own = within_own_bits w (on_words o x y) h in
      in_both (number (on_words o x y)) (bounds_by_own_bits (on_words o x y)) _ own
      (subst (λ u. IsWithin (number (on_words o x y)) (bounds_of_operation o (bits u) y (bounds_of x) (bounds_of y) (bounds_by_own_bits (on_words o x y)))) (sym (width_is x is.0 is.2))
      (operation_within is.0 x y is.2 is.3 (bounds_of x) (bounds_of y) o (bounds_by_own_bits (on_words o x y)) (bounds_are x is.0 is.2) (bounds_are y is.0 is.3) own))
  bounds_are (Ternary ternary.Choose c x y) w h =
      in_both (number (choose c x y)) (bounds_by_own_bits (choose c x y)) (within_one (bounds_of x) (bounds_of y)) (within_own_bits w (choose c x y) h)
      (chosen_within w c x y (bounds_of x) (bounds_of y) h (bounds_are x w) (bounds_are y w))
  bounds_are t w h = within_own_bits w t h

  -- ---- what bounds decide

  -- a term that is the `ult` of two words
  pub record IsOrder (t : Term) (s : Sides) : Type 0 where
    pub is : t ≡ less s.left s.right
    pub are : are_words s.left s.right ≡ true

  pub order_is : (t : Term) (s : Sides) → order_of t ≡ Some s → IsOrder t s
  unfolding order_of
  order_is (Binary binary.Less x y) s e = by (are_words x y) refl e
    where
      by : (test : Bool) → are_words x y ≡ test → cond test (Some (record { left = x; right = y })) None ≡ Some s → IsOrder (Binary binary.Less x y) s
      by true h d = let one = same_Some (record { left = x; right = y }) s d in subst (IsOrder (Binary binary.Less x y)) one (record { is = refl; are = h })
      by false h d = absurd (cc)
  order_is t s e = absurd (cc)

  pub order_value : (t : Term) (s : Sides) → IsOrder t s → value assignment t ≡ Truth (nat_lt (number s.left) (number s.right))
  order_value t s of_t =
      let values = number_value assignment assigns s.left s.right of_t.are in
      ap (value assignment) of_t.is ∙ value-less assignment (width_of s.left) s.left s.right (number s.left) (number s.right) values.0 values.1

  sides_within : (s : Sides) → are_words s.left s.right ≡ true → IsWithin (number s.left) (bounds_of s.left) × IsWithin (number s.right) (bounds_of s.right)
  sides_within s h =
      let are = words_are assignment assigns s.left s.right h in
      (bounds_are s.left (width_of s.left) are.first, bounds_are s.right (width_of s.left) are.second)

  equality_decided : (m n : ℕ) (b c : Bounds) → IsWithin m b → IsWithin n c → (constant : Atom) → equality_by_bounds b c ≡ Some constant → Truth (m == n) ≡ value assignment (Leaf constant)
  unfolding value
  equality_decided m n b c hm hn constant e = by_one (are_one_value b c) refl e
    where
      apart : (is_below b c || is_below c b) ≡ true → m ≡ n → ⊥
      apart h same =
          let l1 = hm.least in
          let l2 = hm.greatest in
          let l3 = hn.least in
          let l4 = hn.greatest in
          either_test (is_below b c) (is_below c b) h (λ k. let l = ltb-true b.greatest c.least k in omega arith) (λ k. let l = ltb-true c.greatest b.least k in omega arith)

      by_apart : (test : Bool) → (is_below b c || is_below c b) ≡ test → cond test (Some (atom.Truth false)) None ≡ Some constant → Truth (m == n) ≡ value assignment (Leaf constant)
      by_apart true h d = ap Truth (not_equal m n (apart h)) ∙ ap (λ a. value assignment (Leaf a)) (same_Some (atom.Truth false) constant d)
      by_apart false h d = absurd (cc)

      by_one : (test : Bool) → are_one_value b c ≡ test → cond test (Some (atom.Truth true)) (cond (is_below b c || is_below c b) (Some (atom.Truth false)) None) ≡ Some constant
          → Truth (m == n) ≡ value assignment (Leaf constant)
      by_one true h d =
          let both = and_parts (nat_le b.greatest c.least) (nat_le c.greatest b.least) h in
          let k1 = leb-true b.greatest c.least both.0 in
          let k2 = leb-true c.greatest b.least both.1 in
          let l1 = hm.least in
          let l2 = hm.greatest in
          let l3 = hn.least in
          let l4 = hn.greatest in
          let same : m ≡ n = omega arith in
          ap Truth (eq-eqb m n same) ∙ ap (λ a. value assignment (Leaf a)) (same_Some (atom.Truth true) constant d)
      by_one false h d = by_apart (is_below b c || is_below c b) refl d

  pub order_decided : (m n : ℕ) (b c : Bounds) → IsWithin m b → IsWithin n c → (constant : Atom) → order_by_bounds b c ≡ Some constant → Truth (nat_lt m n) ≡ value assignment (Leaf constant)
  unfolding value
  order_decided m n b c hm hn constant e = by_below (is_below b c) refl e
    where
      by_above : (test : Bool) → nat_le c.greatest b.least ≡ test → cond test (Some (atom.Truth false)) None ≡ Some constant → Truth (nat_lt m n) ≡ value assignment (Leaf constant)
      by_above true h d =
          let k = leb-true c.greatest b.least h in
          let l1 = hm.least in
          let l4 = hn.greatest in
          ap Truth (le-ltb m n (omega arith)) ∙ ap (λ a. value assignment (Leaf a)) (same_Some (atom.Truth false) constant d)
      by_above false h d = absurd (cc)

      by_below : (test : Bool) → is_below b c ≡ test → cond test (Some (atom.Truth true)) (cond (nat_le c.greatest b.least) (Some (atom.Truth false)) None) ≡ Some constant
          → Truth (nat_lt m n) ≡ value assignment (Leaf constant)
      by_below true h d =
          let k = ltb-true b.greatest c.least h in
          let l2 = hm.greatest in
          let l3 = hn.least in
          ap Truth (lt-ltb m n (omega arith)) ∙ ap (λ a. value assignment (Leaf a)) (same_Some (atom.Truth true) constant d)
      by_below false h d = by_above (nat_le c.greatest b.least) refl d

  pub else_by_sound : (x : Term) (constant : Atom) (o p : Option Atom) → (o ≡ Some constant → value assignment x ≡ value assignment (Leaf constant))
      → (p ≡ Some constant → value assignment x ≡ value assignment (Leaf constant)) → else_by o p ≡ Some constant → value assignment x ≡ value assignment (Leaf constant)
  else_by_sound x constant (Some a) p f g e = f e
  else_by_sound x constant None p f g e = g e

  pub decided_bounds_sound : (x : Term) (constant : Atom) → decided_by_bounds x ≡ Some constant → value assignment x ≡ value assignment (Leaf constant)
  unfolding decided_by_bounds
  decided_bounds_sound x constant e =
      else_by_sound x constant (by_sides equality_by_bounds (sides_of x)) (by_sides order_by_bounds (order_of x)) (equality (sides_of x) refl) (order (order_of x) refl) e
    where
      equality : (o : Option Sides) → sides_of x ≡ o → by_sides equality_by_bounds o ≡ Some constant → value assignment x ≡ value assignment (Leaf constant)
      equality (Some s) d f =
          let of_x = sides_are assignment assigns x s d in
          let within = sides_within s of_x.are in
          equality_value assignment assigns x s of_x ∙ equality_decided (number s.left) (number s.right) (bounds_of s.left) (bounds_of s.right) within.0 within.1 constant f
      equality None d f = absurd (cc)

      order : (o : Option Sides) → order_of x ≡ o → by_sides order_by_bounds o ≡ Some constant → value assignment x ≡ value assignment (Leaf constant)
      order (Some s) d f =
          let of_x = order_is x s d in
          let within = sides_within s of_x.are in
          order_value x s of_x ∙ order_decided (number s.left) (number s.right) (bounds_of s.left) (bounds_of s.right) within.0 within.1 constant f
      order None d f = absurd (cc)
