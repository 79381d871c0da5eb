-- The low bits that the rule `low` computes are those of the value.
use Rattle.std.proofs.Common.{◌≡◌, ℕ, zero, suc, ◌+◌, ◌-◌, ◌*◌, ◌/◌, ◌%◌, ◌^◌, ◌<◌, ◌≤◌, Bool, true, false, cond, List, [], ◌∷◌, Option, Some, None, refl, sym, ap, ◌∙◌, subst, arith, eqb-true, eq-eqb, div-one}
use Rattle.std.specs.Prelude.{◌==◌, ◌&&◌, not, nat_le, min, bit_and}
use Rattle.std.specs.Int.{bit_at}
use Rattle.std.specs.List.{AllByRecursion}
use Rattle.std.proofs.lemmas.Bool.{and_parts}
use Rattle.std.proofs.lemmas.Option.{same_Some, cond_some}
use Rattle.std.proofs.lemmas.Nat.{pow_pos, pow-add, and_mask, mod_below, div-add-mod'}
use Rattle.term_core_spec.specs.declared.Width.{Width}
use Rattle.term_core_spec.specs.declared.Sort.TheVariants as sort
use Rattle.term_core_spec.specs.declared.Atom.{Atom}
use Rattle.term_core_spec.specs.declared.Atom.TheVariants as atom
use Rattle.term_core_spec.specs.declared.WordOperator.TheVariants as word
use Rattle.term_core_spec.specs.declared.BinaryOperator.TheVariants as binary
use Rattle.term_core_spec.specs.Term.{Term, Leaf, Binary}
use Rattle.term_core_spec.specs.Sort.{bits, sort_of}
use Rattle.term_core_spec.specs.Value.{Truth, Number, Assignment, IsAssignment, value, operation}
use Rattle.term_norm_spec.specs.Patterns.{width_of, width_of_sort, is_constant, number_of}
use Rattle.term_norm_spec.proofs.Words.{words_of, word_of}
use Rattle.word_steps_spec.specs.Polynomial.{Summand, Polynomial, minus, has_no_atom, number_of_value, product, polynomial_value}
use Rattle.word_steps_spec.specs.Sides.{are_words, Sides, sides_of}
use Rattle.word_steps_spec.specs.Bitwise.{Bit, Fixed, Of, Bits, bit_value, bits_of}
use Rattle.word_steps_spec.specs.Ring.{polynomial, difference}
use Rattle.word_steps_spec.specs.LowBits.{form_of, constant_of, is_one_form, LowBits, known, nothing_known, longer, sum_known, with_bit, known_bits, zeros, product_known, KnownForm, mask_length, Masked, masked_of, known_form, known_by_mask, known_by_sides, known_by, with_form, known_forms, from_facts, bits_of_atom, bits_of_atoms, monomial, low_of_summand, low_of_summands, low_of_form, low_of, has_low_bit, decided_by_low_of, decided_by_low}
use Rattle.word_steps_spec.proofs.Congruence.{IsCongruent, congruent_same, congruent_sym, congruent_then, congruent_plus, congruent_mod, congruent_minus, congruent_divisor, congruent_equal}
use Rattle.word_steps_spec.proofs.Polynomials.{minus_value}
use Rattle.word_steps_spec.proofs.CommHolds.{word_made}
use Rattle.word_steps_spec.proofs.BitPlaces.{bit_moved_down}
use Rattle.word_steps_spec.proofs.BitsHold.{bits_are, number_is_known}
use Rattle.word_steps_spec.proofs.RingHolds.{polynomial_is}
use Rattle.word_steps_spec.proofs.RingSound.{words_are, sides_are, IsEquality, not_equal, differ, equal_none, equal_value, empty_value}
use Rattle.word_steps_spec.proofs.BitsSound.{equality_value}

-- ---- numbers

-- modulo a lower power of 2
pub lower : (k n a b : ℕ) → k ≤ n → IsCongruent (2 ^ n) a b → IsCongruent (2 ^ k) a b
lower k n a b le h =
    let sum : n ≡ (n - k) + k = omega arith in
    congruent_divisor (2 ^ (n - k)) (2 ^ k) a b (subst (λ m. IsCongruent m a b) (ap (λ i. 2 ^ i) sum ∙ pow-add 2 (n - k) k) h)

-- m - a % m is -a
pub opposite_sum : (m a : ℕ) → 0 < m → IsCongruent m ((m - a % m) + a) 0
opposite_sum m a positive =
    let parts = div-add-mod' a m in
    let below = mod_below a m positive in
    record { first = 0; second = a / m + 1; same = omega arith }

power_suc : (k : ℕ) → 2 ^ suc k ≡ 2 * 2 ^ k
power_suc k = let e : suc k ≡ 1 + k = omega arith in let d = pow-add 2 1 k in ap (λ n. 2 ^ n) e ∙ omega arith

min_first : (p q : ℕ) → min p q ≤ p
min_first p q = omega arith

min_second : (p q : ℕ) → min p q ≤ q
min_second p q = omega arith

-- ---- low bits of numbers

abbrev pub HasLow : ℕ → LowBits → Type 0
HasLow v a = IsCongruent (2 ^ a.count) v a.rest

known_is : (count v n : ℕ) → IsCongruent (2 ^ count) v n → HasLow v (known count n)
known_is count v n h = congruent_then (2 ^ count) v n (n % 2 ^ count) h (congruent_sym (2 ^ count) (n % 2 ^ count) n (congruent_mod (2 ^ count) n))

nothing_is : (v : ℕ) → HasLow v nothing_known
nothing_is v = record { first = 0; second = v; same = step v }
  where
    step : (v : ℕ) → v + 0 * 1 ≡ 0 + v * 1
    step v = omega arith

longer_is : (v : ℕ) (a b : LowBits) → HasLow v a → HasLow v b → HasLow v (longer a b)
longer_is v a b h g = by (nat_le b.count a.count)
  where
    by : (test : Bool) → HasLow v (cond test a b)
    by true = h
    by false = g

sum_is : (v u : ℕ) (a b : LowBits) → HasLow v a → HasLow u b → HasLow (v + u) (sum_known a b)
sum_is v u a b h g =
    known_is (min a.count b.count) (v + u) (a.rest + b.rest)
    (congruent_plus (2 ^ min a.count b.count) v a.rest u b.rest
    (lower (min a.count b.count) a.count v a.rest (min_first a.count b.count) h)
    (lower (min a.count b.count) b.count u b.rest (min_second a.count b.count) g))

pub zeros_divide : (k n : ℕ) → (q : ℕ) × (n ≡ q * 2 ^ zeros k n)
unfolding zeros
zeros_divide zero n = (n, one n)
  where
    one : (n : ℕ) → n ≡ n * 1
    one n = omega arith
zeros_divide (suc k) n = by (n % 2 == 0) refl (zeros_divide k (n / 2))
  where
    one : (n : ℕ) → n ≡ n * 1
    one n = omega arith

    regroup : (q p : ℕ) → q * p * 2 + 0 ≡ q * (2 * p)
    regroup q p = omega arith

    double : (q z : ℕ) → n % 2 ≡ 0 → n / 2 ≡ q * 2 ^ z → n ≡ q * 2 ^ suc z
    double q z even half =
        let parts = div-add-mod' n 2 in
        sym parts ∙ ap (λ r. n / 2 * 2 + r) even ∙ ap (λ h. h * 2 + 0) half ∙ regroup q (2 ^ z) ∙ ap (λ p. q * p) (sym (power_suc z))

    by : (test : Bool) → (n % 2 == 0) ≡ test → (q : ℕ) × (n / 2 ≡ q * 2 ^ zeros k (n / 2)) → (q : ℕ) × (n ≡ q * 2 ^ cond test (suc (zeros k (n / 2))) 0)
    by true e half = (half.0, double half.0 (zeros k (n / 2)) (eqb-true (n % 2) 0 e) half.1)
    by false e half = (n, one n)

product_is : (count c v : ℕ) (a : LowBits) → HasLow v a → HasLow (c * v) (product_known count c a)
product_is count c v a h = let z = zeros_divide count c in known_is (a.count + zeros count c) (c * v) (c * a.rest) (multiplied z.0 a.count (zeros count c) a.rest z.1 h)
  where
    turn : (q s v f p : ℕ) → q * s * v + q * f * (p * s) ≡ q * s * (v + f * p)
    turn q s v f p = omega arith

    gathered : (q m z u f : ℕ) → c ≡ q * 2 ^ z → c * u + q * f * 2 ^ (m + z) ≡ c * (u + f * 2 ^ m)
    gathered q m z u f e =
        ap (λ p. c * u + q * f * p) (pow-add 2 m z)
        ∙ subst (λ k. k * u + q * f * (2 ^ m * 2 ^ z) ≡ k * (u + f * 2 ^ m)) (sym e) (turn q (2 ^ z) u f (2 ^ m))

    multiplied : (q m z r : ℕ) → c ≡ q * 2 ^ z → IsCongruent (2 ^ m) v r → IsCongruent (2 ^ (m + z)) (c * v) (c * r)
    multiplied q m z r e g = record {
      first = q * g.first;
      second = q * g.second;
      same = gathered q m z v g.first e ∙ ap (λ n. c * n) g.same ∙ sym (gathered q m z r g.second e);
    }

mask_short : (k n : ℕ) → mask_length k n ≤ k
unfolding mask_length
mask_short zero n = omega arith
mask_short (suc k) n = by (n == 2 ^ suc k - 1) (mask_short k n)
  where
    by : (test : Bool) → mask_length k n ≤ k → cond test (suc k) (mask_length k n) ≤ suc k
    by true le = omega arith
    by false le = omega arith

mask_keeps : (k n a : ℕ) → IsCongruent (2 ^ mask_length k n) a (bit_and a n)
unfolding mask_length
mask_keeps zero n a = record { first = bit_and a n; second = a; same = turned a (bit_and a n) }
  where
    turned : (a b : ℕ) → a + b * 1 ≡ b + a * 1
    turned a b = omega arith
mask_keeps (suc k) n a = by (n == 2 ^ suc k - 1) refl (mask_keeps k n a)
  where
    by : (test : Bool) → (n == 2 ^ suc k - 1) ≡ test → IsCongruent (2 ^ mask_length k n) a (bit_and a n) → IsCongruent (2 ^ cond test (suc k) (mask_length k n)) a (bit_and a n)
    by true e again =
        let cut : bit_and a n ≡ a % 2 ^ suc k = ap (bit_and a) (eqb-true n (2 ^ suc k - 1) e) ∙ and_mask a (suc k) in
        subst (λ b. IsCongruent (2 ^ suc k) a b) (sym cut) (congruent_sym (2 ^ suc k) (a % 2 ^ suc k) a (congruent_mod (2 ^ suc k) a))
    by false e again = again

module _ (assignment : Assignment) (assigns : IsAssignment assignment) where
  abbrev number : Term → ℕ
  number t = number_of_value (value assignment t)

  abbrev pv : Polynomial → ℕ
  pv p = polynomial_value assignment p

  -- ---- bits

  bits_known : (k : ℕ) (f : Bits) (n : ℕ) → ((i : ℕ) → i < k → bit_value assignment (f i) ≡ bit_at n i) → HasLow n (known_bits k f)
  unfolding known_bits
  bits_known zero f n h = nothing_is n
  bits_known (suc k) f n h = by (f 0) (h 0 (omega arith)) (bits_known k (λ i. f (suc i)) (n / 2) (λ i l. h (suc i) (omega arith) ∙ next i))
    where
      next : (i : ℕ) → bit_at n (suc i) ≡ bit_at (n / 2) i
      next i = let e : suc i ≡ 1 + i = omega arith in ap (bit_at n) e ∙ sym (bit_moved_down n 1 i)

      lowest : bit_at n 0 ≡ n % 2
      lowest = ap (λ m. m % 2) (div-one n)

      doubled : (h d b r f s p : ℕ) → h * 2 + d ≡ n → b ≡ d → h + f * p ≡ r + s * p → n + f * (2 * p) ≡ b + 2 * r + s * (2 * p)
      doubled h d b r f s p parts bit e = omega arith

      by : (p : Bit) → bit_value assignment p ≡ bit_at n 0 → HasLow (n / 2) (known_bits k (λ i. f (suc i))) → HasLow n (with_bit p (known_bits k (λ i. f (suc i))))
      by (Fixed is_one) e above =
          let a = known_bits k (λ i. f (suc i)) in
          let pow = power_suc a.count in
          let sum = doubled (n / 2) (n % 2) (cond is_one 1 0) a.rest above.first above.second (2 ^ a.count) (div-add-mod' n 2) (e ∙ lowest) above.same in
          record {
            first = above.first;
            second = above.second;
            same = subst (λ m. n + above.first * m ≡ cond is_one 1 0 + 2 * a.rest + above.second * m) (sym pow) sum;
          }
      by (Of t place) e above = nothing_is n

  -- ---- forms

  none_product : (ts : List Term) → has_no_atom ts ≡ true → product assignment ts ≡ 1
  unfolding product
  none_product [] e = refl
  none_product (t ∷ ts) e = absurd (cc)

  pub form_sum : (p : Polynomial) → pv (form_of p) + constant_of p ≡ pv p
  unfolding form_of constant_of polynomial_value
  form_sum [] = refl
  form_sum (s ∷ p) = by (has_no_atom s.atoms) refl (form_sum p)
    where
      whole : (c f a r : ℕ) → f + a ≡ r → f + (c + a) ≡ c * 1 + r
      whole c f a r e = omega arith

      apart : (x f a r : ℕ) → f + a ≡ r → x + f + (0 + a) ≡ x + r
      apart x f a r e = omega arith

      by : (test : Bool) → has_no_atom s.atoms ≡ test → pv (form_of p) + constant_of p ≡ pv p
          → pv (cond test (form_of p) (s ∷ form_of p)) + (cond test s.coefficient 0 + constant_of p) ≡ s.coefficient * product assignment s.atoms + pv p
      by true e again = whole s.coefficient (pv (form_of p)) (constant_of p) (pv p) again ∙ ap (λ n. s.coefficient * n + pv p) (sym (none_product s.atoms e))
      by false e again = apart (s.coefficient * product assignment s.atoms) (pv (form_of p)) (constant_of p) (pv p) again

  none_more : (n : ℕ) → 0 + n ≡ n
  none_more n = omega arith

  pub one_form_value : (count : ℕ) (p q : Polynomial) → is_one_form count p q ≡ true → IsCongruent (2 ^ count) (pv q) (pv p)
  one_form_value count p q e =
      subst (λ n. IsCongruent (2 ^ count) n (pv p)) (ap (λ n. n + pv q) (empty_value assignment assigns (minus count p q) e) ∙ none_more (pv q)) (minus_value assignment count p q)

  -- ---- facts

  pub record IsKnownForm (count : ℕ) (k : KnownForm) : Type 0 where
    pub short : k.low.count ≤ count
    pub low : HasLow (pv k.form) k.low

  known_form_is : (length n : ℕ) (p : Polynomial) → IsCongruent (2 ^ length) (pv p) n → HasLow (pv (form_of p)) (known_form length p n).low
  known_form_is length n p h =
      known_is length (pv (form_of p)) (n + (2 ^ length - constant_of p % 2 ^ length))
      (congruent_minus (2 ^ length) (pv (form_of p)) (n + (2 ^ length - constant_of p % 2 ^ length)) (constant_of p)
      (congruent_then (2 ^ length) _ n _
      (subst (λ v. IsCongruent (2 ^ length) v n) (sym (form_sum p)) h)
      (congruent_sym (2 ^ length) _ n (back n (2 ^ length - constant_of p % 2 ^ length) (constant_of p) (opposite_sum (2 ^ length) (constant_of p) (pow_pos length))))))
    where
      back : (n o c : ℕ) → IsCongruent (2 ^ length) (o + c) 0 → IsCongruent (2 ^ length) (n + o + c) n
      back n o c g = let e = g.same in record { first = g.first; second = g.second; same = omega arith }

  pub word_low : (w : Width) (g : Term) → sort_of g ≡ Some (sort.Word w) → IsCongruent (2 ^ bits w) (pv (polynomial g)) (number g)
  word_low w g h =
      let vg = word_of assignment assigns w g h in
      (polynomial_is assignment assigns g w h).value_is (number g) (vg.1 ∙ ap (Number w) (sym (ap number_of_value vg.1)))

  -- `band g m` is n
  known_of : (w : Width) (g : Term) (m n : ℕ) → sort_of g ≡ Some (sort.Word w) → bit_and (number g) m ≡ n → IsKnownForm (bits w) (known_form (mask_length (bits w) m) (polynomial g) n)
  known_of w g m n h made =
      let length = mask_length (bits w) m in
      record {
        short = mask_short (bits w) m;
        low =
            known_form_is (mask_length (bits w) m) n (polynomial g)
            (congruent_then (2 ^ mask_length (bits w) m) (pv (polynomial g)) (number g) n
            (lower (mask_length (bits w) m) (bits w) (pv (polynomial g)) (number g) (mask_short (bits w) m) (word_low w g h))
            (subst (λ k. IsCongruent (2 ^ mask_length (bits w) m) (number g) k) made (mask_keeps (bits w) m (number g))));
      }

  masked_is : (w : Width) (t : Term) (m : Masked) (n : ℕ) → sort_of t ≡ Some (sort.Word w) → masked_of t ≡ Some m → number t ≡ n
      → IsKnownForm (bits w) (known_form (mask_length (bits w) m.mask) (polynomial m.word) n)
  unfolding masked_of operation
  masked_is w (Binary (binary.Word word.And) x y) m n h e is =
      let parts = cond_some (is_constant y) (record { word = x; mask = number_of y }) m e in
      let words = words_of word.And x y (sort.Word w) h in
      let one : words.0 ≡ w = sym (ap width_of_sort words.1) in
      let hx : sort_of x ≡ Some (sort.Word w) = subst (λ u. sort_of x ≡ Some (sort.Word u)) one words.2 in
      let hy : sort_of y ≡ Some (sort.Word w) = subst (λ u. sort_of y ≡ Some (sort.Word u)) one words.3 in
      let known_y = number_is_known assignment assigns w y hy parts.0 in
      let made = sym (word_made assignment assigns w word.And x y hx hy) ∙ is in
      subst (λ (k : Masked). IsKnownForm (bits w) (known_form (mask_length (bits w) k.mask) (polynomial k.word) n)) parts.1
      (known_of w x (number_of y) n hx (subst (λ k. bit_and (number x) k ≡ n) known_y made))
  masked_is w t m n h e is = absurd (cc)

  by_mask_is : (x : Term) (s : Sides) (o : Option Masked) → masked_of s.left ≡ o → are_words s.left s.right ≡ true → number s.left ≡ number s.right → (k : KnownForm)
      → known_by_mask x s o ≡ Some k → IsKnownForm (bits (width_of x)) k
  by_mask_is x s (Some m) d are same k e =
      let parts = cond_some (are_words x s.left && is_constant s.right) (known_form (mask_length (bits (width_of x)) m.mask) (polynomial m.word) (number_of s.right)) k e in
      let tests = and_parts (are_words x s.left) (is_constant s.right) parts.0 in
      let first = words_are assignment assigns x s.left tests.0 in
      let sides = words_are assignment assigns s.left s.right are in
      subst (IsKnownForm (bits (width_of x))) parts.1
      (masked_is (width_of x) s.left m (number_of s.right) first.second d (same ∙ number_is_known assignment assigns (width_of s.left) s.right sides.second tests.1))
  by_mask_is x s None d are same k e = absurd (cc)

  true_test : (a : Bool) → Truth a ≡ Truth true → a ≡ true
  true_test true e = refl
  true_test false e = absurd (cc)

  by_fact_is : (x fact : Term) → value assignment fact ≡ Truth true → (k : KnownForm) → known_by x fact ≡ Some k → IsKnownForm (bits (width_of x)) k
  by_fact_is x fact h k e = by (sides_of fact) refl e
    where
      by : (o : Option Sides) → sides_of fact ≡ o → known_by_sides x o ≡ Some k → IsKnownForm (bits (width_of x)) k
      by (Some s) d f =
          let is = sides_are assignment assigns fact s d in
          let same = true_test (number s.left == number s.right) (sym (equality_value assignment assigns fact s is) ∙ h) in
          by_mask_is x s (masked_of s.left) refl is.are (eqb-true (number s.left) (number s.right) same) k f
      by None d f = absurd (cc)

  pub forms_known : (x : Term) (facts : List Term) → AllByRecursion (λ t. value assignment t ≡ Truth true) facts → AllByRecursion (IsKnownForm (bits (width_of x))) (known_forms x facts)
  unfolding known_forms
  forms_known x [] h = tt
  forms_known x (fact ∷ facts) h = by (known_by x fact) refl (forms_known x facts h.1)
    where
      by : (o : Option KnownForm) → known_by x fact ≡ o → AllByRecursion (IsKnownForm (bits (width_of x))) (known_forms x facts)
          → AllByRecursion (IsKnownForm (bits (width_of x))) (with_form o (known_forms x facts))
      by (Some k) e rest = (by_fact_is x fact h.0 k e, rest)
      by None e rest = rest

  -- ---- atoms

  atom_low : (t : Term) → HasLow (number t) (bits_of_atom t)
  atom_low t = by (are_words t t) refl
    where
      by : (test : Bool) → are_words t t ≡ test → HasLow (number t) (cond test (known_bits (bits (width_of t)) (bits_of t)) nothing_known)
      by true e = bits_known (bits (width_of t)) (bits_of t) (number t) (bits_are assignment assigns t (width_of t) (words_are assignment assigns t t e).first)
      by false e = nothing_is (number t)

  atoms_low : (ts : List Term) → HasLow (product assignment ts) (bits_of_atoms ts)
  unfolding product
  atoms_low [] = nothing_is 1
  atoms_low (t ∷ []) = subst (λ n. HasLow n (bits_of_atom t)) (once (number t)) (atom_low t)
    where
      once : (n : ℕ) → n ≡ n * 1
      once n = omega arith
  atoms_low (t ∷ u ∷ ts) = nothing_is (number t * (number u * product assignment ts))

  -- ---- sums

  module _ (count : ℕ) where
    facts_low : (forms : List KnownForm) → AllByRecursion (IsKnownForm count) forms → (p : Polynomial) → HasLow (pv p) (from_facts count forms p)
    unfolding from_facts
    facts_low [] h p = nothing_is (pv p)
    facts_low (k ∷ ks) h p = by (is_one_form count k.form p) refl (facts_low ks h.1 p)
      where
        by : (test : Bool) → is_one_form count k.form p ≡ test → HasLow (pv p) (from_facts count ks p) → HasLow (pv p) (cond test (longer k.low (from_facts count ks p)) (from_facts count ks p))
        by true e rest =
            longer_is (pv p) k.low (from_facts count ks p)
            (congruent_then (2 ^ k.low.count) (pv p) (pv k.form) k.low.rest (lower k.low.count count (pv p) (pv k.form) h.0.short (one_form_value count k.form p e)) h.0.low) rest
        by false e rest = rest

    module _ (forms : List KnownForm) (are : AllByRecursion (IsKnownForm count) forms) where
      monomial_value : (atoms : List Term) → pv (monomial atoms) ≡ product assignment atoms
      unfolding polynomial_value
      monomial_value atoms = step (product assignment atoms)
        where
          step : (n : ℕ) → 1 * n + 0 ≡ n
          step n = omega arith

      summand_low : (s : Summand) → HasLow (s.coefficient * product assignment s.atoms) (low_of_summand count forms s)
      summand_low s =
          product_is count s.coefficient (product assignment s.atoms) (longer (bits_of_atoms s.atoms) (from_facts count forms (monomial s.atoms)))
          (longer_is (product assignment s.atoms) (bits_of_atoms s.atoms) (from_facts count forms (monomial s.atoms)) (atoms_low s.atoms)
          (subst (λ n. HasLow n (from_facts count forms (monomial s.atoms))) (monomial_value s.atoms) (facts_low forms are (monomial s.atoms))))

      summands_low : (p : Polynomial) → HasLow (pv p) (low_of_summands count forms p)
      unfolding low_of_summands polynomial_value
      summands_low [] = congruent_same (2 ^ count) 0 0 refl
      summands_low (s ∷ p) = sum_is (s.coefficient * product assignment s.atoms) (pv p) (low_of_summand count forms s) (low_of_summands count forms p) (summand_low s) (summands_low p)

      pub low_is : (p : Polynomial) → HasLow (pv p) (low_of count forms p)
      low_is p =
          subst (λ n. HasLow n (low_of count forms p)) (form_sum p)
          (sum_is (pv (form_of p)) (constant_of p) (low_of_form count forms (form_of p)) (record { count = count; rest = constant_of p })
          (longer_is (pv (form_of p)) (low_of_summands count forms (form_of p)) (from_facts count forms (form_of p)) (summands_low (form_of p)) (facts_low forms are (form_of p)))
          (congruent_same (2 ^ count) (constant_of p) (constant_of p) refl))

  -- ---- `low X`

  some_low : (count : ℕ) (a : LowBits) (n v : ℕ) → IsCongruent (2 ^ count) v 0 → HasLow v (sum_known a (record { count = count; rest = n }))
      → has_low_bit (sum_known a (record { count = count; rest = n })) ≡ true → ⊥
  some_low count a n v none low e =
      let k = min a.count count in
      let rest = (a.rest + n) % 2 ^ min a.count count in
      let below = mod_below (a.rest + n) (2 ^ min a.count count) (pow_pos (min a.count count)) in
      let zero_rest : rest ≡ 0 = congruent_equal (2 ^ min a.count count) rest 0
      (congruent_then (2 ^ min a.count count) rest v 0 (congruent_sym (2 ^ min a.count count) v rest low) (lower (min a.count count) count v 0 (min_second a.count count) none))
      below (pow_pos (min a.count count)) in
      let test = eq-eqb rest 0 zero_rest in
      let wrong : not true ≡ true = sym (ap not test) ∙ e in
      cc

  pub decided_low_sound : (facts : List Term) (x : Term) (constant : Atom) → AllByRecursion (λ t. value assignment t ≡ Truth true) facts → decided_by_low facts x ≡ Some constant
      → value assignment x ≡ value assignment (Leaf constant)
  unfolding decided_by_low value
  decided_low_sound facts x constant are e = by (sides_of x) refl e
    where
      on_bit : (s : Sides) → IsEquality assignment assigns x s → (test : Bool)
          → has_low_bit (low_of (bits (width_of s.left)) (known_forms s.left facts) (difference s.left s.right)) ≡ test
          → cond test (Some (atom.Truth false)) None ≡ Some constant → value assignment x ≡ value assignment (Leaf constant)
      on_bit s of_x true h d =
          let forms = known_forms s.left facts in
          let count = bits (width_of s.left) in
          let p = difference s.left s.right in
          let ds = differ assignment assigns s.left s.right of_x.are in
          let low = low_is (bits (width_of s.left)) (known_forms s.left facts) (forms_known s.left facts are) (difference s.left s.right) in
          let apart : (ds.first == ds.second) ≡ false = not_equal ds.first ds.second (λ same.
          some_low (bits (width_of s.left)) (low_of_form (bits (width_of s.left)) (known_forms s.left facts) (form_of (difference s.left s.right))) (constant_of (difference s.left s.right))
          (pv (difference s.left s.right)) (equal_none assignment assigns s.left s.right ds same) low h) in
          ap (value assignment) of_x.is ∙ equal_value assignment assigns s.left s.right ds ∙ ap Truth apart
          ∙ ap (λ a. value assignment (Leaf a)) (same_Some (atom.Truth false) constant d)
      on_bit s of_x false h d = absurd (cc)

      by : (o : Option Sides) → sides_of x ≡ o → decided_by_low_of facts o ≡ Some constant → value assignment x ≡ value assignment (Leaf constant)
      by (Some s) d f =
          on_bit s (sides_are assignment assigns x s d) (has_low_bit (low_of (bits (width_of s.left)) (known_forms s.left facts) (difference s.left s.right))) refl f
      by None d f = absurd (cc)
