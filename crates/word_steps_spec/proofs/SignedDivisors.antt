-- What the rule `quot` accepts as a test whether d divides a word with a sign has one value.
use Rattle.std.proofs.Common.{◌≡◌, ℕ, ◌+◌, ◌-◌, ◌*◌, ◌/◌, ◌%◌, ◌^◌, ◌<◌, ◌≤◌, Bool, true, false, cond, Option, Some, None, refl, sym, ap, ◌∙◌, subst, arith, eqb-true, ltb-true, leb-true, div-one}
use Rattle.std.specs.Prelude.{◌==◌, ◌&&◌, nat_lt, nat_le}
use Rattle.std.proofs.lemmas.Bool.{and_parts}
use Rattle.std.proofs.lemmas.Option.{same_Some, cond_some}
use Rattle.std.proofs.lemmas.Nat.{pow_pos}
use Rattle.term_core_spec.specs.declared.Width.{Width}
use Rattle.term_core_spec.specs.declared.Width.TheVariants.{W32}
use Rattle.term_core_spec.specs.declared.Sort.TheVariants as sort
use Rattle.term_core_spec.specs.declared.WordOperator.TheVariants as word
use Rattle.term_core_spec.specs.declared.BinaryOperator.TheVariants as binary
use Rattle.term_core_spec.specs.declared.TernaryOperator.TheVariants as ternary
use Rattle.term_core_spec.specs.Term.{Term, Binary, Ternary, on_words}
use Rattle.term_core_spec.specs.Sort.{sort_of}
use Rattle.term_core_spec.specs.Value.{Truth, Assignment, IsAssignment, value, operation}
use Rattle.term_core_spec.specs.Same.{same_term}
use Rattle.term_core_spec.proofs.Same.{same_is}
use Rattle.term_norm_spec.specs.Patterns.{width_of, width_of_sort, is_constant, number_of}
use Rattle.term_norm_spec.proofs.Equals.{Alike, truths, words, alike_of, value-equal_words}
use Rattle.term_norm_spec.proofs.Words.{words_of, word_of}
use Rattle.word_steps_spec.specs.Polynomial.{number_of_value}
use Rattle.word_steps_spec.specs.Sides.{Sides}
use Rattle.word_steps_spec.specs.Bitwise.{have_same_bits}
use Rattle.word_steps_spec.specs.Order.{order_of}
use Rattle.word_steps_spec.specs.LowBits.{zeros}
use Rattle.word_steps_spec.specs.Quotients.{is_word32, at_least_zero, negated, magnitude, turned, under_turn, is_inverse_product, divided_of, inverse_sum, turned_sum_of, turned_sum, counts_multiples, counts_with, tests_signed_divisor, under_magnitude, tests_signed_with, is_signed_divisor_test}
use Rattle.word_steps_spec.proofs.BitsHold.{choice_of}
use Rattle.word_steps_spec.proofs.RingSound.{words_are}
use Rattle.word_steps_spec.proofs.BitsSound.{words_same}
use Rattle.word_steps_spec.proofs.BoundsHold.{IsOrder, order_is, order_value}
use Rattle.word_steps_spec.proofs.QuotientsHold.{IsWord, word32, arguments, made, known, number32_is, below32, inverse_is, powers, turned_number, split_is, IsDivided, divided_of_is, remainder_number, less_sort}
use Rattle.word_steps_spec.proofs.SignedDivisorNumbers.{without_sign, signed_divisor_test}
use Rattle.word_steps_spec.proofs.SignedHold.{magnitude_is}

module _ (assignment : Assignment) (assigns : IsAssignment assignment) where
  abbrev number : Term → ℕ
  number t = number_of_value (value assignment t)

  abbrev Is32 : Term → Type 0
  Is32 t = IsWord assignment assigns t

  -- y is x times the inverse of n, and b more
  record IsSum (n : ℕ) (x y : Term) (b : ℕ) : Type 0 where
    pub inverse : ℕ
    pub number_is : number y ≡ (number x * inverse + b) % 2 ^ 32
    pub inverts : inverse * n % 2 ^ 32 ≡ 1

  inverse_sum_is : (n : ℕ) (x y : Term) (b : ℕ) → Is32 y → inverse_sum n x y ≡ Some b → IsSum n x y b
  unfolding inverse_sum operation
  inverse_sum_is n x (Binary (binary.Word word.Add) y k) b hy e =
      let are = arguments assignment assigns word.Add W32 y k hy in
      let passed = cond_some (is_inverse_product n x y && is_constant k) (number_of k) b e in
      let both = and_parts (is_inverse_product n x y) (is_constant k) passed.0 in
      let is = inverse_is assignment assigns n x y are.0 both.0 in
      record {
        inverse = is.0;
        number_is =
            made assignment assigns word.Add y k hy ∙ ap (λ m. (m + number k) % 2 ^ 32) is.1
            ∙ ap (λ m. (number x * is.0 % 2 ^ 32 + m) % 2 ^ 32) (known assignment assigns k are.1 both.1 ∙ passed.1) ∙ joined (number x * is.0) b;
        inverts = is.2;
      }
    where
      joined : (a b : ℕ) → (a % 2 ^ 32 + b) % 2 ^ 32 ≡ (a + b) % 2 ^ 32
      joined a b = omega arith
  inverse_sum_is n x t b hy e = absurd (cc)

  -- r is this turned down by k places
  record IsTurnedSum (k n : ℕ) (x r : Term) (b : ℕ) : Type 0 where
    pub inverse : ℕ
    pub number_is : number r ≡ (number x * inverse + b) % 2 ^ 32 % 2 ^ k * 2 ^ (32 - k) + (number x * inverse + b) % 2 ^ 32 / 2 ^ k
    pub inverts : inverse * n % 2 ^ 32 ≡ 1

  turned_sum_is : (k n : ℕ) (x r : Term) (b : ℕ) → k < 32 → Is32 r → turned_sum k n x r ≡ Some b → IsTurnedSum k n x r b
  turned_sum_is k n x r b below hr e = by (k == 0) refl e
    where
      plain : (y q : ℕ) → y ≡ y % 1 * q + y / 1
      plain y q = let d = div-one y in let none : y % 1 ≡ 0 = omega arith in sym (ap (λ l. l * q + y / 1) none ∙ zero_more q (y / 1) ∙ d)
        where
          zero_more : (q h : ℕ) → 0 * q + h ≡ h
          zero_more q h = omega arith

      from : (o : Option Term) → (k == 0) ≡ false → turned_sum_of k n x r o ≡ Some b → IsTurnedSum k n x r b
      from (Some y) some h =
          let passed = first (have_same_bits r (turned k y) && is_word32 y) h in
          let both = and_parts (have_same_bits r (turned k y)) (is_word32 y) passed.0 in
          let hy = word32 assignment assigns y both.1 in
          let is = inverse_sum_is n x y b hy passed.1 in
          record {
            inverse = is.inverse;
            number_is =
                ap number_of_value (words_same assignment assigns r (turned k y) both.0) ∙ turned_number assignment assigns k y some below hy
                ∙ ap (λ m. m % 2 ^ k * 2 ^ (32 - k) + m / 2 ^ k) is.number_is;
            inverts = is.inverts;
          }
        where
          first : (test : Bool) → cond test (inverse_sum n x y) None ≡ Some b → (test ≡ true) × (inverse_sum n x y ≡ Some b)
          first true g = (refl, g)
          first false g = absurd (cc)
      from None some h = absurd (cc)

      by : (test : Bool) → (k == 0) ≡ test → cond test (inverse_sum n x r) (turned_sum_of k n x r (under_turn r)) ≡ Some b → IsTurnedSum k n x r b
      by true d h =
          let none = eqb-true k 0 d in
          let is = inverse_sum_is n x r b hr h in
          record {
            inverse = is.inverse;
            number_is =
                subst (λ j. number r ≡ (number x * is.inverse + b) % 2 ^ 32 % 2 ^ j * 2 ^ (32 - j) + (number x * is.inverse + b) % 2 ^ 32 / 2 ^ j) (sym none)
                (is.number_is ∙ plain ((number x * is.inverse + b) % 2 ^ 32) (2 ^ 32));
            inverts = is.inverts;
          }
      by false d h = from (under_turn r) d h

  -- the tests on numbers, of d in its parts
  record AreCounted (k n d c b : ℕ) : Type 0 where
    pub even : b % 2 ^ k ≡ 0
    pub low : b * n ≤ 2 ^ 31
    pub near : 2 ^ 31 < b * n + d
    pub many : b * n + 2 ^ 31 ≤ c * d
    pub few : (c - 1) * d < b * n + 2 ^ 31

  counted : (k n d c b : ℕ) → counts_multiples k n d c b ≡ true → AreCounted k n d c b
  counted k n d c b e =
      let one = and_parts (b % 2 ^ k == 0) _ e in
      let two = and_parts (nat_le (b * n) (2 ^ 31)) _ one.1 in
      let three = and_parts (nat_lt (2 ^ 31) (b * n + d)) _ two.1 in
      let four = and_parts (nat_le (b * n + 2 ^ 31) (c * d)) (nat_lt ((c - 1) * d) (b * n + 2 ^ 31)) three.1 in
      record {
        even = eqb-true (b % 2 ^ k) 0 one.0;
        low = leb-true (b * n) (2 ^ 31) two.0;
        near = ltb-true (2 ^ 31) (b * n + d) three.0;
        many = leb-true (b * n + 2 ^ 31) (c * d) four.0;
        few = ltb-true ((c - 1) * d) (b * n + 2 ^ 31) four.1;
      }

  -- d is 2 ^ k n: the turned sum is below c where d divides x
  counted_is : (k n d c : ℕ) (x r : Term) → k < 32 → 0 < n → n * 2 ^ k ≡ d → Is32 x → Is32 r → (o : Option ℕ) → turned_sum k n x r ≡ o → counts_with k n d c o ≡ true
      → nat_lt (number r) c ≡ (without_sign (number x) % d == 0)
  counted_is k n d c x r below some parts hx hr (Some b) g e =
      let are = counted k n d c b e in
      let is = turned_sum_is k n x r b below hr g in
      let power = powers assignment assigns k below in
      subst (λ e. nat_lt (number r) c ≡ (without_sign (number x) % e == 0)) parts
      (signed_divisor_test (number x) is.inverse n (2 ^ k) (2 ^ (32 - k)) b c (number r) some (pow_pos k) (pow_pos (32 - k)) (sym power) (below32 assignment assigns x hx)
      (subst (λ m. is.inverse * n % m ≡ 1 % m) power is.inverts)
      (subst (λ m. number r ≡ (number x * is.inverse + b) % m % 2 ^ k * 2 ^ (32 - k) + (number x * is.inverse + b) % m / 2 ^ k) power is.number_is) are.even are.low
      (subst (λ e. 2 ^ 31 < b * n + e) (sym parts) are.near) (subst (λ e. b * n + 2 ^ 31 ≤ c * e) (sym parts) are.many)
      (subst (λ e. (c - 1) * e < b * n + 2 ^ 31) (sym parts) are.few))
  counted_is k n d c x r below some parts hx hr None g e = absurd (cc)

  -- what the test asks
  record IsTested (r c x : Term) (d : ℕ) : Type 0 where
    pub sorted : Is32 x
    pub turned_sorted : Is32 r
    pub limit : is_constant c ≡ true
    pub positive : 0 < d
    pub counts : counts_with (zeros 32 d) (d / 2 ^ zeros 32 d) d (number_of c) (turned_sum (zeros 32 d) (d / 2 ^ zeros 32 d) x r) ≡ true

  tested : (r c x : Term) (d : ℕ) → tests_signed_divisor r c x d ≡ true → IsTested r c x d
  tested r c x d e =
      let one = and_parts (is_word32 x) _ e in
      let two = and_parts (is_word32 r) _ one.1 in
      let three = and_parts (is_constant c) _ two.1 in
      let four = and_parts (nat_lt 0 d) _ three.1 in
      record {
        sorted = word32 assignment assigns x one.0;
        turned_sorted = word32 assignment assigns r two.0;
        limit = three.0;
        positive = ltb-true 0 d four.0;
        counts = four.1;
      }

  tested_is : (r c x : Term) (d : ℕ) → Is32 c → d < 2 ^ 32 → IsTested r c x d → nat_lt (number r) (number c) ≡ (without_sign (number x) % d == 0)
  tested_is r c x d hc below is =
      let split = split_is assignment assigns d is.positive below in
      ap (nat_lt (number r)) (known assignment assigns c hc is.limit)
      ∙ counted_is (zeros 32 d) (d / 2 ^ zeros 32 d) d (number_of c) x r split.short split.positive split.whole is.sorted is.turned_sorted
      (turned_sum (zeros 32 d) (d / 2 ^ zeros 32 d) x r) refl is.counts

  under_magnitude_is : (t x : Term) → under_magnitude t ≡ Some x → t ≡ magnitude x
  unfolding under_magnitude
  under_magnitude_is (Ternary ternary.Choose p u v) x e =
      let passed = cond_some (same_term (Ternary ternary.Choose p u v) (magnitude u)) u x e in
      same_is (Ternary ternary.Choose p u v) (magnitude u) passed.0 ∙ ap magnitude passed.1
  under_magnitude_is t x e = absurd (cc)

  test_sound : (t u : Term) (s e : Sides) (x : Term) → IsOrder assignment assigns t s → IsDivided assignment assigns u e → sort_of u ≡ Some sort.Truth → e.left ≡ magnitude x
      → IsTested s.left s.right x (number_of e.right) → value assignment t ≡ value assignment u
  test_sound t u s e x of_t of_u hu is_x is =
      by ((alike_of (on_words word.Remainder e.left e.right) of_u.zero sort.Truth (sym (ap sort_of of_u.is) ∙ hu)).1)
    where
      no_truth : {w : Width} → sort.Truth ≡ sort.Word w → ⊥
      no_truth d = cc

      hc : Is32 s.right
      hc =
          let are = words_are assignment assigns s.left s.right of_t.are in
          are.second ∙ ap (λ w. Some (sort.Word w)) (ap width_of_sort (same_Some (sort.Word (width_of s.left)) (sort.Word W32) (sym are.first ∙ is.turned_sorted)))

      by : Alike (on_words word.Remainder e.left e.right) of_u.zero → value assignment t ≡ value assignment u
      by (truths ha hz) = absurd (no_truth (words_of word.Remainder e.left e.right sort.Truth ha).1)
      by (words w ha hz) =
          let hm = subst (λ m. sort_of m ≡ Some (sort.Word w)) is_x (arguments assignment assigns word.Remainder w e.left e.right ha).0 in
          let arms = choice_of assignment assigns w (at_least_zero x) x (negated x) hm in
          let wide : w ≡ W32 = ap width_of_sort (same_Some (sort.Word w) (sort.Word W32) (sym arms.first ∙ is.sorted)) in
          let ha32 : Is32 (on_words word.Remainder e.left e.right) = subst (λ v. sort_of (on_words word.Remainder e.left e.right) ≡ Some (sort.Word v)) wide ha in
          let hz32 : Is32 of_u.zero = subst (λ v. sort_of of_u.zero ≡ Some (sort.Word v)) wide hz in
          let hm32 : Is32 (magnitude x) = subst (λ v. sort_of (magnitude x) ≡ Some (sort.Word v)) wide hm in
          let va = word_of assignment assigns W32 (on_words word.Remainder e.left e.right) ha32 in
          let vz = word_of assignment assigns W32 of_u.zero hz32 in
          let hd = (arguments assignment assigns word.Remainder W32 e.left e.right ha32).1 in
          let small : number_of e.right < 2 ^ 32 =
          subst (λ n. n < 2 ^ 32) (known assignment assigns e.right hd of_u.constant) (below32 assignment assigns e.right hd) in
          let left_is : number e.left ≡ without_sign (number x) = ap number is_x ∙ magnitude_is assignment assigns x is.sorted hm32 in
          let rest : va.0 ≡ without_sign (number x) % number_of e.right =
          sym (ap number_of_value va.1) ∙ remainder_number assignment assigns e.left e.right ha32 of_u.constant is.positive ∙ ap (λ n. n % number_of e.right) left_is in
          let none : vz.0 ≡ 0 = sym (ap number_of_value vz.1) ∙ number32_is assignment assigns of_u.zero 0 of_u.none in
          order_value assignment assigns t s of_t ∙ ap Truth (tested_is s.left s.right x (number_of e.right) hc small is)
          ∙ sym (ap (value assignment) of_u.is ∙ value-equal_words assignment W32 (on_words word.Remainder e.left e.right) of_u.zero va.0 vz.0 va.1 vz.1
          ∙ ap (λ n. Truth (n == vz.0)) rest ∙ ap (λ n. Truth (without_sign (number x) % number_of e.right == n)) none)

  pub signed_divisor_sound : (t u : Term) → sort_of t ≡ sort_of u → is_signed_divisor_test (order_of t) (divided_of u) ≡ true → value assignment t ≡ value assignment u
  signed_divisor_sound t u same h = by (order_of t) refl (divided_of u) refl h
    where
      third : (s e : Sides) → order_of t ≡ Some s → divided_of u ≡ Some e → (o : Option Term) → under_magnitude e.left ≡ o → tests_signed_with s e o ≡ true → value assignment t ≡ value assignment u
      third s e d g (Some x) m k =
          let of_t = order_is assignment assigns t s d in
          test_sound t u s e x of_t (divided_of_is assignment assigns u e g) (sym same ∙ ap sort_of of_t.is ∙ less_sort assignment assigns s of_t.are)
          (under_magnitude_is e.left x m) (tested s.left s.right x (number_of e.right) k)
      third s e d g None m k = absurd (cc)

      by : (o : Option Sides) → order_of t ≡ o → (p : Option Sides) → divided_of u ≡ p → is_signed_divisor_test o p ≡ true → value assignment t ≡ value assignment u
      by (Some s) d (Some e) g k = third s e d g (under_magnitude e.left) refl k
      by (Some s) d None g k = absurd (cc)
      by None d p g k = absurd (cc)
