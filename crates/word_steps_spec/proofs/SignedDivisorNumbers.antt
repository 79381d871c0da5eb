-- Whether d divides a number with a sign, by the product with the inverse of d's odd part and a constant added.
use Rattle.std.proofs.Common.{◌≡◌, ℕ, ◌+◌, ◌-◌, ◌*◌, ◌/◌, ◌%◌, ◌^◌, ◌<◌, ◌≤◌, Bool, true, false, cond, ◌⊎◌, inl, inr, refl, sym, ap, ◌∙◌, subst, arith, eqb-true, lt-ltb, le-ltb}
use Rattle.std.specs.Prelude.{◌==◌, nat_lt}
use Rattle.std.proofs.lemmas.Bool.{cases_lt, eqb-false}
use Rattle.std.proofs.lemmas.Nat.{mul-le, div-add-mod', mod_below}
use Rattle.std.proofs.Math.Nat.{lt_of_mul-lt-mul_right, mul-mod_left}
use Rattle.term_norm_spec.proofs.Numbers.{mod-small}
use Rattle.word_steps_spec.proofs.Congruence.{IsCongruent, congruent_same, congruent_sym, congruent_then, congruent_plus, congruent_product, congruent_mod, congruent_equal}
use Rattle.word_steps_spec.proofs.QuotientNumbers.{multiple, quotient}

-- k d is e above j d
difference : (k j d e : ℕ) → 0 < d → k * d ≡ e + j * d → (k - j) * d ≡ e
difference k j d e some same = by (cases_lt k j)
  where
    one : (a b : ℕ) → (a + 1) * b ≡ a * b + b
    one a b = omega arith

    spread : (a b d : ℕ) → (a + b) * d ≡ a * d + b * d
    spread a b d = omega arith

    by : (k < j) ⊎ (j ≤ k) → (k - j) * d ≡ e
    by (inl less) =
        let le = mul-le (k + 1) d j d (omega arith) (omega arith) in
        let step = one k d in
        absurd (omega arith)
    by (inr from) =
        let split : k ≡ (k - j) + j = omega arith in
        let product : k * d ≡ (k - j) * d + j * d = ap (λ n. n * d) split ∙ spread (k - j) j d in
        omega arith

whole_multiple : (n d : ℕ) → n % d ≡ 0 → n / d * d ≡ n
whole_multiple n d none = let parts = div-add-mod' n d in omega arith

-- s is j d and at most 2 ^ 31, c the number of multiples of d from 0 to s + 2 ^ 31 - 1; r d is z if it is a word, and r is k where k d is z
module _ (d s c z r j : ℕ) (some : 0 < d) (is_s : s ≡ j * d) (low : s ≤ 2 ^ 31) (near : 2 ^ 31 < s + d) (many : s + 2 ^ 31 ≤ c * d) (few : (c - 1) * d < s + 2 ^ 31)
    (up : r * d < 2 ^ 32 → r * d ≡ z) (down : (k : ℕ) → k * d ≡ z → r ≡ k) where
  -- where r is below c, r d is z and small
  counted : r < c → (r * d ≡ z) × (r * d < s + 2 ^ 31)
  counted less =
      let le = mul-le r d (c - 1) d (omega arith) (omega arith) in
      (up (omega arith), omega arith)

  spread : (a b d : ℕ) → (a + b) * d ≡ a * d + b * d
  spread a b d = omega arith

  test_positive : (x : ℕ) → x < 2 ^ 31 → z ≡ x + s → nat_lt r c ≡ (x % d == 0)
  test_positive x below is_z = by (x % d == 0) refl
    where
      by : (test : Bool) → (x % d == 0) ≡ test → nat_lt r c ≡ test
      by true e =
          let parts = whole_multiple x d (eqb-true (x % d) 0 e) in
          let sum = spread (x / d) j d in
          let is_r = down (x / d + j) (omega arith) in
          let less : x / d + j < c = lt_of_mul-lt-mul_right d (omega arith) in
          lt-ltb r c (omega arith)
      by false e = first (cases_lt r c)
        where
          first : (r < c) ⊎ (c ≤ r) → nat_lt r c ≡ false
          first (inr from) = le-ltb r c from
          first (inl less) =
              let is = counted less in
              let is_x = difference r j d x some (is.0 ∙ is_z ∙ ap (λ n. x + n) is_s) in
              let none : x % d ≡ 0 = ap (λ n. n % d) (sym is_x) ∙ mul-mod_left (r - j) d in
              absurd (eqb-false (x % d) 0 e none)

  test_negative : (a : ℕ) → a ≤ 2 ^ 31 → (a ≤ s → z ≡ s - a) → (s < a → z ≡ 2 ^ 32 + s - a) → nat_lt r c ≡ (a % d == 0)
  test_negative a most within beyond = by (a % d == 0) refl
    where
      -- a multiple of d is at most s, or at least s + d
      reached : (k : ℕ) → k * d ≡ a → a ≤ s
      reached k e = first (cases_lt j k)
        where
          first : (j < k) ⊎ (k ≤ j) → a ≤ s
          first (inl less) =
              let le = mul-le (j + 1) d k d (omega arith) (omega arith) in
              let sum = spread j 1 d in
              absurd (omega arith)
          first (inr from) = let le = mul-le k d j d from (omega arith) in omega arith

      by : (test : Bool) → (a % d == 0) ≡ test → nat_lt r c ≡ test
      by true e =
          let parts = whole_multiple a d (eqb-true (a % d) 0 e) in
          let le = reached (a / d) parts in
          let is_z = within le in
          let rest = difference j (a / d) d (s - a) some (omega arith) in
          let is_r = down (j - a / d) (rest ∙ sym is_z) in
          let less : j - a / d < c = lt_of_mul-lt-mul_right d (omega arith) in
          lt-ltb r c (omega arith)
      by false e = first (cases_lt r c)
        where
          second : r < c → (s < a) ⊎ (a ≤ s) → ⊥
          second less (inl over) = let is = counted less in let is_z = beyond over in omega arith
          second less (inr le) =
              let is = counted less in
              let is_z = within le in
              let is_a = difference j r d a some (omega arith) in
              let none : a % d ≡ 0 = ap (λ n. n % d) (sym is_a) ∙ mul-mod_left (j - r) d in
              eqb-false (a % d) 0 e none

          first : (r < c) ⊎ (c ≤ r) → nat_lt r c ≡ false
          first (inr from) = le-ltb r c from
          first (inl less) = absurd (second less (cases_lt s a))

-- a number without its sign
abbrev pub without_sign : ℕ → ℕ
without_sign x = cond (nat_lt x (2 ^ 31)) x (2 ^ 32 - x)

-- d is n p, i is the inverse of n, and r is x i + b turned down
module _ (x i n p q b c r : ℕ) (pos_n : 0 < n) (pos_p : 0 < p) (pos_q : 0 < q) (whole : p * q ≡ 2 ^ 32) (below : x < 2 ^ 32) (inverse : i * n % (p * q) ≡ 1 % (p * q))
    (is : r ≡ (x * i + b) % (p * q) % p * q + (x * i + b) % (p * q) / p) (even : b % p ≡ 0) (low : b * n ≤ 2 ^ 31) (near : 2 ^ 31 < b * n + n * p)
    (many : b * n + 2 ^ 31 ≤ c * (n * p)) (few : (c - 1) * (n * p) < b * n + 2 ^ 31) where
  abbrev z : ℕ
  z = (x + b * n) % (p * q)

  abbrev m : ℕ
  m = p * q

  pos_m : 0 < m
  pos_m = let w = whole in omega arith

  z_below : z < m
  z_below = mod_below (x + b * n) m pos_m

  -- z i is x i + b
  product_is : z * i % m ≡ (x * i + b) % m
  product_is =
      congruent_equal m (z * i % m) ((x * i + b) % m)
      (congruent_then m (z * i % m) (z * i) ((x * i + b) % m) (congruent_mod m (z * i))
      (congruent_then m (z * i) ((x + b * n) * i) ((x * i + b) % m)
      (congruent_product m z (x + b * n) i i (congruent_mod m (x + b * n)) (congruent_same m i i refl))
      (congruent_then m ((x + b * n) * i) (x * i + b * (i * n)) ((x * i + b) % m) (congruent_same m ((x + b * n) * i) (x * i + b * (i * n)) (spread x b n i))
      (congruent_then m (x * i + b * (i * n)) (x * i + b * 1) ((x * i + b) % m)
      (congruent_plus m (x * i) (x * i) (b * (i * n)) (b * 1) (congruent_same m (x * i) (x * i) refl) (congruent_product m b b (i * n) 1 (congruent_same m b b refl) unit))
      (congruent_then m (x * i + b * 1) (x * i + b) ((x * i + b) % m) (congruent_same m (x * i + b * 1) (x * i + b) (once x i b))
      (congruent_sym m ((x * i + b) % m) (x * i + b) (congruent_mod m (x * i + b))))))))
      (mod_below (z * i) m pos_m) (mod_below (x * i + b) m pos_m)
    where
      spread : (x b n i : ℕ) → (x + b * n) * i ≡ x * i + b * (i * n)
      spread x b n i = omega arith

      once : (x i b : ℕ) → x * i + b * 1 ≡ x * i + b
      once x i b = omega arith

      unit : IsCongruent m (i * n) 1
      unit =
          congruent_then m (i * n) (i * n % m) 1 (congruent_sym m (i * n % m) (i * n) (congruent_mod m (i * n)))
          (congruent_then m (i * n % m) (1 % m) 1 (congruent_same m (i * n % m) (1 % m) inverse) (congruent_mod m 1))

  r_is : r ≡ z * i % m % p * q + z * i % m / p
  r_is = is ∙ ap (λ y. y % p * q + y / p) (sym product_is)

  some_d : 0 < n * p
  some_d = let le = mul-le 1 1 n p (omega arith) (omega arith) in omega arith

  up : r * (n * p) < 2 ^ 32 → r * (n * p) ≡ z
  up small = multiple z i n p q r pos_n pos_p pos_q z_below inverse r_is (subst (λ k. r * (n * p) < k) (sym whole) small)

  down : (k : ℕ) → k * (n * p) ≡ z → r ≡ k
  down k e = quotient z i n p q r pos_n pos_p pos_q z_below inverse r_is k e

  is_s : b * n ≡ b / p * (n * p)
  is_s = sym (ap (λ k. k * n) (whole_multiple b p even)) ∙ moved (b / p) p n
    where
      moved : (a p n : ℕ) → a * p * n ≡ a * (n * p)
      moved a p n = omega arith

  z_is : z ≡ (x + b * n) % 2 ^ 32
  z_is = ap (λ k. (x + b * n) % k) whole

  pub signed_divisor_test : nat_lt r c ≡ (without_sign x % (n * p) == 0)
  signed_divisor_test = by (cases_lt x (2 ^ 31))
    where
      positive : x < 2 ^ 31 → without_sign x ≡ x
      positive less = ap (λ t. cond t x (2 ^ 32 - x)) (lt-ltb x (2 ^ 31) less)

      negative : 2 ^ 31 ≤ x → without_sign x ≡ 2 ^ 32 - x
      negative from = ap (λ t. cond t x (2 ^ 32 - x)) (le-ltb x (2 ^ 31) from)

      within : 2 ^ 32 - x ≤ b * n → z ≡ b * n - (2 ^ 32 - x)
      within le = z_is ∙ wrapped x (b * n) below low le
        where
          wrapped : (x s : ℕ) → x < 2 ^ 32 → s ≤ 2 ^ 31 → 2 ^ 32 - x ≤ s → (x + s) % 2 ^ 32 ≡ s - (2 ^ 32 - x)
          wrapped x s b l le = omega arith

      beyond : b * n < 2 ^ 32 - x → z ≡ 2 ^ 32 + b * n - (2 ^ 32 - x)
      beyond less = z_is ∙ plain x (b * n) below less
        where
          plain : (x s : ℕ) → x < 2 ^ 32 → s < 2 ^ 32 - x → (x + s) % 2 ^ 32 ≡ 2 ^ 32 + s - (2 ^ 32 - x)
          plain x s b l = omega arith

      by : (x < 2 ^ 31) ⊎ (2 ^ 31 ≤ x) → nat_lt r c ≡ (without_sign x % (n * p) == 0)
      by (inl less) =
          test_positive (n * p) (b * n) c z r (b / p) some_d is_s low near many few up down x less (z_is ∙ mod-small (x + b * n) (2 ^ 32) (short x (b * n) less low))
          ∙ ap (λ k. k % (n * p) == 0) (sym (positive less))
        where
          short : (x s : ℕ) → x < 2 ^ 31 → s ≤ 2 ^ 31 → x + s < 2 ^ 32
          short x s l h = omega arith
      by (inr from) =
          test_negative (n * p) (b * n) c z r (b / p) some_d is_s low near many few up down (2 ^ 32 - x) (omega arith) within beyond
          ∙ ap (λ k. k % (n * p) == 0) (sym (negative from))
