-- Division of numbers by scaled floors, and divisibility by turned products.
use Rattle.std.proofs.Common.{◌≡◌, ℕ, zero, suc, ◌+◌, ◌-◌, ◌*◌, ◌/◌, ◌%◌, ◌^◌, ◌<◌, ◌≤◌, Bool, true, false, ◌⊎◌, inl, inr, refl, sym, ap, ◌∙◌, subst, arith, eqb-true, lt-ltb, le-ltb}
use Rattle.std.specs.Prelude.{◌==◌, nat_lt}
use Rattle.std.proofs.lemmas.Bool.{cases_lt, eqb-false}
use Rattle.std.proofs.lemmas.Nat.{pow_pos, mod_below, mul-le, div-add-mod', div-mul-add, shr-shr}
use Rattle.std.proofs.Math.Nat.{div-mul-le_self, le_of_mul-le-mul_right, lt_of_mul-lt-mul_right, add-mul-div_right, mul-div_cancel, mul-mod_left}
use Rattle.std.proofs.Math.Arith.{mod-mul}
use Rattle.word_steps_spec.proofs.Congruence.{IsCongruent, congruent_same, congruent_sym, congruent_then, congruent_product, congruent_mod, congruent_equal}

-- ---- floors

-- a number with at least q and less than q + 1 times p
pub whole_part : (n p q : ℕ) → q * p ≤ n → n < (q + 1) * p → n / p ≡ q
whole_part n p q least below =
    let split : n ≡ q * p + (n - q * p) = omega arith in
    ap (λ k. k / p) split ∙ div-mul-add q p (n - q * p) (rest n p q least below)
  where
    rest : (n p q : ℕ) → q * p ≤ n → n < (q + 1) * p → n - q * p < p
    rest n p q l b = omega arith

-- x n / p is x / d for x up to g, where p is a little less than n d
pub quotient_by_floor : (x g n p d : ℕ) → x ≤ g → 0 < p → p ≤ n * d → (n * d - p) * g < p → x * n / p ≡ x / d
quotient_by_floor x g n p d within positive over small = by d refl
  where
    by : (k : ℕ) → k ≡ d → x * n / p ≡ x / d
    by zero e = absurd (nothing n p d positive over (sym e))
      where
        nothing : (n p d : ℕ) → 0 < p → p ≤ n * d → d ≡ 0 → ⊥
        nothing n p d pos le none = let le2 : p ≤ n * 0 = subst (λ k. p ≤ n * k) none le in omega arith
    by (suc k) e =
        whole_part (x * n) p (x / d)
        (le_of_mul-le-mul_right (least (x / d) (x % d) (div-add-mod' x d)) divides)
        (lt_of_mul-lt-mul_right d (greatest (x / d) (x % d) (div-add-mod' x d) (mod_below x d divides)))
      where
        divides : 0 < d
        divides = omega arith

        -- what n d is above p, x times
        excess : x * (n * d) ≡ x * p + x * (n * d - p)
        excess = let split : n * d ≡ p + (n * d - p) = omega arith in ap (λ k. x * k) split ∙ spread x p (n * d - p)
          where
            spread : (x p e : ℕ) → x * (p + e) ≡ x * p + x * e
            spread x p e = omega arith

        little : x * (n * d - p) < p
        little = let le = mul-le x (n * d - p) g (n * d - p) within (omega arith) in turned_round le
          where
            turned_round : x * (n * d - p) ≤ g * (n * d - p) → x * (n * d - p) < p
            turned_round le = let same : g * (n * d - p) ≡ (n * d - p) * g = swap g (n * d - p) in omega arith
              where
                swap : (a b : ℕ) → a * b ≡ b * a
                swap a b = omega arith

        regroup : x * n * d ≡ x * (n * d)
        regroup = moved x n d
          where
            moved : (x n d : ℕ) → x * n * d ≡ x * (n * d)
            moved x n d = omega arith

        least : (q r : ℕ) → q * d + r ≡ x → q * p * d ≤ x * n * d
        least q r parts =
            let le = mul-le (q * d) p x p (omega arith) (omega arith) in
            let turn : q * p * d ≡ q * d * p = moved q p d in
            let e1 = excess in
            let e2 = regroup in
            omega arith
          where
            moved : (q p d : ℕ) → q * p * d ≡ q * d * p
            moved q p d = omega arith

        greatest : (q r : ℕ) → q * d + r ≡ x → r < d → x * n * d < (q + 1) * p * d
        greatest q r parts below =
            let le = mul-le (x + 1) p ((q + 1) * d) p (next q r parts below) (omega arith) in
            let turn : (q + 1) * p * d ≡ (q + 1) * d * p = moved (q + 1) p d in
            let step : (x + 1) * p ≡ x * p + p = one x p in
            let e1 = excess in
            let e2 = regroup in
            let e3 = little in
            omega arith
          where
            moved : (q p d : ℕ) → q * p * d ≡ q * d * p
            moved q p d = omega arith

            one : (x p : ℕ) → (x + 1) * p ≡ x * p + p
            one x p = omega arith

            next : (q r : ℕ) → q * d + r ≡ x → r < d → x + 1 ≤ (q + 1) * d
            next q r e b = omega arith

-- a scaled floor with a multiplier up to 2 ^ k is at most x
pub floor_short : (x n k : ℕ) → n ≤ 2 ^ k → x * n / 2 ^ k ≤ x
floor_short x n k le = by (cases_lt x (x * n / 2 ^ k))
  where
    by : (x < x * n / 2 ^ k) ⊎ (x * n / 2 ^ k ≤ x) → x * n / 2 ^ k ≤ x
    by (inr small) = small
    by (inl large) =
        let parts = div-mul-le_self (x * n) (2 ^ k) in
        let over = mul-le (x + 1) (2 ^ k) (x * n / 2 ^ k) (2 ^ k) (omega arith) (omega arith) in
        let under = mul-le x n x (2 ^ k) (omega arith) le in
        let step : (x + 1) * 2 ^ k ≡ x * 2 ^ k + 2 ^ k = one x (2 ^ k) in
        let positive = pow_pos k in
        absurd (omega arith)
      where
        one : (x p : ℕ) → (x + 1) * p ≡ x * p + p
        one x p = omega arith

-- the half of what x is above t, with t added, of t = x n / p
pub halved_floor_is : (x n k : ℕ) → n ≤ 2 ^ k → (x - x * n / 2 ^ k) / 2 + x * n / 2 ^ k ≡ x * (n + 2 ^ k) / 2 ^ (k + 1)
halved_floor_is x n k le =
    let short = floor_short x n k le in
    let sum : x * (n + 2 ^ k) / 2 ^ k ≡ x * n / 2 ^ k + x = ap (λ j. j / 2 ^ k) (spread x n (2 ^ k)) ∙ add-mul-div_right (x * n) x (pow_pos k) in
    half x (x * n / 2 ^ k) short ∙ ap (λ j. j / 2) (sym sum) ∙ shr-shr (x * (n + 2 ^ k)) k 1
  where
    spread : (x n p : ℕ) → x * (n + p) ≡ x * n + x * p
    spread x n p = omega arith

    half : (x t : ℕ) → t ≤ x → (x - t) / 2 + t ≡ (t + x) / 2
    half x t short = omega arith

-- ---- turned words

-- the low part of n, moved up
pub moved_up_low : (n p q : ℕ) → 0 < p → 0 < q → n * q % (p * q) ≡ n % p * q
moved_up_low n p q pos_p pos_q =
    mod-mul (n * q) pos_p pos_q ∙ ap (λ k. k % p * q + n * q % q) (mul-div_cancel n pos_q) ∙ ap (λ k. n % p * q + k) (mul-mod_left n q) ∙ nothing (n % p * q)
  where
    nothing : (a : ℕ) → a + 0 ≡ a
    nothing a = omega arith

-- d = n p, and i is the inverse of n modulo p q: x i turned down, which is r, is among the multiples of d exactly where d divides x
module _ (x i n p q r : ℕ) (pos_n : 0 < n) (pos_p : 0 < p) (pos_q : 0 < q) (below : x < p * q) (inverse : i * n % (p * q) ≡ 1 % (p * q))
    (is : r ≡ x * i % (p * q) % p * q + x * i % (p * q) / p) where
  abbrev y : ℕ
  y = x * i % (p * q)

  positive : (a b : ℕ) → 0 < a → 0 < b → 0 < a * b
  positive (suc a) (suc b) u v = omega arith
  positive zero b u v = absurd (omega arith)
  positive (suc a) zero u v = absurd (omega arith)

  pos_m : 0 < p * q
  pos_m = positive p q pos_p pos_q

  pos_d : 0 < n * p
  pos_d = positive n p pos_n pos_p

  -- i n is 1
  unit : IsCongruent (p * q) (i * n) 1
  unit =
      congruent_then (p * q) (i * n) (i * n % (p * q)) 1 (congruent_sym (p * q) (i * n % (p * q)) (i * n) (congruent_mod (p * q) (i * n)))
      (congruent_then (p * q) (i * n % (p * q)) (1 % (p * q)) 1 (congruent_same (p * q) (i * n % (p * q)) (1 % (p * q)) inverse) (congruent_mod (p * q) 1))

  -- y n is x
  back : IsCongruent (p * q) (y * n) x
  back =
      congruent_then (p * q) (y * n) (x * i * n) x
      (congruent_product (p * q) y (x * i) n n (congruent_mod (p * q) (x * i)) (congruent_same (p * q) n n refl))
      (congruent_then (p * q) (x * i * n) (x * (i * n)) x (congruent_same (p * q) (x * i * n) (x * (i * n)) (moved x i n))
      (congruent_then (p * q) (x * (i * n)) (x * 1) x (congruent_product (p * q) x x (i * n) 1 (congruent_same (p * q) x x refl) unit) (congruent_same (p * q) (x * 1) x (once x))))
    where
      moved : (x i n : ℕ) → x * i * n ≡ x * (i * n)
      moved x i n = omega arith

      once : (x : ℕ) → x * 1 ≡ x
      once x = omega arith

  -- where r is among the multiples, x is r d
  pub multiple : r * (n * p) < p * q → r * (n * p) ≡ x
  multiple small =
      congruent_equal (p * q) (r * (n * p)) x (congruent_then (p * q) (r * (n * p)) (y * n) x (congruent_same (p * q) (r * (n * p)) (y * n) (sym whole)) back) small below
    where
      -- else r would be at least q
      none : y % p ≡ 0
      none = first (y % p) refl
        where
          large : (l : ℕ) → 1 ≤ l → l ≡ y % p → p * q ≤ r * (n * p)
          large l one e =
              let rq : l * q + y / p ≡ r = ap (λ k. k * q + y / p) e ∙ sym is in
              let le1 = mul-le 1 q l q one (omega arith) in
              let le2 = mul-le q p r (n * p) (omega arith) (up n p pos_n) in
              let turn : p * q ≡ q * p = swap p q in
              omega arith
            where
              swap : (a b : ℕ) → a * b ≡ b * a
              swap a b = omega arith

              up : (n p : ℕ) → 0 < n → p ≤ n * p
              up (suc n) p u = omega arith
              up zero p u = absurd (omega arith)

          first : (l : ℕ) → l ≡ y % p → y % p ≡ 0
          first zero e = sym e
          first (suc l) e = let big = large (suc l) (omega arith) e in absurd (omega arith)

      whole : y * n ≡ r * (n * p)
      whole =
          let parts = div-add-mod' y p in
          let high : r ≡ y / p = is ∙ ap (λ l. l * q + y / p) none ∙ nothing q (y / p) in
          let low : y ≡ y / p * p = sym (ap (λ l. y / p * p + l) (sym none) ∙ parts) ∙ plain (y / p * p) in
          ap (λ k. k * n) low ∙ moved (y / p) p n ∙ ap (λ k. k * (n * p)) (sym high)
        where
          nothing : (q h : ℕ) → 0 * q + h ≡ h
          nothing q h = omega arith

          plain : (a : ℕ) → a + 0 ≡ a
          plain a = omega arith

          moved : (h p n : ℕ) → h * p * n ≡ h * (n * p)
          moved h p n = omega arith

  -- where d divides x, r is x / d
  pub quotient : (k : ℕ) → k * (n * p) ≡ x → r ≡ k
  quotient k e =
      let short : k * p < p * q = below_too k n p pos_n (subst (λ j. j < p * q) (sym e) below) in
      let y_is : y ≡ k * p = congruent_equal (p * q) y (k * p) (congruent_then (p * q) y (x * i) (k * p) (congruent_mod (p * q) (x * i)) products) (mod_below (x * i) (p * q) pos_m) short in
      let none : k * p % p ≡ 0 = mul-mod_left k p in
      let high : k * p / p ≡ k = mul-div_cancel k pos_p in
      is ∙ ap (λ j. j % p * q + j / p) y_is ∙ ap (λ l. l * q + k * p / p) none ∙ nothing q (k * p / p) ∙ high
    where
      nothing : (q h : ℕ) → 0 * q + h ≡ h
      nothing q h = omega arith

      below_too : (k n p : ℕ) → 0 < n → k * (n * p) < p * q → k * p < p * q
      below_too k (suc n) p u b = let e : k * (suc n * p) ≡ k * (n * p) + k * p = spread k n p in omega arith
        where
          spread : (k n p : ℕ) → k * (suc n * p) ≡ k * (n * p) + k * p
          spread k n p = omega arith
      below_too k zero p u b = absurd (omega arith)

      products : IsCongruent (p * q) (x * i) (k * p)
      products =
          congruent_then (p * q) (x * i) (k * p * (i * n)) (k * p) (congruent_same (p * q) (x * i) (k * p * (i * n)) (ap (λ j. j * i) (sym e) ∙ moved k n p i))
          (congruent_then (p * q) (k * p * (i * n)) (k * p * 1) (k * p) (congruent_product (p * q) (k * p) (k * p) (i * n) 1 (congruent_same (p * q) (k * p) (k * p) refl) unit)
          (congruent_same (p * q) (k * p * 1) (k * p) (once (k * p))))
        where
          moved : (k n p i : ℕ) → k * (n * p) * i ≡ k * p * (i * n)
          moved k n p i = omega arith

          once : (a : ℕ) → a * 1 ≡ a
          once a = omega arith

  pub divisor_test : nat_lt r ((p * q - 1) / (n * p) + 1) ≡ (x % (n * p) == 0)
  divisor_test = by (x % (n * p) == 0) refl
    where
      by : (test : Bool) → (x % (n * p) == 0) ≡ test → nat_lt r ((p * q - 1) / (n * p) + 1) ≡ test
      by true e =
          let none = eqb-true (x % (n * p)) 0 e in
          let parts = div-add-mod' x (n * p) in
          let whole : x / (n * p) * (n * p) ≡ x = sym (plain (x / (n * p) * (n * p))) ∙ ap (λ l. x / (n * p) * (n * p) + l) (sym none) ∙ parts in
          let is_r = quotient (x / (n * p)) whole in
          let le = most (x / (n * p)) whole in
          lt-ltb r ((p * q - 1) / (n * p) + 1) (omega arith)
        where
          plain : (a : ℕ) → a + 0 ≡ a
          plain a = omega arith

          most : (k : ℕ) → k * (n * p) ≡ x → k ≤ (p * q - 1) / (n * p)
          most k w = by_cases (cases_lt ((p * q - 1) / (n * p)) k)
            where
              by_cases : ((p * q - 1) / (n * p) < k) ⊎ (k ≤ (p * q - 1) / (n * p)) → k ≤ (p * q - 1) / (n * p)
              by_cases (inr le) = le
              by_cases (inl less) =
                  let parts = div-add-mod' (p * q - 1) (n * p) in
                  let small = mod_below (p * q - 1) (n * p) pos_d in
                  let le = mul-le ((p * q - 1) / (n * p) + 1) (n * p) k (n * p) (omega arith) (omega arith) in
                  let step : ((p * q - 1) / (n * p) + 1) * (n * p) ≡ (p * q - 1) / (n * p) * (n * p) + n * p = one ((p * q - 1) / (n * p)) (n * p) in
                  absurd (omega arith)
                where
                  one : (a b : ℕ) → (a + 1) * b ≡ a * b + b
                  one a b = omega arith
      by false e = by_cases (cases_lt r ((p * q - 1) / (n * p) + 1))
        where
          by_cases : (r < (p * q - 1) / (n * p) + 1) ⊎ ((p * q - 1) / (n * p) + 1 ≤ r) → nat_lt r ((p * q - 1) / (n * p) + 1) ≡ false
          by_cases (inr le) = le-ltb r ((p * q - 1) / (n * p) + 1) le
          by_cases (inl less) =
              let parts = div-mul-le_self (p * q - 1) (n * p) in
              let le = mul-le r (n * p) ((p * q - 1) / (n * p)) (n * p) (omega arith) (omega arith) in
              let pos = pos_m in
              let is_x = multiple (omega arith) in
              let none : x % (n * p) ≡ 0 = ap (λ j. j % (n * p)) (sym is_x) ∙ mul-mod_left r (n * p) in
              absurd (eqb-false (x % (n * p)) 0 e none)
