-- Shifts with the sign, and what is left of a quotient that is rounded towards 0.
use Rattle.std.proofs.Common.{◌≡◌, ℕ, zero, suc, ◌+◌, ◌-◌, ◌*◌, ◌/◌, ◌%◌, ◌^◌, ◌<◌, ◌≤◌, Bool, true, false, refl, sym, ap, ◌∙◌, subst, arith, leb-true, leb-false}
use Rattle.std.proofs.lemmas.Nat.{pow_pos, pow-add, mod_below, mul-le, div-add-mod', div-mul-add, shr_below}
use Rattle.std.proofs.Math.Nat.{le_of_mul-le-mul_right, lt_of_mul-lt-mul_right}
use Rattle.term_core_spec.specs.Value.{is_negative, ones_if, shifted_with_sign, low_bits}
use Rattle.term_norm_spec.proofs.Numbers.{mod-small}

power32 : (k : ℕ) → 2 ^ (32 + k) ≡ 2 ^ 32 * 2 ^ k
power32 k = pow-add 2 32 k

-- ---- below 0: 2 ^ 32 less v / 2 ^ k

abbrev pub below_floor : ℕ → ℕ → ℕ
below_floor k v = (2 ^ (32 + k) - v) / 2 ^ k

-- ---- shifts with the sign

pub shift_positive : (y c : ℕ) → y < 2 ^ 31 → shifted_with_sign 32 y c ≡ y / 2 ^ c
shift_positive y c below = by (is_negative 32 y) refl
  where
    plain : (n : ℕ) → n + 0 ≡ n
    plain n = omega arith

    small : y / 2 ^ c < 2 ^ 32
    small = let parts = div-add-mod' y (2 ^ c) in let positive = pow_pos c in let le = mul-le (y / 2 ^ c) 1 (y / 2 ^ c) (2 ^ c) (omega arith) (omega arith) in omega arith

    by : (test : Bool) → is_negative 32 y ≡ test → low_bits 32 (y / 2 ^ c + ones_if test (32 - c) 32) ≡ y / 2 ^ c
    by true e = let le = leb-true (2 ^ 31) y e in absurd (omega arith)
    by false e = ap (low_bits 32) (plain (y / 2 ^ c)) ∙ mod-small (y / 2 ^ c) (2 ^ 32) small

pub shift_negative : (y c : ℕ) → c < 32 → 2 ^ 31 ≤ y → y < 2 ^ 32 → shifted_with_sign 32 y c ≡ y / 2 ^ c + (2 ^ 32 - 2 ^ (32 - c))
shift_negative y c small from below = by (is_negative 32 y) refl
  where
    sum : 32 ≡ (32 - c) + c
    sum = omega arith

    part : y / 2 ^ c < 2 ^ (32 - c)
    part = shr_below y (32 - c) c (subst (λ k. y < 2 ^ k) sum below)

    within : 2 ^ (32 - c) ≤ 2 ^ 32
    within =
        let power : 2 ^ 32 ≡ 2 ^ (32 - c) * 2 ^ c = ap (λ k. 2 ^ k) sum ∙ pow-add 2 (32 - c) c in
        let positive = pow_pos c in
        let le = mul-le (2 ^ (32 - c)) 1 (2 ^ (32 - c)) (2 ^ c) (omega arith) (omega arith) in
        omega arith

    by : (test : Bool) → is_negative 32 y ≡ test → low_bits 32 (y / 2 ^ c + ones_if test (32 - c) 32) ≡ y / 2 ^ c + (2 ^ 32 - 2 ^ (32 - c))
    by true e = let h = part in let g = within in mod-small (y / 2 ^ c + (2 ^ 32 - 2 ^ (32 - c))) (2 ^ 32) (omega arith)
    by false e = let less = leb-false (2 ^ 31) y e in absurd (omega arith)

-- ---- quotients

-- a is what x is below 0, p is a little less than n d: rounded towards 0
pub quotient_below : (a n k d g : ℕ) → 0 < a → a ≤ 2 ^ 31 → a ≤ g + 1 → 2 ^ k < n * d → (n * d - 2 ^ k) * (g + 1) ≤ 2 ^ k → below_floor k (a * n) + 1 ≡ 2 ^ 32 - a / d
quotient_below a n k d g some le within over small = by d refl
  where
    by : (j : ℕ) → j ≡ d → below_floor k (a * n) + 1 ≡ 2 ^ 32 - a / d
    by zero e = absurd (nothing n (2 ^ k) d over (sym e))
      where
        nothing : (n p d : ℕ) → p < n * d → d ≡ 0 → ⊥
        nothing n p d l none = let l2 : p < n * 0 = subst (λ j. p < n * j) none l in omega arith
    by (suc j) e = rounded (a / d) (a % d) (div-add-mod' a d) (mod_below a d divides)
      where
        divides : 0 < d
        divides = omega arith

        excess : a * n * d ≡ a * 2 ^ k + a * (n * d - 2 ^ k)
        excess = let split : n * d ≡ 2 ^ k + (n * d - 2 ^ k) = omega arith in moved a n d ∙ ap (λ m. a * m) split ∙ spread a (2 ^ k) (n * d - 2 ^ k)
          where
            moved : (a n d : ℕ) → a * n * d ≡ a * (n * d)
            moved a n d = omega arith

            spread : (a p e : ℕ) → a * (p + e) ≡ a * p + a * e
            spread a p e = omega arith

        -- the excess is above 0, and at most 2 ^ k
        least : 0 < a * (n * d - 2 ^ k)
        least = let l = mul-le 1 1 a (n * d - 2 ^ k) (omega arith) (omega arith) in omega arith

        most : a * (n * d - 2 ^ k) ≤ 2 ^ k
        most =
            let l = mul-le a (n * d - 2 ^ k) (g + 1) (n * d - 2 ^ k) within (omega arith) in
            let turn : (g + 1) * (n * d - 2 ^ k) ≡ (n * d - 2 ^ k) * (g + 1) = swap (g + 1) (n * d - 2 ^ k) in
            omega arith
          where
            swap : (a b : ℕ) → a * b ≡ b * a
            swap a b = omega arith

        ending : (q : ℕ) → q * 2 ^ k < a * n → a * n ≤ (q + 1) * 2 ^ k → q + 1 ≤ 2 ^ 32 → below_floor k (a * n) + 1 ≡ 2 ^ 32 - q
        ending q under up within =
            let power = power32 k in
            let s = one q (2 ^ k) in
            let split : 2 ^ (32 + k) - a * n ≡ (2 ^ 32 - q - 1) * 2 ^ k + ((q + 1) * 2 ^ k - a * n) = gather (2 ^ 32) q (2 ^ k) (a * n) (2 ^ (32 + k)) power up within in
            let is = ap (λ m. m / 2 ^ k) split ∙ div-mul-add (2 ^ 32 - q - 1) (2 ^ k) ((q + 1) * 2 ^ k - a * n) (omega arith) in
            ap (λ m. m + 1) is ∙ last q within
          where
            one : (x p : ℕ) → (x + 1) * p ≡ x * p + p
            one x p = omega arith

            last : (q : ℕ) → q + 1 ≤ 2 ^ 32 → 2 ^ 32 - q - 1 + 1 ≡ 2 ^ 32 - q
            last q l = omega arith

            gather : (b q p v u : ℕ) → u ≡ b * p → v ≤ (q + 1) * p → q + 1 ≤ b → u - v ≡ (b - q - 1) * p + ((q + 1) * p - v)
            gather b q p v u e h l =
                let split : b ≡ (b - q - 1) + (q + 1) = omega arith in
                let product : b * p ≡ (b - q - 1) * p + (q + 1) * p = ap (λ n. n * p) split ∙ spread (b - q - 1) (q + 1) p in
                omega arith
              where
                spread : (a d p : ℕ) → (a + d) * p ≡ a * p + d * p
                spread a d p = omega arith

        rounded : (q r : ℕ) → q * d + r ≡ a → r < d → below_floor k (a * n) + 1 ≡ 2 ^ 32 - q
        rounded q r parts below =
            let e1 = excess in
            let e2 = least in
            let e3 = most in
            let t1 : q * 2 ^ k * d ≡ q * d * 2 ^ k = moved q (2 ^ k) d in
            let t2 : (q + 1) * 2 ^ k * d ≡ (q + 1) * d * 2 ^ k = moved (q + 1) (2 ^ k) d in
            let s1 : (a + 1) * 2 ^ k ≡ a * 2 ^ k + 2 ^ k = one a (2 ^ k) in
            let l1 = mul-le (q * d) (2 ^ k) a (2 ^ k) (omega arith) (omega arith) in
            let l2 = mul-le (a + 1) (2 ^ k) ((q + 1) * d) (2 ^ k) (next q r parts below) (omega arith) in
            let under : q * 2 ^ k < a * n = lt_of_mul-lt-mul_right d (omega arith) in
            let up : a * n ≤ (q + 1) * 2 ^ k = le_of_mul-le-mul_right {k = d} (omega arith) divides in
            let short : q ≤ a = at_most q r parts in
            ending q under up (omega arith)
          where
            moved : (q p d : ℕ) → q * p * d ≡ q * d * p
            moved q p d = omega arith

            one : (x p : ℕ) → (x + 1) * p ≡ x * p + p
            one x p = omega arith

            next : (q r : ℕ) → q * d + r ≡ a → r < d → a + 1 ≤ (q + 1) * d
            next q r e b = let s = one q d in omega arith

            at_most : (q r : ℕ) → q * d + r ≡ a → q ≤ a
            at_most q r e = let l = mul-le q 1 q d (omega arith) (omega arith) in omega arith
