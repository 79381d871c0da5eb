-- Scaled floors of numbers with a sign, which are counted from -2 ^ 31 on.
use Rattle.std.proofs.Common.{◌≡◌, ℕ, zero, suc, ◌+◌, ◌-◌, ◌*◌, ◌/◌, ◌%◌, ◌^◌, ◌<◌, ◌≤◌, Bool, true, false, cond, ◌⊎◌, inl, inr, refl, sym, ap, ◌∙◌, arith, ltb-true, leb-true, leb-false}
use Rattle.std.specs.Prelude.{nat_lt, nat_le, max}
use Rattle.std.proofs.lemmas.Bool.{cases_lt}
use Rattle.std.proofs.lemmas.Nat.{pow_pos, pow-add, mod_below, mul-le, div-add-mod', div_below}
use Rattle.term_core_spec.specs.Value.{shifted_with_sign}
use Rattle.word_steps_spec.specs.Ranges.{distance, opposite}
use Rattle.word_steps_spec.specs.Quotients.{fits_signed, reach_from}
use Rattle.word_steps_spec.proofs.Congruence.{IsCongruent, congruent_sym, congruent_then, congruent_product, congruent_mod, congruent_equal}
use Rattle.word_steps_spec.proofs.Distances.{distance_sum, among}
use Rattle.word_steps_spec.proofs.QuotientNumbers.{whole_part}
use Rattle.word_steps_spec.proofs.SignedNumbers.{below_floor, shift_positive, shift_negative}

-- how far a word is above -2 ^ 31
abbrev pub place : ℕ → ℕ
place n = (n + 2 ^ 31) % 2 ^ 32

spread : (a b c : ℕ) → a * (b + c) ≡ a * b + a * c
spread a b c = omega arith

times_sum : (a b c : ℕ) → (a + b) * c ≡ a * c + b * c
times_sum a b c = omega arith

place_below : (n : ℕ) → place n < 2 ^ 32
place_below n = omega arith

-- ---- from -g - 1 to g

pub record Reaches (x g : ℕ) : Type 0 where
  pub low : 2 ^ 31 ≤ place x + g + 1
  pub high : place x ≤ g + 2 ^ 31

pub reaches_all : (x : ℕ) → Reaches x (2 ^ 31 - 1)
reaches_all x = let b = place_below x in record { low = omega arith; high = omega arith }

-- f + a is n, and f one of s, .., s + l - 1
pub reaches_in : (s l f a n : ℕ) → among 32 s l f ≡ true → IsCongruent (2 ^ 32) (f + a) n → Reaches n (reach_from (distance 32 (opposite 32 (a + 2 ^ 31)) s) l)
reaches_in s l f a n e h = by (nat_le (distance 32 (opposite 32 (a + 2 ^ 31)) s + l) (2 ^ 32)) refl
  where
    far : (o t u : ℕ) → IsCongruent (2 ^ 32) (s + o) f → IsCongruent (2 ^ 32) (a + 2 ^ 31 + t) 0 → IsCongruent (2 ^ 32) (t + u) s → IsCongruent (2 ^ 32) (u + o) (n + 2 ^ 31)
    far o t u g1 g2 g3 =
        let e1 = h.same in
        let e2 = g1.same in
        let e3 = g2.same in
        let e4 = g3.same in
        record {
          first = h.first + g1.first + g2.second + g3.first;
          second = h.second + g1.second + g2.first + g3.second;
          same = omega arith;
        }

    -- where the row doesn't wrap round
    from : (u o : ℕ) → u + l ≤ 2 ^ 32 → o < l → place n ≡ u + o → Reaches n (max (2 ^ 31 - 1 - u) (u + l - 1 - 2 ^ 31))
    from u o le less is = record { low = omega arith; high = omega arith }

    by : (test : Bool) → nat_le (distance 32 (opposite 32 (a + 2 ^ 31)) s + l) (2 ^ 32) ≡ test
        → Reaches n (cond test (max (2 ^ 31 - 1 - distance 32 (opposite 32 (a + 2 ^ 31)) s) (distance 32 (opposite 32 (a + 2 ^ 31)) s + l - 1 - 2 ^ 31)) (2 ^ 31 - 1))
    by true d =
        let le = leb-true (distance 32 (opposite 32 (a + 2 ^ 31)) s + l) (2 ^ 32) d in
        let less = ltb-true (distance 32 s f) l e in
        let sum = far (distance 32 s f) (opposite 32 (a + 2 ^ 31)) (distance 32 (opposite 32 (a + 2 ^ 31)) s) (distance_sum 32 s f) (distance_sum 32 (a + 2 ^ 31) 0) (distance_sum 32 (opposite 32 (a + 2 ^ 31)) s) in
        from (distance 32 (opposite 32 (a + 2 ^ 31)) s) (distance 32 s f) le less
        (congruent_equal (2 ^ 32) (place n) (distance 32 (opposite 32 (a + 2 ^ 31)) s + distance 32 s f)
        (congruent_then (2 ^ 32) (place n) (n + 2 ^ 31) (distance 32 (opposite 32 (a + 2 ^ 31)) s + distance 32 s f) (congruent_mod (2 ^ 32) (n + 2 ^ 31))
        (congruent_sym (2 ^ 32) (distance 32 (opposite 32 (a + 2 ^ 31)) s + distance 32 s f) (n + 2 ^ 31) sum))
        (place_below n) (omega arith))
    by false d = reaches_all n

-- ---- scaled floors

-- t is the whole part of x (raised - p) / p, each with its sign
pub record IsScaled (x t raised p : ℕ) : Type 0 where
  pub rest : ℕ
  pub below : rest < p
  pub same : place t * p + rest + place x * p + 2 ^ 31 * raised ≡ place x * raised + 2 ^ 32 * p

pub scaled_itself : (x : ℕ) → IsScaled x x 2 1
scaled_itself x = record { rest = 0; below = omega arith; same = omega arith }

-- x (raised - p) is from -2 ^ 31 p to below 2 ^ 31 p
pub record HasRoom (x raised p : ℕ) : Type 0 where
  pub product : ℕ
  pub below : product < 2 ^ 32 * p
  pub same : product + place x * p + 2 ^ 31 * raised ≡ place x * raised + 2 ^ 32 * p

above_room : (x g n p : ℕ) → 0 < p → Reaches x g → (g + 1) * n ≤ 2 ^ 31 * p → (a : ℕ) × (a < 2 ^ 32 * p) × (a + 2 ^ 31 * n ≡ place x * n + 2 ^ 31 * p)
above_room x g zero p some is le = let none : place x * 0 ≡ 0 = omega arith in (2 ^ 31 * p, omega arith, omega arith)
above_room x g (suc k) p some is le =
    let e1 = mul-le (2 ^ 31) (suc k) (place x + g + 1) (suc k) is.low (omega arith) in
    let e2 = mul-le (place x) (suc k) (g + 2 ^ 31) (suc k) is.high (omega arith) in
    let s1 : (place x + g + 1) * suc k ≡ place x * suc k + (g + 1) * suc k = three (place x) g (suc k) in
    let s2 = times_sum g (2 ^ 31) (suc k) in
    let s3 = times_sum g 1 (suc k) in
    (place x * suc k + 2 ^ 31 * p - 2 ^ 31 * suc k, omega arith, omega arith)
  where
    three : (a b n : ℕ) → (a + b + 1) * n ≡ a * n + (b + 1) * n
    three a b n = omega arith

below_room : (x g n p : ℕ) → Reaches x g → (g + 1) * n < 2 ^ 31 * p → (a : ℕ) × (a < 2 ^ 32 * p) × (a + place x * n ≡ 2 ^ 31 * p + 2 ^ 31 * n)
below_room x g n p is less =
    let e1 = mul-le (2 ^ 31) n (place x + g + 1) n is.low (omega arith) in
    let e2 = mul-le (place x) n (g + 2 ^ 31) n is.high (omega arith) in
    let s1 : (place x + g + 1) * n ≡ place x * n + (g + 1) * n = three (place x) g n in
    let s2 = times_sum g (2 ^ 31) n in
    let s3 = times_sum g 1 n in
    (2 ^ 31 * p + 2 ^ 31 * n - place x * n, omega arith, omega arith)
  where
    three : (a b n : ℕ) → (a + b + 1) * n ≡ a * n + (b + 1) * n
    three a b n = omega arith

power31 : (k : ℕ) → 2 ^ (31 + k) ≡ 2 ^ 31 * 2 ^ k
power31 k = pow-add 2 31 k

pub room : (x g raised k : ℕ) → Reaches x g → fits_signed g raised k ≡ true → HasRoom x raised (2 ^ k)
room x g raised k is e = by (nat_le (2 ^ k) raised) refl e
  where
    by : (test : Bool) → nat_le (2 ^ k) raised ≡ test
        → cond test (nat_le ((g + 1) * (raised - 2 ^ k)) (2 ^ (31 + k))) (nat_lt ((g + 1) * (2 ^ k - raised)) (2 ^ (31 + k))) ≡ true → HasRoom x raised (2 ^ k)
    by true d f =
        let from = leb-true (2 ^ k) raised d in
        let power = power31 k in
        let le = leb-true ((g + 1) * (raised - 2 ^ k)) (2 ^ (31 + k)) f in
        let a = above_room x g (raised - 2 ^ k) (2 ^ k) (pow_pos k) is (omega arith) in
        let split : raised ≡ (raised - 2 ^ k) + 2 ^ k = omega arith in
        let product_is = ap (λ n. place x * n) split ∙ spread (place x) (raised - 2 ^ k) (2 ^ k) in
        let sum = a.2 in
        record { product = a.0; below = a.1; same = omega arith }
    by false d f =
        let less = leb-false (2 ^ k) raised d in
        let power = power31 k in
        let lt = ltb-true ((g + 1) * (2 ^ k - raised)) (2 ^ (31 + k)) f in
        let a = below_room x g (2 ^ k - raised) (2 ^ k) is (omega arith) in
        let split : 2 ^ k ≡ (2 ^ k - raised) + raised = omega arith in
        let product_is = ap (λ n. place x * n) split ∙ spread (place x) (2 ^ k - raised) raised in
        let sum = a.2 in
        record { product = a.0; below = a.1; same = omega arith }

-- x more
pub scaled_sum : (x t raised p : ℕ) → x < 2 ^ 32 → t < 2 ^ 32 → IsScaled x t raised p → HasRoom x (raised + p) p → IsScaled x ((t + x) % 2 ^ 32) (raised + p) p
scaled_sum x t raised p below_x below_t is has =
    let more = spread (place x) raised p in
    let e1 = is.same in
    let e2 = has.same in
    let sum : (place t + place x) * p + is.rest ≡ has.product + 2 ^ 31 * p = let s = times_sum (place t) (place x) p in omega arith in
    let low : 2 ^ 31 ≤ place t + place x = at_least (place t + place x) p is.rest has.product is.below sum in
    let high : place t + place x < 2 ^ 31 + 2 ^ 32 = at_most (place t + place x) p is.rest has.product has.below sum in
    let here : place ((t + x) % 2 ^ 32) + 2 ^ 31 ≡ place t + place x = placed low high in
    let products = ap (λ n. n * p) here in
    let s1 = times_sum (place ((t + x) % 2 ^ 32)) (2 ^ 31) p in
    let s2 = times_sum (place t) (place x) p in
    record { rest = is.rest; below = is.below; same = omega arith }
  where
    at_least : (s p r a : ℕ) → r < p → s * p + r ≡ a + 2 ^ 31 * p → 2 ^ 31 ≤ s
    at_least s p r a less e = by (cases_lt s (2 ^ 31))
      where
        by : (s < 2 ^ 31) ⊎ (2 ^ 31 ≤ s) → 2 ^ 31 ≤ s
        by (inr from) = from
        by (inl under) =
            let le = mul-le (s + 1) p (2 ^ 31) p (omega arith) (omega arith) in
            let one = times_sum s 1 p in
            absurd (omega arith)

    at_most : (s p r a : ℕ) → a < 2 ^ 32 * p → s * p + r ≡ a + 2 ^ 31 * p → s < 2 ^ 31 + 2 ^ 32
    at_most s p r a less e = by (cases_lt s (2 ^ 31 + 2 ^ 32))
      where
        by : (s < 2 ^ 31 + 2 ^ 32) ⊎ (2 ^ 31 + 2 ^ 32 ≤ s) → s < 2 ^ 31 + 2 ^ 32
        by (inl under) = under
        by (inr from) =
            let le = mul-le (2 ^ 31 + 2 ^ 32) p s p from (omega arith) in
            let two = times_sum (2 ^ 31) (2 ^ 32) p in
            absurd (omega arith)

    placed : 2 ^ 31 ≤ place t + place x → place t + place x < 2 ^ 31 + 2 ^ 32 → place ((t + x) % 2 ^ 32) + 2 ^ 31 ≡ place t + place x
    placed low high = omega arith

-- ---- shifts with the sign

power32 : (c : ℕ) → c < 32 → 2 ^ (32 - c) * 2 ^ c ≡ 2 ^ 32
power32 c small = let sum : (32 - c) + c ≡ 32 = omega arith in sym (pow-add 2 (32 - c) c) ∙ ap (λ n. 2 ^ n) sum

shifted_place : (y c : ℕ) → c < 32 → y < 2 ^ 32 → (r : ℕ) × (r < 2 ^ c) × (place (shifted_with_sign 32 y c) * 2 ^ c + r + 2 ^ 31 ≡ place y + 2 ^ 31 * 2 ^ c)
shifted_place y c small below = by (cases_lt y (2 ^ 31))
  where
    parts : y / 2 ^ c * 2 ^ c + y % 2 ^ c ≡ y
    parts = div-add-mod' y (2 ^ c)

    rest_below : y % 2 ^ c < 2 ^ c
    rest_below = mod_below y (2 ^ c) (pow_pos c)

    positive : 0 < 2 ^ c
    positive = pow_pos c

    -- the quotient is not above y
    short : (q p r : ℕ) → 0 < p → q * p + r ≡ y → q ≤ y
    short q p r some e = let le = mul-le q 1 q p (omega arith) (omega arith) in omega arith

    by : (y < 2 ^ 31) ⊎ (2 ^ 31 ≤ y) → (r : ℕ) × (r < 2 ^ c) × (place (shifted_with_sign 32 y c) * 2 ^ c + r + 2 ^ 31 ≡ place y + 2 ^ 31 * 2 ^ c)
    by (inl less) =
        let is = shift_positive y c less in
        let le = short (y / 2 ^ c) (2 ^ c) (y % 2 ^ c) positive parts in
        let here : place (shifted_with_sign 32 y c) ≡ y / 2 ^ c + 2 ^ 31 = ap place is ∙ placed (y / 2 ^ c) (omega arith) in
        let products = ap (λ n. n * 2 ^ c) here ∙ times_sum (y / 2 ^ c) (2 ^ 31) (2 ^ c) in
        let there : place y ≡ y + 2 ^ 31 = placed y less in
        let split = parts in
        (y % 2 ^ c, rest_below, omega arith)
      where
        placed : (n : ℕ) → n < 2 ^ 31 → place n ≡ n + 2 ^ 31
        placed n l = omega arith
    by (inr from) =
        let is = shift_negative y c small from below in
        let here : place (shifted_with_sign 32 y c) + 2 ^ (32 - c) ≡ y / 2 ^ c + 2 ^ 31 = ap (λ n. place n + 2 ^ (32 - c)) is ∙ placed (y / 2 ^ c) (2 ^ (32 - c)) quotient_large quotient_small power_small in
        let products : (place (shifted_with_sign 32 y c) + 2 ^ (32 - c)) * 2 ^ c ≡ y / 2 ^ c * 2 ^ c + 2 ^ 31 * 2 ^ c = ap (λ n. n * 2 ^ c) here ∙ times_sum (y / 2 ^ c) (2 ^ 31) (2 ^ c) in
        let s1 = times_sum (place (shifted_with_sign 32 y c)) (2 ^ (32 - c)) (2 ^ c) in
        let power = power32 c small in
        let there : place y + 2 ^ 31 ≡ y = placed_high y from below in
        let split = parts in
        (y % 2 ^ c, rest_below, omega arith)
      where
        placed_high : (n : ℕ) → 2 ^ 31 ≤ n → n < 2 ^ 32 → place n + 2 ^ 31 ≡ n
        placed_high n l h = omega arith

        -- q + 2 ^ 32 - p, where q is from p / 2 to p - 1
        placed : (q p : ℕ) → p ≤ 2 * q → q < p → p ≤ 2 ^ 32 → place (q + (2 ^ 32 - p)) + p ≡ q + 2 ^ 31
        placed q p large less le = omega arith

        quotient_small : y / 2 ^ c < 2 ^ (32 - c)
        quotient_small = let power = power32 c small in div_below y (2 ^ c) (2 ^ (32 - c)) positive (omega arith)

        power_small : 2 ^ (32 - c) ≤ 2 ^ 32
        power_small = let power = power32 c small in let le = mul-le (2 ^ (32 - c)) 1 (2 ^ (32 - c)) (2 ^ c) (omega arith) positive in omega arith

        -- twice the quotient, with its rest, is at least 2 ^ 32
        quotient_large : 2 ^ (32 - c) ≤ 2 * (y / 2 ^ c)
        quotient_large = least (cases_lt (2 * (y / 2 ^ c)) (2 ^ (32 - c)))
          where
            half : 32 - c ≡ 1 + (31 - c)
            half = omega arith

            doubled : 2 ^ (32 - c) ≡ 2 * 2 ^ (31 - c)
            doubled = ap (λ n. 2 ^ n) half ∙ pow-add 2 1 (31 - c)

            halves : 2 ^ (31 - c) * 2 ^ c ≡ 2 ^ 31
            halves = let sum : (31 - c) + c ≡ 31 = omega arith in sym (pow-add 2 (31 - c) c) ∙ ap (λ n. 2 ^ n) sum

            least : (2 * (y / 2 ^ c) < 2 ^ (32 - c)) ⊎ (2 ^ (32 - c) ≤ 2 * (y / 2 ^ c)) → 2 ^ (32 - c) ≤ 2 * (y / 2 ^ c)
            least (inr le) = le
            least (inl less) =
                let d = doubled in
                let h = halves in
                let split = parts in
                let rest = rest_below in
                let le = mul-le (y / 2 ^ c + 1) (2 ^ c) (2 ^ (31 - c)) (2 ^ c) (omega arith) (omega arith) in
                let one = times_sum (y / 2 ^ c) 1 (2 ^ c) in
                absurd (omega arith)

-- c places down
pub scaled_shift : (x y raised p c : ℕ) → c < 32 → y < 2 ^ 32 → IsScaled x y raised p → IsScaled x (shifted_with_sign 32 y c) (raised + p * 2 ^ c - p) (p * 2 ^ c)
scaled_shift x y raised p c small below is =
    let shifted = shifted_place y c small below in
    let positive = pow_pos c in
    let large : p ≤ p * 2 ^ c = let le = mul-le p 1 p (2 ^ c) (omega arith) positive in omega arith in
    let e1 = is.same in
    let e2 : place (shifted_with_sign 32 y c) * (p * 2 ^ c) + shifted.0 * p + 2 ^ 31 * p ≡ place y * p + 2 ^ 31 * (p * 2 ^ c) =
    scaled_by (place (shifted_with_sign 32 y c)) (2 ^ c) shifted.0 (place y) p shifted.2 in
    let sum : raised + p * 2 ^ c - p + p ≡ raised + p * 2 ^ c = omega arith in
    let products : place x * (raised + p * 2 ^ c - p) + place x * p ≡ place x * raised + place x * (p * 2 ^ c) =
    sym (spread (place x) (raised + p * 2 ^ c - p) p) ∙ ap (λ n. place x * n) sum ∙ spread (place x) raised (p * 2 ^ c) in
    record {
      rest = shifted.0 * p + is.rest;
      below = within shifted.0 (2 ^ c) is.rest p shifted.1 is.below;
      same = omega arith;
    }
  where
    scaled_by : (t q r y p : ℕ) → t * q + r + 2 ^ 31 ≡ y + 2 ^ 31 * q → t * (p * q) + r * p + 2 ^ 31 * p ≡ y * p + 2 ^ 31 * (p * q)
    scaled_by t q r y p e = left t q r p ∙ ap (λ n. n * p) e ∙ right y q p
      where
        left : (t q r p : ℕ) → t * (p * q) + r * p + 2 ^ 31 * p ≡ (t * q + r + 2 ^ 31) * p
        left t q r p = omega arith

        right : (y q p : ℕ) → (y + 2 ^ 31 * q) * p ≡ y * p + 2 ^ 31 * (p * q)
        right y q p = omega arith

    within : (r q s p : ℕ) → r < q → s < p → r * p + s < p * q
    within r q s p l h =
        let le = mul-le (r + 1) p q p (omega arith) (omega arith) in
        let one = times_sum r 1 p in
        let turn = swap p q in
        omega arith
      where
        swap : (a b : ℕ) → a * b ≡ b * a
        swap a b = omega arith

-- ---- upper halves of products

-- u is x with its sign, of 64 bits
pub scaled_upper : (x u c t raised : ℕ) → IsCongruent (2 ^ 64) (u + 2 ^ 31) (place x) → IsCongruent (2 ^ 64) raised (c + 2 ^ 32) → t ≡ u * c % 2 ^ 64 / 2 ^ 32 % 2 ^ 32
    → HasRoom x raised (2 ^ 32) → IsScaled x t raised (2 ^ 32)
scaled_upper x u c t raised of_u of_c is has =
    let parts : place t ≡ has.product / 2 ^ 32 = ap place is ∙ halves (u * c % 2 ^ 64) has.product has.below sums in
    let e = has.same in
    record { rest = has.product % 2 ^ 32; below = omega arith; same = omega arith }
  where
    -- the product, counted from -2 ^ 63 on
    sums : IsCongruent (2 ^ 64) (u * c % 2 ^ 64 + 2 ^ 63) has.product
    sums =
        gathered (congruent_product (2 ^ 64) (u + 2 ^ 31) (place x) (c + 2 ^ 32) raised of_u (congruent_sym (2 ^ 64) raised (c + 2 ^ 32) of_c))
        (congruent_mod (2 ^ 64) (u * c)) (expand u c)
      where
        expand : (u c : ℕ) → (u + 2 ^ 31) * (c + 2 ^ 32) ≡ u * c + 2 ^ 32 * u + 2 ^ 31 * c + 2 ^ 63
        expand u c = omega arith

        gathered : IsCongruent (2 ^ 64) ((u + 2 ^ 31) * (c + 2 ^ 32)) (place x * raised) → IsCongruent (2 ^ 64) (u * c % 2 ^ 64) (u * c)
            → (u + 2 ^ 31) * (c + 2 ^ 32) ≡ u * c + 2 ^ 32 * u + 2 ^ 31 * c + 2 ^ 63 → IsCongruent (2 ^ 64) (u * c % 2 ^ 64 + 2 ^ 63) has.product
        gathered g f s =
            let e1 = g.same in
            let e2 = f.same in
            let e3 = of_u.same in
            let e4 = of_c.same in
            let e5 = has.same in
            record {
              first = g.first + f.first + 2 ^ 32 * of_u.second + 2 ^ 31 * of_c.first;
              second = g.second + f.second + 2 ^ 32 * of_u.first + 2 ^ 31 * of_c.second;
              same = omega arith;
            }

    halves : (h a : ℕ) → a < 2 ^ 32 * 2 ^ 32 → IsCongruent (2 ^ 64) (h + 2 ^ 63) a → place (h / 2 ^ 32 % 2 ^ 32) ≡ a / 2 ^ 32
    halves h a below k = by (congruent_equal (2 ^ 64) ((h + 2 ^ 63) % 2 ^ 64) a (congruent_then (2 ^ 64) ((h + 2 ^ 63) % 2 ^ 64) (h + 2 ^ 63) a (congruent_mod (2 ^ 64) (h + 2 ^ 63)) k) (mod_below (h + 2 ^ 63) (2 ^ 64) (pow_pos 64)) (omega arith))
      where
        by : (h + 2 ^ 63) % 2 ^ 64 ≡ a → place (h / 2 ^ 32 % 2 ^ 32) ≡ a / 2 ^ 32
        by e = omega arith

-- ---- what a scaled floor is, at either sign

module _ (x t raised n k : ℕ) (below_t : t < 2 ^ 32) (sum : raised ≡ n + 2 ^ k) (is : IsScaled x t raised (2 ^ k)) where
  products : place x * raised ≡ place x * n + place x * 2 ^ k
  products = ap (λ m. place x * m) sum ∙ spread (place x) n (2 ^ k)

  pub scaled_positive : x < 2 ^ 31 → (t ≡ x * n / 2 ^ k) × (t < 2 ^ 31)
  scaled_positive less =
      let e = equation in
      let r = is.below in
      let from : 2 ^ 31 ≤ place t = at_least (place t) (2 ^ k) is.rest (x * n) is.below equation in
      let back : place t ≡ t + 2 ^ 31 = omega arith in
      let s = ap (λ m. m * 2 ^ k) back ∙ times_sum t (2 ^ 31) (2 ^ k) in
      let one = times_sum t 1 (2 ^ k) in
      (sym (whole_part (x * n) (2 ^ k) t (omega arith) (omega arith)), omega arith)
    where
      equation : place t * 2 ^ k + is.rest ≡ x * n + 2 ^ 31 * 2 ^ k
      equation =
          let e = is.same in
          let d = products in
          let here : place x ≡ x + 2 ^ 31 = omega arith in
          let s = ap (λ m. m * n) here ∙ times_sum x (2 ^ 31) n in
          let total = sum in
          omega arith

      at_least : (s p r a : ℕ) → r < p → s * p + r ≡ a + 2 ^ 31 * p → 2 ^ 31 ≤ s
      at_least s p r a l e = by (cases_lt s (2 ^ 31))
        where
          by : (s < 2 ^ 31) ⊎ (2 ^ 31 ≤ s) → 2 ^ 31 ≤ s
          by (inr h) = h
          by (inl under) =
              let le = mul-le (s + 1) p (2 ^ 31) p (omega arith) (omega arith) in
              let one = times_sum s 1 p in
              absurd (omega arith)

  pub scaled_negative : 0 < n → 2 ^ 31 ≤ x → x < 2 ^ 32 → (t ≡ below_floor k ((2 ^ 32 - x) * n)) × (2 ^ 31 ≤ t)
  scaled_negative some from below_x =
      let e = equation in
      let r = is.below in
      let less : place t < 2 ^ 31 = at_most (place t) (2 ^ k) is.rest ((2 ^ 32 - x) * n) (mul-le 1 1 (2 ^ 32 - x) n (omega arith) some) equation in
      let back : t ≡ place t + 2 ^ 31 = omega arith in
      let s = ap (λ m. m * 2 ^ k) back ∙ times_sum (place t) (2 ^ 31) (2 ^ k) in
      let one = times_sum t 1 (2 ^ k) in
      let power = pow-add 2 32 k in
      (sym (whole_part (2 ^ (32 + k) - (2 ^ 32 - x) * n) (2 ^ k) t (omega arith) (omega arith)), omega arith)
    where
      equation : place t * 2 ^ k + is.rest + (2 ^ 32 - x) * n ≡ 2 ^ 31 * 2 ^ k
      equation =
          let e = is.same in
          let d = products in
          let here : place x + (2 ^ 32 - x) ≡ 2 ^ 31 = omega arith in
          let s = sym (times_sum (place x) (2 ^ 32 - x) n) ∙ ap (λ m. m * n) here in
          let total = sum in
          omega arith

      at_most : (s p r a : ℕ) → 1 ≤ a → s * p + r + a ≡ 2 ^ 31 * p → s < 2 ^ 31
      at_most s p r a l e = by (cases_lt s (2 ^ 31))
        where
          by : (s < 2 ^ 31) ⊎ (2 ^ 31 ≤ s) → s < 2 ^ 31
          by (inl h) = h
          by (inr over) = let le = mul-le (2 ^ 31) p s p over (omega arith) in absurd (omega arith)
