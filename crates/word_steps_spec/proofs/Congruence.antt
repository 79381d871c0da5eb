-- Numbers that are equal modulo m.
use Rattle.std.proofs.Common.{◌≡◌, ℕ, ◌+◌, ◌*◌, ◌/◌, ◌%◌, ◌<◌, sym, ap, ◌∙◌, arith}
use Rattle.std.proofs.lemmas.Nat.{div-add-mod', mod-mul-add}

-- they are equal with some multiples of m added
pub record IsCongruent (m a b : ℕ) : Type 0 where
  pub first : ℕ
  pub second : ℕ
  pub same : a + first * m ≡ b + second * m

pub congruent_same : (m a b : ℕ) → a ≡ b → IsCongruent m a b
congruent_same m a b e = record { first = 0; second = 0; same = ap (λ n. n + 0 * m) e }

pub congruent_sym : (m a b : ℕ) → IsCongruent m a b → IsCongruent m b a
congruent_sym m a b h = record { first = h.second; second = h.first; same = sym h.same }

pub congruent_then : (m a b c : ℕ) → IsCongruent m a b → IsCongruent m b c → IsCongruent m a c
congruent_then m a b c h g =
    let e = h.same in
    let d = g.same in
    record { first = h.first + g.first; second = h.second + g.second; same = omega arith }

pub congruent_plus : (m a b c d : ℕ) → IsCongruent m a b → IsCongruent m c d → IsCongruent m (a + c) (b + d)
congruent_plus m a b c d h g =
    let e = h.same in
    let f = g.same in
    record { first = h.first + g.first; second = h.second + g.second; same = omega arith }

pub congruent_times : (m c a b : ℕ) → IsCongruent m a b → IsCongruent m (c * a) (c * b)
congruent_times m c a b h =
    let e = ap (λ n. c * n) h.same in
    record { first = c * h.first; second = c * h.second; same = omega arith }

pub congruent_product : (m a b c d : ℕ) → IsCongruent m a b → IsCongruent m c d → IsCongruent m (a * c) (b * d)
congruent_product m a b c d h g =
    congruent_then m (a * c) (a * d) (b * d) (congruent_times m a c d g)
    (congruent_then m (a * d) (d * a) (b * d) (congruent_same m (a * d) (d * a) (omega arith))
    (congruent_then m (d * a) (d * b) (b * d) (congruent_times m d a b h) (congruent_same m (d * b) (b * d) (omega arith))))

-- multiples of m may be left out
pub congruent_multiple : (m k a : ℕ) → IsCongruent m (k * m + a) a
congruent_multiple m k a = record { first = 0; second = k; same = omega arith }

pub congruent_mod : (m a : ℕ) → IsCongruent m (a % m) a
congruent_mod m a = let e = div-add-mod' a m in record { first = a / m; second = 0; same = omega arith }

-- what is added on both sides
pub congruent_minus : (m a b c : ℕ) → IsCongruent m (a + c) (b + c) → IsCongruent m a b
congruent_minus m a b c h = let e = h.same in record { first = h.first; second = h.second; same = omega arith }

-- modulo a divisor
pub congruent_divisor : (d m a b : ℕ) → IsCongruent (d * m) a b → IsCongruent m a b
congruent_divisor d m a b h = let e = h.same in record { first = h.first * d; second = h.second * d; same = omega arith }

-- below m they are equal
pub congruent_equal : (m a b : ℕ) → IsCongruent m a b → a < m → b < m → a ≡ b
congruent_equal m a b h below_a below_b =
    let e = h.same in
    let one : h.first * m + a ≡ h.second * m + b = omega arith in
    sym (mod-mul-add h.first m a below_a) ∙ ap (λ n. n % m) one ∙ mod-mul-add h.second m b below_b
