-- The bits of numbers that are cut, moved, extended, added and joined.
use Rattle.std.proofs.Common.{◌≡◌, ℕ, zero, suc, ◌+◌, ◌-◌, ◌*◌, ◌/◌, ◌%◌, ◌^◌, ◌<◌, ◌≤◌, Bool, true, false, cond, refl, sym, ap, ◌∙◌, subst, arith, leb-true, leb-false, ltb-true, ltb-false}
use Rattle.std.specs.Prelude.{nat_lt, min, bit_and, bit_or}
use Rattle.std.specs.Int.{bit_at}
use Rattle.std.proofs.lemmas.Nat.{pow_pos, pow-add, div-add-mod', shr-shr, shr_below, and_le_l, or_lt, or_disjoint}
use Rattle.std.proofs.lemmas.Nat.Bits.{bit_at-zero, bit_at_and, bit_at_ones, bit_at_above, bit_at_cat_low, bit_at_cat_high, same_from_bits_below}
use Rattle.term_core_spec.specs.Value.{is_negative, ones_if, shifted_with_sign, low_bits}
use Rattle.term_norm_spec.proofs.Numbers.{mod-small}

-- ---- cut and moved

pub bit_low : (n k i : ℕ) → i < k → bit_at (n % 2 ^ k) i ≡ bit_at n i
bit_low n k i below = sym (bit_at_cat_low (n / 2 ^ k) k (n % 2 ^ k) i below) ∙ ap (λ m. bit_at m i) (div-add-mod' n (2 ^ k))

pub bit_moved_down : (n k i : ℕ) → bit_at (n / 2 ^ k) i ≡ bit_at n (k + i)
bit_moved_down n k i = ap (λ m. m % 2) (shr-shr n k i)

bit_moved_in : (n k i : ℕ) → i < k → bit_at (n * 2 ^ k) i ≡ 0
bit_moved_in n k i below = let e : n * 2 ^ k ≡ n * 2 ^ k + 0 = omega arith in ap (λ m. bit_at m i) e ∙ bit_at_cat_low n k 0 i below ∙ bit_at-zero i

bit_moved_up : (n k i : ℕ) → k ≤ i → bit_at (n * 2 ^ k) i ≡ bit_at n (i - k)
bit_moved_up n k i from = let e : n * 2 ^ k ≡ n * 2 ^ k + 0 = omega arith in ap (λ m. bit_at m i) e ∙ bit_at_cat_high n k 0 i (pow_pos k) from

-- a word moved up by a known number of places
pub shifted_left : (count a places i : ℕ) → i < count
    → bit_at (cond (nat_lt places count) (low_bits count (a * 2 ^ places)) 0) i ≡ cond (nat_lt i places) 0 (bit_at a (i - places))
shifted_left count a places i below = by (nat_lt places count) (nat_lt i places) refl refl
  where
    by : (s t : Bool) → nat_lt places count ≡ s → nat_lt i places ≡ t → bit_at (cond s (low_bits count (a * 2 ^ places)) 0) i ≡ cond t 0 (bit_at a (i - places))
    by true true d e = bit_low (a * 2 ^ places) count i below ∙ bit_moved_in a places i (ltb-true i places e)
    by true false d e = bit_low (a * 2 ^ places) count i below ∙ bit_moved_up a places i (ltb-false i places e)
    by false true d e = bit_at-zero i
    by false false d e = let f = ltb-false places count d in let g = ltb-false i places e in absurd (omega arith)

-- and down
pub shifted_right : (count a places i : ℕ) → i < count → a < 2 ^ count
    → bit_at (cond (nat_lt places count) (a / 2 ^ places) 0) i ≡ cond (nat_lt (places + i) count) (bit_at a (places + i)) 0
shifted_right count a places i below small = by (nat_lt places count) (nat_lt (places + i) count) refl refl
  where
    by : (s t : Bool) → nat_lt places count ≡ s → nat_lt (places + i) count ≡ t → bit_at (cond s (a / 2 ^ places) 0) i ≡ cond t (bit_at a (places + i)) 0
    by true true d e = bit_moved_down a places i
    by true false d e = bit_moved_down a places i ∙ bit_at_above a count (places + i) small (ltb-false (places + i) count e)
    by false true d e = let f = ltb-false places count d in let g = ltb-true (places + i) count e in absurd (omega arith)
    by false false d e = bit_at-zero i

-- ---- signs

pub sign_bit : (count a : ℕ) → 0 < count → a < 2 ^ count → bit_at a (count - 1) ≡ cond (is_negative count a) 1 0
sign_bit zero a positive small = absurd (omega arith)
sign_bit (suc k) a positive small = ap (bit_at a) less ∙ by (is_negative (suc k) a) refl
  where
    less : suc k - 1 ≡ k
    less = omega arith

    twice : 2 ^ suc k ≡ 2 ^ k + 2 ^ k
    twice = let e : suc k ≡ 1 + k = omega arith in let d = pow-add 2 1 k in ap (λ n. 2 ^ n) e ∙ omega arith

    by : (test : Bool) → is_negative (suc k) a ≡ test → bit_at a k ≡ cond test 1 0
    by true e =
        let from = leb-true (2 ^ (suc k - 1)) a e in
        let same : 2 ^ (suc k - 1) ≡ 2 ^ k = ap (λ n. 2 ^ n) less in
        let double = twice in
        let split : a ≡ 1 * 2 ^ k + (a - 2 ^ k) = omega arith in
        let none : k - k ≡ 0 = omega arith in
        ap (λ m. bit_at m k) split ∙ bit_at_cat_high 1 k (a - 2 ^ k) k (omega arith) (omega arith) ∙ ap (bit_at 1) none
    by false e =
        let below = leb-false (2 ^ (suc k - 1)) a e in
        let same : 2 ^ (suc k - 1) ≡ 2 ^ k = ap (λ n. 2 ^ n) less in
        bit_at_above a k k (omega arith) (omega arith)

-- the ones from `from` up to below `to` beside a number below them
ones_beside : (from to b : ℕ) → from ≤ to → b + (2 ^ to - 2 ^ from) ≡ (2 ^ (to - from) - 1) * 2 ^ from + b
ones_beside from to b le =
    let sum : to ≡ (to - from) + from = omega arith in
    ap (λ n. b + (n - 2 ^ from)) (ap (λ k. 2 ^ k) sum ∙ pow-add 2 (to - from) from) ∙ gather (2 ^ (to - from)) (2 ^ from) b (pow_pos (to - from))
  where
    gather : (p q b : ℕ) → 0 < p → b + (p * q - q) ≡ (p - 1) * q + b
    gather zero q b positive = absurd (omega arith)
    gather (suc k) q b positive = let e : suc k - 1 ≡ k = omega arith in step k q b ∙ ap (λ n. n * q + b) (sym e)
      where
        step : (k q b : ℕ) → b + (suc k * q - q) ≡ k * q + b
        step k q b = omega arith

-- a number below 2 ^ from with its sign from there on
module _ (from to b : ℕ) (negative : Bool) (le : from ≤ to) (small : b < 2 ^ from) where
  pub signed_low : (i : ℕ) → i < from → bit_at (low_bits to (b + ones_if negative from to)) i ≡ bit_at b i
  signed_low i below = bit_low (b + ones_if negative from to) to i (omega arith) ∙ by negative
    where
      by : (test : Bool) → bit_at (b + ones_if test from to) i ≡ bit_at b i
      by true = ap (λ m. bit_at m i) (ones_beside from to b le) ∙ bit_at_cat_low (2 ^ (to - from) - 1) from b i below
      by false = let e : b + 0 ≡ b = omega arith in ap (λ m. bit_at m i) e

  pub signed_high : (i : ℕ) → from ≤ i → i < to → bit_at (low_bits to (b + ones_if negative from to)) i ≡ cond negative 1 0
  signed_high i above below = bit_low (b + ones_if negative from to) to i below ∙ by negative
    where
      by : (test : Bool) → bit_at (b + ones_if test from to) i ≡ cond test 1 0
      by true =
          ap (λ m. bit_at m i) (ones_beside from to b le) ∙ bit_at_cat_high (2 ^ (to - from) - 1) from b i small above
          ∙ bit_at_ones (to - from) (i - from) (omega arith)
      by false = let e : b + 0 ≡ b = omega arith in ap (λ m. bit_at m i) e ∙ bit_at_above b from i small above

-- a word moved down by a known number of places, with its sign
pub shifted_signed : (count a places i : ℕ) → i < count → a < 2 ^ count
    → bit_at (cond (nat_lt places count) (shifted_with_sign count a places) (ones_if (is_negative count a) 0 count)) i
    ≡ cond (nat_lt (places + i) count) (bit_at a (places + i)) (bit_at a (count - 1))
shifted_signed count a places i below small = by (nat_lt places count) (nat_lt (places + i) count) refl refl
  where
    sign : bit_at a (count - 1) ≡ cond (is_negative count a) 1 0
    sign = sign_bit count a (omega arith) small

    moved : places < count → a / 2 ^ places < 2 ^ (count - places)
    moved less = let sum : count ≡ (count - places) + places = omega arith in shr_below a (count - places) places (subst (λ k. a < 2 ^ k) sum small)

    all_signs : (test : Bool) → bit_at (ones_if test 0 count) i ≡ cond test 1 0
    all_signs true = bit_at_ones count i below
    all_signs false = bit_at-zero i

    by : (s t : Bool) → nat_lt places count ≡ s → nat_lt (places + i) count ≡ t
        → bit_at (cond s (shifted_with_sign count a places) (ones_if (is_negative count a) 0 count)) i ≡ cond t (bit_at a (places + i)) (bit_at a (count - 1))
    by true true d e =
        let less = ltb-true places count d in
        let within = ltb-true (places + i) count e in
        signed_low (count - places) count (a / 2 ^ places) (is_negative count a) (omega arith) (moved less) i (omega arith) ∙ bit_moved_down a places i
    by true false d e =
        let less = ltb-true places count d in
        let above = ltb-false (places + i) count e in
        signed_high (count - places) count (a / 2 ^ places) (is_negative count a) (omega arith) (moved less) i (omega arith) below ∙ sym sign
    by false true d e = let f = ltb-false places count d in let g = ltb-true (places + i) count e in absurd (omega arith)
    by false false d e = all_signs (is_negative count a) ∙ sym sign

-- ---- sums where nothing is carried, and bytes

pub sum_apart : (count a b : ℕ) → a < 2 ^ count → b < 2 ^ count → ((i : ℕ) → i < count → min (bit_at a i) (bit_at b i) ≡ 0) → low_bits count (a + b) ≡ bit_or a b
sum_apart count a b below_a below_b apart =
    let none : bit_and a b ≡ 0 = same_from_bits_below count (bit_and a b) 0 (omega (arith, and_le_l a b)) (pow_pos count) (λ i l. bit_at_and a b i ∙ apart i l ∙ sym (bit_at-zero i)) in
    let sum : bit_or a b ≡ a + b = or_disjoint a b none in
    ap (low_bits count) (sym sum) ∙ mod-small (bit_or a b) (2 ^ count) (or_lt count a b below_a below_b)

pub joined_low : (b m i : ℕ) → i < 8 → bit_at (b + 2 ^ 8 * m) i ≡ bit_at b i
joined_low b m i below = let e : b + 2 ^ 8 * m ≡ m * 2 ^ 8 + b = omega arith in ap (λ n. bit_at n i) e ∙ bit_at_cat_low m 8 b i below

pub joined_high : (b m i : ℕ) → b < 2 ^ 8 → 8 ≤ i → bit_at (b + 2 ^ 8 * m) i ≡ bit_at m (i - 8)
joined_high b m i small above = let e : b + 2 ^ 8 * m ≡ m * 2 ^ 8 + b = omega arith in ap (λ n. bit_at n i) e ∙ bit_at_cat_high m 8 b i small above
