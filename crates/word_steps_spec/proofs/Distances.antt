-- How far a number is above another, modulo 2 ^ count, and which numbers are among so many in a row.
use Rattle.std.proofs.Common.{◌≡◌, ℕ, ◌+◌, ◌-◌, ◌%◌, ◌^◌, ◌<◌, ◌≤◌, Bool, true, false, ◌⊎◌, inl, inr, refl, sym, ap, ◌∙◌, arith, ltb-true, lt-ltb, le-ltb}
use Rattle.std.specs.Prelude.{◌||◌, not, nat_lt, min, max}
use Rattle.std.proofs.lemmas.Bool.{cases_lt}
use Rattle.std.proofs.lemmas.Nat.{pow_pos, mod_below, div-add-mod'}
use Rattle.term_norm_spec.proofs.Numbers.{mod-small}
use Rattle.word_steps_spec.specs.Ranges.{distance, opposite}
use Rattle.word_steps_spec.proofs.Congruence.{IsCongruent, congruent_same, congruent_sym, congruent_then, congruent_plus, congruent_mod, congruent_minus, congruent_equal}
use Rattle.word_steps_spec.proofs.LowBitsHold.{opposite_sum}

pub mod_least : (a m : ℕ) → a % m ≤ a
mod_least a m = let parts = div-add-mod' a m in omega arith

module _ (count : ℕ) where
  abbrev m : ℕ
  m = 2 ^ count

  positive : 0 < m
  positive = pow_pos count

  pub distance_below : (s n : ℕ) → distance count s n < m
  distance_below s n = mod_below (n + (m - s % m)) m positive

  -- s with the distance added is n
  pub distance_sum : (s n : ℕ) → IsCongruent m (s + distance count s n) n
  distance_sum s n =
      congruent_then m (s + distance count s n) (s + (n + (m - s % m))) n
      (congruent_plus m s s (distance count s n) (n + (m - s % m)) (congruent_same m s s refl) (congruent_mod m (n + (m - s % m))))
      (gathered s n (m - s % m) (opposite_sum m s positive))
    where
      gathered : (s n o : ℕ) → IsCongruent m (o + s) 0 → IsCongruent m (s + (n + o)) n
      gathered s n o h = let e = h.same in record { first = h.first; second = h.second; same = omega arith }

  -- and what is it too is the distance, modulo m
  pub distance_is : (s n o : ℕ) → IsCongruent m (s + o) n → distance count s n ≡ o % m
  distance_is s n o h =
      congruent_equal m (distance count s n) (o % m)
      (congruent_then m (distance count s n) o (o % m)
      (congruent_minus m (distance count s n) o s
      (congruent_then m (distance count s n + s) n (o + s) (turned (distance count s n) (distance_sum s n)) (congruent_sym m (o + s) n (turned o h))))
      (congruent_sym m (o % m) o (congruent_mod m o)))
      (distance_below s n) (mod_below o m positive)
    where
      turned : (k : ℕ) → IsCongruent m (s + k) n → IsCongruent m (k + s) n
      turned k g = let e = g.same in record { first = g.first; second = g.second; same = omega arith }

  pub distance_small : (s n o : ℕ) → o < m → IsCongruent m (s + o) n → distance count s n ≡ o
  distance_small s n o below h = distance_is s n o h ∙ mod-small o m below

  pub distance_same : (s n k : ℕ) → IsCongruent m n k → distance count s n ≡ distance count s k
  distance_same s n k h =
      distance_small s n (distance count s k) (distance_below s k) (congruent_then m (s + distance count s k) k n (distance_sum s k) (congruent_sym m n k h))

  -- n is one of s, .., s + l - 1
  abbrev pub among : ℕ → ℕ → ℕ → Bool
  among s l n = nat_lt (distance count s n) l

  -- the others are those from s + l on
  pub among_others : (s l n : ℕ) → l ≤ m → among (s + l) (m - l) n ≡ not (among s l n)
  among_others s l n le = by (cases_lt (distance count s n) l)
    where
      behind : (o : ℕ) → l ≤ o → IsCongruent m (s + o) n → IsCongruent m (s + l + (o - l)) n
      behind o from h = let e = h.same in record { first = h.first; second = h.second; same = omega arith }

      around : (o : ℕ) → o < l → IsCongruent m (s + o) n → IsCongruent m (s + l + (o + m - l)) n
      around o less h = let e = h.same in record { first = h.first; second = h.second + 1; same = omega arith }

      by : (distance count s n < l) ⊎ (l ≤ distance count s n) → among (s + l) (m - l) n ≡ not (among s l n)
      by (inl less) =
          let below = distance_below s n in
          let d = distance_small (s + l) n (distance count s n + m - l) (omega arith) (around (distance count s n) less (distance_sum s n)) in
          ap (λ k. nat_lt k (m - l)) d ∙ le-ltb (distance count s n + m - l) (m - l) (omega arith) ∙ ap not (sym (lt-ltb (distance count s n) l less))
      by (inr from) =
          let below = distance_below s n in
          let d = distance_small (s + l) n (distance count s n - l) (omega arith) (behind (distance count s n) from (distance_sum s n)) in
          ap (λ k. nat_lt k (m - l)) d ∙ lt-ltb (distance count s n - l) (m - l) (omega arith) ∙ ap not (sym (le-ltb (distance count s n) l from))

  -- -n is one of 1 - s - l, .., -s where n is one of s, .., s + l - 1
  pub among_opposite : (s l n k : ℕ) → l ≤ m → IsCongruent m (k + n) 0 → among (distance count (s + l) 1) l k ≡ among s l n
  among_opposite s l n k le none = by (cases_lt (distance count s n) l)
    where
      mirrored : (o t : ℕ) → o < l → IsCongruent m (s + o) n → IsCongruent m (s + l + t) 1 → IsCongruent m (t + (l - 1 - o)) k
      mirrored o t less h g =
          let e = h.same in
          let f = g.same in
          let d = none.same in
          record { first = g.first + h.second + none.second; second = g.second + h.first + none.first; same = omega arith }

      around : (o t : ℕ) → l ≤ o → o < m → IsCongruent m (s + o) n → IsCongruent m (s + l + t) 1 → IsCongruent m (t + (m - 1 - (o - l))) k
      around o t from small h g =
          let e = h.same in
          let f = g.same in
          let d = none.same in
          record { first = g.first + h.second + none.second; second = g.second + h.first + none.first + 1; same = omega arith }

      by : (distance count s n < l) ⊎ (l ≤ distance count s n) → among (distance count (s + l) 1) l k ≡ among s l n
      by (inl less) =
          let below = distance_below s n in
          let d =
          distance_small (distance count (s + l) 1) k (l - 1 - distance count s n) (omega arith) (mirrored (distance count s n) (distance count (s + l) 1) less (distance_sum s n) (distance_sum (s + l) 1)) in
          ap (λ j. nat_lt j l) d ∙ lt-ltb (l - 1 - distance count s n) l (omega arith) ∙ sym (lt-ltb (distance count s n) l less)
      by (inr from) =
          let below = distance_below s n in
          let d =
          distance_small (distance count (s + l) 1) k (m - 1 - (distance count s n - l)) (omega arith)
          (around (distance count s n) (distance count (s + l) 1) from below (distance_sum s n) (distance_sum (s + l) 1)) in
          ap (λ j. nat_lt j l) d ∙ le-ltb (m - 1 - (distance count s n - l)) l (omega arith) ∙ sym (le-ltb (distance count s n) l from)

  -- where u is at most l above s, the numbers from s and those from u are one row
  pub among_joined : (s l u k n : ℕ) → distance count s u ≤ l → among s (min m (max l (distance count s u + k))) n ≡ (among s l n || among u k n)
  among_joined s l u k n le = by (cases_lt (distance count s n) l) (cases_lt (distance count s n) (distance count s u + k))
    where
      above : (o d : ℕ) → d ≤ o → IsCongruent m (s + o) n → IsCongruent m (s + d) u → IsCongruent m (u + (o - d)) n
      above o d from h g =
          let e = h.same in
          let f = g.same in
          record { first = h.first + g.second; second = h.second + g.first; same = omega arith }

      from_u : l ≤ distance count s n → distance count u n ≡ distance count s n - distance count s u
      from_u from =
          let below = distance_below s n in
          distance_small u n (distance count s n - distance count s u) (omega arith) (above (distance count s n) (distance count s u) (omega arith) (distance_sum s n) (distance_sum s u))

      or_false : (a b : Bool) → a ≡ false → (a || b) ≡ b
      or_false true b e = absurd (cc)
      or_false false b e = refl

      or_true : (a b : Bool) → a ≡ true → (a || b) ≡ true
      or_true true b e = refl
      or_true false b e = absurd (cc)

      by : (distance count s n < l) ⊎ (l ≤ distance count s n) → (distance count s n < distance count s u + k) ⊎ (distance count s u + k ≤ distance count s n)
          → among s (min m (max l (distance count s u + k))) n ≡ (among s l n || among u k n)
      by (inl less) other =
          let below = distance_below s n in
          lt-ltb (distance count s n) (min m (max l (distance count s u + k))) (omega arith) ∙ sym (or_true (among s l n) (among u k n) (lt-ltb (distance count s n) l less))
      by (inr from) (inl within) =
          let below = distance_below s n in
          lt-ltb (distance count s n) (min m (max l (distance count s u + k))) (omega arith)
          ∙ sym (or_false (among s l n) (among u k n) (le-ltb (distance count s n) l from) ∙ ap (λ j. nat_lt j k) (from_u from) ∙ lt-ltb (distance count s n - distance count s u) k (omega arith))
      by (inr from) (inr beyond) =
          le-ltb (distance count s n) (min m (max l (distance count s u + k))) (omega arith)
          ∙ sym (or_false (among s l n) (among u k n) (le-ltb (distance count s n) l from) ∙ ap (λ j. nat_lt j k) (from_u from) ∙ le-ltb (distance count s n - distance count s u) k (omega arith))

  -- the numbers from s are among those from u
  pub among_inside : (s l u k n : ℕ) → distance count u s + l ≤ k → among s l n ≡ true → among u k n ≡ true
  among_inside s l u k n le e =
      let within = ltb-true (distance count s n) l e in
      let is = distance_is u n (distance count u s + distance count s n) (added (distance count u s) (distance count s n) (distance_sum u s) (distance_sum s n)) in
      let small = mod_least (distance count u s + distance count s n) m in
      ap (λ j. nat_lt j k) is ∙ lt-ltb ((distance count u s + distance count s n) % m) k (omega arith)
    where
      added : (a b : ℕ) → IsCongruent m (u + a) s → IsCongruent m (s + b) n → IsCongruent m (u + (a + b)) n
      added a b h g =
          let e = h.same in
          let f = g.same in
          record { first = h.first + g.first; second = h.second + g.second; same = omega arith }

  pub among_all : (u n : ℕ) → among u m n ≡ true
  among_all u n = lt-ltb (distance count u n) m (distance_below u n)

  -- ---- words

  -- f + c is the word n: f from -c on
  pub word_place : (f c n : ℕ) → IsCongruent m (f + c) n → n < m → distance count (opposite count c) f ≡ n
  word_place f c n h below = distance_small (opposite count c) f n below (turned (opposite count c) (distance_sum c 0))
    where
      turned : (o : ℕ) → IsCongruent m (c + o) 0 → IsCongruent m (o + n) f
      turned o g =
          let e = h.same in
          let d = g.same in
          record { first = g.first + h.second; second = g.second + h.first; same = omega arith }

  -- f + b is the word n: that it is above c
  pub above_place : (f b c n : ℕ) → IsCongruent m (f + b) n → n < m → among (distance count b (c + 1)) (m - 1 - c % m) f ≡ nat_lt (c % m) n
  above_place f b c n h below = by (cases_lt (c % m) n)
    where
      start : (t : ℕ) → IsCongruent m (b + t) (c + 1) → c % m < n → IsCongruent m (t + (n - (c % m + 1))) f
      start t g less =
          let e = h.same in
          let d = g.same in
          let a = (congruent_mod m c).same in
          record {
            first = g.first + h.second + (congruent_mod m c).second;
            second = g.second + h.first + (congruent_mod m c).first;
            same = omega arith;
          }

      around : (t : ℕ) → IsCongruent m (b + t) (c + 1) → n ≤ c % m → IsCongruent m (t + (n + m - (c % m + 1))) f
      around t g le =
          let e = h.same in
          let d = g.same in
          let a = (congruent_mod m c).same in
          record {
            first = g.first + h.second + (congruent_mod m c).second;
            second = g.second + h.first + (congruent_mod m c).first + 1;
            same = omega arith;
          }

      by : (c % m < n) ⊎ (n ≤ c % m) → among (distance count b (c + 1)) (m - 1 - c % m) f ≡ nat_lt (c % m) n
      by (inl less) =
          let small = mod_below c m positive in
          let d = distance_small (distance count b (c + 1)) f (n - (c % m + 1)) (omega arith) (start (distance count b (c + 1)) (distance_sum b (c + 1)) less) in
          ap (λ j. nat_lt j (m - 1 - c % m)) d ∙ lt-ltb (n - (c % m + 1)) (m - 1 - c % m) (omega arith) ∙ sym (lt-ltb (c % m) n less)
      by (inr le) =
          let small = mod_below c m positive in
          let d = distance_small (distance count b (c + 1)) f (n + m - (c % m + 1)) (omega arith) (around (distance count b (c + 1)) (distance_sum b (c + 1)) le) in
          ap (λ j. nat_lt j (m - 1 - c % m)) d ∙ le-ltb (n + m - (c % m + 1)) (m - 1 - c % m) (omega arith) ∙ sym (le-ltb (c % m) n le)

  -- k is n + d, modulo m: n is below k where nothing wraps
  pub order_place : (n k d : ℕ) → n < m → k < m → 0 < d → d < m → IsCongruent m (n + d) k → nat_lt n (m - d) ≡ nat_lt n k
  order_place n k d below_n below_k positive_d below_d h = by (cases_lt (n + d) m)
    where
      by : (n + d < m) ⊎ (m ≤ n + d) → nat_lt n (m - d) ≡ nat_lt n k
      by (inl less) =
          let is = congruent_equal m (n + d) k h less below_k in
          lt-ltb n (m - d) (omega arith) ∙ sym (lt-ltb n k (omega arith))
      by (inr from) =
          let is : n + d - m ≡ k = congruent_equal m (n + d - m) k (less_one h) (omega arith) below_k in
          le-ltb n (m - d) (omega arith) ∙ sym (le-ltb n k (omega arith))
        where
          less_one : IsCongruent m (n + d) k → IsCongruent m (n + d - m) k
          less_one g = let e = g.same in record { first = g.first + 1; second = g.second; same = omega arith }
