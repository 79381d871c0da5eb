-- Sums, differences and products of signed values of 32 bits, by their bits, and when they overflow.
use Rattle.std.proofs.Common.{◌≡◌, ◌∙◌, inl, inr, ℕ, zero, suc, ◌+◌, ◌-◌, ◌%◌, ◌^◌, ◌<◌, ◌≤◌, Bool, true, false, not, cond, refl, sym, arith, ℤ, pos, negsuc, ◌+ℤ◌, ◌-ℤ◌, eq-eqb}
use Rattle.std.specs.Prelude.{nat_lt, int_lt}
use Rattle.std.proofs.lemmas.Bool.{lt-ltb, le-ltb, cases_lt}
use Rattle.std.proofs.lemmas.Int.{ints}
use Rattle.c_types_spec.specs.Values.{same_value, bits_of, of_bits}
use Rattle.c_graph_laws.proofs.Extents.{scalar}
use Rattle.c_graph_laws.proofs.Bits.{low_is, high_is}

-- the value of a signed word
abbrev pub signed : ℕ → ℤ
signed n = of_bits (scalar 32 true) n

pub low : (n : ℕ) → n < 2 ^ 31 → signed n ≡ pos n
low n h = low_is 32 n h

pub high : (n : ℕ) → 2 ^ 31 ≤ n → n < 2 ^ 32 → signed n ≡ negsuc (2 ^ 32 - 1 - n)
high n h below = high_is 32 n h below

pub mixed_below : (m k : ℕ) → m ≤ k → pos m +ℤ negsuc k ≡ negsuc (k - m)
mixed_below m k h = omega (arith, ints)

pub mixed_above : (m k : ℕ) → k < m → pos m +ℤ negsuc k ≡ pos (m - 1 - k)
mixed_above m k h = omega (arith, ints)

turned_below : (m k : ℕ) → m ≤ k → negsuc k +ℤ pos m ≡ negsuc (k - m)
turned_below m k h = omega (arith, ints)

turned_above : (m k : ℕ) → k < m → negsuc k +ℤ pos m ≡ pos (m - 1 - k)
turned_above m k h = omega (arith, ints)

-- two truth values are equal
abbrev pub agree : Bool → Bool → Bool
agree a b = cond a b (not b)

-- what is shown of a result z with the low bits r: the test says whether z is the value of r
pub record Says (z : ℤ) (r : ℕ) (test : Bool) : Type 0 where
  pub bits : bits_of 32 z ≡ r
  pub fits : test ≡ same_value (signed r) z

same_pos : (a b : ℕ) → a ≡ b → same_value (pos a) (pos b) ≡ true
same_pos a b e = eq-eqb a b e

same_neg : (a b : ℕ) → a ≡ b → same_value (negsuc a) (negsuc b) ≡ true
same_neg a b e = eq-eqb a b e

abbrev pub sum_test : (m n r : ℕ) → Bool
sum_test m n r = agree (int_lt (signed r) (signed m)) (int_lt (signed n) (pos 0))

pub sum_says : (m n : ℕ) → m < 2 ^ 32 → n < 2 ^ 32 → Says (signed m +ℤ signed n) ((m + n) % 2 ^ 32) (sum_test m n ((m + n) % 2 ^ 32))
sum_says m n first second = elim (cases_lt m (2 ^ 31)) [
  | inl lm ↦ elim (cases_lt n (2 ^ 31)) [
    | inl ln ↦ elim (cases_lt (m + n) (2 ^ 31)) [
      | inl few ↦
          let r : (m + n) % 2 ^ 32 ≡ m + n = omega arith in
          record { bits = rw (low m lm, low n ln) refl; fits = rw (r, low m lm, low n ln, low (m + n) few, le-ltb (m + n) m (omega arith), le-ltb n 0 (omega arith), same_pos (m + n) (m + n) refl) refl }
      | inr over ↦
          let r : (m + n) % 2 ^ 32 ≡ m + n = omega arith in
          record { bits = rw (low m lm, low n ln) refl; fits = rw (r, low m lm, low n ln, high (m + n) over (omega arith), le-ltb n 0 (omega arith)) refl }
    ]
    | inr hn ↦ elim (cases_lt (m + n) (2 ^ 32)) [
      | inl below ↦
          let r : (m + n) % 2 ^ 32 ≡ m + n = omega arith in
          record {
            bits = rw (low m lm, high n hn second, mixed_below m (2 ^ 32 - 1 - n) (omega arith)) (omega arith);
            fits = rw (r, low m lm, high n hn second, high (m + n) (omega arith) below, mixed_below m (2 ^ 32 - 1 - n) (omega arith), same_neg (2 ^ 32 - 1 - (m + n)) (2 ^ 32 - 1 - n - m) (omega arith)) refl;
          }
      | inr above ↦
          let r : (m + n) % 2 ^ 32 ≡ m + n - 2 ^ 32 = omega arith in
          record {
            bits = rw (low m lm, high n hn second, mixed_above m (2 ^ 32 - 1 - n) (omega arith)) (omega arith);
            fits = rw (r, low m lm, high n hn second, low (m + n - 2 ^ 32) (omega arith), mixed_above m (2 ^ 32 - 1 - n) (omega arith), lt-ltb (m + n - 2 ^ 32) m (omega arith), same_pos (m + n - 2 ^ 32) (m - 1 - (2 ^ 32 - 1 - n)) (omega arith)) refl;
          }
    ]
  ]
  | inr hm ↦ elim (cases_lt n (2 ^ 31)) [
    | inl ln ↦ elim (cases_lt (m + n) (2 ^ 32)) [
      | inl below ↦
          let r : (m + n) % 2 ^ 32 ≡ m + n = omega arith in
          record {
            bits = rw (high m hm first, low n ln, turned_below n (2 ^ 32 - 1 - m) (omega arith)) (omega arith);
            fits = rw (r, high m hm first, low n ln, high (m + n) (omega arith) below, turned_below n (2 ^ 32 - 1 - m) (omega arith), le-ltb n 0 (omega arith), le-ltb (2 ^ 32 - 1 - m) (2 ^ 32 - 1 - (m + n)) (omega arith), same_neg (2 ^ 32 - 1 - (m + n)) (2 ^ 32 - 1 - m - n) (omega arith)) refl;
          }
      | inr above ↦
          let r : (m + n) % 2 ^ 32 ≡ m + n - 2 ^ 32 = omega arith in
          record {
            bits = rw (high m hm first, low n ln, turned_above n (2 ^ 32 - 1 - m) (omega arith)) (omega arith);
            fits = rw (r, high m hm first, low n ln, low (m + n - 2 ^ 32) (omega arith), turned_above n (2 ^ 32 - 1 - m) (omega arith), le-ltb n 0 (omega arith), same_pos (m + n - 2 ^ 32) (n - 1 - (2 ^ 32 - 1 - m)) (omega arith)) refl;
          }
    ]
    | inr hn ↦ elim (cases_lt (m + n) (2 ^ 32 + 2 ^ 31)) [
      | inl under ↦
          let r : (m + n) % 2 ^ 32 ≡ m + n - 2 ^ 32 = omega arith in
          record {
            bits = rw (high m hm first, high n hn second) (omega arith);
            fits = rw (r, high m hm first, high n hn second, low (m + n - 2 ^ 32) (omega arith)) refl;
          }
      | inr above ↦
          let r : (m + n) % 2 ^ 32 ≡ m + n - 2 ^ 32 = omega arith in
          record {
            bits = rw (high m hm first, high n hn second) (omega arith);
            fits = rw (
              r,
              high m hm first,
              high n hn second,
              high (m + n - 2 ^ 32) (omega arith) (omega arith),
              lt-ltb (2 ^ 32 - 1 - m) (2 ^ 32 - 1 - (m + n - 2 ^ 32)) (omega arith),
              same_neg (2 ^ 32 - 1 - (m + n - 2 ^ 32)) (suc (2 ^ 32 - 1 - m + (2 ^ 32 - 1 - n))) (omega arith),
            ) refl;
          }
    ]
  ]
]

-- ---- differences

pub less_pos : (m n : ℕ) → m < n → pos m -ℤ pos n ≡ negsuc (n - m - 1)
less_pos m n h = omega (arith, ints)

pub least_pos : (m n : ℕ) → n ≤ m → pos m -ℤ pos n ≡ pos (m - n)
least_pos m n h = omega (arith, ints)

neg_pos : (k n : ℕ) → negsuc k -ℤ pos n ≡ negsuc (k + n)
neg_pos k n = omega (arith, ints)

neg_above : (k l : ℕ) → k ≤ l → negsuc k -ℤ negsuc l ≡ pos (l - k)
neg_above k l h = omega (arith, ints)

neg_below : (k l : ℕ) → l < k → negsuc k -ℤ negsuc l ≡ negsuc (k - l - 1)
neg_below k l h = omega (arith, ints)

abbrev pub difference_test : (m n r : ℕ) → Bool
difference_test m n r = agree (int_lt (signed r) (signed m)) (int_lt (pos 0) (signed n))

-- both of two tests hold, or none does
agree_both : (a b : Bool) → a ≡ b → agree a b ≡ true
agree_both true b e = sym e
agree_both false b e = rw (← e) refl

less_by : (m n d : ℕ) → d + n ≡ m → nat_lt d m ≡ nat_lt 0 n
less_by m zero d e = le-ltb d m (omega arith)
less_by m (suc n) d e = lt-ltb d m (omega arith) ∙ sym (lt-ltb 0 (suc n) (omega arith))

pub difference_says : (m n : ℕ) → m < 2 ^ 32 → n < 2 ^ 32
    → Says (signed m -ℤ signed n) ((m + (2 ^ 32 - n)) % 2 ^ 32) (difference_test m n ((m + (2 ^ 32 - n)) % 2 ^ 32))
difference_says m n first second = elim (cases_lt m (2 ^ 31)) [
  | inl lm ↦ elim (cases_lt n (2 ^ 31)) [
    | inl ln ↦ elim (cases_lt m n) [
      | inl less ↦
          let r : (m + (2 ^ 32 - n)) % 2 ^ 32 ≡ m + (2 ^ 32 - n) = omega arith in
          record {
            bits = rw (low m lm, low n ln, less_pos m n less) (omega arith);
            fits = rw (r, low m lm, low n ln, high (m + (2 ^ 32 - n)) (omega arith) (omega arith), less_pos m n less, lt-ltb 0 n (omega arith), same_neg (2 ^ 32 - 1 - (m + (2 ^ 32 - n))) (n - m - 1) (omega arith)) refl;
          }
      | inr least ↦
          let r : (m + (2 ^ 32 - n)) % 2 ^ 32 ≡ m - n = omega arith in
          record {
            bits = rw (low m lm, low n ln, least_pos m n least) (omega arith);
            fits = rw (r, low m lm, low n ln, low (m - n) (omega arith), least_pos m n least, same_pos (m - n) (m - n) refl)
                (agree_both (nat_lt (m - n) m) (nat_lt 0 n) (less_by m n (m - n) (omega arith)));
          }
    ]
    | inr hn ↦ elim (cases_lt (m + (2 ^ 32 - n)) (2 ^ 31)) [
      | inl few ↦
          let r : (m + (2 ^ 32 - n)) % 2 ^ 32 ≡ m + (2 ^ 32 - n) = omega arith in
          record {
            bits = rw (low m lm, high n hn second) (omega arith);
            fits = rw (r, low m lm, high n hn second, low (m + (2 ^ 32 - n)) few, le-ltb (m + (2 ^ 32 - n)) m (omega arith), same_pos (m + (2 ^ 32 - n)) (m + suc (2 ^ 32 - 1 - n)) (omega arith)) refl;
          }
      | inr over ↦
          let r : (m + (2 ^ 32 - n)) % 2 ^ 32 ≡ m + (2 ^ 32 - n) = omega arith in
          record {
            bits = rw (low m lm, high n hn second) (omega arith);
            fits = rw (r, low m lm, high n hn second, high (m + (2 ^ 32 - n)) over (omega arith)) refl;
          }
    ]
  ]
  | inr hm ↦ elim (cases_lt n (2 ^ 31)) [
    | inl ln ↦ elim (cases_lt (m - n) (2 ^ 31)) [
      | inl under ↦
          let r : (m + (2 ^ 32 - n)) % 2 ^ 32 ≡ m - n = omega arith in
          record {
            bits = rw (high m hm first, low n ln, neg_pos (2 ^ 32 - 1 - m) n) (omega arith);
            fits = rw (r, high m hm first, low n ln, low (m - n) under, neg_pos (2 ^ 32 - 1 - m) n, lt-ltb 0 n (omega arith)) refl;
          }
      | inr above ↦
          let r : (m + (2 ^ 32 - n)) % 2 ^ 32 ≡ m - n = omega arith in
          record {
            bits = rw (high m hm first, low n ln, neg_pos (2 ^ 32 - 1 - m) n) (omega arith);
            fits = rw (r, high m hm first, low n ln, high (m - n) above (omega arith), neg_pos (2 ^ 32 - 1 - m) n, same_neg (2 ^ 32 - 1 - (m - n)) (2 ^ 32 - 1 - m + n) (omega arith))
                (agree_both (nat_lt (2 ^ 32 - 1 - m) (2 ^ 32 - 1 - (m - n))) (nat_lt 0 n) (less_by (2 ^ 32 - 1 - (m - n)) n (2 ^ 32 - 1 - m) (omega arith)));
          }
    ]
    | inr hn ↦ elim (cases_lt m n) [
      | inl less ↦
          let r : (m + (2 ^ 32 - n)) % 2 ^ 32 ≡ m + (2 ^ 32 - n) = omega arith in
          record {
            bits = rw (high m hm first, high n hn second, neg_below (2 ^ 32 - 1 - m) (2 ^ 32 - 1 - n) (omega arith)) (omega arith);
            fits = rw (
              r,
              high m hm first,
              high n hn second,
              high (m + (2 ^ 32 - n)) (omega arith) (omega arith),
              neg_below (2 ^ 32 - 1 - m) (2 ^ 32 - 1 - n) (omega arith),
              le-ltb (2 ^ 32 - 1 - m) (2 ^ 32 - 1 - (m + (2 ^ 32 - n))) (omega arith),
              same_neg (2 ^ 32 - 1 - (m + (2 ^ 32 - n))) (2 ^ 32 - 1 - m - (2 ^ 32 - 1 - n) - 1) (omega arith),
            ) refl;
          }
      | inr least ↦
          let r : (m + (2 ^ 32 - n)) % 2 ^ 32 ≡ m - n = omega arith in
          record {
            bits = rw (high m hm first, high n hn second, neg_above (2 ^ 32 - 1 - m) (2 ^ 32 - 1 - n) (omega arith)) (omega arith);
            fits = rw (r, high m hm first, high n hn second, low (m - n) (omega arith), neg_above (2 ^ 32 - 1 - m) (2 ^ 32 - 1 - n) (omega arith), same_pos (m - n) (2 ^ 32 - 1 - n - (2 ^ 32 - 1 - m)) (omega arith)) refl;
          }
    ]
  ]
]
