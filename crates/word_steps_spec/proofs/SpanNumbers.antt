-- Numbers in spans and between integers: sums, products, cuts, quotients, and words that fit.
use Rattle.std.proofs.Common.{◌≡◌, ℕ, ◌+◌, ◌-◌, ◌*◌, ◌/◌, ◌%◌, ◌^◌, ◌<◌, ◌≤◌, Bool, true, false, cond, ◌⊎◌, inl, inr, refl, sym, ap, ◌∙◌, arith, ltb-true, leb-true, leb-false}
use Rattle.std.specs.Prelude.{◌&&◌, nat_lt, nat_le, min, max}
use Rattle.std.proofs.lemmas.Bool.{and_parts, cases_lt}
use Rattle.std.proofs.lemmas.Nat.{pow_pos, pow-add, mod_below, mul-le, div-add-mod', mod-mul-add}
use Rattle.std.proofs.Math.Nat.{div-mul-le_self}
use Rattle.term_core_spec.specs.Value.{is_negative, ones_if, low_bits}
use Rattle.term_norm_spec.proofs.Numbers.{mod-small}
use Rattle.word_steps_spec.specs.Order.{Bounds}
use Rattle.word_steps_spec.specs.Ranges.{distance, opposite}
use Rattle.word_steps_spec.specs.Spans.{Span, all_words, capped, shorter, bounds_span, unsigned_bounds, Interval, as_integers, as_span, sum_of, scaled_by, negative_of, times_coefficient, corner, product_of, sign_extended_span, quotient_span, span_from, both_spans, cut_at, cut}
use Rattle.word_steps_spec.proofs.Congruence.{IsCongruent, congruent_same, congruent_sym, congruent_then, congruent_plus, congruent_times, congruent_product, congruent_mod, congruent_equal}
use Rattle.word_steps_spec.proofs.Distances.{mod_least, distance_sum}
use Rattle.word_steps_spec.proofs.BoundsHold.{IsWithin, div_mono}

-- n is one of the words of a span
pub record IsIn (count n : ℕ) (s : Span) : Type 0 where
  pub offset : ℕ
  pub within : offset ≤ s.width
  pub same : IsCongruent (2 ^ count) (s.first + offset) n

-- n is congruent to one of some integers
pub record IsBetween (count n : ℕ) (i : Interval) : Type 0 where
  pub place : ℕ
  pub least : i.least ≤ place
  pub greatest : place ≤ i.greatest
  pub same : IsCongruent (2 ^ count) (n + i.down) place

times_sum : (a b c : ℕ) → (a + b) * c ≡ a * c + b * c
times_sum a b c = omega arith

swap : (a b : ℕ) → a * b ≡ b * a
swap a b = omega arith

-- ---- products by the ends

-- between two numbers, one of them moving up and one down
abbrev edge : (k g a b : ℕ) → ℕ
edge k g a b = k * a + (g - k) * b

edge_up : (k g b e : ℕ) → k ≤ g → edge k g (b + e) b ≡ g * b + k * e
edge_up k g b e le = let split : g ≡ k + (g - k) = omega arith in spread k (g - k) b e ∙ ap (λ n. n * b + k * e) (sym split)
  where
    spread : (k r b e : ℕ) → k * (b + e) + r * b ≡ (k + r) * b + k * e
    spread k r b e = omega arith

edge_down : (k g a e : ℕ) → k ≤ g → edge k g a (a + e) ≡ g * a + (g - k) * e
edge_down k g a e le = let split : g ≡ k + (g - k) = omega arith in spread k (g - k) a e ∙ ap (λ n. n * a + (g - k) * e) (sym split)
  where
    spread : (k r a e : ℕ) → k * a + r * (a + e) ≡ (k + r) * a + r * e
    spread k r a e = omega arith

record AreEnds (low high n : ℕ) : Type 0 where
  pub least : min low high ≤ n
  pub greatest : n ≤ max low high

edge_ends : (l k g a b : ℕ) → l ≤ k → k ≤ g → AreEnds (edge l g a b) (edge g g a b) (edge k g a b)
edge_ends l k g a b from to = by (cases_lt a b)
  where
    by : (a < b) ⊎ (b ≤ a) → AreEnds (edge l g a b) (edge g g a b) (edge k g a b)
    by (inl less) =
        let split : b ≡ a + (b - a) = omega arith in
        let at : (j : ℕ) → j ≤ g → edge j g a b ≡ g * a + (g - j) * (b - a) = λ j le. ap (edge j g a) split ∙ edge_down j g a (b - a) le in
        let e1 = at l (omega arith) in
        let e2 = at k to in
        let e3 = at g (omega arith) in
        let m1 = mul-le (g - k) (b - a) (g - l) (b - a) (omega arith) (omega arith) in
        let m2 = mul-le (g - g) (b - a) (g - k) (b - a) (omega arith) (omega arith) in
        ends (edge l g a b) (edge g g a b) (edge k g a b) (g * a) ((g - l) * (b - a)) ((g - g) * (b - a)) ((g - k) * (b - a)) e1 e3 e2 m1 m2
      where
        ends : (x y z c p q r : ℕ) → x ≡ c + p → y ≡ c + q → z ≡ c + r → r ≤ p → q ≤ r → AreEnds x y z
        ends x y z c p q r e f h m n = record { least = omega arith; greatest = omega arith }
    by (inr le) =
        let split : a ≡ b + (a - b) = omega arith in
        let at : (j : ℕ) → j ≤ g → edge j g a b ≡ g * b + j * (a - b) = λ j less. ap (λ n. edge j g n b) split ∙ edge_up j g b (a - b) less in
        let e1 = at l (omega arith) in
        let e2 = at k to in
        let e3 = at g (omega arith) in
        let m1 = mul-le l (a - b) k (a - b) from (omega arith) in
        let m2 = mul-le k (a - b) g (a - b) to (omega arith) in
        ends (edge l g a b) (edge g g a b) (edge k g a b) (g * b) (l * (a - b)) (g * (a - b)) (k * (a - b)) e1 e3 e2 m1 m2
      where
        ends : (x y z c p q r : ℕ) → x ≡ c + p → y ≡ c + q → z ≡ c + r → p ≤ r → r ≤ q → AreEnds x y z
        ends x y z c p q r e f h m n = record { least = omega arith; greatest = omega arith }

moved_ends : (x y z u v w c : ℕ) → u ≡ x + c → v ≡ y + c → w ≡ z + c → AreEnds x y z → AreEnds u v w
moved_ends x y z u v w c e f h is =
    let a = is.least in
    let b = is.greatest in
    record { least = omega arith; greatest = omega arith }

module _ (i j : Interval) where
  first_ends : (k l : ℕ) → i.least ≤ k → k ≤ i.greatest → AreEnds (corner i j i.least l) (corner i j i.greatest l) (corner i j k l)
  first_ends k l from to =
      moved_ends (edge i.least i.greatest l j.down) (edge i.greatest i.greatest l j.down) (edge k i.greatest l j.down)
      (corner i j i.least l) (corner i j i.greatest l) (corner i j k l) (i.down * j.down + (j.greatest - l) * i.down)
      (apart i.least) (apart i.greatest) (apart k) (edge_ends i.least k i.greatest l j.down from to)
    where
      gathered : (a b c d : ℕ) → a + b + c + d ≡ a + c + (b + d)
      gathered a b c d = omega arith

      apart : (n : ℕ) → corner i j n l ≡ edge n i.greatest l j.down + (i.down * j.down + (j.greatest - l) * i.down)
      apart n = gathered (n * l) (i.down * j.down) ((i.greatest - n) * j.down) ((j.greatest - l) * i.down)

  second_ends : (k l : ℕ) → j.least ≤ l → l ≤ j.greatest → AreEnds (corner i j k j.least) (corner i j k j.greatest) (corner i j k l)
  second_ends k l from to =
      moved_ends (edge j.least j.greatest k i.down) (edge j.greatest j.greatest k i.down) (edge l j.greatest k i.down)
      (corner i j k j.least) (corner i j k j.greatest) (corner i j k l) (i.down * j.down + (i.greatest - k) * j.down)
      (apart j.least) (apart j.greatest) (apart l) (edge_ends j.least l j.greatest k i.down from to)
    where
      gathered : (a b c d e : ℕ) → a ≡ e → a + b + c + d ≡ e + d + (b + c)
      gathered a b c d e same = omega arith

      apart : (n : ℕ) → corner i j k n ≡ edge n j.greatest k i.down + (i.down * j.down + (i.greatest - k) * j.down)
      apart n = gathered (k * n) (i.down * j.down) ((i.greatest - k) * j.down) ((j.greatest - n) * i.down) (n * k) (swap k n)

  corners : (k l : ℕ) → i.least ≤ k → k ≤ i.greatest → j.least ≤ l → l ≤ j.greatest
      → ((product_of i j).least ≤ corner i j k l) × (corner i j k l ≤ (product_of i j).greatest)
  corners k l f1 t1 f2 t2 =
      let outer = first_ends k l f1 t1 in
      let low = second_ends i.least l f2 t2 in
      let high = second_ends i.greatest l f2 t2 in (
        least_of (corner i j i.least j.least) (corner i j i.least j.greatest) (corner i j i.greatest j.least) (corner i j i.greatest j.greatest)
            (corner i j i.least l) (corner i j i.greatest l) (corner i j k l) low.least high.least outer.least,
        greatest_of (corner i j i.least j.least) (corner i j i.least j.greatest) (corner i j i.greatest j.least) (corner i j i.greatest j.greatest)
            (corner i j i.least l) (corner i j i.greatest l) (corner i j k l) low.greatest high.greatest outer.greatest,
      )
    where
      least_of : (a b c d p q x : ℕ) → min a b ≤ p → min c d ≤ q → min p q ≤ x → min (min a b) (min c d) ≤ x
      least_of a b c d p q x e f h = omega arith

      greatest_of : (a b c d p q x : ℕ) → p ≤ max a b → q ≤ max c d → x ≤ max p q → x ≤ max (max a b) (max c d)
      greatest_of a b c d p q x e f h = omega arith

-- ---- words that fit

pub half_power : (n : ℕ) → 0 < n → 2 ^ n ≡ 2 * 2 ^ (n - 1)
half_power n some = let one : n ≡ 1 + (n - 1) = omega arith in ap (λ k. 2 ^ k) one ∙ pow-add 2 1 (n - 1)

-- the low bits of n, and the sign above them, are n
pub signed_back : (w l n : ℕ) → 0 < l → l ≤ w → n < 2 ^ w → (n + 2 ^ (l - 1)) % 2 ^ w < 2 ^ l → low_bits w (n % 2 ^ l + ones_if (is_negative l (n % 2 ^ l)) l w) ≡ n
signed_back w l n some short below fits = by (cases_lt (n + 2 ^ (l - 1)) (2 ^ w))
  where
    double : 2 ^ l ≡ 2 * 2 ^ (l - 1)
    double = half_power l some

    split : 2 ^ w ≡ 2 ^ (w - l) * 2 ^ l
    split = let sum : w ≡ (w - l) + l = omega arith in ap (λ k. 2 ^ k) sum ∙ pow-add 2 (w - l) l

    large : 2 ^ l ≤ 2 ^ w
    large = let s = split in let p = pow_pos (w - l) in let le = mul-le 1 (2 ^ l) (2 ^ (w - l)) (2 ^ l) p (omega arith) in omega arith

    positive : n < 2 ^ (l - 1) → low_bits w (n % 2 ^ l + ones_if (is_negative l (n % 2 ^ l)) l w) ≡ n
    positive less = from (is_negative l (n % 2 ^ l)) refl
      where
        small : n % 2 ^ l ≡ n
        small = let d = double in mod-small n (2 ^ l) (omega arith)

        plain : (a : ℕ) → a + 0 ≡ a
        plain a = omega arith

        from : (test : Bool) → is_negative l (n % 2 ^ l) ≡ test → low_bits w (n % 2 ^ l + ones_if test l w) ≡ n
        from true e = let le = leb-true (2 ^ (l - 1)) (n % 2 ^ l) e in let s = small in absurd (omega arith)
        from false e = ap (low_bits w) (plain (n % 2 ^ l) ∙ small) ∙ mod-small n (2 ^ w) below

    negative : (p : ℕ) → p < 2 ^ (l - 1) → n + 2 ^ (l - 1) ≡ 2 ^ w + p → low_bits w (n % 2 ^ l + ones_if (is_negative l (n % 2 ^ l)) l w) ≡ n
    negative p less e = from (is_negative l (n % 2 ^ l)) refl
      where
        -- n is a multiple of 2 ^ l and what is from its half on
        parts : n ≡ (2 ^ (w - l) - 1) * 2 ^ l + (2 ^ (l - 1) + p)
        parts =
            let s = split in
            let d = double in
            let one : 2 ^ (w - l) ≡ (2 ^ (w - l) - 1) + 1 = let q = pow_pos (w - l) in omega arith in
            let product = ap (λ k. k * 2 ^ l) one ∙ times_sum (2 ^ (w - l) - 1) 1 (2 ^ l) in
            omega arith

        rest : n % 2 ^ l ≡ 2 ^ (l - 1) + p
        rest = let d = double in ap (λ k. k % 2 ^ l) parts ∙ mod-mul-add (2 ^ (w - l) - 1) (2 ^ l) (2 ^ (l - 1) + p) (omega arith)

        from : (test : Bool) → is_negative l (n % 2 ^ l) ≡ test → low_bits w (n % 2 ^ l + ones_if test l w) ≡ n
        from true f =
            let r = rest in
            let d = double in
            let g = large in
            let whole : n % 2 ^ l + (2 ^ w - 2 ^ l) ≡ n = omega arith in
            ap (low_bits w) whole ∙ mod-small n (2 ^ w) below
        from false f = let less2 = leb-false (2 ^ (l - 1)) (n % 2 ^ l) f in let r = rest in absurd (omega arith)

    by : (n + 2 ^ (l - 1) < 2 ^ w) ⊎ (2 ^ w ≤ n + 2 ^ (l - 1)) → low_bits w (n % 2 ^ l + ones_if (is_negative l (n % 2 ^ l)) l w) ≡ n
    by (inl less) = let small = mod-small (n + 2 ^ (l - 1)) (2 ^ w) less in let d = double in positive (omega arith)
    by (inr from) =
        let d = double in
        let g = large in
        let sum : n + 2 ^ (l - 1) ≡ 1 * 2 ^ w + (n + 2 ^ (l - 1) - 2 ^ w) = omega arith in
        negative (n + 2 ^ (l - 1) - 2 ^ w) (omega arith) (omega arith)

module _ (count : ℕ) where
  abbrev m : ℕ
  m = 2 ^ count

  positive_m : 0 < m
  positive_m = pow_pos count

  -- ---- spans

  pub in_all : (n : ℕ) → n < m → IsIn count n (all_words count)
  in_all n below = record { offset = n; within = omega arith; same = congruent_same m (0 + n) n (omega arith) }

  pub in_capped : (n : ℕ) (s : Span) → n < m → IsIn count n s → IsIn count n (capped count s)
  in_capped n s below is = by (nat_lt s.width m)
    where
      by : (test : Bool) → IsIn count n (cond test s (all_words count))
      by true = is
      by false = in_all n below

  pub in_shorter : (n : ℕ) (s t : Span) → IsIn count n s → IsIn count n t → IsIn count n (shorter s t)
  in_shorter n s t h g = by (nat_le s.width t.width)
    where
      by : (test : Bool) → IsIn count n (cond test s t)
      by true = h
      by false = g

  pub in_bounds : (n : ℕ) (b : Bounds) → IsWithin n b → IsIn count n (bounds_span b)
  in_bounds n b h =
      let l = h.least in
      let g = h.greatest in
      record { offset = n - b.least; within = omega arith; same = congruent_same m (b.least + (n - b.least)) n (omega arith) }

  -- counted from the first
  from_first : (n f : ℕ) (s : Span) (is : IsIn count n s) → IsCongruent m f s.first → IsCongruent m (f + is.offset) n
  from_first n f s is h =
      congruent_then m (f + is.offset) (s.first + is.offset) n (congruent_plus m f s.first is.offset is.offset h (congruent_same m is.offset is.offset refl)) is.same

  pub unsigned_within : (n : ℕ) (s : Span) → n < m → IsIn count n s → IsWithin n (unsigned_bounds count s)
  unsigned_within n s below is = by (nat_lt (s.first % m + s.width) m) refl
    where
      by : (test : Bool) → nat_lt (s.first % m + s.width) m ≡ test
          → IsWithin n (cond test (record { least = s.first % m; greatest = s.first % m + s.width }) (record { least = 0; greatest = m - 1 }))
      by true e =
          let less = ltb-true (s.first % m + s.width) m e in
          let w = is.within in
          let same : s.first % m + is.offset ≡ n = congruent_equal m (s.first % m + is.offset) n (from_first n (s.first % m) s is (congruent_mod m s.first)) (omega arith) below in
          record { least = omega arith; greatest = omega arith }
      by false e = record { least = omega arith; greatest = omega arith }

  -- ---- integers

  pub integers_in : (n : ℕ) (s : Span) → IsIn count n s → IsBetween count n (as_integers count s)
  integers_in n s is = by (nat_lt (s.first % m) (2 ^ (count - 1)))
    where
      here : IsCongruent m (s.first % m + is.offset) n
      here = from_first n (s.first % m) s is (congruent_mod m s.first)

      by : (test : Bool) → IsBetween count n (cond test (record { down = 0; least = s.first % m; greatest = s.first % m + s.width }) (record { down = m - s.first % m; least = 0; greatest = s.width }))
      by true =
          let w = is.within in
          record {
            place = s.first % m + is.offset;
            least = omega arith;
            greatest = omega arith;
            same = let e = here.same in record { first = here.second; second = here.first; same = omega arith };
          }
      by false =
          let w = is.within in
          let below = mod_below s.first m positive_m in
          record {
            place = is.offset;
            least = omega arith;
            greatest = w;
            same = moved (s.first % m) (m - s.first % m) is.offset (omega arith) here;
          }
        where
          moved : (f r o : ℕ) → f + r ≡ m → IsCongruent m (f + o) n → IsCongruent m (n + r) o
          moved f r o e h = let g = h.same in record { first = h.second; second = h.first + 1; same = omega arith }

  pub span_in : (n : ℕ) (i : Interval) → n < m → IsBetween count n i → IsIn count n (as_span count i)
  span_in n i below is =
      let l = is.least in
      let g = is.greatest in
      in_capped n (record { first = distance count i.down i.least; width = i.greatest - i.least }) below (record {
        offset = is.place - i.least;
        within = omega arith;
        same = moved (distance count i.down i.least) (is.place - i.least) (omega arith) (distance_sum count i.down i.least) is.same;
      })
    where
      moved : (d o : ℕ) → i.least + o ≡ is.place → IsCongruent m (i.down + d) i.least → IsCongruent m (n + i.down) is.place → IsCongruent m (d + o) n
      moved d o e h g =
          let e1 = h.same in
          let e2 = g.same in
          record { first = h.first + g.second; second = h.second + g.first; same = omega arith }

  pub between_same : (a b : ℕ) (i : Interval) → IsCongruent m a b → IsBetween count a i → IsBetween count b i
  between_same a b i h is = record {
    place = is.place;
    least = is.least;
    greatest = is.greatest;
    same =
        congruent_then m (b + i.down) (a + i.down) is.place
        (congruent_plus m b a i.down i.down (congruent_sym m a b h) (congruent_same m i.down i.down refl)) is.same;
  }

  pub sum_in : (a b : ℕ) (i j : Interval) → IsBetween count a i → IsBetween count b j → IsBetween count (a + b) (sum_of i j)
  sum_in a b i j h g =
      let l1 = h.least in
      let l2 = h.greatest in
      let l3 = g.least in
      let l4 = g.greatest in
      record {
        place = h.place + g.place;
        least = omega arith;
        greatest = omega arith;
        same =
            congruent_then m (a + b + (i.down + j.down)) (a + i.down + (b + j.down)) (h.place + g.place)
            (congruent_same m (a + b + (i.down + j.down)) (a + i.down + (b + j.down)) (omega arith)) (congruent_plus m (a + i.down) h.place (b + j.down) g.place h.same g.same);
      }

  scaled_in : (c a : ℕ) (i : Interval) → IsBetween count a i → IsBetween count (c * a) (scaled_by c i)
  scaled_in c a i is = record {
    place = c * is.place;
    least = mul-le c i.least c is.place (omega arith) is.least;
    greatest = mul-le c is.place c i.greatest (omega arith) is.greatest;
    same =
        congruent_then m (c * a + c * i.down) (c * (a + i.down)) (c * is.place) (congruent_same m (c * a + c * i.down) (c * (a + i.down)) (spread c a i.down))
        (congruent_times m c (a + i.down) is.place is.same);
  }
    where
      spread : (c a d : ℕ) → c * a + c * d ≡ c * (a + d)
      spread c a d = omega arith

  negative_in : (a b : ℕ) (i : Interval) → IsCongruent m (a + b) 0 → IsBetween count a i → IsBetween count b (negative_of i)
  negative_in a b i none is =
      let l = is.least in
      let g = is.greatest in
      record {
        place = i.down + (i.greatest - is.place);
        least = omega arith;
        greatest = omega arith;
        same =
            let e1 = none.same in
            let e2 = is.same.same in
            record { first = none.first + is.same.second; second = none.second + is.same.first; same = omega arith };
      }

  pub coefficient_in : (c a : ℕ) (i : Interval) → IsBetween count a i → IsBetween count (c * a) (times_coefficient count c i)
  coefficient_in c a i is = by (nat_lt (c % m) (2 ^ (count - 1)))
    where
      spread : (o c a : ℕ) → (c + o) * a ≡ o * a + c * a
      spread o c a = omega arith

      by : (test : Bool) → IsBetween count (c * a) (cond test (scaled_by (c % m) i) (negative_of (scaled_by (opposite count c) i)))
      by true =
          between_same (c % m * a) (c * a) (scaled_by (c % m) i) (congruent_product m (c % m) c a a (congruent_mod m c) (congruent_same m a a refl)) (scaled_in (c % m) a i is)
      by false =
          negative_in (opposite count c * a) (c * a) (scaled_by (opposite count c) i)
          (congruent_then m (opposite count c * a + c * a) ((c + opposite count c) * a) 0
          (congruent_same m (opposite count c * a + c * a) ((c + opposite count c) * a) (sym (spread (opposite count c) c a)))
          (congruent_then m ((c + opposite count c) * a) (0 * a) 0 (congruent_product m (c + opposite count c) 0 a a (distance_sum count c 0) (congruent_same m a a refl))
          (congruent_same m (0 * a) 0 (omega arith))))
          (scaled_in (opposite count c) a i is)

  pub product_in : (a b : ℕ) (i j : Interval) → IsBetween count a i → IsBetween count b j → IsBetween count (a * b) (product_of i j)
  product_in a b i j h g =
      let ends = corners i j h.place g.place h.least h.greatest g.least g.greatest in
      record {
        place = corner i j h.place g.place;
        least = ends.0;
        greatest = ends.1;
        same =
            made (congruent_product m (a + i.down) h.place (b + j.down) g.place h.same g.same)
            (congruent_product m (a + i.down) h.place j.down j.down h.same (congruent_same m j.down j.down refl))
            (congruent_product m (b + j.down) g.place i.down i.down g.same (congruent_same m i.down i.down refl))
            (ap (λ n. n * j.down) (split1 h.greatest) ∙ times_sum (i.greatest - h.place) h.place j.down)
            (ap (λ n. n * i.down) (split2 g.greatest) ∙ times_sum (j.greatest - g.place) g.place i.down);
      }
    where
      split1 : h.place ≤ i.greatest → i.greatest ≡ (i.greatest - h.place) + h.place
      split1 le = omega arith

      split2 : g.place ≤ j.greatest → j.greatest ≡ (j.greatest - g.place) + g.place
      split2 le = omega arith

      expand : (a b c d : ℕ) → (a + c) * (b + d) ≡ a * b + a * d + b * c + c * d
      expand a b c d = omega arith

      made : IsCongruent m ((a + i.down) * (b + j.down)) (h.place * g.place) → IsCongruent m ((a + i.down) * j.down) (h.place * j.down)
          → IsCongruent m ((b + j.down) * i.down) (g.place * i.down) → i.greatest * j.down ≡ (i.greatest - h.place) * j.down + h.place * j.down
          → j.greatest * i.down ≡ (j.greatest - g.place) * i.down + g.place * i.down
          → IsCongruent m (a * b + (i.greatest * j.down + j.greatest * i.down)) (corner i j h.place g.place)
      made p q r y1 y2 =
          let e1 = p.same in
          let e2 = q.same in
          let e3 = r.same in
          let x1 = expand a b i.down j.down in
          let x2 = times_sum a i.down j.down in
          let x3 = times_sum b j.down i.down in
          let x4 = swap j.down i.down in
          record { first = p.first + q.second + r.second; second = p.second + q.first + r.first; same = omega arith }

  -- ---- both, and cuts

  in_from_first : (n : ℕ) (s t : Span) → IsIn count n s → IsIn count n (span_from count s t)
  in_from_first n s t is = let w = is.within in record { offset = is.offset; within = omega arith; same = is.same }

  in_from_last : (n : ℕ) (s t : Span) → IsIn count n t → IsIn count n (span_from count s t)
  in_from_last n s t is =
      let w = is.within in
      record {
        offset = distance count s.first t.first + is.offset;
        within = omega arith;
        same = moved (distance count s.first t.first) is.offset (distance_sum count s.first t.first) is.same;
      }
    where
      moved : (d o : ℕ) → IsCongruent m (s.first + d) t.first → IsCongruent m (t.first + o) n → IsCongruent m (s.first + (d + o)) n
      moved d o h g =
          let e1 = h.same in
          let e2 = g.same in
          record { first = h.first + g.first; second = h.second + g.second; same = omega arith }

  pub in_first : (n : ℕ) (s t : Span) → n < m → IsIn count n s → IsIn count n (both_spans count s t)
  in_first n s t below is =
      in_capped n (shorter (span_from count s t) (span_from count t s)) below
      (in_shorter n (span_from count s t) (span_from count t s) (in_from_first n s t is) (in_from_last n t s is))

  pub in_second : (n : ℕ) (s t : Span) → n < m → IsIn count n t → IsIn count n (both_spans count s t)
  in_second n s t below is =
      in_capped n (shorter (span_from count s t) (span_from count t s)) below
      (in_shorter n (span_from count s t) (span_from count t s) (in_from_last n s t is) (in_from_first n t s is))

  in_cut_at : (n : ℕ) (s t otherwise : Span) → IsIn count n s → IsIn count n t → IsIn count n otherwise
      → IsIn count n (cut_at count (distance count s.first t.first) s t otherwise)
  in_cut_at n s t otherwise h g o = by (nat_le (distance count s.first t.first) s.width && nat_lt (distance count s.first t.first + t.width) m) refl
    where
      moved : (d : ℕ) → IsCongruent m (s.first + d) t.first → IsCongruent m (s.first + h.offset) n → IsCongruent m (t.first + g.offset) n → IsCongruent m (d + g.offset) h.offset
      moved d c1 c2 c3 =
          let e1 = c1.same in
          let e2 = c2.same in
          let e3 = c3.same in
          record { first = c1.first + c2.second + c3.first; second = c1.second + c2.first + c3.second; same = omega arith }

      by : (test : Bool) → (nat_le (distance count s.first t.first) s.width && nat_lt (distance count s.first t.first + t.width) m) ≡ test
          → IsIn count n (cond test (record { first = t.first; width = min (s.width - distance count s.first t.first) t.width }) otherwise)
      by true e =
          let both = and_parts (nat_le (distance count s.first t.first) s.width) (nat_lt (distance count s.first t.first + t.width) m) e in
          let inside = leb-true (distance count s.first t.first) s.width both.0 in
          let before = ltb-true (distance count s.first t.first + t.width) m both.1 in
          let w1 = h.within in
          let w2 = g.within in
          let least = mod_least h.offset m in
          let same : distance count s.first t.first + g.offset ≡ h.offset % m =
          congruent_equal m (distance count s.first t.first + g.offset) (h.offset % m)
          (congruent_then m (distance count s.first t.first + g.offset) h.offset (h.offset % m)
          (moved (distance count s.first t.first) (distance_sum count s.first t.first) h.same g.same) (congruent_sym m (h.offset % m) h.offset (congruent_mod m h.offset)))
          (omega arith) (mod_below h.offset m positive_m) in
          record { offset = g.offset; within = omega arith; same = g.same }
      by false e = o

  pub in_cut : (n : ℕ) (s t : Span) → IsIn count n s → IsIn count n t → IsIn count n (cut count s t)
  in_cut n s t h g =
      in_cut_at n s t (cut_at count (distance count t.first s.first) t s (shorter s t)) h g (in_cut_at n t s (shorter s t) g h (in_shorter n s t h g))

  -- ---- quotients

  div_anti : (a k j : ℕ) → 0 < k → k ≤ j → a / j ≤ a / k
  div_anti a k j some le = by (cases_lt (a / k) (a / j))
    where
      by : (a / k < a / j) ⊎ (a / j ≤ a / k) → a / j ≤ a / k
      by (inr h) = h
      by (inl less) =
          let parts = div-add-mod' a k in
          let small = mod_below a k some in
          let under = div-mul-le_self a j in
          let over = mul-le (a / k + 1) k (a / j) j (omega arith) le in
          let one = times_sum (a / k) 1 k in
          absurd (omega arith)

  pub in_quotient : (n a b : ℕ) (s t : Bounds) → n < m → (0 < b → n ≡ a / b) → IsWithin a s → IsWithin b t → IsIn count n (quotient_span count s t)
  in_quotient n a b s t below is h g = by (nat_lt 0 t.least) refl
    where
      by : (test : Bool) → nat_lt 0 t.least ≡ test
          → IsIn count n (cond test (bounds_span (record { least = s.least / t.greatest; greatest = s.greatest / t.least })) (all_words count))
      by true e =
          let some = ltb-true 0 t.least e in
          let l = g.least in
          let u = g.greatest in
          let same = is (omega arith) in
          let l1 = div_mono s.least a t.greatest (omega arith) h.least in
          let l2 = div_anti a b t.greatest (omega arith) u in
          let l3 = div_mono a s.greatest t.least some h.greatest in
          let l4 = div_anti a t.least b some l in
          in_bounds n (record { least = s.least / t.greatest; greatest = s.greatest / t.least }) (record { least = omega arith; greatest = omega arith })
      by false e = in_all n below

  -- ---- numbers below a power of 2

  -- the words of a span moved up by h have so many bits
  pub fitting : (n h l : ℕ) (s : Span) → l ≤ count → IsIn count n s → nat_lt ((s.first + h) % m + s.width) (2 ^ l) ≡ true → (n + h) % m < 2 ^ l
  fitting n h l s short is e =
      let less = ltb-true ((s.first + h) % m + s.width) (2 ^ l) e in
      let w = is.within in
      let large = powers l short in
      let same : (s.first + h) % m + is.offset ≡ (n + h) % m =
      congruent_equal m ((s.first + h) % m + is.offset) ((n + h) % m)
      (congruent_then m ((s.first + h) % m + is.offset) (n + h) ((n + h) % m) (moved ((s.first + h) % m) (congruent_mod m (s.first + h)) is.same)
      (congruent_sym m ((n + h) % m) (n + h) (congruent_mod m (n + h))))
      (omega arith) (mod_below (n + h) m positive_m) in
      omega arith
    where
      moved : (f : ℕ) → IsCongruent m f (s.first + h) → IsCongruent m (s.first + is.offset) n → IsCongruent m (f + is.offset) (n + h)
      moved f c1 c2 =
          let e1 = c1.same in
          let e2 = c2.same in
          record { first = c1.first + c2.first; second = c1.second + c2.second; same = omega arith }

      powers : (k : ℕ) → k ≤ count → 2 ^ k ≤ m
      powers k le =
          let sum : count ≡ (count - k) + k = omega arith in
          let split : m ≡ 2 ^ (count - k) * 2 ^ k = ap (λ i. 2 ^ i) sum ∙ pow-add 2 (count - k) k in
          let p = pow_pos (count - k) in
          let more = mul-le 1 (2 ^ k) (2 ^ (count - k)) (2 ^ k) p (omega arith) in
          omega arith

-- ---- signs at another width

-- n with its sign, at a greater width
pub in_sign_extended : (from to n : ℕ) (s : Span) → 0 < from → from ≤ to → n < 2 ^ from → IsIn from n s
    → IsIn to (low_bits to (n + ones_if (is_negative from n) from to)) (sign_extended_span from to s)
in_sign_extended from to n s some short below is = by (nat_lt ((s.first + 2 ^ (from - 1)) % 2 ^ from + s.width) (2 ^ from)) refl
  where
    double : 2 ^ from ≡ 2 * 2 ^ (from - 1)
    double = half_power from some

    large : 2 ^ from ≤ 2 ^ to
    large =
        let sum : to ≡ (to - from) + from = omega arith in
        let split : 2 ^ to ≡ 2 ^ (to - from) * 2 ^ from = ap (λ i. 2 ^ i) sum ∙ pow-add 2 (to - from) from in
        let p = pow_pos (to - from) in
        let more = mul-le 1 (2 ^ from) (2 ^ (to - from)) (2 ^ from) p (omega arith) in
        omega arith

    placed : (p : ℕ) → p ≡ (n + 2 ^ (from - 1)) % 2 ^ from
        → (p + (2 ^ to - 2 ^ (from - 1)) ≡ n + ones_if (is_negative from n) from to) ⊎ (p + (2 ^ to - 2 ^ (from - 1)) ≡ n + ones_if (is_negative from n) from to + 2 ^ to)
    placed p e = by_sign (is_negative from n) refl
      where
        by_sign : (test : Bool) → is_negative from n ≡ test
            → (p + (2 ^ to - 2 ^ (from - 1)) ≡ n + ones_if test from to) ⊎ (p + (2 ^ to - 2 ^ (from - 1)) ≡ n + ones_if test from to + 2 ^ to)
        by_sign true d =
            let le = leb-true (2 ^ (from - 1)) n d in
            let h = double in
            let g = large in
            let sum : n + 2 ^ (from - 1) ≡ 1 * 2 ^ from + (n - 2 ^ (from - 1)) = omega arith in
            let p_is : p ≡ n - 2 ^ (from - 1) = e ∙ ap (λ k. k % 2 ^ from) sum ∙ mod-mul-add 1 (2 ^ from) (n - 2 ^ (from - 1)) (omega arith) in
            inl (omega arith)
        by_sign false d =
            let less = leb-false (2 ^ (from - 1)) n d in
            let h = double in
            let g = large in
            let p_is : p ≡ n + 2 ^ (from - 1) = e ∙ mod-small (n + 2 ^ (from - 1)) (2 ^ from) (omega arith) in
            inr (omega arith)

    congruent : IsCongruent (2 ^ to) ((n + 2 ^ (from - 1)) % 2 ^ from + (2 ^ to - 2 ^ (from - 1))) (low_bits to (n + ones_if (is_negative from n) from to))
    congruent =
        congruent_then (2 ^ to) ((n + 2 ^ (from - 1)) % 2 ^ from + (2 ^ to - 2 ^ (from - 1))) (n + ones_if (is_negative from n) from to)
        (low_bits to (n + ones_if (is_negative from n) from to)) (either (placed ((n + 2 ^ (from - 1)) % 2 ^ from) refl))
        (congruent_sym (2 ^ to) (low_bits to (n + ones_if (is_negative from n) from to)) (n + ones_if (is_negative from n) from to)
        (congruent_mod (2 ^ to) (n + ones_if (is_negative from n) from to)))
      where
        either : ((n + 2 ^ (from - 1)) % 2 ^ from + (2 ^ to - 2 ^ (from - 1)) ≡ n + ones_if (is_negative from n) from to)
            ⊎ ((n + 2 ^ (from - 1)) % 2 ^ from + (2 ^ to - 2 ^ (from - 1)) ≡ n + ones_if (is_negative from n) from to + 2 ^ to)
            → IsCongruent (2 ^ to) ((n + 2 ^ (from - 1)) % 2 ^ from + (2 ^ to - 2 ^ (from - 1))) (n + ones_if (is_negative from n) from to)
        either (inl e) = congruent_same (2 ^ to) ((n + 2 ^ (from - 1)) % 2 ^ from + (2 ^ to - 2 ^ (from - 1))) (n + ones_if (is_negative from n) from to) e
        either (inr e) = record { first = 0; second = 1; same = omega arith }

    by : (test : Bool) → nat_lt ((s.first + 2 ^ (from - 1)) % 2 ^ from + s.width) (2 ^ from) ≡ test
        → IsIn to (low_bits to (n + ones_if (is_negative from n) from to))
        (cond test (record { first = (s.first + 2 ^ (from - 1)) % 2 ^ from + (2 ^ to - 2 ^ (from - 1)); width = s.width })
        (record { first = 2 ^ to - 2 ^ (from - 1); width = 2 ^ from - 1 }))
    by true e =
        let less = ltb-true ((s.first + 2 ^ (from - 1)) % 2 ^ from + s.width) (2 ^ from) e in
        let w = is.within in
        let same : (s.first + 2 ^ (from - 1)) % 2 ^ from + is.offset ≡ (n + 2 ^ (from - 1)) % 2 ^ from =
        congruent_equal (2 ^ from) ((s.first + 2 ^ (from - 1)) % 2 ^ from + is.offset) ((n + 2 ^ (from - 1)) % 2 ^ from)
        (congruent_then (2 ^ from) ((s.first + 2 ^ (from - 1)) % 2 ^ from + is.offset) (n + 2 ^ (from - 1)) ((n + 2 ^ (from - 1)) % 2 ^ from)
        (moved ((s.first + 2 ^ (from - 1)) % 2 ^ from) (congruent_mod (2 ^ from) (s.first + 2 ^ (from - 1))) is.same)
        (congruent_sym (2 ^ from) ((n + 2 ^ (from - 1)) % 2 ^ from) (n + 2 ^ (from - 1)) (congruent_mod (2 ^ from) (n + 2 ^ (from - 1)))))
        (omega arith) (mod_below (n + 2 ^ (from - 1)) (2 ^ from) (pow_pos from)) in
        record {
          offset = is.offset;
          within = w;
          same =
              congruent_then (2 ^ to) ((s.first + 2 ^ (from - 1)) % 2 ^ from + (2 ^ to - 2 ^ (from - 1)) + is.offset)
              ((n + 2 ^ (from - 1)) % 2 ^ from + (2 ^ to - 2 ^ (from - 1))) (low_bits to (n + ones_if (is_negative from n) from to))
              (congruent_same (2 ^ to) ((s.first + 2 ^ (from - 1)) % 2 ^ from + (2 ^ to - 2 ^ (from - 1)) + is.offset)
              ((n + 2 ^ (from - 1)) % 2 ^ from + (2 ^ to - 2 ^ (from - 1))) (omega arith)) congruent;
        }
      where
        moved : (f : ℕ) → IsCongruent (2 ^ from) f (s.first + 2 ^ (from - 1)) → IsCongruent (2 ^ from) (s.first + is.offset) n
            → IsCongruent (2 ^ from) (f + is.offset) (n + 2 ^ (from - 1))
        moved f c1 c2 =
            let e1 = c1.same in
            let e2 = c2.same in
            record { first = c1.first + c2.first; second = c1.second + c2.second; same = omega arith }
    by false e =
        let less = mod_below (n + 2 ^ (from - 1)) (2 ^ from) (pow_pos from) in
        record {
          offset = (n + 2 ^ (from - 1)) % 2 ^ from;
          within = omega arith;
          same =
              congruent_then (2 ^ to) (2 ^ to - 2 ^ (from - 1) + (n + 2 ^ (from - 1)) % 2 ^ from)
              ((n + 2 ^ (from - 1)) % 2 ^ from + (2 ^ to - 2 ^ (from - 1))) (low_bits to (n + ones_if (is_negative from n) from to))
              (congruent_same (2 ^ to) (2 ^ to - 2 ^ (from - 1) + (n + 2 ^ (from - 1)) % 2 ^ from)
              ((n + 2 ^ (from - 1)) % 2 ^ from + (2 ^ to - 2 ^ (from - 1))) (omega arith)) congruent;
        }
