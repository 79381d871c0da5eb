-- Bytes by the halves of the addresses: one byte changed, and a range of them replaced.
use Rattle.std.proofs.Common.{◌≡◌, ℕ, ◌+◌, ◌-◌, ◌*◌, ◌^◌, ◌<◌, ◌≤◌, Bool, true, false, cond, refl, sym, ap, ◌∙◌, arith}
use Rattle.std.specs.Prelude.{◌==◌, ◌&&◌, nat_lt, nat_le}
use Rattle.std.proofs.lemmas.Bool.{ltb-true, ltb-false, lt-ltb, le-ltb, eqb-true, eq-eqb, leb-true, le-leb, and_parts}
use Rattle.std.proofs.lemmas.Nat.{pow-add}
use Rattle.term_core_spec.specs.Value.{with_byte, overlaid}

-- twice as many addresses as each half has
pub two_halves : (depth : ℕ) → 0 < depth → 2 ^ depth ≡ 2 * 2 ^ (depth - 1)
two_halves depth some =
    let e : depth ≡ 1 + (depth - 1) = omega arith in
    ap (λ n. 2 ^ n) e ∙ pow-add 2 1 (depth - 1)

-- ---- tests that agree

both_ways : (s t : Bool) → (s ≡ true → t ≡ true) → (t ≡ true → s ≡ true) → s ≡ t
both_ways true t f g = sym (f refl)
both_ways false true f g = g refl
both_ways false false f g = refl

not_equal : (q a : ℕ) → (q ≡ a → ⊥) → (q == a) ≡ false
not_equal q a apart = both_ways (q == a) false (λ e. absurd (apart (eqb-true q a e))) (λ e. absurd (cc))

same_shift : (q a half : ℕ) → half ≤ q → half ≤ a → ((q - half) == (a - half)) ≡ (q == a)
same_shift q a half hq ha =
    both_ways ((q - half) == (a - half)) (q == a)
    (λ e. let same = eqb-true (q - half) (a - half) e in eq-eqb q a (omega arith))
    (λ e. let same = eqb-true q a e in eq-eqb (q - half) (a - half) (omega arith))

-- an address from `low` to below `high`
abbrev pub is_between : ℕ → ℕ → ℕ → Bool
is_between low high q = nat_le low q && nat_lt q high

and_both : (p q : Bool) → p ≡ true → q ≡ true → (p && q) ≡ true
and_both true q e f = f
and_both false q e f = absurd (cc)

between : (low high q : ℕ) → low ≤ q → q < high → is_between low high q ≡ true
between low high q from below = and_both (nat_le low q) (nat_lt q high) (le-leb low q from) (lt-ltb q high below)

is_from : (low high q : ℕ) → is_between low high q ≡ true → low ≤ q
is_from low high q e = leb-true low q (and_parts (nat_le low q) (nat_lt q high) e).0

is_below : (low high q : ℕ) → is_between low high q ≡ true → q < high
is_below low high q e = ltb-true q high (and_parts (nat_le low q) (nat_lt q high) e).1

between_shift : (low high q half : ℕ) → half ≤ q → is_between (low - half) (high - half) (q - half) ≡ is_between low high q
between_shift low high q half from =
    both_ways (is_between (low - half) (high - half) (q - half)) (is_between low high q)
    (λ e.
    let a = is_from (low - half) (high - half) (q - half) e in
    let b = is_below (low - half) (high - half) (q - half) e in
    between low high q (omega arith) (omega arith))
    (λ e.
    let a = is_from low high q e in
    let b = is_below low high q e in
    between (low - half) (high - half) (q - half) (omega arith) (omega arith))

pub empty_between : (low high q : ℕ) → high ≤ low → is_between low high q ≡ false
empty_between low high q empty =
    both_ways (is_between low high q) false
    (λ e. let a = is_from low high q e in let b = is_below low high q e in absurd (omega arith)) (λ e. absurd (cc))

-- ---- the bytes by their half

abbrev pub at_half : (ℕ → ℕ) → (ℕ → ℕ) → ℕ → ℕ → ℕ
at_half lower upper half q = cond (nat_lt q half) (lower q) (upper (q - half))

on_half : (P : ℕ → Type 0) (q half : ℕ) (x y : ℕ) → (q < half → P x) → (half ≤ q → P y) → P (cond (nat_lt q half) x y)
on_half P q half x y under from = by (nat_lt q half) refl
  where
    by : (test : Bool) → nat_lt q half ≡ test → P (cond test x y)
    by true e = under (ltb-true q half e)
    by false e = from (ltb-false q half e)

module _ (f lower upper : ℕ → ℕ) (half : ℕ) (f_is : (q : ℕ) → f q ≡ at_half lower upper half q) where
  f_low : (q : ℕ) → q < half → f q ≡ lower q
  f_low q below = f_is q ∙ ap (λ b. cond b (lower q) (upper (q - half))) (lt-ltb q half below)

  f_high : (q : ℕ) → half ≤ q → f q ≡ upper (q - half)
  f_high q from = f_is q ∙ ap (λ b. cond b (lower q) (upper (q - half))) (le-ltb q half from)

  -- a byte of the lower half is changed
  pub set_low : (g : ℕ → ℕ) (a byte q : ℕ) → a < half → ((q : ℕ) → q < half → g q ≡ with_byte lower a byte q) → at_half g upper half q ≡ with_byte f a byte q
  set_low g a byte q below is =
      on_half (λ x. x ≡ with_byte f a byte q) q half (g q) (upper (q - half))
      (λ under. is q under ∙ ap (λ x. cond (q == a) byte x) (sym (f_low q under)))
      (λ from. sym (f_high q from) ∙ sym (ap (λ b. cond b byte (f q)) (not_equal q a (λ same. absurd (omega arith)))))

  -- a byte of the upper half is changed
  pub set_high : (g : ℕ → ℕ) (a byte q : ℕ) → half ≤ a → q < 2 * half → ((q : ℕ) → q < half → g q ≡ with_byte upper (a - half) byte q) → at_half lower g half q ≡ with_byte f a byte q
  set_high g a byte q above inside is =
      on_half (λ x. x ≡ with_byte f a byte q) q half (lower q) (g (q - half))
      (λ under. sym (f_low q under) ∙ sym (ap (λ b. cond b byte (f q)) (not_equal q a (λ same. absurd (omega arith)))))
      (λ from. is (q - half) (omega arith) ∙ ap (λ x. cond ((q - half) == (a - half)) byte x) (sym (f_high q from)) ∙ ap (λ b. cond b byte (f q)) (same_shift q a half from above))

  -- a range of the bytes is replaced in both halves
  pub over_halves : (z zone_lower zone_upper g h : ℕ → ℕ) (low high q : ℕ) → ((q : ℕ) → z q ≡ at_half zone_lower zone_upper half q) → q < 2 * half
      → ((q : ℕ) → q < half → g q ≡ overlaid lower zone_lower low high q)
      → ((q : ℕ) → q < half → h q ≡ overlaid upper zone_upper (low - half) (high - half) q)
      → at_half g h half q ≡ overlaid f z low high q
  over_halves z zone_lower zone_upper g h low high q z_is inside g_is h_is =
      on_half (λ x. x ≡ overlaid f z low high q) q half (g q) (h (q - half))
      (λ under.
      let z_low : z q ≡ zone_lower q = z_is q ∙ ap (λ b. cond b (zone_lower q) (zone_upper (q - half))) (lt-ltb q half under) in
      g_is q under ∙ ap (λ x. cond (is_between low high q) x (lower q)) (sym z_low) ∙ ap (λ x. cond (is_between low high q) (z q) x) (sym (f_low q under)))
      (λ from.
      let z_high : z q ≡ zone_upper (q - half) = z_is q ∙ ap (λ b. cond b (zone_lower q) (zone_upper (q - half))) (le-ltb q half from) in
      h_is (q - half) (omega arith)
      ∙ ap (λ x. cond (is_between (low - half) (high - half) (q - half)) x (upper (q - half))) (sym z_high)
      ∙ ap (λ x. cond (is_between (low - half) (high - half) (q - half)) (z q) x) (sym (f_high q from))
      ∙ ap (λ b. cond b (z q) (f q)) (between_shift low high q half from))

-- the only address of no bits is changed
pub one_address : (f : ℕ → ℕ) (depth a byte q : ℕ) → depth ≡ 0 → a < 2 ^ depth → q < 2 ^ depth → byte ≡ with_byte f a byte q
one_address f depth a byte q none below_a below_q =
    let one : 2 ^ depth ≡ 1 = ap (λ n. 2 ^ n) none in
    sym (ap (λ b. cond b byte (f q)) (eq-eqb q a (omega arith)))

-- a range without addresses leaves all bytes, and one with all of them none
pub over_none : (f z : ℕ → ℕ) (low high q : ℕ) → is_between low high q ≡ false → f q ≡ overlaid f z low high q
over_none f z low high q e = sym (ap (λ b. cond b (z q) (f q)) e)

pub over_all : (f z : ℕ → ℕ) (low high q : ℕ) → is_between low high q ≡ true → z q ≡ overlaid f z low high q
over_all f z low high q e = sym (ap (λ b. cond b (z q) (f q)) e)

pub past_between : (low high size q : ℕ) → q < size → size ≤ low → is_between low high q ≡ false
past_between low high size q below past =
    both_ways (is_between low high q) false (λ e. let a = is_from low high q e in absurd (omega arith)) (λ e. absurd (cc))

-- the tests of a range that has all addresses
pub covered : (low high size q : ℕ) → (low == 0 && nat_le size high) ≡ true → q < size → is_between low high q ≡ true
covered low high size q e below =
    let both = and_parts (low == 0) (nat_le size high) e in
    let zero : low ≡ 0 = eqb-true low 0 both.0 in
    let past = leb-true size high both.1 in
    between low high q (omega arith) (omega arith)

pub one_covered : (depth low high q : ℕ) → depth ≡ 0 → low < 2 ^ depth → low < high → q < 2 ^ depth → is_between low high q ≡ true
one_covered depth low high q none below_low some below =
    let one : 2 ^ depth ≡ 1 = ap (λ n. 2 ^ n) none in
    between low high q (omega arith) (omega arith)
