-- What a run-up leaves open, with one number more: terms of instructions before keep their numbers.
use Rattle.std.proofs.Common.{◌≡◌, ◌≢◌, ℕ, ◌+◌, ◌-◌, ◌*◌, ◌%◌, ◌^◌, ◌<◌, ◌≤◌, ◌==◌, if◌then◌else◌, Bool, true, false, refl, sym, ap, ap₂, subst, arith, ne_eqb, eq-eqb, Option, Some, None}
use Rattle.std.specs.Prelude.{bit_and}
use Rattle.code_reach_spec.specs.RunUp.{Symbolic, Constant, Initial, Unknown, Sum, Difference, Shifted, Masked, same, constant_of, parts_of, plus_constant, plus_by, plus, sum_by, sum, difference_by, difference, shifted_by, shifted, masked_by, masked}
use Rattle.decompile_laws.specs.RunUps.{Free, number_of, IsBefore}
use Rattle.code_reach_spec.proofs.RunUp.{parts-are}

module _ (free : Free) (address value : ℕ) where
  abbrev pub with_value : Free
  with_value = record { initial = free.initial; unknown = λ (a : ℕ). if a == address then value else free.unknown a }

  pub number-before : (s : Symbolic) → IsBefore address s → number_of with_value s ≡ number_of free s
  unfolding number_of IsBefore
  number-before (Constant n) b = refl
  number-before (Initial r) b = refl
  number-before (Unknown place) b =
      let other : place ≢ address = λ e. omega (arith, b, e) in
      ap (λ z. (if z then value else free.unknown place) % 2 ^ 32) (ne_eqb place address other)
  number-before (Sum a c) b = ap₂ (λ (x y : ℕ). (x + y) % 2 ^ 32) (number-before a b.0) (number-before c b.1)
  number-before (Difference a c) b = ap₂ (λ (x y : ℕ). (x + (2 ^ 32 - y)) % 2 ^ 32) (number-before a b.0) (number-before c b.1)
  number-before (Shifted a amount) b = ap (λ x. x * 2 ^ amount % 2 ^ 32) (number-before a b)
  number-before (Masked a mask) b = ap (λ x. bit_and x mask % 2 ^ 32) (number-before a b)

  pub number-here : number_of with_value (Unknown address) ≡ value % 2 ^ 32
  unfolding number_of
  number-here = ap (λ z. (if z then value else free.unknown address) % 2 ^ 32) (eq-eqb address address refl)

pub before-later : (s : Symbolic) (a b : ℕ) → a ≤ b → IsBefore a s → IsBefore b s
unfolding IsBefore
before-later (Constant n) a b le is = tt
before-later (Initial r) a b le is = tt
before-later (Unknown place) a b le is = omega (arith, le, is)
before-later (Sum s t) a b le is = (before-later s a b le is.0, before-later t a b le is.1)
before-later (Difference s t) a b le is = (before-later s a b le is.0, before-later t a b le is.1)
before-later (Shifted s amount) a b le is = before-later s a b le is
before-later (Masked s mask) a b le is = before-later s a b le is

module _ (address : ℕ) where
  abbrev B : Symbolic → Type 0
  B s = IsBefore address s

  pub before-constant : (n : ℕ) → B (Constant n)
  unfolding IsBefore
  before-constant n = tt

  before-pair : (s t : Symbolic) → B s → B t → B (Sum s t)
  unfolding IsBefore
  before-pair s t one two = (one, two)

  before-first : (s t : Symbolic) → B (Sum s t) → B s
  unfolding IsBefore
  before-first s t both = both.0

  before-plus_constant : (s : Symbolic) (n : ℕ) → B s → B (plus_constant s n)
  before-plus_constant s n is = by (n == 0)
    where
      by : (z : Bool) → B (if z then s else Sum s (Constant n))
      by true = is
      by false = before-pair s (Constant n) is (before-constant n)

  before-plus : (s : Symbolic) (n : ℕ) → B s → B (plus s n)
  before-plus s n is = by (parts_of s) refl
    where
      by : (o : Option (Symbolic × ℕ)) → parts_of s ≡ o → B (plus_by s n o)
      by None e = before-plus_constant s n is
      by (Some (rest, m)) e =
          before-plus_constant rest ((m + n) % 2 ^ 32) (before-first rest (Constant m) (subst (λ (t : Symbolic). B t) (parts-are s rest m e) is))

  pub before-sum : (s t : Symbolic) → B s → B t → B (sum s t)
  unfolding sum
  before-sum s t one two = by (constant_of s) (constant_of t)
    where
      by : (m n : Option ℕ) → B (sum_by s t m n)
      by (Some m) (Some n) = before-constant ((m + n) % 2 ^ 32)
      by (Some m) None = before-plus t m two
      by None (Some n) = before-plus s n one
      by None None = before-pair s t one two

  before-both : (s t : Symbolic) → B s → B t → B (Difference s t)
  unfolding IsBefore
  before-both s t one two = (one, two)

  before-apart : (s t : Symbolic) → B s → B t → B (if same s t then Constant 0 else Difference s t)
  before-apart s t one two = by (same s t)
    where
      by : (z : Bool) → B (if z then Constant 0 else Difference s t)
      by true = before-constant 0
      by false = before-both s t one two

  pub before-difference : (s t : Symbolic) → B s → B t → B (difference s t)
  unfolding difference
  before-difference s t one two = by (constant_of s) (constant_of t)
    where
      by : (m n : Option ℕ) → B (difference_by s t m n)
      by (Some m) (Some n) = before-constant ((m + (2 ^ 32 - n % 2 ^ 32)) % 2 ^ 32)
      by None (Some n) = before-plus s ((2 ^ 32 - n % 2 ^ 32) % 2 ^ 32) one
      by (Some m) None = before-apart s t one two
      by None None = before-apart s t one two

  pub before-shifted : (s : Symbolic) (amount : ℕ) → B s → B (shifted s amount)
  unfolding shifted IsBefore
  before-shifted s amount is = by (constant_of s)
    where
      zero_or : (z : Bool) → B (if z then s else Shifted s amount)
      zero_or true = is
      zero_or false = is

      by : (n : Option ℕ) → B (shifted_by s amount n)
      by (Some n) = tt
      by None = zero_or (amount == 0)

  pub before-masked : (s : Symbolic) (mask : ℕ) → B s → B (masked s mask)
  unfolding masked IsBefore
  before-masked s mask is = by (constant_of s)
    where
      full : (z : Bool) → B (if z then s else Masked s mask)
      full true = is
      full false = is

      none : (z : Bool) → B (if z then Constant 0 else if mask == 2 ^ 32 - 1 then s else Masked s mask)
      none true = tt
      none false = full (mask == 2 ^ 32 - 1)

      by : (n : Option ℕ) → B (masked_by s mask n)
      by (Some n) = tt
      by None = none (mask == 0)
