-- The numbers of what is followed in a run-up: each normal form has the number of what it stands for.
use Rattle.std.proofs.Common.{◌≡◌, ◌∙◌, ℕ, zero, suc, ◌+◌, ◌-◌, ◌*◌, ◌%◌, ◌^◌, ◌<◌, ◌==◌, ◌&&◌, if◌then◌else◌, Bool, true, false, cond, refl, sym, ap, ap₂, subst, arith, eqb-true, Option, Some, None}
use Rattle.std.specs.Prelude.{bit_and}
use Rattle.std.specs.Int.Bits.{and_zero_r}
use Rattle.std.proofs.lemmas.Nat.{and_mask, and_mod, and_le_l, mul-mod_second}
use Rattle.std.proofs.Math.Nat.{mul_comm}
use Rattle.std.proofs.lemmas.Bool.{and_parts}
use Rattle.std.proofs.lemmas.Option.{same_Some}
use Rattle.code_reach_spec.specs.RunUp.{Symbolic, Constant, Initial, Unknown, Sum, Difference, Shifted, Masked, same, constant_of, parts_of, plus_constant, plus_by, plus, sum_by, sum, difference_by, difference, shifted_by, shifted, masked_by, masked}
use Rattle.code_reach_spec.proofs.RunUp.{same-eq, constant-is, parts-are}
use Rattle.decompile_laws.specs.RunUps.{Free, number_of}

-- ---- numbers

twice : (x : ℕ) → x % 2 ^ 32 % 2 ^ 32 ≡ x % 2 ^ 32
twice x = omega arith

product : (n p : ℕ) → n % 2 ^ 32 * p % 2 ^ 32 ≡ n * p % 2 ^ 32
product n p = ap (λ x. x % 2 ^ 32) (mul_comm (n % 2 ^ 32) p) ∙ (mul-mod_second p n (2 ^ 32) ∙ ap (λ x. x % 2 ^ 32) (mul_comm p n))

module _ (free : Free) where
  abbrev N : Symbolic → ℕ
  N a = number_of free a

  pub number-small : (a : Symbolic) → number_of free a < 2 ^ 32
  unfolding number_of
  number-small (Constant n) = omega arith
  number-small (Initial r) = omega arith
  number-small (Unknown address) = omega arith
  number-small (Sum a b) = omega arith
  number-small (Difference a b) = omega arith
  number-small (Shifted a amount) = omega arith
  number-small (Masked a mask) = omega arith

  constant-number : (n : ℕ) → N (Constant n) ≡ n % 2 ^ 32
  unfolding number_of
  constant-number n = refl

  sum-number : (a b : Symbolic) → N (Sum a b) ≡ (N a + N b) % 2 ^ 32
  unfolding number_of
  sum-number a b = refl

  difference-number : (a b : Symbolic) → N (Difference a b) ≡ (N a + (2 ^ 32 - N b)) % 2 ^ 32
  unfolding number_of
  difference-number a b = refl

  shifted-number : (a : Symbolic) (amount : ℕ) → N (Shifted a amount) ≡ N a * 2 ^ amount % 2 ^ 32
  unfolding number_of
  shifted-number a amount = refl

  masked-number : (a : Symbolic) (mask : ℕ) → N (Masked a mask) ≡ bit_and (N a) mask % 2 ^ 32
  unfolding number_of
  masked-number a mask = refl

  plus_constant-number : (a : Symbolic) (n : ℕ) → N (plus_constant a n) ≡ (N a + n) % 2 ^ 32
  plus_constant-number a n = by (n == 0) refl
    where
      by : (z : Bool) → (n == 0) ≡ z → N (if z then a else Sum a (Constant n)) ≡ (N a + n) % 2 ^ 32
      by true e =
          let none : n ≡ 0 = eqb-true n 0 e in
          let small = number-small a in
          omega (arith, none, small)
      by false e =
          let one = sum-number a (Constant n) in
          let two = constant-number n in
          omega (arith, one, two)

  plus-number : (a : Symbolic) (n : ℕ) → N (plus a n) ≡ (N a + n) % 2 ^ 32
  plus-number a n = by (parts_of a) refl
    where
      by : (o : Option (Symbolic × ℕ)) → parts_of a ≡ o → N (plus_by a n o) ≡ (N a + n) % 2 ^ 32
      by None e = plus_constant-number a n
      by (Some (rest, m)) e =
          let whole : N a ≡ (N rest + N (Constant m)) % 2 ^ 32 = ap (λ (x : Symbolic). N x) (parts-are a rest m e) ∙ sum-number rest (Constant m) in
          let constant = constant-number m in
          let made = plus_constant-number rest ((m + n) % 2 ^ 32) in
          omega (arith, whole, constant, made)

  known : (a : Symbolic) (n : ℕ) → constant_of a ≡ Some n → N a ≡ n % 2 ^ 32
  known a n e = ap (λ (x : Symbolic). N x) (constant-is a n e) ∙ constant-number n

  pub number-sum : (a b : Symbolic) → number_of free (sum a b) ≡ (number_of free a + number_of free b) % 2 ^ 32
  unfolding sum
  number-sum a b = by (constant_of a) (constant_of b) refl refl
    where
      by : (m n : Option ℕ) → constant_of a ≡ m → constant_of b ≡ n → N (sum_by a b m n) ≡ (N a + N b) % 2 ^ 32
      by (Some m) (Some n) e f =
          let one = known a m e in let two = known b n f in let made = constant-number ((m + n) % 2 ^ 32) in omega (arith, one, two, made)
      by (Some m) None e f = let one = known a m e in let made = plus-number b m in omega (arith, one, made)
      by None (Some n) e f = let two = known b n f in let made = plus-number a n in omega (arith, two, made)
      by None None e f = sum-number a b

  apart-number : (a b : Symbolic) → N (if same a b then Constant 0 else Difference a b) ≡ (N a + (2 ^ 32 - N b)) % 2 ^ 32
  apart-number a b = by (same a b) refl
    where
      by : (z : Bool) → same a b ≡ z → N (if z then Constant 0 else Difference a b) ≡ (N a + (2 ^ 32 - N b)) % 2 ^ 32
      by true e =
          let equal : N a ≡ N b = ap (λ (x : Symbolic). N x) (same-eq a b e) in
          let none = constant-number 0 in
          let small = number-small b in
          omega (arith, equal, none, small)
      by false e = difference-number a b

  pub number-difference : (a b : Symbolic) → number_of free (difference a b) ≡ (number_of free a + (2 ^ 32 - number_of free b)) % 2 ^ 32
  unfolding difference
  number-difference a b = by (constant_of a) (constant_of b) refl refl
    where
      by : (m n : Option ℕ) → constant_of a ≡ m → constant_of b ≡ n → N (difference_by a b m n) ≡ (N a + (2 ^ 32 - N b)) % 2 ^ 32
      by (Some m) (Some n) e f =
          let one = known a m e in let two = known b n f in let made = constant-number ((m + (2 ^ 32 - n % 2 ^ 32)) % 2 ^ 32) in omega (arith, one, two, made)
      by None (Some n) e f =
          let two = known b n f in let made = plus-number a ((2 ^ 32 - n % 2 ^ 32) % 2 ^ 32) in omega (arith, two, made)
      by (Some m) None e f = apart-number a b
      by None None e f = apart-number a b

  pub number-shifted : (a : Symbolic) (amount : ℕ) → number_of free (shifted a amount) ≡ number_of free a * 2 ^ amount % 2 ^ 32
  unfolding shifted
  number-shifted a amount = by (constant_of a) refl
    where
      zero_or : (z : Bool) → (amount == 0) ≡ z → N (if z then a else Shifted a amount) ≡ N a * 2 ^ amount % 2 ^ 32
      zero_or true e =
          let none : amount ≡ 0 = eqb-true amount 0 e in
          let small = number-small a in
          let same : N a ≡ N a * 2 ^ 0 % 2 ^ 32 = omega (arith, small) in
          same ∙ ap (λ k. N a * 2 ^ k % 2 ^ 32) (sym none)
      zero_or false e = shifted-number a amount

      by : (n : Option ℕ) → constant_of a ≡ n → N (shifted_by a amount n) ≡ N a * 2 ^ amount % 2 ^ 32
      by (Some n) e =
          constant-number (n * 2 ^ amount % 2 ^ 32) ∙ (twice (n * 2 ^ amount) ∙ (sym (product n (2 ^ amount)) ∙ ap (λ k. k * 2 ^ amount % 2 ^ 32) (sym (known a n e))))
      by None e = zero_or (amount == 0) refl

  pub number-masked : (a : Symbolic) (mask : ℕ) → mask < 2 ^ 32 → number_of free (masked a mask) ≡ bit_and (number_of free a) mask
  unfolding masked
  number-masked a mask below = by (constant_of a) refl
    where
      short : bit_and (N a) mask % 2 ^ 32 ≡ bit_and (N a) mask
      short = let small = number-small a in let least = and_le_l (N a) mask in omega (arith, small, least)

      full : (z : Bool) → (mask == 2 ^ 32 - 1) ≡ z → N (if z then a else Masked a mask) ≡ bit_and (N a) mask
      full true e =
          let all : mask ≡ 2 ^ 32 - 1 = eqb-true mask (2 ^ 32 - 1) e in
          let small = number-small a in
          let same : N a ≡ N a % 2 ^ 32 = omega (arith, small) in
          same ∙ (sym (and_mask (N a) 32) ∙ ap (λ k. bit_and (N a) k) (sym all))
      full false e = masked-number a mask ∙ short

      none : (z : Bool) → (mask == 0) ≡ z → N (if z then Constant 0 else if mask == 2 ^ 32 - 1 then a else Masked a mask) ≡ bit_and (N a) mask
      none true e = constant-number 0 ∙ (sym (and_zero_r (N a)) ∙ ap (λ k. bit_and (N a) k) (sym (eqb-true mask 0 e)))
      none false e = full (mask == 2 ^ 32 - 1) refl

      by : (n : Option ℕ) → constant_of a ≡ n → N (masked_by a mask n) ≡ bit_and (N a) mask
      by (Some n) e =
          let same : mask % 2 ^ 32 ≡ mask = omega (arith, below) in
          constant-number (bit_and n mask) ∙ (and_mod n mask 32 ∙ ap₂ (λ (x y : ℕ). bit_and x y) (sym (known a n e)) same)
      by None e = none (mask == 0) refl
