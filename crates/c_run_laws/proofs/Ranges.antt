-- Which values are of a type.
use Rattle.std.proofs.Common.{◌≡◌, ◌⊎◌, ℕ, zero, suc, ◌+◌, ◌-◌, ◌<◌, ◌≤◌, ◌&&◌, inl, inr, Bool, true, false, not, if◌then◌else◌, IsTrue, refl, sym, ap, subst, ◌∙◌, arith, eqb-true, eq-eqb}
use Rattle.std.specs.Prelude.{ℤ, pos, negsuc, ◌-ℤ◌, ◌%◌, ◌^◌, nat_lt, int_div, int_rem, unsigned_abs}
use Rattle.std.proofs.lemmas.Nat.{pow_pos}
use Rattle.std.proofs.Math.Nat.{mod-eq_of_lt, pow-suc}
use Rattle.std.proofs.lemmas.Bool.{lt-ltb, le-ltb, ltb-true, ltb-false}
use Rattle.std.proofs.lemmas.Int.{ints, rem_below}
use Rattle.c_types_spec.specs.declared.Scalar.{Scalar}
use Rattle.c_types_spec.specs.Values.{same_value, bits_of, of_bits, converted, is_of, can_divide}

pub same_itself : (v : ℤ) → same_value v v ≡ true
same_itself (pos n) = eq-eqb n n refl
same_itself (negsuc n) = eq-eqb n n refl

pub same_equal : (a b : ℤ) → same_value a b ≡ true → a ≡ b
same_equal (pos a) (pos b) h = ap pos (eqb-true a b h)
same_equal (negsuc a) (negsuc b) h = ap negsuc (eqb-true a b h)
same_equal (pos a) (negsuc b) h = cc
same_equal (negsuc a) (pos b) h = cc

below_bits : (N n : ℕ) → 0 < N → n % N < N
below_bits N n h = omega arith

pub bits_below : (w : ℕ) (v : ℤ) → bits_of w v < 2 ^ w
bits_below w (pos n) = below_bits (2 ^ w) n (pow_pos w)
bits_below w (negsuc n) = let h : 0 < 2 ^ w = pow_pos w in omega arith

-- the value with these bits, by the power of the width, and by what the values with a sign begin at
abbrev signed_value : (N H n : ℕ) → (is_negative : Bool) → ℤ
signed_value N H n is_negative = if is_negative then pos n -ℤ pos N else pos n

abbrev bits_by : (N : ℕ) → ℤ → ℕ
bits_by N (pos n) = n % N
bits_by N (negsuc n) = N - 1 - n % N

small : (N n : ℕ) → n < N → n % N ≡ n
small N n h = mod-eq_of_lt h

minus_more : (n N : ℕ) → n < N → pos n -ℤ pos N ≡ negsuc (N - suc n)
minus_more n N h = omega (arith, ints)

bits_back : (N H n : ℕ) → n < N → (is_negative : Bool) → bits_by N (signed_value N H n is_negative) ≡ n
bits_back N H n h false = small N n h
bits_back N H n h true =
    ap (bits_by N) (minus_more n N h) ∙ ap (λ m. N - 1 - m) (small N (N - suc n) (omega arith)) ∙ omega arith

by_power : (w : ℕ) (v : ℤ) → bits_of w v ≡ bits_by (2 ^ w) v
by_power w (pos n) = refl
by_power w (negsuc n) = refl

pub bits-of_bits : (type : Scalar) (n : ℕ) → n < 2 ^ type.width → bits_of type.width (of_bits type n) ≡ n
bits-of_bits type n h =
    by_power type.width (of_bits type n) ∙ bits_back (2 ^ type.width) 0 n h (type.is_signed && not (nat_lt n (2 ^ (type.width - 1))))

pub of_bits_is_of : (type : Scalar) (n : ℕ) → n < 2 ^ type.width → IsTrue (is_of type (of_bits type n))
unfolding converted
of_bits_is_of type n h =
    subst (λ m. same_value (of_bits type m) (of_bits type n) ≡ true) (sym (bits-of_bits type n h)) (same_itself (of_bits type n))

pub converted_is_of : (type : Scalar) (v : ℤ) → IsTrue (is_of type (converted type v))
unfolding converted
converted_is_of type v = of_bits_is_of type (bits_of type.width v) (bits_below type.width v)

-- an unsigned type of a width
pub unsigned_is_of : (type : Scalar) (n : ℕ) → type.is_signed ≡ false → n < 2 ^ type.width → IsTrue (is_of type (pos n))
unfolding converted
unsigned_is_of type n plain h =
    let bits : n % 2 ^ type.width ≡ n = small (2 ^ type.width) n h in
    let back : of_bits type n ≡ pos n = ap (λ s. if s && not (nat_lt n (2 ^ (type.width - 1))) then pos n -ℤ pos (2 ^ type.width) else pos n) plain in
    ap (λ m. same_value (of_bits type m) (pos n)) bits ∙ ap (λ v. same_value v (pos n)) back ∙ same_itself (pos n)

-- ---- remainders

-- the value with some bits, by the power of the width and that below it
value_by : (is_signed : Bool) → (N H n : ℕ) → ℤ
value_by is_signed N H n = if is_signed && not (nat_lt n H) then pos n -ℤ pos N else pos n

value_low : (is_signed : Bool) (N H n : ℕ) → n < H → value_by is_signed N H n ≡ pos n
unfolding value_by
value_low true N H n h = ap (λ b. if not b then pos n -ℤ pos N else pos n) (lt-ltb n H h)
value_low false N H n h = refl

value_high : (N H n : ℕ) → H ≤ n → n < N → value_by true N H n ≡ negsuc (N - suc n)
unfolding value_by
value_high N H n h below = ap (λ b. if not b then pos n -ℤ pos N else pos n) (le-ltb n H h) ∙ minus_more n N below

-- a number near 0 has bits that are its own
near_back : (N H : ℕ) (v : ℤ) → H + H ≤ N → unsigned_abs v < H → value_by true N H (bits_by N v) ≡ v
near_back N H (pos n) wide h =
    ap (value_by true N H) (small N n (omega arith)) ∙ value_low true N H n h
near_back N H (negsuc n) wide h =
    let bits : bits_by N (negsuc n) ≡ N - suc n = ap (λ m. N - 1 - m) (small N n (omega arith)) ∙ omega arith in
    let back : N - suc (N - suc n) ≡ n = omega arith in
    ap (value_by true N H) bits ∙ value_high N H (N - suc n) (omega arith) (omega arith) ∙ ap negsuc back

at_zero_back : (N H : ℕ) (v : ℤ) → 0 < N → 0 < H → unsigned_abs v < 1 → value_by true N H (bits_by N v) ≡ v
at_zero_back N H (pos zero) some more h = ap (value_by true N H) (small N 0 some) ∙ value_low true N H 0 more
at_zero_back N H (pos (suc n)) some more h = absurd (omega arith)
at_zero_back N H (negsuc n) some more h = absurd (omega arith)

half_or_one : (w : ℕ) → (2 ^ (w - 1) + 2 ^ (w - 1) ≤ 2 ^ w) ⊎ (2 ^ (w - 1) ≤ 1)
half_or_one zero = inr (omega arith)
half_or_one (suc w) =
    let less : suc w - 1 ≡ w = omega arith in
    inl (subst (λ k. 2 ^ k + 2 ^ k ≤ 2 ^ suc w) (sym less) (subst (λ n. 2 ^ w + 2 ^ w ≤ n) (sym (pow-suc 2 w)) (omega arith)))

half_enough : (w : ℕ) → 2 ^ w ≤ 2 ^ (w - 1) + 2 ^ (w - 1)
half_enough zero = omega arith
half_enough (suc w) =
    let less : suc w - 1 ≡ w = omega arith in
    subst (λ k. 2 ^ suc w ≤ 2 ^ k + 2 ^ k) (sym less) (subst (λ n. n ≤ 2 ^ w + 2 ^ w) (sym (pow-suc 2 w)) (omega arith))

-- a number near 0 is of a type with a sign
near_is_of : (type : Scalar) (v : ℤ) → type.is_signed ≡ true → unsigned_abs v < 2 ^ (type.width - 1) → IsTrue (is_of type v)
unfolding converted value_by
near_is_of type v signed h =
    let back : value_by true (2 ^ type.width) (2 ^ (type.width - 1)) (bits_by (2 ^ type.width) v) ≡ v =
    elim (half_or_one type.width) [
      | inl wide ↦ near_back (2 ^ type.width) (2 ^ (type.width - 1)) v wide h
      | inr one ↦ at_zero_back (2 ^ type.width) (2 ^ (type.width - 1)) v (pow_pos type.width) (pow_pos (type.width - 1)) (omega arith)
    ] in
    ap (λ n. same_value (of_bits type n) v) (by_power type.width v)
    ∙ ap (λ s. same_value (value_by s (2 ^ type.width) (2 ^ (type.width - 1)) (bits_by (2 ^ type.width) v)) v) signed
    ∙ ap (λ u. same_value u v) back ∙ same_itself v

-- a value of a type with a sign is near 0
value_near : (N H n : ℕ) → n < N → N ≤ H + H → (b : Bool) → nat_lt n H ≡ b → unsigned_abs (value_by true N H n) ≤ H
unfolding value_by
value_near N H n below wide true e =
    let h : n < H = ltb-true n H e in subst (λ v. unsigned_abs v ≤ H) (sym (value_low true N H n h)) (omega arith)
value_near N H n below wide false e =
    let h : H ≤ n = ltb-false n H e in subst (λ v. unsigned_abs v ≤ H) (sym (value_high N H n h below)) (omega arith)

signed_near : (type : Scalar) (v : ℤ) → type.is_signed ≡ true → IsTrue (is_of type v) → unsigned_abs v ≤ 2 ^ (type.width - 1)
unfolding converted value_by
signed_near type v signed h =
    let is : converted type v ≡ v = same_equal _ _ h in
    let by : converted type v ≡ value_by true (2 ^ type.width) (2 ^ (type.width - 1)) (bits_of type.width v) =
    ap (λ s. value_by s (2 ^ type.width) (2 ^ (type.width - 1)) (bits_of type.width v)) signed in
    subst (λ u. unsigned_abs u ≤ 2 ^ (type.width - 1)) (sym by ∙ is)
    (value_near (2 ^ type.width) (2 ^ (type.width - 1)) (bits_of type.width v) (bits_below type.width v) (half_enough type.width) (nat_lt (bits_of type.width v) (2 ^ (type.width - 1))) refl)

-- a value of a type without sign is the number that its bits are
plain_bits : (type : Scalar) (v : ℤ) → type.is_signed ≡ false → IsTrue (is_of type v) → v ≡ pos (bits_of type.width v)
unfolding converted value_by
plain_bits type v plain h =
    sym (same_equal (converted type v) v h) ∙ ap (λ s. value_by s (2 ^ type.width) (2 ^ (type.width - 1)) (bits_of type.width v)) plain

plain_remainder : (type : Scalar) (a d N : ℕ) → type.is_signed ≡ false → 0 < d → d < 2 ^ type.width → IsTrue (is_of type (int_rem (pos a) (pos d)))
plain_remainder type a d N plain some below = unsigned_is_of type (a % d) plain (let h : a % d < d = below_bits d a some in omega arith)

nonzero_abs : (v : ℤ) → not (same_value v (pos 0)) ≡ true → 0 < unsigned_abs v
nonzero_abs (pos zero) h = absurd (cc)
nonzero_abs (pos (suc n)) h = omega arith
nonzero_abs (negsuc n) h = omega arith

and_left : (a b : Bool) → (a && b) ≡ true → a ≡ true
and_left true b h = refl
and_left false b h = h

by_sign : (type : Scalar) (left right : ℤ) → (s : Bool) → type.is_signed ≡ s → IsTrue (is_of type left) → IsTrue (is_of type right) → 0 < unsigned_abs right → IsTrue (is_of type (int_rem left right))
by_sign type left right true signed a b some =
    near_is_of type (int_rem left right) signed
    (let h : unsigned_abs (int_rem left right) < unsigned_abs right = rem_below left right some in
    let k : unsigned_abs right ≤ 2 ^ (type.width - 1) = signed_near type right signed b in omega arith)
by_sign type left right false plain a b some =
    let l : left ≡ pos (bits_of type.width left) = plain_bits type left plain a in
    let r : right ≡ pos (bits_of type.width right) = plain_bits type right plain b in
    let positive : 0 < bits_of type.width right = subst (λ v. 0 < unsigned_abs v) r some in
    subst (λ v. is_of type (int_rem left v) ≡ true) (sym r)
    (subst (λ v. is_of type (int_rem v (pos (bits_of type.width right))) ≡ true) (sym l)
    (plain_remainder type (bits_of type.width left) (bits_of type.width right) 0 plain positive (bits_below type.width right)))

pub remainder_is_of : (type : Scalar) (left right : ℤ) → IsTrue (is_of type left) → IsTrue (is_of type right) → can_divide type left right ≡ true → IsTrue (is_of type (int_rem left right))
remainder_is_of type left right a b e =
    by_sign type left right type.is_signed refl a b (nonzero_abs right (and_left (not (same_value right (pos 0))) (is_of type (int_div left right)) e))
