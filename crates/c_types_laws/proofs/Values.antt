-- A converted value is one of its type, and so are 0 and 1.
use Rattle.std.proofs.Common.{◌≡◌, ℕ, ◌-◌, ◌%◌, ◌^◌, ◌<◌, ◌&&◌, nat_lt, not, Bool, true, false, IsTrue, ℤ, pos, negsuc, ◌-ℤ◌, if◌then◌else◌, refl, sym, ap, subst, arith, mod-eq_of_lt, mod-lt, pow_pos, eq-eqb, lt-ltb}
use Rattle.std.proofs.lemmas.Int.{ints}
use Rattle.c_types_spec.specs.declared.Scalar.{Scalar}
use Rattle.c_types_spec.specs.Types.{int}
use Rattle.c_types_spec.specs.Values.{same_value, bits_of, of_bits, converted, is_of}

same_value_itself : (v : ℤ) → same_value v v ≡ true
same_value_itself (pos a) = eq-eqb a a refl
same_value_itself (negsuc a) = eq-eqb a a refl

bits_of-below : (width : ℕ) (v : ℤ) → bits_of width v < 2 ^ width
bits_of-below width (pos n) = mod-lt n (pow_pos width)
bits_of-below width (negsuc n) = omega (arith, pow_pos width)

unwrapped : (m n k : ℕ) → n < m → k ≡ m - n - 1 → m - 1 - k % m ≡ n
unwrapped m n k below is =
    let small : k < m = omega arith in
    let same : k % m ≡ k = mod-eq_of_lt small in
    omega arith

bits_of-of_bits : (type : Scalar) (n : ℕ) → n < 2 ^ type.width → bits_of type.width (of_bits type n) ≡ n
bits_of-of_bits type n below = by_test (type.is_signed && not (nat_lt n (2 ^ (type.width - 1))))
  where
    by_test : (b : Bool) → bits_of type.width (if b then pos n -ℤ pos (2 ^ type.width) else pos n) ≡ n
    by_test true =
        let is : pos n -ℤ pos (2 ^ type.width) ≡ negsuc (2 ^ type.width - n - 1) = omega (arith, ints) in
        rw is (unwrapped (2 ^ type.width) n _ below refl)
    by_test false = mod-eq_of_lt below

converted_again : (type : Scalar) (v : ℤ) → converted type (converted type v) ≡ converted type v
unfolding converted
converted_again type v = ap (of_bits type) (bits_of-of_bits type (bits_of type.width v) (bits_of-below type.width v))

pub is_of-converted : (type : Scalar) (v : ℤ) → IsTrue (is_of type (converted type v))
is_of-converted type v = subst (λ z. same_value z (converted type v) ≡ true) (sym (converted_again type v)) (same_value_itself (converted type v))

of_bits-zero : (is_signed : Bool) (width : ℕ) → of_bits (record { width = width; is_signed = is_signed }) 0 ≡ pos 0
of_bits-zero false width = refl
of_bits-zero true width = rw (lt-ltb 0 (2 ^ (width - 1)) (pow_pos (width - 1))) refl

pub is_of-zero : (type : Scalar) → IsTrue (is_of type (pos 0))
unfolding converted
is_of-zero type =
    let bits : 0 % 2 ^ type.width ≡ 0 = mod-eq_of_lt (pow_pos type.width) in
    let is : of_bits type (0 % 2 ^ type.width) ≡ pos 0 = rw bits (of_bits-zero type.is_signed type.width) in
    subst (λ z. same_value z (pos 0) ≡ true) (sym is) refl

pub is_of-one : IsTrue (is_of int (pos 1))
unfolding converted
is_of-one = refl
