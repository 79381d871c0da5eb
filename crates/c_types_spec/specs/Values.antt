-- Values of scalar types, and what operators do with them (ISO C11, 6.3.1.3, 6.5). A value is a whole number in the
-- range of its type. An operator gives none where a run breaks a guard.
use Rattle.std.specs.Prelude.{ℕ, ◌-◌, ◌%◌, ◌^◌, ◌==◌, ◌&&◌, ◌||◌, nat_lt, Bool, false, not, if◌then◌else◌, ℤ, pos, negsuc, ◌+ℤ◌, ◌-ℤ◌, ◌*ℤ◌, int_lt, int_div, int_rem, bit_and, bit_or, bit_xor, Option, Some, None, unsigned_abs}
use Rattle.std.specs.Int.{int_shr}
use Rattle.c_types_spec.specs.declared.Scalar.{Scalar}
use Rattle.c_types_spec.specs.declared.Arithmetic.{Arithmetic}
use Rattle.c_types_spec.specs.declared.Arithmetic.TheVariants.{Add, Subtract, Multiply, Divide, Remainder, ShiftLeft, ShiftRight, And, Or, Xor}
use Rattle.c_types_spec.specs.declared.Comparison.{Comparison}
use Rattle.c_types_spec.specs.declared.Comparison.TheVariants.{Equal, NotEqual, Less, Greater, LessOrEqual, GreaterOrEqual}

abbrev pub same_value : ℤ → ℤ → Bool
same_value (pos a) (pos b) = a == b
same_value (negsuc a) (negsuc b) = a == b
same_value a b = false

-- the low `width` bits of a number in two's complement
abbrev pub bits_of : (width : ℕ) → ℤ → ℕ
bits_of width (pos n) = n % 2 ^ width
bits_of width (negsuc n) = 2 ^ width - 1 - n % 2 ^ width

-- the value of a type that has these bits
abbrev pub of_bits : Scalar → ℕ → ℤ
of_bits type n = if type.is_signed && not (nat_lt n (2 ^ (type.width - 1))) then pos n -ℤ pos (2 ^ type.width) else pos n

-- 6.3.1.3: the value of the type that is congruent modulo 2 ^ width; for signed types the choice is ours
unfoldable pub converted : Scalar → ℤ → ℤ
converted type value = of_bits type (bits_of type.width value)

-- the value is one of the type
abbrev pub is_of : Scalar → ℤ → Bool
is_of type value = same_value (converted type value) value

-- 6.5p5: the result of signed arithmetic has to be a value of the type, unsigned arithmetic is modulo 2 ^ width
abbrev pub computed : Scalar → ℤ → Option ℤ
computed type value = if type.is_signed && not (is_of type value) then None else Some (converted type value)

-- 6.5.5p5, p6: a divisor is not 0, and the quotient, rounded towards 0, is a value of the type
abbrev pub can_divide : Scalar → (left right : ℤ) → Bool
can_divide type left right = not (same_value right (pos 0)) && is_of type (int_div left right)

abbrev pub divided : Scalar → (left right result : ℤ) → Option ℤ
divided type left right result = if can_divide type left right then Some result else None

-- 6.5.7: a count from 0 to below the width. A left shift is one of the bits; a right shift of a negative number is
-- arithmetic
abbrev pub shifted : Scalar → (count result : ℤ) → Option ℤ
shifted type count result = if int_lt count (pos 0) || not (int_lt count (pos type.width)) then None else Some (converted type result)

abbrev pub bitwise : Scalar → (ℕ → ℕ → ℕ) → ℤ → ℤ → ℤ
bitwise type operation left right = of_bits type (operation (bits_of type.width left) (bits_of type.width right))

unfoldable pub arithmetic_value : Arithmetic → Scalar → (left right : ℤ) → Option ℤ
arithmetic_value Add type left right = computed type (left +ℤ right)
arithmetic_value Subtract type left right = computed type (left -ℤ right)
arithmetic_value Multiply type left right = computed type (left *ℤ right)
arithmetic_value Divide type left right = divided type left right (int_div left right)
arithmetic_value Remainder type left right = divided type left right (int_rem left right)
arithmetic_value ShiftLeft type left right = shifted type right (left *ℤ pos (2 ^ unsigned_abs right))
arithmetic_value ShiftRight type left right = shifted type right (int_shr left (unsigned_abs right))
arithmetic_value And type left right = Some (bitwise type bit_and left right)
arithmetic_value Or type left right = Some (bitwise type bit_or left right)
arithmetic_value Xor type left right = Some (bitwise type bit_xor left right)

abbrev pub compares : Comparison → (left right : ℤ) → Bool
compares Equal left right = same_value left right
compares NotEqual left right = not (same_value left right)
compares Less left right = int_lt left right
compares Greater left right = int_lt right left
compares LessOrEqual left right = not (int_lt right left)
compares GreaterOrEqual left right = not (int_lt left right)

-- 6.5.8p6, 6.5.9p3: 1 or 0
unfoldable pub comparison_value : Comparison → (left right : ℤ) → ℤ
comparison_value operator left right = if compares operator left right then pos 1 else pos 0
