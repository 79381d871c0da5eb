-- The types whose values the program computes with.
use Rattle.std.specs.Prelude.{◌≡◌, ◌^◌, ◌<◌, ◌≤◌, ℤ, pos, ◌+ℤ◌, ◌-ℤ◌, ◌*ℤ◌, unsigned_abs, FitsSigned, Option, Result, Ok, Err}
use Rattle.std.specs.Int.{CanDivide, w128}
use Rattle.c_types_spec.specs.declared.Scalar.{Scalar}
use Rattle.c_types_spec.specs.declared.Arithmetic.{Arithmetic}
use Rattle.c_types_spec.specs.declared.Arithmetic.TheVariants.{Add, Subtract, Multiply, Divide, Remainder, ShiftLeft}
use Rattle.c_types_spec.specs.Values.{arithmetic_value, converted}

-- it has from 1 to 64 bits
abbrev pub HasWidth : Scalar → Type 0
HasWidth type = (0 < type.width) × (type.width ≤ 64)

-- a value in the type, unless the program doesn't compute with the type
abbrev pub IsConverted : {E : Type 0} → Scalar → (value : ℤ) → Result ℤ E → Type 0
IsConverted type value (Ok made) = made ≡ converted type value
IsConverted type value (Err error) = HasWidth type → ⊥

-- what is given, and there is an error only where that is not possible
abbrev pub IsWhere : {A E : Type 0} → (possible : Type 0) → (given : A) → Result A E → Type 0
IsWhere possible given (Ok made) = made ≡ given
IsWhere possible given (Err error) = possible → ⊥

-- what is given, unless the program computes with a number of more than 128 bits for it
abbrev pub IsWithin : {A E : Type 0} → (number : ℤ) → (given : A) → Result A E → Type 0
IsWithin number given result = IsWhere (FitsSigned w128 number) given result

-- the number that the program computes with for an operator has at most 128 bits
abbrev pub Computes : Arithmetic → (left right : ℤ) → Type 0
Computes Add left right = FitsSigned w128 (left +ℤ right)
Computes Subtract left right = FitsSigned w128 (left -ℤ right)
Computes Multiply left right = FitsSigned w128 (left *ℤ right)
Computes Divide left right = CanDivide w128 left right
Computes Remainder left right = CanDivide w128 left right
Computes ShiftLeft left right = FitsSigned w128 (left *ℤ pos (2 ^ unsigned_abs right))
Computes other left right = Unit {0}

-- the value of an operator, unless the program doesn't compute with the type or the number
abbrev pub IsOperated : {E : Type 0} → Arithmetic → Scalar → (left right : ℤ) → Result (Option ℤ) E → Type 0
IsOperated operator type left right (Ok made) = made ≡ arithmetic_value operator type left right
IsOperated operator type left right (Err error) = HasWidth type → Computes operator left right → ⊥
