-- Numbers: their extent (ISO C11, 6.4.8), their value and their type (6.4.4.1).
use Rattle.std.specs.Prelude.{ℕ, suc, ◌+◌, ◌-◌, ◌*◌, ◌^◌, ◌==◌, ◌&&◌, ◌||◌, not, nat_lt, nat_le, Bool, true, false, if◌then◌else◌, List, [], ◌∷◌, codes, Option, Some, None, option_map, option_and_then, find, fold, take, drop}
use Rattle.std.specs.List.{prefix_len, list_any}
use Rattle.c_token_spec.specs.Words.{is_digit, is_word_byte, entry_of}
use Rattle.c_token_spec.specs.declared.token.Suffix.{Suffix}
use Rattle.c_token_spec.specs.declared.token.NumberType.{NumberType}
use Rattle.c_token_spec.specs.declared.token.NumberType.TheVariants.{SignedInt, UnsignedInt, SignedLongLong, UnsignedLongLong}

-- after `e`, `E`, `p` and `P` a sign is part of a number
abbrev pub takes_sign : ℕ → Bool
takes_sign byte = list_any (λ letter. byte == letter) (codes "eEpP")

abbrev pub goes_on : (before byte : ℕ) → Bool
goes_on before byte = is_word_byte byte || (byte == 46) || (takes_sign before && ((byte == 43) || (byte == 45)))

-- how many bytes at the start of a text continue a number, after a byte of it
abbrev pub number_len : (before : ℕ) → List ℕ → ℕ
number_len before [] = 0
number_len before (byte ∷ text) = if goes_on before byte then suc (number_len byte text) else 0

-- a digit to base 8, 10 or 16
abbrev pub is_digit_to : (base byte : ℕ) → Bool
is_digit_to base byte = (nat_le 48 byte && nat_lt byte 58 && nat_lt byte (48 + base)) || ((base == 16) && ((nat_le 65 byte && nat_le byte 70) || (nat_le 97 byte && nat_le byte 102)))

abbrev pub digit_value : (byte : ℕ) → ℕ
digit_value byte = if nat_lt byte 58 then byte - 48 else if nat_lt byte 71 then byte - 55 else byte - 87

abbrev pub digits_value : (base : ℕ) → List ℕ → ℕ
digits_value base digits = fold (λ value digit. base * value + digit_value digit) 0 digits

abbrev pub make_suffix : (is_unsigned is_long_long : Bool) → Suffix
make_suffix u l = record { is_unsigned = u; is_long_long = l }

abbrev pub suffixes : List (List ℕ × Suffix)
suffixes =
    (codes "", make_suffix false false) ∷ (codes "l", make_suffix false false) ∷ (codes "L", make_suffix false false)
    ∷ (codes "u", make_suffix true false) ∷ (codes "U", make_suffix true false)
    ∷ (codes "ul", make_suffix true false) ∷ (codes "uL", make_suffix true false) ∷ (codes "Ul", make_suffix true false) ∷ (codes "UL", make_suffix true false)
    ∷ (codes "lu", make_suffix true false) ∷ (codes "lU", make_suffix true false) ∷ (codes "Lu", make_suffix true false) ∷ (codes "LU", make_suffix true false)
    ∷ (codes "ll", make_suffix false true) ∷ (codes "LL", make_suffix false true)
    ∷ (codes "ull", make_suffix true true) ∷ (codes "uLL", make_suffix true true) ∷ (codes "Ull", make_suffix true true) ∷ (codes "ULL", make_suffix true true)
    ∷ (codes "llu", make_suffix true true) ∷ (codes "llU", make_suffix true true) ∷ (codes "LLu", make_suffix true true) ∷ (codes "LLU", make_suffix true true) ∷ []

-- the types that a number may have, by its suffix and whether it is decimal
abbrev pub may_be : (is_decimal : Bool) → Suffix → NumberType → Bool
may_be is_decimal suffix SignedInt = not suffix.is_unsigned && not suffix.is_long_long
may_be is_decimal suffix UnsignedInt = (suffix.is_unsigned || not is_decimal) && not suffix.is_long_long
may_be is_decimal suffix SignedLongLong = not suffix.is_unsigned
may_be is_decimal suffix UnsignedLongLong = suffix.is_unsigned || not is_decimal

-- whether a type holds a value
abbrev pub holds : (value : ℕ) → NumberType → Bool
holds value SignedInt = nat_lt value (2 ^ 31)
holds value UnsignedInt = nat_lt value (2 ^ 32)
holds value SignedLongLong = nat_lt value (2 ^ 63)
holds value UnsignedLongLong = nat_lt value (2 ^ 64)

-- the first of the types that holds the value
abbrev pub type_of : (is_decimal : Bool) → Suffix → (value : ℕ) → Option NumberType
type_of is_decimal suffix value = find (λ type. may_be is_decimal suffix type && holds value type) (SignedInt ∷ UnsignedInt ∷ SignedLongLong ∷ UnsignedLongLong ∷ [])

-- digits and a suffix
abbrev pub number_to : (base : ℕ) → List ℕ → Option (ℕ × NumberType)
number_to base text =
    let count = prefix_len (is_digit_to base) text in
    let value = digits_value base (take count text) in
    if count == 0
    then None
    else option_and_then (λ suffix. option_map (λ type. (value, type)) (type_of (base == 10) suffix value)) (entry_of suffixes (drop count text))

-- `0x` or `0X`, which begins hexadecimal numbers
abbrev pub is_hexadecimal : List ℕ → Bool
is_hexadecimal [] = false
is_hexadecimal (byte ∷ []) = false
is_hexadecimal (byte ∷ letter ∷ text) = (byte == 48) && ((letter == 120) || (letter == 88))

abbrev pub begins_with_zero : List ℕ → Bool
begins_with_zero [] = false
begins_with_zero (byte ∷ text) = byte == 48

-- the value and the type of a number
unfoldable pub number_of : List ℕ → Option (ℕ × NumberType)
number_of text =
    if is_hexadecimal text then number_to 16 (drop 2 text)
    else if begins_with_zero text then number_to 8 text
    else number_to 10 text
