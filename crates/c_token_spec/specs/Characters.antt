-- Character constants (ISO C11, 6.4.4.4).
use Rattle.std.specs.Prelude.{ℕ, suc, ◌+◌, ◌==◌, ◌&&◌, not, nat_lt, nat_le, min, Bool, true, false, if◌then◌else◌, List, [], ◌∷◌, Option, Some, None, option_map, option_and_then, find, take, drop}
use Rattle.std.specs.List.{prefix_len}
use Rattle.c_token_spec.specs.Numbers.{is_digit_to, digits_value}

-- the letters of simple escapes, and their values
abbrev pub escapes : List (ℕ × ℕ)
escapes =
    (39, 39) ∷ (34, 34) ∷ (63, 63) ∷ (92, 92) ∷ (97, 7) ∷ (98, 8) ∷ (102, 12) ∷ (110, 10) ∷ (114, 13) ∷ (116, 9) ∷ (118, 11) ∷ []

abbrev pub escape_of : (letter : ℕ) → Option ℕ
escape_of letter = option_map (λ entry. entry.1) (find (λ entry. entry.0 == letter) escapes)

-- at most so many digits at the start of a text: their value, if it is below 256, and their number
abbrev pub digits_of : (base most : ℕ) → List ℕ → Option (ℕ × ℕ)
digits_of base most text =
    let count = min most (prefix_len (is_digit_to base) text) in
    let value = digits_value base (take count text) in
    if not (count == 0) && nat_lt value 256 then Some (value, count) else None

-- what follows a backslash: its value, and how many bytes it has
abbrev pub escaped : List ℕ → Option (ℕ × ℕ)
escaped [] = None
escaped (byte ∷ text) =
    if byte == 120 then option_map (λ digits. (digits.0, suc digits.1)) (digits_of 16 2 text)
    else if is_digit_to 8 byte then digits_of 8 3 (byte ∷ text)
    else option_map (λ value. (value, 1)) (escape_of byte)

-- the character between the quotes: its value, and how many bytes it has
abbrev pub element_of : List ℕ → Option (ℕ × ℕ)
element_of [] = None
element_of (byte ∷ text) =
    if byte == 92 then option_map (λ found. (found.0, suc found.1)) (escaped text)
    else if nat_le 32 byte && nat_le byte 126 && not (byte == 39) then Some (byte, 1)
    else None

abbrev pub begins_with_quote : List ℕ → Bool
begins_with_quote [] = false
begins_with_quote (byte ∷ text) = byte == 39

-- after a quote: the value, and how many bytes there are with the quote that closes
unfoldable pub character_of : List ℕ → Option (ℕ × ℕ)
character_of text = option_and_then (λ found. if begins_with_quote (drop found.1 text) then Some (found.0, suc found.1) else None) (element_of text)
