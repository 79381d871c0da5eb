-- Blank space: blank bytes, comments (ISO C11, 6.4.9), and the line markers that a preprocessor leaves.
use Rattle.std.specs.Prelude.{ℕ, suc, ◌+◌, ◌==◌, ◌&&◌, ◌||◌, not, nat_le, nat_eq, Bool, true, false, if◌then◌else◌, List, [], ◌∷◌, codes, Option, Some, None, option_map, drop}
use Rattle.std.specs.List.{prefix_len, starts_with}
use Rattle.c_token_spec.specs.Words.{is_digit}

-- a space, a tab, a vertical tab, a form feed or a carriage return
abbrev pub is_blank_in_line : ℕ → Bool
is_blank_in_line byte = (byte == 32) || (byte == 9) || (byte == 11) || (byte == 12) || (byte == 13)

-- one of these, or a line feed
abbrev pub is_blank_byte : ℕ → Bool
is_blank_byte byte = is_blank_in_line byte || (byte == 10)

-- how many bytes precede the end of the line
abbrev pub line_len : List ℕ → ℕ
line_len text = prefix_len (λ byte. not (byte == 10)) text

-- how many bytes there are up to the first `*/` and with it; none where there is no `*/`
abbrev pub close_len : List ℕ → Option ℕ
close_len [] = None
close_len (byte ∷ text) = if starts_with nat_eq (byte ∷ text) (codes "*/") then Some 2 else option_map suc (close_len text)

abbrev pub begins_with_digit : List ℕ → Bool
begins_with_digit [] = false
begins_with_digit (byte ∷ text) = is_digit byte

-- the `#` of a line marker is followed by blanks and a digit
abbrev pub is_marker : List ℕ → Bool
is_marker text = begins_with_digit (drop (prefix_len is_blank_in_line text) text)
