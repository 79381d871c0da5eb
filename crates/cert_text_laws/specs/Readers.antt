-- Readers of bytes, and those of words and numbers.
use Rattle.std.specs.Prelude.{ℕ, ◌+◌, ◌*◌, ◌-◌, ◌==◌, ◌&&◌, not, nat_lt, nat_le, zero, suc, max, Bool, true, false, if◌then◌else◌, List, [], ◌∷◌, ◌++◌, length, drop, Option, Some, None, Ok, Err}
use Rattle.std.specs.Option.{option_map_or}
use Rattle.exact_read.specs.Reading.{Wrong, Outcome, Parser, Marks}
use Rattle.exact_read.specs.Grammar.{bind, anything}
use Rattle.exact_read.specs.Exact.{Exact}
use Rattle.cert_text_spec.specs.Lines.{is_digit, is_letter, is_of_name}

-- bytes as they are; there is no limit beside the grammar's
abbrev pub bytes : Marks ℕ ℕ
bytes = record { plain = λ byte. byte; over = λ byte. false }

abbrev pub Reader : Type 0 → Type 0
Reader X = Parser ℕ (Unit {0}) X

-- the next byte is wrong
abbrev pub refused : {X : Type 0} → List ℕ → Outcome ℕ (Unit {0}) X
refused rest = Err (Wrong (tt {0}), rest)

abbrev pub given : {X : Type 0} → X → List ℕ → Outcome ℕ (Unit {0}) X
given value rest = Ok (value, rest)

-- a reader reads a grammar exactly, and the grammar has a text
pub record Reads {X : Type 0} (S : X → List ℕ → Type 0) (stop : ℕ → Bool) (read : Reader X) : Type 0 where
  pub exact : Exact bytes anything S (λ _. stop) read
  pub sample : X
  pub sample_text : List ℕ
  pub derives : S sample sample_text

-- ---- one of some words

-- the text begins with the word
abbrev pub begins_with : (word text : List ℕ) → Bool
begins_with [] text = true
begins_with (c ∷ word) [] = false
begins_with (c ∷ word) (d ∷ text) = if c == d then begins_with word text else false

-- how many bytes of the word the text begins with
abbrev pub common : (word text : List ℕ) → ℕ
common [] text = 0
common (c ∷ word) [] = 0
common (c ∷ word) (d ∷ text) = if c == d then suc (common word text) else 0

abbrev pub found_in : {X : Type 0} → List (List ℕ × X) → List ℕ → Option (List ℕ × X)
found_in [] text = None
found_in (entry ∷ table) text = if begins_with entry.0 text then Some entry else found_in table text

abbrev pub furthest : {X : Type 0} → List (List ℕ × X) → List ℕ → ℕ
furthest [] text = 0
furthest (entry ∷ table) text = max (common entry.0 text) (furthest table text)

abbrev pub read_word : {X : Type 0} → List (List ℕ × X) → Reader X
read_word table text = option_map_or (λ entry. given entry.1 (drop (length entry.0) text)) (found_in table text) (refused (drop (furthest table text) text))

-- the value's word
pub data Word {X : Type 0} (value : X) (text : List ℕ) : List (List ℕ × X) → Type 0 where
  here : (table : List (List ℕ × X)) → Word value text ((text, value) ∷ table)
  there : (entry : List ℕ × X) (table : List (List ℕ × X)) → Word value text table → Word value text (entry ∷ table)

-- ---- decimals

abbrev pub not_digit : ℕ → Bool
not_digit c = not (is_digit c)

-- further digits of a decimal below a bound; no zero leads
abbrev pub read_digits : (bound value : ℕ) → Reader ℕ
read_digits bound value [] = given value []
read_digits bound value (c ∷ more) =
    if is_digit c
    then (if nat_lt 0 value && nat_lt (value * 10 + (c - 48)) bound then read_digits bound (value * 10 + (c - 48)) more else refused (c ∷ more))
    else given value (c ∷ more)

-- a decimal from `low`, which is 0 or 1, to below a bound above 9
abbrev pub read_decimal : (low bound : ℕ) → Reader ℕ
read_decimal low bound [] = refused []
read_decimal low bound (c ∷ more) = if is_digit c && nat_le low (c - 48) then read_digits bound (c - 48) more else refused (c ∷ more)

-- ---- addresses

abbrev pub is_small_letter : ℕ → Bool
is_small_letter c = nat_le 97 c && nat_le c 102

abbrev pub is_hexadecimal : ℕ → Bool
is_hexadecimal c = if is_digit c then true else is_small_letter c

abbrev pub digit_value : ℕ → ℕ
digit_value c = if is_digit c then c - 48 else c - 87

-- so many digits more
abbrev pub read_hexadecimal : (digits value : ℕ) → Reader ℕ
read_hexadecimal zero value text = given value text
read_hexadecimal (suc digits) value [] = refused []
read_hexadecimal (suc digits) value (c ∷ more) = if is_hexadecimal c then read_hexadecimal digits (value * 16 + digit_value c) more else refused (c ∷ more)

abbrev pub read_address : Reader ℕ
read_address text = read_hexadecimal 8 0 text

-- ---- names

abbrev pub not_of_name : ℕ → Bool
not_of_name c = not (is_of_name c)

-- the letters and digits that follow
abbrev pub read_letters : Reader (List ℕ)
read_letters [] = given [] []
read_letters (c ∷ more) = if is_of_name c then bind (read_letters more) (λ name rest. given (c ∷ name) rest) else given [] (c ∷ more)

abbrev pub read_name : Reader (List ℕ)
read_name [] = refused []
read_name (c ∷ more) = if is_letter c then bind (read_letters more) (λ name rest. given (c ∷ name) rest) else refused (c ∷ more)

-- ---- items of a derivation

-- the items where these are expected; `fuel` is above the number of bytes
abbrev pub read_at_most : {N I : Type 0} → (item : N → Reader I) → (after : N → I → List N) → (fuel : ℕ) → List N → Reader (List I)
read_at_most item after fuel [] text = given [] text
read_at_most item after zero (n ∷ others) text = refused text
read_at_most item after (suc fuel) (n ∷ others) text =
    bind (item n text) (λ i rest. bind (read_at_most item after fuel (after n i ++ others) rest) (λ items last. given (i ∷ items) last))

abbrev pub read_items : {N I : Type 0} → (item : N → Reader I) → (after : N → I → List N) → List N → Reader (List I)
read_items item after expected text = read_at_most item after (suc (length text)) expected text
