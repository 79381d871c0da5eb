-- What a parser of the program gives, beside the reference parser.
use Rattle.std.specs.Prelude.{◌≡◌, ℕ, ◌+◌, ◌-◌, ◌*◌, ◌<◌, ◌≤◌, ◌&&◌, nat_lt, nat_le, Bool, if◌then◌else◌, List, [], ◌∷◌, length, take, drop, Option, Some, None, Result, Ok, Err}
use Rattle.std.specs.Option.{option_map}
use Rattle.std.specs.Borrow.{Bor}
use Rattle.cert_text_spec.specs.Lines.{is_digit}
use Rattle.cert_text_laws.specs.Readers.{Reader, refused, given, is_hexadecimal, digit_value, read_hexadecimal, read_name}
use Rattle.attempt.specs.declared.refusal.Refusal.{Refusal}
use Rattle.attempt.specs.declared.refusal.Refusal.TheVariants.{Fault, NoMemory}
use Rattle.cert_text_parse.specs.declared.stopped.TextFault.{TextFault}
use Rattle.cert_text_parse.specs.declared.stopped.TextFault.TheVariants.{Wrong}
use Rattle.cert_text_parse.specs.declared.cursor.Cursor.{Cursor}

-- the value and the bytes after it, or the bytes from the wrong one on; out of memory can always come
abbrev pub Parses : {X : Type 0} → Reader X → (old new : Cursor) → Result X (Refusal TextFault) → Type 0
Parses reader old new (Ok x) = reader old.rest.now ≡ given x new.rest.now
Parses reader old new (Err NoMemory) = Unit {0}
Parses reader old new (Err (Fault Wrong)) = reader old.rest.now ≡ refused new.rest.now

abbrev pub ParsesName : (old new : Cursor) → Result (Bor (List ℕ)) (Refusal TextFault) → Type 0
ParsesName old new (Ok name) = read_name old.rest.now ≡ given name.now new.rest.now
ParsesName old new (Err NoMemory) = Unit {0}
ParsesName old new (Err (Fault Wrong)) = read_name old.rest.now ≡ refused new.rest.now

-- a word and its value
abbrev pub entry_of : {X : Type 0} → Bor (List ℕ) × X → List ℕ × X
entry_of entry = (entry.0.now, entry.1)

-- a word's length and its value
abbrev pub measured : {X : Type 0} → Option (List ℕ × X) → Option (ℕ × X)
measured found = option_map (λ entry. (length entry.0, entry.1)) found

-- the value of the digit that comes next
abbrev pub next_digit : List ℕ → Option ℕ
next_digit [] = None
next_digit (c ∷ text) = if is_digit c then Some (c - 48) else None

abbrev pub next_hexadecimal : List ℕ → Option ℕ
next_hexadecimal [] = None
next_hexadecimal (c ∷ text) = if is_hexadecimal c then Some (digit_value c) else None

-- the number with one digit more, if it has no leading zero and is not above the maximum
abbrev pub longer : (value digit most : ℕ) → Option ℕ
longer value digit most = if nat_lt 0 value && nat_le (value * 10 + digit) most then Some (value * 10 + digit) else None

-- so many digits were taken, whose value is below a bound
abbrev pub Takes : (digits bound : ℕ) → (old new : Cursor) → Result ℕ (Refusal TextFault) → Type 0
Takes digits bound old new (Ok d) = (d < bound) × ((more value : ℕ) → read_hexadecimal (digits + more) value old.rest.now ≡ read_hexadecimal more (value * bound + d) new.rest.now)
Takes digits bound old new (Err NoMemory) = ⊥
Takes digits bound old new (Err (Fault Wrong)) = (more value : ℕ) → read_hexadecimal (digits + more) value old.rest.now ≡ refused new.rest.now

-- so many bytes of the text are the name that is read
pub record IsNameLength (text : List ℕ) (n : ℕ) : Type 0 where
  pub within : n ≤ length text
  pub read : read_name text ≡ given (take n text) (drop n text)
