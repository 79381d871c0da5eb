-- Runs of bytes, as fixed bytes are listed.
use Rattle.std.specs.Prelude.{◌≡◌, ℕ, ◌-◌, ◌^◌, ◌<◌, nat_le, if◌then◌else◌, List, [], ◌∷◌, slice_get, Option, Some, None}
use Rattle.std.specs.Option.{option_or}

-- bytes at addresses one after the other, from `start` on
pub record Run : Type 0 where
  pub start : ℕ
  pub bytes : List ℕ

-- the byte of a run at an address
abbrev pub byte_in : Run → ℕ → Option ℕ
byte_in run address = if nat_le run.start address then slice_get run.bytes (address - run.start) else None

-- the byte that runs have at an address: that of the first run that has one
unfoldable pub fixed_byte : List Run → ℕ → Option ℕ
fixed_byte [] address = None
fixed_byte (run ∷ rest) address = option_or (byte_in run address) (fixed_byte rest address)

-- what runs have are bytes
abbrev pub AreBytes : List Run → Type 0
AreBytes runs = (address byte : ℕ) → fixed_byte runs address ≡ Some byte → byte < 2 ^ 8
