-- Numbers that are counted.
use Rattle.std.specs.Prelude.{◌≡◌, ℕ, ◌^◌, ◌≤◌, Result, Ok, Err}

-- a number, unless no `usize` holds it
abbrev pub IsCounted : {E : Type 0} → (n : ℕ) → Result ℕ E → Type 0
IsCounted n (Ok counted) = counted ≡ n
IsCounted n (Err error) = 2 ^ 64 ≤ n
