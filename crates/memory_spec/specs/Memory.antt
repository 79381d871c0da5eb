-- Memory: bytes, which are numbers below 256, by their addresses.
use Rattle.std.specs.Prelude.{ℕ, unwrap_or}
use Rattle.std.specs.FinMap.{FinMap, get}
use Rattle.std.specs.Ordering.{nat_cmp}

abbrev pub Memory : Type 0
Memory = FinMap nat_cmp ℕ

-- an absent address holds 0
unfoldable pub byte_at : Memory → ℕ → ℕ
byte_at memory a = unwrap_or (get memory a) 0
