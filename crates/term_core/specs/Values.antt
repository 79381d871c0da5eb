-- The values of the code as values.

use Rattle.std.specs.Prelude.{ℕ, ◌+◌, ◌*◌, ◌^◌, Option, option_map, option_and_then}
use Rattle.term_core.specs.declared.value.Value.{Value}
use Rattle.term_core.specs.declared.value.Value.TheVariants.{Truth, Number, Bytes}
use Rattle.term_core_spec.specs.Value as spec
use Rattle.term_core.specs.Memory.{bytes_of}

abbrev pub value_of : Value → spec.Value
value_of (Truth truth) = spec.Truth truth
value_of (Number width number) = spec.Number width number
value_of (Bytes memory) = spec.Bytes (bytes_of memory)

-- the number of four bytes, and of the bytes above them
abbrev pub four_more : Option ℕ → Option ℕ → Option ℕ
four_more lower upper = option_and_then (λ m. option_map (λ n. m + 2 ^ 32 * n) upper) lower
