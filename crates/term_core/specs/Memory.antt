-- The byte that the memory of the code has at an address.
use Rattle.std.specs.Prelude.{ℕ, ◌-◌, ◌^◌, nat_lt, if◌then◌else◌}
use Rattle.term_core.specs.declared.memory.Tree.{Tree}
use Rattle.term_core.specs.declared.memory.Tree.TheVariants.{All, Fork'}
use Rattle.term_core.specs.declared.memory.Memory.{Memory}
use Rattle.term_core_spec.specs.Value.{low_bits}

-- the byte at an address of `depth` bits: the highest bit gives the half
unfoldable pub byte_in : Tree → (depth : ℕ) → ℕ → ℕ
byte_in (All byte) depth q = byte
byte_in (Fork' p lower r upper) depth q =
    if nat_lt q (2 ^ (depth - 1)) then byte_in lower (depth - 1) q else byte_in upper (depth - 1) (q - 2 ^ (depth - 1))

-- the byte by its half
abbrev pub of_halves : Tree → Tree → (depth : ℕ) → ℕ → ℕ
of_halves lower upper depth q =
    if nat_lt q (2 ^ (depth - 1)) then byte_in lower (depth - 1) q else byte_in upper (depth - 1) (q - 2 ^ (depth - 1))

-- the byte at each address of 32 bits, and 0 at larger numbers
abbrev pub bytes_of : Memory → (ℕ → ℕ)
bytes_of m = λ q. if nat_lt q (2 ^ 32) then low_bits 8 (byte_in m.tree 32 q) else 0
