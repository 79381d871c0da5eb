use Rattle.std.proofs.Common.{◌≡◌, ◌==◌, ◌+◌, ◌*◌, ◌-◌, find}
use Rattle.elf_read_spec.specs.File as spec
use Rattle.elf_read.proofs.symbols.symbol_table.Given as goal

abbrev pub invariant-loop-i : goal.invariant-loop-i
invariant-loop-i l =
    find (λ at. spec.u32_at l.bytes (at + 4) == 2) (spec.entries (l.start + 40 * l.i) 40 (l.count - l.i)) ≡ spec.symbol_table l.bytes
