use Rattle.std.proofs.Common.{◌≡◌, ◌==◌, ◌+◌, ◌*◌, ◌-◌, ◌++◌, not, map, filter, Some}
use Rattle.elf_read_spec.specs.File as spec
use Rattle.elf_read.specs.Values.{symbol_of}
use Rattle.elf_read.proofs.symbols.defined_symbols.Given as goal

abbrev pub invariant-loop-i : goal.invariant-loop-i
invariant-loop-i l =
    map symbol_of l.symbols.items
    ++ map (spec.symbol_at l.bytes l.table)
    (filter (λ at. not (spec.u16_at l.bytes (at + 14) == 0)) (spec.entries (l.start + 16 * l.i) 16 (l.count - l.i)))
    ≡ spec.defined_symbols l.bytes (Some l.table)
