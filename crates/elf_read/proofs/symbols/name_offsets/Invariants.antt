use Rattle.std.proofs.Common.{◌≡◌, ◌==◌, ◌+◌, ◌*◌, ◌-◌, ◌++◌, not, map, filter}
use Rattle.elf_read_spec.specs.File as spec
use Rattle.elf_read.specs.Names.{names_of}
use Rattle.elf_read.proofs.symbols.name_offsets.Given as goal

abbrev pub invariant-loop-i : goal.invariant-loop-i
invariant-loop-i l =
    map (spec.name_in (spec.strings_of l.bytes l.table)) l.offsets.items
    ++ map (λ at. (spec.symbol_at l.bytes l.table at).name)
    (filter (λ at. not (spec.u16_at l.bytes (at + 14) == 0)) (spec.entries (l.start + 16 * l.i) 16 (l.count - l.i)))
    ≡ names_of l.bytes l.table
