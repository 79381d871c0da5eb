use Rattle.std.proofs.Common.{◌≡◌, ◌+◌, length, map, drop}
use Rattle.elf_read.specs.Values.{symbol_of}
use Rattle.elf_make.specs.Layout as layout
use Rattle.elf_make.proofs.writer.names_length.Given as goal

abbrev pub invariant-loop-symbol : goal.invariant-loop-symbol
invariant-loop-symbol l =
    l.total + length (layout.names (map symbol_of (drop l.symbol-index l.symbols)))
    ≡ length (layout.names (map symbol_of l.symbols))
