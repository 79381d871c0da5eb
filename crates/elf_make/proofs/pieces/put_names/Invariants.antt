use Rattle.std.proofs.Common.{◌≡◌, ◌++◌, map, drop}
use Rattle.elf_read.specs.Values.{symbol_of}
use Rattle.elf_make.specs.Layout as layout
use Rattle.elf_make.proofs.pieces.put_names.Given as goal

abbrev pub invariant-loop-symbol : goal.invariant-loop-symbol
invariant-loop-symbol l =
    l.out.items ++ layout.names (map symbol_of (drop l.symbol-index l.symbols))
    ≡ l.initial.out.items ++ layout.names (map symbol_of l.symbols)
