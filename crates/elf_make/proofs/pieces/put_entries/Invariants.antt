use Rattle.std.proofs.Common.{◌+◌, ◌++◌, length, map}
use Rattle.elf_read.specs.Values.{symbol_of}
use Rattle.elf_make.specs.Layout as layout
use Rattle.elf_make.proofs.Steps.{EntriesLeft}
use Rattle.elf_make.proofs.pieces.put_entries.Given as goal

abbrev pub invariant-loop-symbol : goal.invariant-loop-symbol
invariant-loop-symbol l =
    EntriesLeft l.out.items (l.initial.out.items ++ layout.symbol_entries l.place (map symbol_of l.symbols)) l.at
    (l.place + length (layout.names (map symbol_of l.symbols))) l.symbol-index l.symbols
