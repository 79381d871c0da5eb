use Rattle.std.proofs.Common.{◌≡◌, map, filter, drop, bytes_eq}
use Rattle.elf_read.specs.Values.{symbol_of}
use Rattle.elf_read.proofs.loaded.first_named.Given as goal

abbrev pub invariant-loop-symbol : goal.invariant-loop-symbol
invariant-loop-symbol l =
    filter (λ s. bytes_eq s.name l.name) (map symbol_of l.symbols) ≡ filter (λ s. bytes_eq s.name l.name) (map symbol_of (drop l.symbol-index l.symbols))
