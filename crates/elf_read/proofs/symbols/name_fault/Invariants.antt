use Rattle.std.proofs.Common.{◌+◌, ◌*◌, ◌<◌, ℕ}
use Rattle.elf_read_spec.specs.File as spec
use Rattle.elf_read.proofs.symbols.name_fault.Given as goal

abbrev pub invariant-loop-i : goal.invariant-loop-i
invariant-loop-i l = (k : ℕ) → k < l.i → spec.IsEnded l.bytes l.table (l.start + 16 * k)
