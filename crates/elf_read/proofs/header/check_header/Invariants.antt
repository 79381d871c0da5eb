use Rattle.std.proofs.Common.{◌+◌}
use Rattle.elf_read.specs.Faults.{KeepsBelow}
use Rattle.elf_read.proofs.header.check_header.Given as goal

abbrev pub invariant-loop-kind : goal.invariant-loop-kind
invariant-loop-kind l = KeepsBelow l.bytes (2 + l.kind-index)
