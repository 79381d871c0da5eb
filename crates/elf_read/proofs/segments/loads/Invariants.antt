use Rattle.elf_read.proofs.Loads.{AreLoads}
use Rattle.elf_read.proofs.segments.loads.Given as goal

abbrev pub invariant-loop-i : goal.invariant-loop-i
invariant-loop-i l = AreLoads l.bytes l.loads.items l.start l.count l.i
