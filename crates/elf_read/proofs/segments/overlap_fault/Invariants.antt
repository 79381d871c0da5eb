use Rattle.elf_read.proofs.Overlaps.{AreEarlier}
use Rattle.elf_read.proofs.segments.overlap_fault.Given as goal

abbrev pub invariant-loop-at : goal.invariant-loop-at
invariant-loop-at l = AreEarlier l.bytes l.loads l.headers l.at-index
