use Rattle.elf_read.proofs.ZeroPlaces.{AreZerosBelow}
use Rattle.elf_read.proofs.strings.zeros.Given as goal

abbrev pub invariant-loop-place : goal.invariant-loop-place
invariant-loop-place l = AreZerosBelow l.strings l.zeros.items l.place
