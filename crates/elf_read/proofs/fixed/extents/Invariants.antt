use Rattle.elf_read.proofs.ExtentSteps.{AreExtentsBelow}
use Rattle.elf_read.proofs.fixed.extents.Given as goal

abbrev pub invariant-loop-segment : goal.invariant-loop-segment
invariant-loop-segment l = AreExtentsBelow l.fixed l.extents.items l.segment-index
