use Rattle.elf_read.proofs.RunsOf.{AreRunsBelow}
use Rattle.elf_read.proofs.loaded.Image.runs.Given as goal

abbrev pub invariant-loop-extent : goal.invariant-loop-extent
invariant-loop-extent l = AreRunsBelow l.self l.extents l.runs.items l.extent-index
