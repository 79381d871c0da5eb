use Rattle.elf_read.proofs.RunsOf.{AreBytesBelow}
use Rattle.elf_read.proofs.loaded.Image.bytes_in.Given as goal

abbrev pub invariant-loop-k : goal.invariant-loop-k
invariant-loop-k l = AreBytesBelow l.self l.extent.first l.bytes.items l.k
