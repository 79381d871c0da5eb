use Rattle.elf_read.proofs.TreeSteps.{AreBlocksFrom}
use Rattle.elf_read.proofs.tree.add_blocks.Given as goal

abbrev pub invariant-loop-at : goal.invariant-loop-at
invariant-loop-at l = AreBlocksFrom l.tree l.strings l.nodes l.at l.node l.count

abbrev pub decreases-loop-at : goal.decreases-loop-at
decreases-loop-at l = l.at
