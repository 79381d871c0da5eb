use Rattle.elf_read.proofs.TreeSteps.{IsReached}
use Rattle.elf_read.proofs.tree.node.Given as goal

abbrev pub invariant-loop-at : goal.invariant-loop-at
invariant-loop-at l = IsReached l.tree l.name l.at l.node

abbrev pub decreases-loop-at : goal.decreases-loop-at
decreases-loop-at l = l.at
