use Rattle.term_core.proofs.memory.Tree.+over.Given as goal

abbrev pub decreases-over : goal.decreases-over
decreases-over l = l.depth
