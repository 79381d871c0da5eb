use Rattle.term_core.proofs.memory.Tree.+with_byte.Given as goal

abbrev pub decreases-with_byte : goal.decreases-with_byte
decreases-with_byte l = l.depth
