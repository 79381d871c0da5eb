use Rattle.word_steps_rules.proofs.bitwise.+differ.Given as goal

abbrev pub decreases-differ : goal.decreases-differ
decreases-differ l = l.count
