use Rattle.word_steps_rules.proofs.bitwise.+have_pairs.Given as goal

abbrev pub decreases-have_pairs : goal.decreases-have_pairs
decreases-have_pairs l = l.count
