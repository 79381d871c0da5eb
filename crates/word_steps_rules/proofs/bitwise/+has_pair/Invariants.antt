use Rattle.word_steps_rules.proofs.bitwise.+has_pair.Given as goal

abbrev pub decreases-has_pair : goal.decreases-has_pair
decreases-has_pair l = l.count
