use Rattle.word_steps_rules.proofs.bitwise.+are_same.Given as goal

abbrev pub decreases-are_same : goal.decreases-are_same
decreases-are_same l = l.count
