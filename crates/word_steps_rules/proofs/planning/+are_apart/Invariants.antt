use Rattle.word_steps_rules.proofs.planning.+are_apart.Given as goal

abbrev pub decreases-are_apart : goal.decreases-are_apart
decreases-are_apart l = l.count
