use Rattle.std.proofs.Common.{length}
use Rattle.word_steps_rules.proofs.monomial.+are_equally_often.Given as goal

abbrev pub decreases-are_equally_often : goal.decreases-are_equally_often
decreases-are_equally_often l = length l.ids.now
