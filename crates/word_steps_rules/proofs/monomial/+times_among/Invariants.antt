use Rattle.std.proofs.Common.{length}
use Rattle.word_steps_rules.proofs.monomial.+times_among.Given as goal

abbrev pub decreases-times_among : goal.decreases-times_among
decreases-times_among l = length l.ids.now
