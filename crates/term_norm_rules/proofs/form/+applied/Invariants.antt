use Rattle.std.proofs.Common.{length}
use Rattle.term_norm_rules.proofs.form.+applied.Given as goal

abbrev pub decreases-applied : goal.decreases-applied
decreases-applied l = length l.rules.now
