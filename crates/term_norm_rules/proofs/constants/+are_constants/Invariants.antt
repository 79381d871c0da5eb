use Rattle.std.proofs.Common.{length}
use Rattle.term_norm_rules.proofs.constants.+are_constants.Given as goal

abbrev pub decreases-are_constants : goal.decreases-are_constants
decreases-are_constants l = length l.parts.now
