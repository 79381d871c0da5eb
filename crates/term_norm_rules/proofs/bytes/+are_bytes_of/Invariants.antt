use Rattle.std.proofs.Common.{length}
use Rattle.term_norm_rules.proofs.bytes.+are_bytes_of.Given as goal

abbrev pub decreases-are_bytes_of : goal.decreases-are_bytes_of
decreases-are_bytes_of l = length l.parts.now
