use Rattle.std.proofs.Common.{length}
use Rattle.term_core.proofs.sorts.+all_bytes.Given as goal

abbrev pub decreases-all_bytes : goal.decreases-all_bytes
decreases-all_bytes l = length l.sorts.now
