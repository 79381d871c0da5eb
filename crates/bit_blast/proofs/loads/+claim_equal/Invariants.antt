use Rattle.std.proofs.Common.{length}
use Rattle.bit_blast.proofs.loads.+claim_equal.Given as goal

abbrev pub decreases-claim_equal : goal.decreases-claim_equal
decreases-claim_equal l = length l.x.now
