use Rattle.std.proofs.Common.{length}
use Rattle.word_steps_rules.proofs.plan.+joined_bit.Given as goal

abbrev pub decreases-joined_bit : goal.decreases-joined_bit
decreases-joined_bit l = length l.bytes.now
