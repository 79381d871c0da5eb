use Rattle.std.proofs.Common.{length}
use Rattle.word_steps.proofs.block.Block.+are_facts.Given as goal

abbrev pub decreases-are_facts : goal.decreases-are_facts
decreases-are_facts l = length l.kept.now
