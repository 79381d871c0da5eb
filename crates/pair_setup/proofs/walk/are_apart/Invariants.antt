use Rattle.pair_setup.proofs.Walking.{AreApartBelow}
use Rattle.pair_setup.proofs.walk.are_apart.Given as goal

abbrev pub invariant-loop-entry : goal.invariant-loop-entry
invariant-loop-entry l = AreApartBelow l.image l.entries l.entry-index l.end
