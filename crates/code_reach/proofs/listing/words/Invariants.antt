use Rattle.code_reach.proofs.Listed.{IsListed}
use Rattle.code_reach.proofs.listing.words.Given as goal

abbrev pub invariant-loop-address : goal.invariant-loop-address
invariant-loop-address l = IsListed l.image l.entry l.size l.targets.keys l.addresses l.address-index l.words.items
