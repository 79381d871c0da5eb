use Rattle.sat_search_learning.specs.Search.{IsReadOff}
use Rattle.sat_search_learning.proofs.models.bits_of.Given as goal

abbrev pub invariant-loop-index : goal.invariant-loop-index
invariant-loop-index l = IsReadOff l.trail l.index l.bits.items
