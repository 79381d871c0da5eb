use Rattle.sat_search_learning.specs.Search.{AllHaveValue}
use Rattle.sat_search_learning.proofs.choice.scanned.Given as goal

abbrev pub invariant-loop-index : goal.invariant-loop-index
invariant-loop-index l = AllHaveValue l.trail l.index
