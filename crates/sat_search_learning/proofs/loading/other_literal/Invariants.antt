use Rattle.std.proofs.Common.{take}
use Rattle.sat_search_learning.specs.Search.{AreSame}
use Rattle.sat_search_learning.proofs.loading.other_literal.Given as goal

abbrev pub invariant-loop-literal : goal.invariant-loop-literal
invariant-loop-literal l = AreSame (take l.literal-index l.clause) l.first
