use Rattle.std.proofs.Common.{take}
use Rattle.sat_search_learning.specs.Search.{IsHighest}
use Rattle.sat_search_learning.proofs.learning.highest.Given as goal

abbrev pub invariant-loop-literal : goal.invariant-loop-literal
invariant-loop-literal l = IsHighest l.trail l.fn.asserting (take l.literal-index l.others) l.best.literal l.best.level
