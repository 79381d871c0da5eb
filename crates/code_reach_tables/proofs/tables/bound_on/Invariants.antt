use Rattle.code_reach_tables.specs.Nodes.{trees_of}
use Rattle.code_reach_tables.proofs.Tabled.{IsLeft}
use Rattle.code_reach_tables.proofs.tables.bound_on.Given as goal

abbrev pub invariant-loop-left : goal.invariant-loop-left
invariant-loop-left l = IsLeft (trees_of l.straight.nodes.keys) l.straight.bounds.items l.index l.left

abbrev pub decreases-loop-left : goal.decreases-loop-left
decreases-loop-left l = l.left
