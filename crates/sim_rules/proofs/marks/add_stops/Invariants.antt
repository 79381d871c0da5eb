use Rattle.std.proofs.Common.{◌≡◌, ◌++◌, map, take}
use Rattle.sim_rules.specs.Marks.{stop_mark}
use Rattle.sim_rules.proofs.marks.add_stops.Given as goal

abbrev pub invariant-loop-i : goal.invariant-loop-i
invariant-loop-i l = l.marks.items ≡ l.fn.marks.items ++ map (stop_mark l.side) (take l.i l.goals)
