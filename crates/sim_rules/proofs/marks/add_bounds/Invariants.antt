use Rattle.std.proofs.Common.{◌≡◌, ◌++◌, take}
use Rattle.sim_rules.proofs.marks.add_bounds.Given as goal

abbrev pub invariant-loop-i : goal.invariant-loop-i
invariant-loop-i l = l.marks.items ≡ l.fn.marks.items ++ take l.i l.bounds
