use Rattle.std.proofs.Common.{◌-◌, ◌^◌, length}
use Rattle.decompile.proofs.Extents.{AreFirst}
use Rattle.decompile.proofs.runs.runs.Given as goal

abbrev pub invariant-loop-run : goal.invariant-loop-run
invariant-loop-run l = AreFirst l.image l.runs.items

abbrev pub decreases-loop-run : goal.decreases-loop-run
decreases-loop-run l = 2 ^ 32 - length l.runs.items
