use Rattle.std.proofs.Common.{◌-◌, ◌^◌}
use Rattle.pair_setup.proofs.Walking.{IsWalking}
use Rattle.pair_setup.proofs.walk.walk_all.Given as goal

abbrev pub invariant-loop-next : goal.invariant-loop-next
invariant-loop-next l = IsWalking l.image l.fn.entries.keys l.next l.entries.keys

abbrev pub decreases-loop-next : goal.decreases-loop-next
decreases-loop-next l = 2 ^ 64 - l.next
