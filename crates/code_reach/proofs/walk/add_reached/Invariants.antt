use Rattle.std.proofs.Common.{◌-◌, ◌^◌, []}
use Rattle.code_reach.specs.Growth.{Grows, FromFirst, HasTarget}
use Rattle.code_reach.proofs.Places.{IsWalkedFrom}
use Rattle.code_reach.proofs.walk.add_reached.Given as goal

abbrev pub invariant-loop-next : goal.invariant-loop-next
invariant-loop-next l =
    record {
      walked : IsWalkedFrom l.image l.entry l.size l.next l.reached.keys;
      targets_are : Grows (FromFirst (HasTarget l.image l.entry) l.reached.keys l.next) [] l.targets.keys;
    }

abbrev pub decreases-loop-next : goal.decreases-loop-next
decreases-loop-next l = 2 ^ 64 - l.next
