use Rattle.std.proofs.Common.{◌≡◌, ◌*◌, ◌^◌, ◌≤◌, take, sum_by}
use Rattle.code_reach.specs.Stacks.{opening_at}
use Rattle.code_reach.proofs.stacks.openings.Given as goal

abbrev pub invariant-loop-address : goal.invariant-loop-address
invariant-loop-address l =
    record {
      sum_is : l.sum ≡ sum_by (opening_at l.image) (take l.address-index l.addresses);
      short : l.sum ≤ 2 ^ 11 * l.address-index;
    }
