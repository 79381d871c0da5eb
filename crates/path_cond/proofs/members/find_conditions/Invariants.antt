use Rattle.std.proofs.Common.{◌≡◌, take}
use Rattle.path_cond.specs.Result.{conditions_at}
use Rattle.path_cond.proofs.members.find_conditions.Given as goal

abbrev pub invariant-loop-member : goal.invariant-loop-member
invariant-loop-member l = l.found.items ≡ conditions_at l.conditions (take l.member-index l.members)
