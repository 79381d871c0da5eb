use Rattle.std.proofs.Common.{◌+◌, ◌-◌, ◌*◌, ◌^◌, length, reverse, vec_len}
use Rattle.std.specs.Prelude.{nat_eq}
use Rattle.indexmap.specs.IndexMap.{get}
use Rattle.code_reach.proofs.Search.{IsSearch}
use Rattle.code_reach.proofs.stacks.explore.Given as goal

abbrev pub invariant-loop-task : goal.invariant-loop-task
invariant-loop-task l = IsSearch l.image l.entry (get nat_eq l.known) l.entered.keys (reverse l.tasks.items)

abbrev pub decreases-loop-task : goal.decreases-loop-task
decreases-loop-task l = (2 ^ 63 - length l.entered.keys) * 2 ^ 66 + vec_len l.tasks
