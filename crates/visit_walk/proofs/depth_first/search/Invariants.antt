use Rattle.std.proofs.Common.{◌+◌, ◌-◌, ◌*◌, ◌^◌, length, reverse, vec_len}
use Rattle.std.specs.Prelude.{nat_eq}
use Rattle.indexmap.specs.IndexMap.{get}
use Rattle.visit_walk.specs.Search.{numbers_at}
use Rattle.visit_walk.proofs.Searching.{IsSearch}
use Rattle.visit_walk.proofs.depth_first.search.Given as goal

abbrev pub invariant-loop-task : goal.invariant-loop-task
invariant-loop-task l = IsSearch (numbers_at l.targets) (reverse l.roots) (get nat_eq l.statuses) (reverse l.order.items) (reverse l.tasks.items)

abbrev pub decreases-loop-task : goal.decreases-loop-task
decreases-loop-task l = (2 ^ 63 - length l.statuses.entries) * 4 + vec_len l.tasks
