use Rattle.std.proofs.Common.{ℕ, ◌+◌, ◌-◌, ◌*◌, ◌^◌, List, length, reverse, vec_len}
use Rattle.std.specs.Prelude.{nat_eq}
use Rattle.indexmap.specs.IndexMap.{get}
use Rattle.graph_core.specs.Graphs.{graph_of}
use Rattle.loop_find_spec.specs.Loops.{nodes_from}
use Rattle.loop_find.proofs.Searching.{IsSearch}
use Rattle.loop_find.proofs.search.search.Given as goal

abbrev pub invariant-loop-task : goal.invariant-loop-task
invariant-loop-task l =
    (left : List ℕ) × IsSearch (nodes_from (graph_of l.graph)) (graph_of l.graph).entry (get nat_eq l.statuses) left (reverse l.tasks.items) l.heads.items

abbrev pub decreases-loop-task : goal.decreases-loop-task
decreases-loop-task l = (2 ^ 63 - length l.statuses.entries) * 4 + vec_len l.tasks
