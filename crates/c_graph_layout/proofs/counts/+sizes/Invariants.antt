use Rattle.std.proofs.Common.{◌≡◌, ◌+◌, drop}
use Rattle.c_graph_layout.specs.Counts.{size_of, groups_size_of}
use Rattle.c_graph_layout.specs.Lists.{block_of, groups_of}
use Rattle.c_graph_layout.proofs.counts.+sizes.Given as goal

abbrev pub invariant-with_sizes-loop-action : goal.invariant-with_sizes-loop-action
invariant-with_sizes-loop-action l = l.m + size_of (block_of (drop l.action-index l.actions)) ≡ l.n + size_of (block_of l.actions)

abbrev pub invariant-with_groups-loop-group : goal.invariant-with_groups-loop-group
invariant-with_groups-loop-group l = l.m + groups_size_of (groups_of (drop l.group-index l.groups)) ≡ l.n + groups_size_of (groups_of l.groups)
