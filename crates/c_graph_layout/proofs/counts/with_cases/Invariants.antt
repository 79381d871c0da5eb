use Rattle.std.proofs.Common.{◌≡◌, ◌+◌, drop}
use Rattle.c_graph_spec.specs.Layout.{case_count}
use Rattle.c_graph_layout.specs.Lists.{groups_of}
use Rattle.c_graph_layout.proofs.counts.with_cases.Given as goal

abbrev pub invariant-loop-group : goal.invariant-loop-group
invariant-loop-group l = l.m + case_count (groups_of (drop l.group-index l.groups)) ≡ l.n + case_count (groups_of l.groups)
