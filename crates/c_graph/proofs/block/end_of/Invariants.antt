use Rattle.std.proofs.Common.{◌≡◌, ◌+◌, drop}
use Rattle.c_graph_layout.specs.Counts.{size_of}
use Rattle.c_graph_layout.specs.Lists.{block_of}
use Rattle.c_graph.proofs.block.end_of.Given as goal

abbrev pub invariant-loop-action : goal.invariant-loop-action
invariant-loop-action l = l.end + size_of (block_of (drop l.action-index l.actions)) ≡ l.at + size_of (block_of l.actions)
