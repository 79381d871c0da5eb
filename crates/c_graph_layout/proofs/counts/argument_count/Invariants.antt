use Rattle.std.proofs.Common.{◌≡◌, ◌+◌, drop}
use Rattle.c_graph_layout.specs.Counts.{argument_count}
use Rattle.c_graph_layout.specs.Lists.{cores_of}
use Rattle.c_graph_layout.proofs.counts.argument_count.Given as goal

abbrev pub invariant-loop-argument : goal.invariant-loop-argument
invariant-loop-argument l = l.n + argument_count (cores_of (drop l.argument-index l.arguments)) ≡ argument_count (cores_of l.arguments)
