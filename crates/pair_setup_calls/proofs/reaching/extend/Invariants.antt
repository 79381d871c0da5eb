use Rattle.std.proofs.Common.{◌-◌, ◌^◌}
use Rattle.pair_setup_calls.specs.Graph.{graph_of}
use Rattle.pair_setup_calls.proofs.Extending.{IsExtending}
use Rattle.pair_setup_calls.proofs.reaching.extend.Given as goal

abbrev pub invariant-loop-next : goal.invariant-loop-next
invariant-loop-next l = IsExtending (graph_of l.graph) l.start l.fn.nodes.keys l.next l.nodes.keys

abbrev pub decreases-loop-next : goal.decreases-loop-next
decreases-loop-next l = 2 ^ 64 - l.next
