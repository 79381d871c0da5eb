use Rattle.std.proofs.Common.{List, ℕ}
use Rattle.graph_core.specs.Graphs.{graphs_of}
use Rattle.pair_setup_calls.proofs.Cycles.{NoneBelow}
use Rattle.pair_setup_spec.specs.Nodes.{IsLargeCode}
use Rattle.pair_setup.specs.Graphs.{AreKeptOf, firsts_of}
use Rattle.pair_setup.proofs.nodes.add_code.Given as goal

-- the graphs so far with the first nodes of instructions; none is too large
abbrev pub invariant-loop-index : goal.invariant-loop-index
invariant-loop-index l = record {
  coded : AreKeptOf l.image l.entries l.index (graphs_of l.graphs.items) (firsts_of l.firsts.items);
  none : NoneBelow (IsLargeCode l.image) l.entries l.index;
}
