use Rattle.std.proofs.Common.{◌≡◌, map, drop}
use Rattle.graph_core_spec.specs.Variables.{with_variables, occurrences_in_nodes}
use Rattle.graph_core.specs.Seen.{AreSeen}
use Rattle.graph_core.specs.Shared.{shared_node_of}
use Rattle.graph_core.proofs.variables.add_nodes.Given as goal

-- what is left to add completes the whole
abbrev pub invariant-loop-node : goal.invariant-loop-node
invariant-loop-node l = record {
  added : with_variables l.variables.keys (occurrences_in_nodes (map (shared_node_of l.bank) (drop l.node-index l.nodes)))
      ≡ with_variables l.initial.variables.keys (occurrences_in_nodes (map (shared_node_of l.bank) l.nodes));
  seen : AreSeen l.bank l.variables.keys l.seen.keys;
}
