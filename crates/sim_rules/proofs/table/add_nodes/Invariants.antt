use Rattle.std.proofs.Common.{List, map, ◌<◌}
use Rattle.term_core_spec.specs.Term.{Term}
use Rattle.graph_core.specs.Shared.{shared_node_of}
use Rattle.sim_rules.specs.Tables.{Gains, IsStep, lists_of}
use Rattle.sim_rules.proofs.table.add_nodes.Given as goal

abbrev pub invariant-loop-i : goal.invariant-loop-i
invariant-loop-i l = (trees : List Term) → Gains (λ k n. (k < l.i) × IsStep (map (shared_node_of trees) l.nodes) k n) (lists_of l.fn.before.items) (lists_of l.before.items)
