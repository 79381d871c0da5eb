use Rattle.std.proofs.Common.{List, map, ◌<◌}
use Rattle.term_core_spec.specs.Term.{Term}
use Rattle.graph_core.specs.Shared.{shared_node_of}
use Rattle.proof_tree.specs.Ahead.{Grows}
use Rattle.sim_rules.specs.Tables.{IsStep}
use Rattle.sim_rules.proofs.search.begin.Given as goal

abbrev pub invariant-loop-i : goal.invariant-loop-i
invariant-loop-i l = (trees : List Term) → Grows (λ k. (k < l.i) × IsStep (map (shared_node_of trees) l.nodes) k l.point) l.fn.found.keys l.found.keys
