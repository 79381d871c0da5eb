use Rattle.std.proofs.Common.{◌≡◌, map, take}
use Rattle.path_cond.specs.Table.{edge_id}
use Rattle.path_cond.proofs.known.arrive.Given as goal

abbrev pub invariant-loop-edge : goal.invariant-loop-edge
invariant-loop-edge l = record {
  conditions : l.conditions.items ≡ map (edge_id l.known) (take l.edge-index l.edges);
  sources : l.sources.items ≡ map (λ e. e.source) (take l.edge-index l.edges);
}
