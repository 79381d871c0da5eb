use Rattle.std.proofs.Common.{◌≡◌, ℕ, ◌<◌, length, sym, subst}
use Rattle.std.specs.List.{All}
use Rattle.graph_core_spec.specs.Graph as spec
use Rattle.graph_core.specs.Graphs.{graph_of}
use Rattle.graph_core.specs.Sorts.{IsSortedNode}
use Rattle.graph_core.proofs.Sorted.{nodes_same}
use Rattle.graph_core.proofs.validity.validate.Goals as goal

pub returns-then-entry-count : goal.returns-then-entry-count
returns-then-entry-count c =
    let g = graph_of c.args.graph.now in
    let n : ℕ = c.len-count.result in
    let sorts = c.sorts.result.now in
    let long : n ≡ length g.nodes = c.len-count.ensures.count in
    let same = nodes_same c.args.graph.now.trees sorts c.sorts.ensures.sorts n c.args.graph.now.nodes c.sorts.ensures.within in (
      λ yes_is. record {
        entry = subst (λ (m : ℕ). m < length g.nodes) c.entry.ensures (subst (λ (m : ℕ). c.entry.result < m) long c.if-entry-count.true);
        nodes = subst (λ (m : ℕ). All (spec.IsNode m) g.nodes) long (same.0 (subst (All (IsSortedNode sorts n)) c.nodes.ensures.nodes (c.are_nodes.ensures.0 yes_is)));
      },
      λ valid. c.are_nodes.ensures.1
          (subst (All (IsSortedNode sorts n)) (sym c.nodes.ensures.nodes) (same.1 (subst (λ (m : ℕ). All (spec.IsNode m) g.nodes) (sym long) valid.nodes))),
    )
