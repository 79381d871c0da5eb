use Rattle.std.proofs.Common.{refl}
use Rattle.graph_core.specs.Sorts.{IsSortedNode}
use Rattle.graph_core.proofs.Each.{each_holds, one_fails, never}
use Rattle.graph_core.proofs.validity.are_nodes.Goals as goal

pub returns-then-not-is_node : goal.returns-then-not-is_node
returns-then-not-is_node c = (
  λ bad. absurd (never _ bad refl),
  λ all. absurd (one_fails (IsSortedNode c.args.sorts.now c.args.count) c.args.nodes.now c.loop-node.node-index c.node-item.result c.loop-node-test.true c.node-item.is
      (λ is. never _ (c.is_node.ensures.1 is) c.if-not-is_node.true) all),
)

pub returns : goal.returns
returns c = (λ yes_is. each_holds (IsSortedNode c.args.sorts.now c.args.count) c.args.nodes.now c.loop-node.node-index c.loop-node-test.false c.loop-node.invariant, λ all. refl)
