use Rattle.std.proofs.Common.{◌≡◌, ◌∙◌, length, take}
use Rattle.std.proofs.lemmas.List.{take_all}
use Rattle.std.specs.List.{All}
use Rattle.graph_core.specs.declared.shared.SharedNode.{SharedNode}
use Rattle.graph_inline.specs.Marks.{OutputsMarked}
use Rattle.graph_inline.proofs.Marked.{node_marked, all_at_end}
use Rattle.graph_inline.proofs.marking.mark_outputs.Goals as goal

pub loop-node-preserved : goal.loop-node-preserved
loop-node-preserved c = record {
  count = c.mark_node.ensures.count ∙ c.loop-node.invariant.count;
  marked = node_marked c.loop-node.marks c.mark_node.new.marks c.args.nodes.now c.loop-node.node-index c.node-item.result c.loop-node-test.true c.node-item.is c.loop-node.invariant.marked
      c.mark_node.ensures.more c.mark_node.ensures.marked;
  more = λ id marked. c.mark_node.ensures.more id (c.loop-node.invariant.more id marked);
}

pub returns-clause-marked : goal.returns-clause-marked
returns-clause-marked c = all_at_end (OutputsMarked c.loop-node.marks) c.args.nodes.now c.loop-node.node-index c.loop-node-test.false c.loop-node.invariant.marked
