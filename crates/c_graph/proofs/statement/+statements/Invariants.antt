use Rattle.std.proofs.Common.{◌≡◌, ◌+◌, ◌*◌, drop, max}
use Rattle.graph_core_spec.specs.Graph.{with_nodes}
use Rattle.graph_core.specs.Graphs.{graph_of}
use Rattle.c_types_core.specs.declared.action.Action.{size-Action}
use Rattle.c_graph_spec.specs.Layout as spec
use Rattle.c_graph_layout.specs.Counts.{size_of}
use Rattle.c_graph_layout.specs.Exits.{exits_of}
use Rattle.c_graph_layout.specs.Lists.{block_of, groups_of}
use Rattle.c_graph.specs.Frames.{setting_in}
use Rattle.c_graph.specs.Laid.{block_end}
use Rattle.c_graph.proofs.statement.+statements.Given as goal

-- with the statements from this one on the graph is what it is to be
abbrev pub invariant-block-loop-i : goal.invariant-block-loop-i
invariant-block-loop-i l = record {
  begins : l.begin + size_of (block_of (drop l.i l.actions)) ≡ block_end l.actions l.at;
  whole : with_nodes (graph_of l.graph) (spec.nodes (setting_in l.frame) (block_of (drop l.i l.actions)) l.begin l.fn.to (exits_of l.fn.exits))
      ≡ with_nodes (graph_of l.fn.graph) (spec.nodes (setting_in l.frame) (block_of l.actions) l.at l.fn.to (exits_of l.fn.exits));
}

-- the same of the groups
abbrev pub invariant-groups-loop-group : goal.invariant-groups-loop-group
invariant-groups-loop-group l =
    with_nodes (graph_of l.graph) (spec.groups_nodes (setting_in l.frame) (groups_of (drop l.group-index l.list)) l.begin l.fn.to (exits_of l.fn.exits))
    ≡ with_nodes (graph_of l.fn.graph) (spec.groups_nodes (setting_in l.frame) (groups_of l.list) l.at l.fn.to (exits_of l.fn.exits))

abbrev pub decreases-nodes : goal.decreases-nodes
decreases-nodes l = 4 * size-Action l.action.now

abbrev pub decreases-block : goal.decreases-block
decreases-block l = 4 * goal.size-block l + 1

abbrev pub decreases-branch : goal.decreases-branch
decreases-branch l = 4 * max (size-Action l.a.now) (size-Action l.b.now) + 1

abbrev pub decreases-test_first : goal.decreases-test_first
decreases-test_first l = 4 * max (size-Action l.step.now) (size-Action l.body.now) + 1

abbrev pub decreases-body_first : goal.decreases-body_first
decreases-body_first l = 4 * size-Action l.body.now + 1

abbrev pub decreases-switch : goal.decreases-switch
decreases-switch l = 4 * goal.size-switch l + 2

abbrev pub decreases-groups : goal.decreases-groups
decreases-groups l = 4 * goal.size-groups l + 1
