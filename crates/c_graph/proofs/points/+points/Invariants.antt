use Rattle.std.proofs.Common.{◌≡◌, ◌++◌, ◌+◌, ◌*◌, drop, max}
use Rattle.c_types_core.specs.declared.action.Action.{size-Action}
use Rattle.c_graph_spec.specs.Layout.{Setting}
use Rattle.c_graph_spec.specs.SourceGraph as spec
use Rattle.c_graph_layout.specs.Lists.{block_of, groups_of}
use Rattle.c_graph.specs.Seen.{points_in}
use Rattle.c_graph.proofs.points.+points.Given as goal

abbrev pub invariant-block_points-loop-action : goal.invariant-block_points-loop-action
invariant-block_points-loop-action l =
    (f : Setting) → points_in l.points.items ++ spec.points f (block_of (drop l.action-index l.actions)) l.begin
    ≡ points_in l.fn.points.items ++ spec.points f (block_of l.actions) l.at

abbrev pub invariant-group_points-loop-group : goal.invariant-group_points-loop-group
invariant-group_points-loop-group l =
    (f : Setting) → points_in l.points.items ++ spec.groups_points f (groups_of (drop l.group-index l.list)) l.begin
    ≡ points_in l.fn.points.items ++ spec.groups_points f (groups_of l.list) l.at

abbrev pub decreases-add_points : goal.decreases-add_points
decreases-add_points l = 4 * size-Action l.action.now

abbrev pub decreases-block_points : goal.decreases-block_points
decreases-block_points l = 4 * goal.size-block_points l + 1

abbrev pub decreases-branch_points : goal.decreases-branch_points
decreases-branch_points l = 4 * max (size-Action l.a.now) (size-Action l.b.now) + 1

abbrev pub decreases-while_points : goal.decreases-while_points
decreases-while_points l = 4 * max (size-Action l.step.now) (size-Action l.body.now) + 1

abbrev pub decreases-do_points : goal.decreases-do_points
decreases-do_points l = 4 * size-Action l.body.now + 1

abbrev pub decreases-switch_points : goal.decreases-switch_points
decreases-switch_points l = 4 * goal.size-switch_points l + 2

abbrev pub decreases-group_points : goal.decreases-group_points
decreases-group_points l = 4 * goal.size-group_points l + 1
