use Rattle.std.proofs.Common.{◌≡◌, ◌∙◌, ◌+◌, ◌^◌, ◌≤◌, drop, ap, subst, arith}
use Rattle.c_types_core.specs.Actions.{action_of}
use Rattle.c_types_core.specs.declared.action.Group.{out-Group}
use Rattle.c_graph_layout.specs.Counts.{size_of, groups_size_of}
use Rattle.c_graph_layout.specs.Lists.{block_of, groups_of}
use Rattle.c_graph_layout.proofs.Blocks.{block_at, block_past, group_size_at, group_size_past}
use Rattle.c_graph_layout.proofs.counts.+sizes.Goals as goal

pub with_sizes-loop-action-preserved : goal.with_sizes-loop-action-preserved
with_sizes-loop-action-preserved t c =
    let xs = c.args.actions.now in
    let i = c.loop-action.action-index in
    let n = c.loop-action.m in
    let m = c.in-Ok-attempt.field-0 in
    let here = block_at xs i c.action-item.result c.loop-action-test.true c.action-item.is in
    let count : m ≡ n + size_of (action_of c.action-item.result) = c.in-Ok-attempt.ensures in
    let before : n + size_of (block_of (drop i xs)) ≡ c.args.n + size_of (block_of xs) = c.loop-action.invariant in
    let next : m + size_of (block_of (drop (i + 1) xs)) ≡ c.args.n + size_of (block_of xs) = omega arith in
    next

pub with_sizes-returns : goal.with_sizes-returns
with_sizes-returns t c =
    let xs = c.args.actions.now in
    let i = c.loop-action.action-index in
    let past = block_past xs i c.loop-action-test.false in
    let before : c.loop-action.m + size_of (block_of (drop i xs)) ≡ c.args.n + size_of (block_of xs) = c.loop-action.invariant in
    omega arith

pub with_groups-loop-group-preserved : goal.with_groups-loop-group-preserved
with_groups-loop-group-preserved t c =
    let xs = c.args.groups.now in
    let i = c.loop-group.group-index in
    let n = c.loop-group.m in
    let m = c.in-Ok-attempt.field-0 in
    let here = group_size_at xs i c.group-item.result c.loop-group-test.true c.group-item.is in
    let count : m ≡ n + size_of (action_of (out-Group c.group-item.result).body.value) = c.in-Ok-attempt.ensures ∙ ap (λ a. n + size_of (action_of a)) c.deref.ensures in
    let before : n + groups_size_of (groups_of (drop i xs)) ≡ c.args.n + groups_size_of (groups_of xs) = c.loop-group.invariant in
    let next : m + groups_size_of (groups_of (drop (i + 1) xs)) ≡ c.args.n + groups_size_of (groups_of xs) = omega arith in
    next

pub with_groups-returns : goal.with_groups-returns
with_groups-returns t c =
    let xs = c.args.groups.now in
    let i = c.loop-group.group-index in
    let past = group_size_past xs i c.loop-group-test.false in
    let before : c.loop-group.m + groups_size_of (groups_of (drop i xs)) ≡ c.args.n + groups_size_of (groups_of xs) = c.loop-group.invariant in
    omega arith

pub with_sizes-returns-in-loop-action : goal.with_sizes-returns-in-loop-action
with_sizes-returns-in-loop-action t c =
    let xs = c.args.actions.now in
    let i = c.loop-action.action-index in
    let n = c.loop-action.m in
    let here = block_at xs i c.action-item.result c.loop-action-test.true c.action-item.is in
    let full : 2 ^ 64 ≤ n + size_of (action_of c.action-item.result) = c.in-Err-attempt.ensures in
    let before : n + size_of (block_of (drop i xs)) ≡ c.args.n + size_of (block_of xs) = c.loop-action.invariant in
    omega arith

pub with_groups-returns-in-loop-group : goal.with_groups-returns-in-loop-group
with_groups-returns-in-loop-group t c =
    let xs = c.args.groups.now in
    let i = c.loop-group.group-index in
    let n = c.loop-group.m in
    let here = group_size_at xs i c.group-item.result c.loop-group-test.true c.group-item.is in
    let full : 2 ^ 64 ≤ n + size_of (action_of (out-Group c.group-item.result).body.value) = subst (λ a. 2 ^ 64 ≤ n + size_of (action_of a)) c.deref.ensures c.in-Err-attempt.ensures in
    let before : n + groups_size_of (groups_of (drop i xs)) ≡ c.args.n + groups_size_of (groups_of xs) = c.loop-group.invariant in
    omega arith
