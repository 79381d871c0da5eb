use Rattle.std.proofs.Common.{◌≡◌, ◌++◌, ◌∙◌, ◌+◌, drop, ap}
use Rattle.c_types_core.specs.Actions.{action_of}
use Rattle.c_types_core.specs.declared.action.Group.{out-Group}
use Rattle.pair_setup_spec.specs.SourceReach.{calls_in, calls_in_groups}
use Rattle.pair_setup_calls.specs.Names.{block_of, groups_of, texts_of}
use Rattle.pair_setup_calls.proofs.Lists.{added-next, added-all, block_calls_at, block_calls_past, group_calls_at, group_calls_past}
use Rattle.pair_setup_calls.proofs.calling.+calls.Goals as goal

pub add_block_calls-loop-action-preserved : goal.add_block_calls-loop-action-preserved
add_block_calls-loop-action-preserved t c =
    let xs = c.args.actions.now in
    let i = c.loop-action.action-index in
    added-next (texts_of c.loop-action.names.items) (calls_in (action_of c.action-item.result)) (calls_in (block_of (drop (i + 1) xs))) (calls_in (block_of (drop i xs)))
    (texts_of c.args.names.now.items ++ calls_in (block_of xs)) (texts_of c.add_calls.new.names.items)
    (block_calls_at xs i c.action-item.result c.loop-action-test.true c.action-item.is) c.in-Ok-attempt.ensures c.loop-action.invariant

pub add_block_calls-returns : goal.add_block_calls-returns
add_block_calls-returns t c =
    let xs = c.args.actions.now in
    let i = c.loop-action.action-index in
    added-all (texts_of c.loop-action.names.items) (calls_in (block_of (drop i xs))) (texts_of c.args.names.now.items ++ calls_in (block_of xs))
    (block_calls_past xs i c.loop-action-test.false) c.loop-action.invariant

pub add_group_calls-loop-group-preserved : goal.add_group_calls-loop-group-preserved
add_group_calls-loop-group-preserved t c =
    let xs = c.args.groups.now in
    let i = c.loop-group.group-index in
    added-next (texts_of c.loop-group.names.items) (calls_in (action_of (out-Group c.group-item.result).body.value)) (calls_in_groups (groups_of (drop (i + 1) xs)))
    (calls_in_groups (groups_of (drop i xs))) (texts_of c.args.names.now.items ++ calls_in_groups (groups_of xs)) (texts_of c.add_calls.new.names.items)
    (group_calls_at xs i c.group-item.result c.loop-group-test.true c.group-item.is)
    (c.in-Ok-attempt.ensures ∙ ap (λ a. texts_of c.loop-group.names.items ++ calls_in (action_of a)) c.deref.ensures) c.loop-group.invariant

pub add_group_calls-returns : goal.add_group_calls-returns
add_group_calls-returns t c =
    let xs = c.args.groups.now in
    let i = c.loop-group.group-index in
    added-all (texts_of c.loop-group.names.items) (calls_in_groups (groups_of (drop i xs))) (texts_of c.args.names.now.items ++ calls_in_groups (groups_of xs))
    (group_calls_past xs i c.loop-group-test.false) c.loop-group.invariant
