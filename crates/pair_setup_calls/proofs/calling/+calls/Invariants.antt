use Rattle.std.proofs.Common.{◌≡◌, ◌++◌, drop}
use Rattle.pair_setup_spec.specs.SourceReach.{calls_in, calls_in_groups}
use Rattle.pair_setup_calls.specs.Names.{block_of, groups_of, texts_of}
use Rattle.pair_setup_calls.proofs.calling.+calls.Given as goal

abbrev pub invariant-add_block_calls-loop-action : goal.invariant-add_block_calls-loop-action
invariant-add_block_calls-loop-action l =
    texts_of l.names.items ++ calls_in (block_of (drop l.action-index l.actions)) ≡ texts_of l.initial.names.items ++ calls_in (block_of l.actions)

abbrev pub invariant-add_group_calls-loop-group : goal.invariant-add_group_calls-loop-group
invariant-add_group_calls-loop-group l =
    texts_of l.names.items ++ calls_in_groups (groups_of (drop l.group-index l.groups)) ≡ texts_of l.initial.names.items ++ calls_in_groups (groups_of l.groups)
