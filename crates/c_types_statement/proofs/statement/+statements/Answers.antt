use Rattle.std.proofs.Common.{drop, map, length, ◌+◌, rules}
use Rattle.c_types_core.specs.Actions.{actions_in, group_of as core_group_of}
use Rattle.c_syntax.specs.Statements.{part_of, parts_of, group_of, groups_of}
use Rattle.c_types_expression.specs.Trees.{unboxed}
use Rattle.c_types_spec.specs.Core.{sequence}
use Rattle.c_types_spec.specs.Statements as rule
use Rattle.c_types_scope.specs.States.{state_of}
use Rattle.c_types_simple.specs.Contexts.{context_of}
use Rattle.c_types_statement.specs.Groups.{one_part, one_group}
use Rattle.c_types_statement.specs.Switches.{so_far}
use Rattle.c_types_statement.proofs.Lists.{parts-row}
use Rattle.c_types_statement.proofs.SwitchGroups.{groups-row}
use Rattle.c_types_scope.proofs.Steps.{step-kept, step-failed}
use Rattle.c_types_statement.proofs.statement.+statements.Goals as goal

pub parts-loop-part-preserved : goal.parts-loop-part-preserved
parts-loop-part-preserved t c =
    let at = c.loop-part in
    let st = state_of at.state in
    let context = context_of c.args.context in
    step-kept (rule.parts (parts_of (map part_of (drop at.part-index c.args.list.now))) context (actions_in at.done) st) _ (one_part (part_of c.part-item.result) context (actions_in at.done) st) (λ more. rule.parts (parts_of (map part_of (drop (at.part-index + 1) c.args.list.now))) context more.0 more.1)
    (actions_in c.one_part.new.done, state_of c.one_part.new.state)
    (parts-row c.args.list.now at.part-index c.part-item.result context (actions_in at.done) st c.part-item.is (search rules)) c.in-Ok.ensures at.invariant

pub parts-returns-in-Err : goal.parts-returns-in-Err
parts-returns-in-Err t c =
    let at = c.loop-part in
    let st = state_of at.state in
    let context = context_of c.args.context in
    step-failed {C = Unit {0}} (rule.parts (parts_of (map part_of (drop at.part-index c.args.list.now))) context (actions_in at.done) st) _ (one_part (part_of c.part-item.result) context (actions_in at.done) st) (λ more. rule.parts (parts_of (map part_of (drop (at.part-index + 1) c.args.list.now))) context more.0 more.1)
    c.in-Err.fault (λ _. actions_in c.one_part.new.done) (λ _. sequence (actions_in c.one_part.new.done)) c.one_part.new.state
    (parts-row c.args.list.now at.part-index c.part-item.result context (actions_in at.done) st c.part-item.is (search rules)) c.in-Err.ensures at.invariant

pub groups-loop-i-preserved : goal.groups-loop-i-preserved
groups-loop-i-preserved t c =
    let at = c.loop-i in
    let st = state_of at.state in
    let context = context_of c.args.context in
    let before = so_far at.seen.keys at.done in
    step-kept (rule.switch_groups (groups_of (map group_of (unboxed (drop at.i c.args.list.now)))) context c.args.of at.seen.keys (map core_group_of at.done.items) st) _ (one_group (group_of c.deref.result.now) c.is_last-last.result context c.args.of before st) (λ more. rule.switch_groups (groups_of (map group_of (unboxed (drop (at.i + 1) c.args.list.now)))) context c.args.of more.0.seen more.0.done more.1)
    (so_far c.one_group.new.seen.keys c.one_group.new.done, state_of c.one_group.new.state)
    (groups-row c.args.list.now at.i c.index-list-i.result c.deref.result.now c.is_last-last.result context c.args.of before st c.index-list-i.is c.deref.ensures c.is_last-last.ensures (search rules)) c.in-Ok.ensures at.invariant

pub groups-returns-in-Err : goal.groups-returns-in-Err
groups-returns-in-Err t c =
    let at = c.loop-i in
    let st = state_of at.state in
    let context = context_of c.args.context in
    let before = so_far at.seen.keys at.done in
    step-failed {C = Unit {0}} (rule.switch_groups (groups_of (map group_of (unboxed (drop at.i c.args.list.now)))) context c.args.of at.seen.keys (map core_group_of at.done.items) st) _ (one_group (group_of c.deref.result.now) c.is_last-last.result context c.args.of before st) (λ more. rule.switch_groups (groups_of (map group_of (unboxed (drop (at.i + 1) c.args.list.now)))) context c.args.of more.0.seen more.0.done more.1)
    c.in-Err.fault (λ _. so_far c.one_group.new.seen.keys c.one_group.new.done) (λ _. rule.groups_in (map core_group_of c.one_group.new.done.items)) c.one_group.new.state
    (groups-row c.args.list.now at.i c.index-list-i.result c.deref.result.now c.is_last-last.result context c.args.of before st c.index-list-i.is c.deref.ensures c.is_last-last.ensures (search rules)) c.in-Err.ensures at.invariant

pub statement-if_else-requires : goal.statement-if_else-requires
statement-if_else-requires t c = (search rules, (_, _, _, _, c.in-IfElse.is))

pub if_else-unreachable-requires : goal.if_else-unreachable-requires
if_else-unreachable-requires t c = c.in_default.not-IfElse c.requires.0 c.requires.1 c.requires.2 c.requires.3 c.requires.4
