use Rattle.std.proofs.Common.{[], drop, map, length, ◌+◌, rules}
use Rattle.c_syntax.specs.Locals.{label_of}
use Rattle.c_types_spec.specs.Statements as rule
use Rattle.c_types_scope.specs.States.{state_of}
use Rattle.c_types_statement.specs.Labels.{one_label}
use Rattle.c_types_statement.proofs.LabelSets.{labels-row}
use Rattle.c_types_scope.proofs.Steps.{step-kept, step-failed}
use Rattle.c_types_statement.proofs.labels.add_labels.Goals as goal

pub loop-item-preserved : goal.loop-item-preserved
loop-item-preserved c =
    let at = c.loop-item in
    let st = state_of at.state in
    step-kept (rule.labels (map label_of (drop at.item-index c.args.list.now)) c.args.of [] at.seen.keys st) _ (one_label (label_of c.item-item.result) c.args.of at.seen.keys st) (λ more. rule.labels (map label_of (drop (at.item-index + 1) c.args.list.now)) c.args.of [] more.0 more.1)
    (c.one_label.new.seen.keys, state_of c.one_label.new.state)
    (labels-row c.args.list.now at.item-index c.item-item.result c.args.of at.seen.keys st c.item-item.is (search rules)) c.in-Ok.ensures at.invariant

pub returns-in-Err : goal.returns-in-Err
returns-in-Err c =
    let at = c.loop-item in
    let st = state_of at.state in
    step-failed {C = Unit {0}} (rule.labels (map label_of (drop at.item-index c.args.list.now)) c.args.of [] at.seen.keys st) _ (one_label (label_of c.item-item.result) c.args.of at.seen.keys st) (λ more. rule.labels (map label_of (drop (at.item-index + 1) c.args.list.now)) c.args.of [] more.0 more.1)
    c.in-Err.fault (λ _. c.one_label.new.seen.keys) (λ _. c.one_label.new.seen.keys) c.one_label.new.state
    (labels-row c.args.list.now at.item-index c.item-item.result c.args.of at.seen.keys st c.item-item.is (search rules)) c.in-Err.ensures at.invariant
