use Rattle.std.proofs.Common.{Some, sym, ap, ◌∙◌}
use Rattle.std.specs.List.{list_any}
use Rattle.c_types_spec.specs.Statements.{same_label}
use Rattle.c_types_core.specs.Actions.{action_of}
use Rattle.c_run.proofs.Searching.{picked_here, picked_later, picked_past}
use Rattle.c_run.proofs.Weighing.{within_groups}
use Rattle.c_run.proofs.statement.labelled.Goals as goal

pub returns-then-has_label-clause-group : goal.returns-then-has_label-clause-group
returns-then-has_label-clause-group c = ap (λ a. Some (action_of a)) c.deref-then-has_label.ensures ∙ sym (picked_here c.args.label c.args.groups.now c.loop-group.group-index c.group-item.result c.loop-group-test.true c.group-item.is (ap (list_any (λ other. same_label other c.args.label)) (sym c.deref.ensures.value) ∙ sym c.has_label.ensures ∙ c.if-has_label.true)) ∙ c.loop-group.invariant

pub loop-group-preserved : goal.loop-group-preserved
loop-group-preserved c = sym (picked_later c.args.label c.args.groups.now c.loop-group.group-index c.group-item.result c.loop-group-test.true c.group-item.is (ap (list_any (λ other. same_label other c.args.label)) (sym c.deref.ensures.value) ∙ sym c.has_label.ensures ∙ c.if-has_label.false)) ∙ c.loop-group.invariant

pub returns-clause-group : goal.returns-clause-group
returns-clause-group c = sym (picked_past c.args.label c.args.groups.now c.loop-group.group-index c.loop-group-test.false) ∙ c.loop-group.invariant

pub returns-then-has_label-clause-below : goal.returns-then-has_label-clause-below
returns-then-has_label-clause-below c = within_groups c.args.groups.now c.loop-group.group-index c.group-item.result _ c.loop-group-test.true c.group-item.is c.deref-then-has_label.ensures
