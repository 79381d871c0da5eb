use Rattle.std.proofs.Common.{sym, ◌∙◌}
use Rattle.c_types_spec.specs.Statements.{same_label}
use Rattle.c_run.proofs.Searching.{any_here, any_later, any_past}
use Rattle.c_run.proofs.statement.has_label.Goals as goal

pub returns-then-is_label : goal.returns-then-is_label
returns-then-is_label c = sym (any_here (λ other. same_label other c.args.label) c.args.labels.now c.loop-other.other-index _ c.loop-other-test.true (sym c.is_label.ensures ∙ c.if-is_label.true)) ∙ c.loop-other.invariant

pub loop-other-preserved : goal.loop-other-preserved
loop-other-preserved c = sym (any_later (λ other. same_label other c.args.label) c.args.labels.now c.loop-other.other-index _ c.loop-other-test.true (sym c.is_label.ensures ∙ c.if-is_label.false)) ∙ c.loop-other.invariant

pub returns : goal.returns
returns c = sym (any_past (λ other. same_label other c.args.label) c.args.labels.now c.loop-other.other-index c.loop-other-test.false) ∙ c.loop-other.invariant
