use Rattle.std.proofs.Common.{◌≡◌, drop}
use Rattle.std.specs.List.{list_any}
use Rattle.c_types_spec.specs.Statements.{same_label}
use Rattle.c_run.proofs.statement.has_label.Given as goal

abbrev pub invariant-loop-other : goal.invariant-loop-other
invariant-loop-other l = list_any (λ other. same_label other l.label) (drop l.other-index l.labels) ≡ list_any (λ other. same_label other l.label) l.labels
