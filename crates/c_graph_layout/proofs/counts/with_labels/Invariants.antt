use Rattle.std.proofs.Common.{◌≡◌, ◌+◌, length, drop}
use Rattle.graph_core_spec.specs.declared.Next.TheVariants.{Ret}
use Rattle.c_graph_spec.specs.Layout.{cases_to}
use Rattle.c_graph_layout.proofs.counts.with_labels.Given as goal

abbrev pub invariant-loop-label : goal.invariant-loop-label
invariant-loop-label l = l.m + length (cases_to (drop l.label-index l.labels) Ret) ≡ l.n + length (cases_to l.labels Ret)
