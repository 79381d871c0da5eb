use Rattle.std.proofs.Common.{◌≡◌, drop}
use Rattle.c_graph_spec.specs.Layout.{has_default}
use Rattle.c_graph_layout.proofs.entries.has_default.Given as goal

abbrev pub invariant-loop-label : goal.invariant-loop-label
invariant-loop-label l = has_default (drop l.label-index l.labels) ≡ has_default l.labels
