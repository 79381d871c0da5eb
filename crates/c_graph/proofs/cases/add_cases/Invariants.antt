use Rattle.std.proofs.Common.{◌≡◌, ◌++◌, drop}
use Rattle.c_graph_spec.specs.Layout as spec
use Rattle.c_graph.specs.Seen.{cases_in}
use Rattle.c_graph.proofs.cases.add_cases.Given as goal

abbrev pub invariant-loop-label : goal.invariant-loop-label
invariant-loop-label l = cases_in l.found.items ++ spec.cases_to (drop l.label-index l.labels) l.next ≡ cases_in l.fn.found.items ++ spec.cases_to l.labels l.next
