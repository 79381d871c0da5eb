use Rattle.std.proofs.Common.{take}
use Rattle.term_bank.specs.Nodes.{tree_at}
use Rattle.c_graph_terms.specs.Tests.{IsTested}
use Rattle.c_graph.specs.Seen.{cases_in, case_tests}
use Rattle.c_graph.proofs.selection.compare.Given as goal

abbrev pub invariant-loop-case : goal.invariant-loop-case
invariant-loop-case l = IsTested l.fn.bank l.bank l.fn.found.items l.found.items (case_tests l.of (tree_at l.fn.bank l.word) (cases_in (take l.case-index l.cases)))
