use Rattle.std.proofs.Common.{map, take}
use Rattle.term_core_spec.specs.Term.{or_term}
use Rattle.term_bank.specs.Nodes.{tree_at}
use Rattle.c_graph_terms.specs.Tests.{IsTested}
use Rattle.c_graph_terms.proofs.expression.add_excused.Given as goal

abbrev pub invariant-loop-test : goal.invariant-loop-test
invariant-loop-test l =
    IsTested l.fn.bank l.bank l.fn.tests.items l.tests.items (map (or_term (tree_at l.fn.bank l.excuse)) (map (tree_at l.fn.bank) (take l.test-index l.own)))
