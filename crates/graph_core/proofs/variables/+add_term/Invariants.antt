use Rattle.std.proofs.Common.{◌≡◌, drop, take}
use Rattle.term_bank.specs.Nodes.{tree_at}
use Rattle.graph_core_spec.specs.Variables.{occurrences, with_variables}
use Rattle.graph_core.specs.Seen.{AreSeen, occurrences_of_all}
use Rattle.graph_core.proofs.variables.+add_term.Given as goal

abbrev pub decreases-add_term : goal.decreases-add_term
decreases-add_term l = l.id

-- what is left to add completes the whole
abbrev pub invariant-loop-k : goal.invariant-loop-k
invariant-loop-k l = record {
  added : with_variables l.variables.keys (occurrences_of_all l.bank (drop l.k (take l.count l.ids)))
      ≡ with_variables l.fn.variables.keys (occurrences (tree_at l.bank l.id));
  seen : AreSeen l.bank l.variables.keys l.seen.keys;
}
