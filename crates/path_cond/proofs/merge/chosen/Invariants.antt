use Rattle.std.proofs.Common.{◌<◌, length, map, drop}
use Rattle.term_bank.specs.Nodes.{tree_at, Holds, Extends}
use Rattle.path_cond.specs.Merged.{chosen_term}
use Rattle.path_cond.proofs.merge.chosen.Given as goal

abbrev pub invariant-loop-i : goal.invariant-loop-i
invariant-loop-i l = record {
  within : l.i < length l.terms;
  extends : Extends l.fn.bank l.bank;
  tree : Holds l.bank l.chosen (chosen_term (map (tree_at l.fn.bank) (drop l.i l.conditions)) (map (tree_at l.fn.bank) (drop l.i l.terms)));
}

abbrev pub decreases-loop-i : goal.decreases-loop-i
decreases-loop-i l = l.i
