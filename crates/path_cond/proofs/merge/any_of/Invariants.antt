use Rattle.std.proofs.Common.{map, take}
use Rattle.term_bank.specs.Nodes.{tree_at, Holds, Extends}
use Rattle.path_cond.specs.Merged.{any_term}
use Rattle.path_cond.proofs.merge.any_of.Given as goal

abbrev pub invariant-loop-i : goal.invariant-loop-i
invariant-loop-i l = record {
  extends : Extends l.fn.bank l.bank;
  tree : Holds l.bank l.any (any_term (map (tree_at l.fn.bank) (take l.i l.conditions)));
}
