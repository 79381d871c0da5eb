use Rattle.std.proofs.Common.{◌≡◌, map, take}
use Rattle.term_bank.specs.Nodes.{tree_at, Extends}
use Rattle.mem_terms_spec.specs.Flat.{agree, all_of}
use Rattle.mem_terms.specs.Ids.{load_at, IsTreeAt}
use Rattle.mem_terms.proofs.ties.with_later.Given as goal

abbrev pub invariant-loop-other : goal.invariant-loop-other
invariant-loop-other l = record {
  extends : Extends l.fn.bank l.bank;
  tree : IsTreeAt l.bank l.all (all_of (tree_at l.fn.bank l.fn.so_far) (map (agree (load_at l.fn.bank l.fn.load)) (map (load_at l.fn.bank) (take l.other-index l.later))));
}
