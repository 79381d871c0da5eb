use Rattle.std.proofs.Common.{◌≡◌, ◌<◌, length, map, drop}
use Rattle.term_bank.specs.Nodes.{tree_at, Extends}
use Rattle.mem_terms_spec.specs.Flat.{pairs, all_of}
use Rattle.mem_terms.specs.Ids.{load_at}
use Rattle.mem_terms.proofs.ties.with_pairs.Given as goal

abbrev pub invariant-loop-i : goal.invariant-loop-i
invariant-loop-i l = record {
  extends : Extends l.fn.bank l.bank;
  within : l.all < length l.bank;
  rest : all_of (tree_at l.bank l.all) (pairs (map (load_at l.fn.bank) (drop l.i l.loads))) ≡ all_of (tree_at l.fn.bank l.fn.so_far) (pairs (map (load_at l.fn.bank) l.loads));
}
