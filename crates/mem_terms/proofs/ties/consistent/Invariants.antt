use Rattle.std.proofs.Common.{◌≡◌, ◌<◌, length, map, drop}
use Rattle.term_bank.specs.Nodes.{tree_at, Extends}
use Rattle.mem_terms_spec.specs.Flat.{pairs_of, all_of, consistent}
use Rattle.mem_terms.specs.Ids.{load_at}
use Rattle.mem_terms.proofs.ties.consistent.Given as goal

abbrev pub invariant-loop-memory : goal.invariant-loop-memory
invariant-loop-memory l = record {
  extends : Extends l.fn.bank l.bank;
  within : l.all < length l.bank;
  rest : all_of (tree_at l.bank l.all) (pairs_of (drop l.memory-index l.memory-items) (map (load_at l.fn.bank) l.loads)) ≡ consistent (map (load_at l.fn.bank) l.loads);
}
