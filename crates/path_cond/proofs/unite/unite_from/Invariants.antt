use Rattle.std.proofs.Common.{◌≡◌, ℕ, ◌<◌, ◌≤◌, get_or}
use Rattle.term_bank.specs.Nodes.{Extends}
use Rattle.path_cond.specs.Ids.{id_at}
use Rattle.path_cond.specs.United.{IsUnitedAt, id_of}
use Rattle.path_cond.proofs.unite.unite_from.Given as goal

abbrev pub invariant-loop-number : goal.invariant-loop-number
invariant-loop-number l = record {
  extends : Extends l.fn.bank l.bank;
  done : (k : ℕ) → k < l.number → IsUnitedAt l.fn.bank l.bank l.conditions l.states l.sources (id_at l.made) k;
  rest : (k : ℕ) → l.number ≤ k → id_at l.made k ≡ id_of l.states k (get_or l.sources 0 0);
}
