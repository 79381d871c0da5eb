use Rattle.std.proofs.Common.{◌+◌, ◌*◌, ◌<◌, length, All}
use Rattle.std.specs.HashMap.{get}
use Rattle.std.specs.Prelude.{nat_eq, vec_len}
use Rattle.term_core_spec.specs.Same.{same_variable}
use Rattle.term_bank.specs.Nodes.{Extends}
use Rattle.term_substitution.specs.States.{AreBelow}
use Rattle.term_substitution.specs.Transfers.{TakesMore}
use Rattle.term_substitution.specs.Paths.{left}
use Rattle.term_substitution.proofs.moving.take_term.Given as goal

abbrev pub invariant-terms : goal.invariant-terms
invariant-terms l = record {
  below : AreBelow (length l.bank) (get same_variable l.state);
  extends : Extends l.fn.bank l.bank;
  more : TakesMore l.from (get same_variable l.state) l.fn.bank l.bank (get nat_eq l.fn.done) (get nat_eq l.done);
  path : All (λ k. k < length l.from) l.path.items;
}

-- a term that is taken leaves fewer, and the way down to it is no longer than the bank
abbrev pub decreases-terms : goal.decreases-terms
decreases-terms l = left (get nat_eq l.done) (length l.from) * (length l.from + 1) + vec_len l.path
