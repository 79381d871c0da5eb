use Rattle.std.proofs.Common.{ℕ}
use Rattle.memory_spec.specs.Viewed.{runs_of}
use Rattle.term_bank.specs.Nodes.{Extends}
use Rattle.prove_run.proofs.Searched.{HaveSoFar}
use Rattle.prove_run.proofs.logs.add_logs.Given as goal

-- the obligations so far have their logs
abbrev pub invariant-loop-index : goal.invariant-loop-index
invariant-loop-index g l = record {
  grown : Extends l.fn.bank l.bank;
  so_far : HaveSoFar (runs_of l.runs) l.fn.bank l.goals l.index l.logs.items;
}
