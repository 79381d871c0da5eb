use Rattle.term_bank.specs.Nodes.{Extends}
use Rattle.prove_run.proofs.logs.refuted.Given as goal

abbrev pub invariant-loop-index : goal.invariant-loop-index
invariant-loop-index l = record { grown : Extends l.fn.bank l.bank }
