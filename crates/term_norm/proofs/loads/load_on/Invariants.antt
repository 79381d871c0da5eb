use Rattle.term_bank.specs.Nodes.{tree_at, Extends}
use Rattle.term_norm.specs.Runs.{load_from}
use Rattle.term_norm.specs.Walk.{IsWalk, AreForms, work}
use Rattle.term_norm.proofs.loads.load_on.Given as goal

abbrev pub invariant-loop-load : goal.invariant-loop-load
invariant-loop-load l = record {
  grown : Extends l.initial.bank l.bank;
  sound : IsWalk l.walk l.m;
  loads : AreForms (load_from l.runs (tree_at l.bank l.d)) l.bank l.walk;
}

abbrev pub decreases-loop-load : goal.decreases-loop-load
decreases-loop-load l = work l.walk l.m
