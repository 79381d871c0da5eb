use Rattle.std.proofs.Common.{◌≡◌, ◌≤◌, ◌-◌, ◌++◌, List, length, drop}
use Rattle.clause_check_spec.specs.declared.Literal.{Literal}
use Rattle.clause_check_spec.specs.Step.{finding}
use Rattle.clause_check.specs.Signs.{Reports}
use Rattle.clause_check.proofs.hints.next_open.Given as goal

abbrev pub invariant-loop-index : goal.invariant-loop-index
invariant-loop-index l = record {
  within : l.index ≤ length l.clause;
  passed : (truths front : List Literal) → Reports l.stamps truths
      → finding truths (front ++ drop l.start l.clause) ≡ finding truths (front ++ drop l.index l.clause);
}

abbrev pub decreases-loop-index : goal.decreases-loop-index
decreases-loop-index l = length l.clause - l.index
