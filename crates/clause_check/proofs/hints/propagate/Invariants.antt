use Rattle.std.proofs.Common.{◌≡◌, List, length, drop}
use Rattle.clause_check_spec.specs.declared.Literal.{Literal}
use Rattle.clause_check_spec.specs.Step.{propagate}
use Rattle.clause_check.specs.Signs.{Reports}
use Rattle.clause_check.proofs.hints.propagate.Given as goal

abbrev pub invariant-loop-done : goal.invariant-loop-done
invariant-loop-done l = record {
  reported : (first : List Literal) → Reports l.initial.stamps first
      → (truths : List Literal) × Reports l.stamps truths × (propagate l.clauses.clauses l.hints first 0 ≡ propagate l.clauses.clauses (drop l.done l.hints) truths l.done);
  len : length l.stamps ≡ length l.initial.stamps;
}
