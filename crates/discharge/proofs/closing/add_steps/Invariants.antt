use Rattle.std.proofs.Common.{◌≡◌, ◌+◌, length, Some}
use Rattle.clause_check.specs.Logged.{clauses_of}
use Rattle.discharge_spec.specs.Closing.{checked}
use Rattle.discharge.specs.Answers.{ends_empty}
use Rattle.discharge.specs.Closers.{opened, outcome_by}
use Rattle.discharge.proofs.closing.add_steps.Given as goal

abbrev pub invariant-loop-index : goal.invariant-loop-index
invariant-loop-index g l = record {
  cnf : l.checker.cnf ≡ l.fn.checker.cnf;
  count : l.index + length (g.L.Steps.left l.log) ≡ length (g.L.Steps.left l.fn.log);
  rest : outcome_by (Some (opened l.fn.checker)) (g.L.Steps.left l.fn.log)
      ≡ checked l.checker.cnf.variables (clauses_of l.checker) (ends_empty l.checker.added) (l.index + 1) (g.L.Steps.left l.log);
}
