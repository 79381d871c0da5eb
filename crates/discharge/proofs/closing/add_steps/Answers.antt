use Rattle.std.proofs.Common.{◌∙◌, arith, refl, ap, ◌+◌}
use Rattle.std.specs.Prelude.{length}
use Rattle.clause_check.specs.Logged.{clauses_of}
use Rattle.discharge.specs.Answers.{ends_empty}
use Rattle.discharge.proofs.Rest.{error_answers, goes_on, at_end_closed, at_end_open}
use Rattle.discharge.proofs.closing.add_steps.Goals as goal

pub loop-index-init : goal.loop-index-init
loop-index-init g c = record { cnf = refl; count = omega arith; rest = refl }

pub loop-index-preserved : goal.loop-index-preserved
loop-index-preserved g c =
    let taken = c.in-Ok.ensures in
    record {
      cnf = taken.3 ∙ c.loop-index.invariant.cnf;
      count = omega (arith, ap length taken.1, c.loop-index.invariant.count);
      rest =
          c.loop-index.invariant.rest
          ∙ goes_on c.loop-index.checker c.add_first.new.checker (g.L.Steps.left c.loop-index.log) (g.L.Steps.left c.add_first.new.self) taken (ends_empty c.loop-index.checker.added)
          (c.loop-index.index + 1);
    }

pub returns-in-Err : goal.returns-in-Err
returns-in-Err g c =
    error_answers (Unit {0}) _ (g.L.Steps.left c.loop-index.log) (g.L.Steps.left c.add_first.new.self) c.loop-index.checker c.add_first.new.checker (ends_empty c.loop-index.checker.added)
    (c.loop-index.index + 1) c.in-Err.error c.step_error.result c.step_error.ensures c.loop-index.invariant.rest c.in-Err.ensures

pub returns-then-is_closed : goal.returns-then-is_closed
returns-then-is_closed g c =
    c.loop-index.invariant.rest
    ∙ at_end_closed c.loop-index.checker.cnf.variables (clauses_of c.loop-index.checker) c.loop-index.checker.added (c.loop-index.index + 1) (g.L.Steps.left c.loop-index.log)
    (omega (arith, c.count-count.ensures, c.loop-index-test.false, c.loop-index.auto.index-end, c.loop-index.invariant.count)) (c.is_closed.ensures.last.0 c.if-is_closed.true)

pub returns-else-is_closed : goal.returns-else-is_closed
returns-else-is_closed g c =
    c.loop-index.invariant.rest
    ∙ at_end_open c.loop-index.checker.cnf.variables (clauses_of c.loop-index.checker) c.loop-index.checker.added (c.loop-index.index + 1) (g.L.Steps.left c.loop-index.log)
    (omega (arith, c.count-count.ensures, c.loop-index-test.false, c.loop-index.auto.index-end, c.loop-index.invariant.count))
    (λ last. let yes = c.is_closed.ensures.last.1 last in let no = c.if-is_closed.false in cc)
