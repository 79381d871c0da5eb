use Rattle.clause_check_spec.specs.Step.{outcome}
use Rattle.clause_check.specs.Logged.{clauses_of}
use Rattle.discharge.proofs.Rest.{step_taken}
use Rattle.discharge.proofs.steps.ListingSteps.add_first.Goals as goal

pub returns : goal.returns
returns c =
    step_taken c.args.self.now.steps.now c.in-Some.left.now c.in-Some.step.now c.in-Some.ensures.cases.0 c.args.checker.now c.step.new.self c.literals.result.now c.hints.result.now
    (λ i. outcome c.args.checker.now.cnf.variables (clauses_of c.args.checker.now) (c.literals.ensures i) (c.hints.ensures i)) (λ follows. c.literals.ensures) c.step.result c.step.ensures.follows
    c.step.ensures.fault c.step.ensures.cnf c.step.ensures.added
