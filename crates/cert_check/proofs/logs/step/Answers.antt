use Rattle.std.proofs.Common.{◌≡◌, ◌-◌, Some, map, refl, subst, arith}
use Rattle.std.specs.Prelude.{Err}
use Rattle.discharge.specs.Closers.{OpenLog, TakesStep, open_of}
use Rattle.clause_check_spec.specs.Log.{Step}
use Rattle.cert_text_parse.specs.Views.{literal_of}
use Rattle.cert_check.specs.declared.logs.OpenLine.{OpenLine}
use Rattle.cert_check.proofs.Stepped.{refused_step, follows_more, closes_goal, leaves_open}
use Rattle.cert_check.proofs.logs.step.Goals as goal

pub add_step-requires : goal.add_step-requires
add_step-requires c = (c.requires.steps, c.requires.is, c.requires.bounded)

pub returns-in-Err-Fault : goal.returns-in-Err-Fault
returns-in-Err-Fault c =
    let one : Step = record { literals = map literal_of c.args.literals.now; hints = c.args.hints.now } in
    let new : OpenLine = record c.args.current.now { closer = c.add_step.new.closer } in
    refused_step c.args.part c.args.current.now new one c.args.place c.in-Err-Fault.field-0-0 (subst (λ e. (log : OpenLog) → open_of c.args.current.now.closer ≡ Some log → TakesStep log (open_of c.add_step.new.closer) (map literal_of c.args.literals.now) c.args.hints.now (Err e)) c.in-Err-Fault.field-0-is c.in-Err-Fault.ensures)

pub returns-then-current-gt0 : goal.returns-then-current-gt0
returns-then-current-gt0 c =
    let one : Step = record { literals = map literal_of c.args.literals.now; hints = c.args.hints.now } in
    let new : OpenLine = record c.args.current.now { closer = c.add_step.new.closer; left = c.args.current.now.left - 1 } in
    follows_more c.args.part c.args.current.now new one c.args.place c.in-Ok.ensures (omega (arith, c.if-current-gt0.true)) refl

pub returns-then-is_closed : goal.returns-then-is_closed
returns-then-is_closed c =
    let one : Step = record { literals = map literal_of c.args.literals.now; hints = c.args.hints.now } in
    let new : OpenLine = record c.args.current.now { closer = c.add_step.new.closer } in
    closes_goal c.args.part c.args.current.now new one c.args.place c.in-Ok.ensures c.is_closed.result c.is_closed.ensures c.if-is_closed.true
    (omega (arith, c.if-current-gt0.false))

pub returns-else-is_closed : goal.returns-else-is_closed
returns-else-is_closed c =
    let one : Step = record { literals = map literal_of c.args.literals.now; hints = c.args.hints.now } in
    let new : OpenLine = record c.args.current.now { closer = c.add_step.new.closer } in
    leaves_open c.args.part c.args.current.now new one c.args.place c.in-Ok.ensures c.is_closed.result c.is_closed.ensures c.if-is_closed.false
    (omega (arith, c.if-current-gt0.false))
