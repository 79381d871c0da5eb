use Rattle.std.proofs.Common.{◌∙◌, map, sym, subst, arith}
use Rattle.std.proofs.lemmas.Option.{same_Some}
use Rattle.clause_check_spec.specs.Log.{Step}
use Rattle.cert_text_parse.specs.Views.{literal_of}
use Rattle.std.specs.Prelude.{Ok}
use Rattle.cert_check.specs.Logs.{CanStep, StepsLog}
use Rattle.cert_check.proofs.Entered.{last_part}
use Rattle.cert_check.proofs.Checking.{takes_it, goes_open, goes_done, goes_broken}
use Rattle.cert_check.proofs.checker.Checker.step_line.Goals as goal

pub step-requires : goal.step-requires
step-requires c =
    let one : Step = record { literals = map literal_of c.args.literals.now; hints = c.args.hints.now } in
    let it = takes_it c.args.self.now one c.requires in
    subst CanStep (same_Some it.current c.in-Some.current (sym it.is ∙ c.in-Some.is)) it.can

pub returns-in-Ok-true : goal.returns-in-Ok-true
returns-in-Ok-true c =
    let one : Step = record { literals = map literal_of c.args.literals.now; hints = c.args.hints.now } in
    let it = takes_it c.args.self.now one c.requires in
    let last = last_part c.args.self.now.walk.parts.items _ c.index-part.result.now c.index-part.ensures (omega (arith, it.begun, c.args.self.now.walk.parts.ok.0)) in
    goes_open c.args.self.now one c.args.place c.index-part.result.now _ last c.requires c.in-Some.current c.in-Some.is c.step.new.current (subst (λ b. StepsLog c.index-part.result.now c.in-Some.current c.step.new.current one c.args.place (Ok b)) c.in-Ok-true.field-0-test c.in-Ok-true.ensures)

pub returns-in-Ok-false : goal.returns-in-Ok-false
returns-in-Ok-false c =
    let one : Step = record { literals = map literal_of c.args.literals.now; hints = c.args.hints.now } in
    let it = takes_it c.args.self.now one c.requires in
    let last = last_part c.args.self.now.walk.parts.items _ c.index-part.result.now c.index-part.ensures (omega (arith, it.begun, c.args.self.now.walk.parts.ok.0)) in
    goes_done c.args.self.now one c.args.place c.index-part.result.now _ last c.requires c.in-Some.current c.in-Some.is c.step.new.current (subst (λ b. StepsLog c.index-part.result.now c.in-Some.current c.step.new.current one c.args.place (Ok b)) c.in-Ok-false.field-0-test c.in-Ok-false.ensures)

pub returns-in-Err : goal.returns-in-Err
returns-in-Err c =
    let one : Step = record { literals = map literal_of c.args.literals.now; hints = c.args.hints.now } in
    let it = takes_it c.args.self.now one c.requires in
    let last = last_part c.args.self.now.walk.parts.items _ c.index-part.result.now c.index-part.ensures (omega (arith, it.begun, c.args.self.now.walk.parts.ok.0)) in
    goes_broken c.args.self.now one c.args.place c.index-part.result.now _ last c.requires c.in-Some.current c.in-Some.is c.step.new.current c.in-Err.fault c.in-Err.ensures

pub overflow_sub-len : goal.overflow_sub-len
overflow_sub-len c =
    let one : Step = record { literals = map literal_of c.args.literals.now; hints = c.args.hints.now } in
    let it = takes_it c.args.self.now one c.requires in
    omega (arith, it.begun, c.len.ensures, c.args.self.now.walk.parts.ok.0)

pub index-part-requires : goal.index-part-requires
index-part-requires c =
    let one : Step = record { literals = map literal_of c.args.literals.now; hints = c.args.hints.now } in
    let it = takes_it c.args.self.now one c.requires in
    omega (arith, it.begun, c.len.ensures, c.args.self.now.walk.parts.ok.0)

pub unreachable-requires : goal.unreachable-requires
unreachable-requires c =
    let one : Step = record { literals = map literal_of c.args.literals.now; hints = c.args.hints.now } in
    let it = takes_it c.args.self.now one c.requires in
    c.in_default.not-Some it.current it.is
