use Rattle.std.proofs.Common.{ℕ, List, take, sym, subst}
use Rattle.cert_text_parse.specs.declared.lines.Literal.{Literal}
use Rattle.cert_text_parse.specs.Views.{line_at, step_of}
use Rattle.cert_check.specs.Checkers.{IsNextLine, Goes}
use Rattle.cert_check.proofs.Plain.{is_plain_line, plain}
use Rattle.cert_check.proofs.checker.Checker.line.Goals as goal

pub log_line-requires : goal.log_line-requires
log_line-requires c = subst (λ l. IsNextLine c.args.self.now (line_at l c.args.given.literals.now c.args.given.hints.now)) c.in-Log.is c.requires

pub returns-in-Log : goal.returns-in-Log
returns-in-Log c =
    subst (λ l. Goes c.args.self.now c.log_line.new.self (line_at l c.args.given.literals.now c.args.given.hints.now) c.args.given.place c.log_line.result) (sym c.in-Log.is) c.log_line.ensures

pub step_line-requires : goal.step_line-requires
step_line-requires c =
    subst (λ (ls : List Literal). IsNextLine c.args.self.now (step_of ls c.front-in-Step.result.now)) (sym c.front.ensures)
    (subst (λ (hs : List ℕ). IsNextLine c.args.self.now (step_of (take c.in-Step.literals c.args.given.literals.now) hs)) (sym c.front-in-Step.ensures)
    (subst (λ l. IsNextLine c.args.self.now (line_at l c.args.given.literals.now c.args.given.hints.now)) c.in-Step.is c.requires))

pub returns-in-Step : goal.returns-in-Step
returns-in-Step c =
    subst (λ l. Goes c.args.self.now c.step_line.new.self (line_at l c.args.given.literals.now c.args.given.hints.now) c.args.given.place c.step_line.result) (sym c.in-Step.is)
    (subst (λ (hs : List ℕ). Goes c.args.self.now c.step_line.new.self (step_of (take c.in-Step.literals c.args.given.literals.now) hs) c.args.given.place c.step_line.result) c.front-in-Step.ensures
    (subst (λ (ls : List Literal). Goes c.args.self.now c.step_line.new.self (step_of ls c.front-in-Step.result.now) c.args.given.place c.step_line.result) c.front.ensures c.step_line.ensures))

pub other_line-requires-clause-next : goal.other_line-requires-clause-next
other_line-requires-clause-next c =
    let line = c.args.given.line.now in
    let is = is_plain_line line c.in_default.not-Log c.in_default.not-Step in
    subst (IsNextLine c.args.self.now) ((plain line is).is c.args.given.literals.now c.args.given.hints.now) c.requires

pub other_line-requires-clause-plain : goal.other_line-requires-clause-plain
other_line-requires-clause-plain c = is_plain_line c.args.given.line.now c.in_default.not-Log c.in_default.not-Step

pub returns-in_default : goal.returns-in_default
returns-in_default c =
    let line = c.args.given.line.now in
    let is = is_plain_line line c.in_default.not-Log c.in_default.not-Step in
    subst (λ l. Goes c.args.self.now c.other_line.new.self l c.args.given.place c.other_line.result) (sym ((plain line is).is c.args.given.literals.now c.args.given.hints.now)) c.other_line.ensures
