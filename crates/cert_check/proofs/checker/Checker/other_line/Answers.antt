use Rattle.cert_text_parse.specs.Views.{line_of}
use Rattle.cert_check.proofs.Plain.{plain_no_step}
use Rattle.cert_check.proofs.Checking.{can_walk, plain_passes, plain_fails}
use Rattle.cert_check.proofs.checker.Checker.other_line.Goals as goal

pub step-requires-clause-walk : goal.step-requires-clause-walk
step-requires-clause-walk c = can_walk c.args.self.now (line_of c.args.line.now) (plain_no_step c.args.line.now c.requires.plain) c.requires.next

pub returns-in-Ok : goal.returns-in-Ok
returns-in-Ok c =
    plain_passes c.args.self.now c.step.new.walk (line_of c.args.line.now) c.args.place (plain_no_step c.args.line.now c.requires.plain) c.requires.next c.in-Ok.ensures

pub returns-in-Err : goal.returns-in-Err
returns-in-Err c =
    plain_fails c.args.self.now c.step.new.walk (line_of c.args.line.now) c.args.place (plain_no_step c.args.line.now c.requires.plain) c.requires.next c.in-Err.fault c.placed_at.result
    c.placed_at.ensures c.in-Err.ensures
