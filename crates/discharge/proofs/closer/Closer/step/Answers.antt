use Rattle.std.specs.Prelude.{Some}
use Rattle.std.proofs.Common.{refl}
use Rattle.discharge.proofs.Begun.{step_taken_by}
use Rattle.discharge.proofs.closer.Closer.step.Goals as goal

pub returns : goal.returns
returns c =
    step_taken_by c.args.self.now.log (Some c.step.new.self) c.in-Some.log c.step.new.self c.args.literals.now c.args.hints.now c.step.result c.in-Some.is refl c.step.ensures.follows
    c.step.ensures.fault c.step.ensures.cnf c.step.ensures.added
