use Rattle.memory_spec.specs.Viewed.{runs_of}
use Rattle.word_steps.specs.Views.{count_of}
use Rattle.word_steps.proofs.Arguing.{index_is_below}
use Rattle.word_steps.proofs.Taken.{no_number, renewed_one}
use Rattle.word_steps.proofs.block.Block.renew.Goals as goal

pub returns-in-Ok-allocated-clause-line : goal.returns-in-Ok-allocated-clause-line
returns-in-Ok-allocated-clause-line c =
    let at = index_is_below (count_of c.args.self.now) c.args.number c.in-Some.index c.in-Some.ensures in
    renewed_one (runs_of c.args.runs.now) c.args.bank.now c.args.self.now c.args.number c.in-Some.index c.renew_at.new.bank c.renew_at.new.self c.in-Some.ensures at.0 c.in-Ok-allocated.ensures.becomes

pub returns-in-None-clause-line : goal.returns-in-None-clause-line
returns-in-None-clause-line c =
    no_number (runs_of c.args.runs.now) c.args.bank.now c.args.self.now c.args.number c.in-None.ensures
