use Rattle.c_run.proofs.Acting.{unsets}
use Rattle.c_run.proofs.statement.unset.Goals as goal

pub returns-clause-acts : goal.returns-clause-acts
returns-clause-acts c = unsets _ c.args.frame.now c.args.memory.now c.set.new.self c.args.local c.set.ensures
