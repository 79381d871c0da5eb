use Rattle.c_run.proofs.Acting.{evaluates, evaluates_not}
use Rattle.c_types_core.specs.Expressions.{core_of}
use Rattle.c_run.proofs.statement.evaluate.Goals as goal

pub returns-clause-acts : goal.returns-clause-acts
returns-clause-acts c = evaluates_not _ c.args.frame.now c.args.memory.now c.args.frame.now c.args.memory.now (core_of c.args.core.now) c.in-Err-attempt.field-0 c.in-Err-attempt.ensures

pub returns-2-clause-acts : goal.returns-2-clause-acts
returns-2-clause-acts c = evaluates _ c.args.frame.now c.args.memory.now (core_of c.args.core.now) c.in-Ok-attempt.field-0 c.in-Ok-attempt.ensures
