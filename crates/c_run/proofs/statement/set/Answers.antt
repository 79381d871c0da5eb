use Rattle.std.proofs.Common.{rules, Some}
use Rattle.c_run.specs.Frames.{IsSet}
use Rattle.c_run.proofs.Acting.{sets, sets_not}
use Rattle.c_types_core.specs.Expressions.{core_of}
use Rattle.c_run.proofs.statement.set.Goals as goal

pub returns-clause-acts : goal.returns-clause-acts
returns-clause-acts c = sets_not _ c.args.frame.now c.args.memory.now c.args.frame.now c.args.memory.now c.args.local (core_of c.args.core.now) c.in-Err-attempt.field-0 c.in-Err-attempt.ensures

pub returns-2-clause-acts : goal.returns-2-clause-acts
returns-2-clause-acts c = let put : IsSet c.args.frame.now c.set.new.self c.args.local (Some c.in-Ok-attempt.field-0) = search rules in
    sets _ c.args.frame.now c.args.memory.now c.set.new.self c.args.local (core_of c.args.core.now) c.in-Ok-attempt.field-0 c.in-Ok-attempt.ensures put
