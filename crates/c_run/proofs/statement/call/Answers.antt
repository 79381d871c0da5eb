use Rattle.std.specs.Prelude.{map}
use Rattle.c_run.proofs.Acting.{calls, calls_not}
use Rattle.c_types_core.specs.Expressions.{core_of}
use Rattle.c_run.proofs.statement.call.Goals as goal

pub returns-clause-acts : goal.returns-clause-acts
returns-clause-acts c = calls_not _ c.args.frame.now c.args.memory.now c.pass.new.frame c.args.memory.now c.args.number c.args.function.now (map (λ b. core_of b.value) c.args.arguments.now) c.args.local (λ _. c.pass.new.frame.arguments.items) c.in-Err-attempt.field-0 c.in-Err-attempt.ensures.values

pub returns-2-clause-acts : goal.returns-2-clause-acts
returns-2-clause-acts c = calls _ c.args.frame.now c.args.memory.now c.pass.new.frame c.args.number c.args.function (map (λ b. core_of b.value) c.args.arguments.now) c.args.local c.in-Ok-attempt.ensures.values c.pass.ensures.same.types c.pass.ensures.same.locals c.pass.ensures.same.tasks
