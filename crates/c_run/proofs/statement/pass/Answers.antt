use Rattle.std.proofs.Common.{rules, ◌≡◌, [], ◌∷◌, ◌++◌, refl}
use Rattle.c_run.proofs.Passing.{passed_first, passed_more, passed_stop, passed_all}
use Rattle.c_run.proofs.statement.pass.Goals as goal

pub loop-argument-init : goal.loop-argument-init
loop-argument-init c = passed_first _ c.args.frame.now c.args.memory.now c.args.arguments.now (record c.args.frame.now { arguments = c.clear.new.self }) c.clear.ensures.items (record { types = refl; locals = refl; tasks = refl })

pub loop-argument-preserved : goal.loop-argument-preserved
loop-argument-preserved c = let added : c.push.new.self.items ≡ c.loop-argument.frame.arguments.items ++ c.in-Ok-attempt.field-0 ∷ [] = search rules in
    passed_more _ c.args.frame.now c.args.memory.now c.args.arguments.now c.loop-argument.argument-index c.loop-argument.frame c.argument-item.result c.deref.result.now c.loop-argument.invariant c.loop-argument-test.true c.argument-item.is c.deref.ensures (record c.loop-argument.frame { arguments = c.push.new.self }) c.in-Ok-attempt.field-0 c.in-Ok-attempt.ensures refl refl refl added

pub returns-in-loop-argument : goal.returns-in-loop-argument
returns-in-loop-argument c = record { values = passed_stop _ c.args.frame.now c.args.memory.now c.args.arguments.now c.loop-argument.argument-index c.loop-argument.frame c.argument-item.result c.deref.result.now c.loop-argument.invariant c.loop-argument-test.true c.argument-item.is c.deref.ensures (λ (_ : Unit {0}). c.loop-argument.frame.arguments.items) c.in-Err-attempt.field-0 c.in-Err-attempt.ensures; same = c.loop-argument.invariant.same }

pub returns-in-loop-argument-2-clause-same : goal.returns-in-loop-argument-2-clause-same
returns-in-loop-argument-2-clause-same c = record { types = c.loop-argument.invariant.same.types; locals = c.loop-argument.invariant.same.locals; tasks = c.loop-argument.invariant.same.tasks }

pub returns : goal.returns
returns c = record { values = passed_all _ c.args.frame.now c.args.memory.now c.args.arguments.now c.loop-argument.argument-index c.loop-argument.frame c.loop-argument.invariant c.loop-argument-test.false; same = c.loop-argument.invariant.same }
