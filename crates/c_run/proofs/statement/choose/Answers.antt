use Rattle.c_run.proofs.Acting.{chooses_first, chooses_second, chooses_not}
use Rattle.c_types_core.specs.Expressions.{core_of}
use Rattle.c_types_core.specs.Actions.{action_of}
use Rattle.c_run.specs.declared.frame.Task.TheVariants as task
use Rattle.c_run.specs.declared.frame.Ending.TheVariants as ending
use Rattle.c_run.specs.Weights.{weight_of}
use Rattle.c_run.proofs.Weighing.{below_pushed, first_below, second_below}
use Rattle.c_run.proofs.statement.choose.Goals as goal

pub returns-clause-acts : goal.returns-clause-acts
returns-clause-acts c = chooses_not _ c.args.frame.now c.args.memory.now c.args.frame.now c.args.memory.now (core_of c.args.test.now) (action_of c.args.first.now) (action_of c.args.second.now) (λ b. b) c.in-Err-attempt.field-0 c.in-Err-attempt.ensures

pub returns-then-is_first-2-clause-acts : goal.returns-then-is_first-2-clause-acts
returns-then-is_first-2-clause-acts c = chooses_first _ c.args.frame.now c.args.memory.now c.push_do.new.self (core_of c.args.test.now) c.args.first (action_of c.args.second.now) c.in-Ok-attempt.field-0 c.in-Ok-attempt.ensures c.if-is_first.true c.in-Ok-attempt-2.ensures

pub returns-3-clause-acts : goal.returns-3-clause-acts
returns-3-clause-acts c = chooses_second _ c.args.frame.now c.args.memory.now c.push_do-2.new.self (core_of c.args.test.now) (action_of c.args.first.now) c.args.second c.in-Ok-attempt.field-0 c.in-Ok-attempt.ensures c.if-is_first.false c.in-Ok-attempt-3.ensures

pub returns-then-is_first-2-clause-below : goal.returns-then-is_first-2-clause-below
returns-then-is_first-2-clause-below c = below_pushed _ c.args.frame.now c.push_do.new.self (task.Do c.args.first) ending.Went c.in-Ok-attempt-2.ensures (first_below c.args.first (weight_of c.args.second.now))

pub returns-3-clause-below : goal.returns-3-clause-below
returns-3-clause-below c = below_pushed _ c.args.frame.now c.push_do-2.new.self (task.Do c.args.second) ending.Went c.in-Ok-attempt-3.ensures (second_below c.args.second (weight_of c.args.first.now))
