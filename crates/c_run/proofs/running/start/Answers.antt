use Rattle.std.specs.Prelude.{Ok}
use Rattle.c_run.specs.declared.frame.Next.TheVariants as next
use Rattle.c_run.specs.declared.frame.Ending.TheVariants as ending
use Rattle.c_run.proofs.Proceeding.{by_this, does, steps, repeats_it, ends_switch}
use Rattle.c_run.proofs.Weighing.{below_this, below_do, below_rest_task, below_step, below_test, below_repeat, below_same, task_weighs}
use Rattle.std.proofs.Common.{refl}
use Rattle.c_run.proofs.running.start.Goals as goal

pub returns-in-Do-clause-proceeds : goal.returns-in-Do-clause-proceeds
returns-in-Do-clause-proceeds c = by_this _ c.args.frame.now c.act.new.frame c.args.memory.now c.act.new.memory c.act.result c.args.task _ ending.Went c.in-Do.is (does _ c.args.frame.now c.args.memory.now c.act.new.frame c.act.new.memory c.act.result c.in-Do.action c.act.ensures.acts)

pub returns-in-Rest-clause-proceeds : goal.returns-in-Rest-clause-proceeds
returns-in-Rest-clause-proceeds c = by_this _ c.args.frame.now c.rest.new.frame c.args.memory.now c.rest.new.memory c.rest.result c.args.task _ ending.Went c.in-Rest.is (c.rest.ensures.proceeds)

pub returns-in-Step-clause-proceeds : goal.returns-in-Step-clause-proceeds
returns-in-Step-clause-proceeds c = by_this _ c.args.frame.now c.act-in-Step.new.frame c.args.memory.now c.act-in-Step.new.memory c.act-in-Step.result c.args.task _ ending.Went c.in-Step.is (steps _ c.args.frame.now c.args.memory.now c.act-in-Step.new.frame c.act-in-Step.new.memory c.act-in-Step.result c.in-Step.action c.act-in-Step.ensures.acts)

pub returns-in-Test-clause-proceeds : goal.returns-in-Test-clause-proceeds
returns-in-Test-clause-proceeds c = by_this _ c.args.frame.now c.test_round.new.frame c.args.memory.now c.test_round.new.memory c.test_round.result c.args.task _ ending.Went c.in-Test.is (c.test_round.ensures.proceeds)

pub returns-in-Repeat-clause-proceeds : goal.returns-in-Repeat-clause-proceeds
returns-in-Repeat-clause-proceeds c = by_this _ c.args.frame.now c.act-in-Repeat.new.frame c.args.memory.now c.act-in-Repeat.new.memory c.act-in-Repeat.result c.args.task _ ending.Went c.in-Repeat.is (repeats_it _ c.args.frame.now c.args.memory.now c.act-in-Repeat.new.frame c.act-in-Repeat.new.memory c.act-in-Repeat.result c.in-Repeat.action c.act-in-Repeat.ensures.acts)

pub returns-in-Switch-clause-proceeds : goal.returns-in-Switch-clause-proceeds
returns-in-Switch-clause-proceeds c = by_this _ c.args.frame.now c.args.frame.now c.args.memory.now c.args.memory.now (Ok (next.Goes ending.Went)) c.args.task _ ending.Went c.in-Switch.is (ends_switch _ c.args.frame.now c.args.memory.now)

pub returns-in-Do-clause-below : goal.returns-in-Do-clause-below
returns-in-Do-clause-below c = below_this c.args.frame.now c.act.new.frame c.act.result c.args.task _ c.in-Do.is (below_do c.args.frame.now c.act.new.frame c.act.result c.in-Do.action c.act.ensures.below)

pub returns-in-Rest-clause-below : goal.returns-in-Rest-clause-below
returns-in-Rest-clause-below c = below_this c.args.frame.now c.rest.new.frame c.rest.result c.args.task _ c.in-Rest.is (below_rest_task c.args.frame.now c.rest.new.frame c.rest.result c.in-Rest.actions c.rest.ensures.below)

pub returns-in-Step-clause-below : goal.returns-in-Step-clause-below
returns-in-Step-clause-below c = below_this c.args.frame.now c.act-in-Step.new.frame c.act-in-Step.result c.args.task _ c.in-Step.is (below_step c.args.frame.now c.act-in-Step.new.frame c.act-in-Step.result c.in-Step.action c.act-in-Step.ensures.below)

pub returns-in-Test-clause-below : goal.returns-in-Test-clause-below
returns-in-Test-clause-below c = below_this c.args.frame.now c.test_round.new.frame c.test_round.result c.args.task _ c.in-Test.is (below_test c.args.frame.now c.test_round.new.frame c.test_round.result c.in-Test.test c.test_round.ensures.below)

pub returns-in-Repeat-clause-below : goal.returns-in-Repeat-clause-below
returns-in-Repeat-clause-below c = below_this c.args.frame.now c.act-in-Repeat.new.frame c.act-in-Repeat.result c.args.task _ c.in-Repeat.is (below_repeat c.args.frame.now c.act-in-Repeat.new.frame c.act-in-Repeat.result c.in-Repeat.action c.act-in-Repeat.ensures.below)

pub returns-in-Switch-clause-below : goal.returns-in-Switch-clause-below
returns-in-Switch-clause-below c = below_same _ c.args.frame.now c.args.frame.now ending.Went refl (task_weighs c.args.task)
