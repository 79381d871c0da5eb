use Rattle.std.proofs.lemmas.List.{nil_from_length}
use Rattle.c_run.proofs.Proceeding.{rests_none, rests}
use Rattle.c_run.proofs.Weighing.{below_rest}
use Rattle.c_run.proofs.running.rest.Goals as goal

pub returns-in_default-clause-proceeds : goal.returns-in_default-clause-proceeds
returns-in_default-clause-proceeds c = rests_none _ c.args.frame.now c.args.memory.now c.args.actions (nil_from_length c.args.actions.now c.in_default.ensures.cases)

pub returns-2-clause-proceeds : goal.returns-2-clause-proceeds
returns-2-clause-proceeds c = rests _ c.args.frame.now c.args.memory.now c.push.new.self c.act.new.frame c.act.new.memory c.act.result c.args.actions c.in-Some.others c.in-Some.first c.in-Some.ensures.cases.0 c.in-Ok-attempt.ensures c.act.ensures.acts

pub returns-2-clause-below : goal.returns-2-clause-below
returns-2-clause-below c = below_rest c.args.frame.now c.push.new.self c.act.new.frame c.act.result c.args.actions c.in-Some.others c.in-Some.first c.in-Some.ensures.cases.0 c.in-Ok-attempt.ensures c.act.ensures.below
