use Rattle.c_run.proofs.Acting.{repeats}
use Rattle.c_types_spec.specs.declared.TestPlace.TheVariants.{Before, After}
use Rattle.c_run.proofs.statement.repeat.Goals as goal

pub returns-in-Ok-attempt-clause-repeats : goal.returns-in-Ok-attempt-clause-repeats
returns-in-Ok-attempt-clause-repeats c = repeats _ c.args.frame.now c.args.memory.now c.test_first.new.frame c.args.place Before c.args.action c.args.test c.args.step c.args.body c.in-Before.is c.in-Ok-attempt.ensures

pub returns-in-Ok-attempt-2-clause-repeats : goal.returns-in-Ok-attempt-2-clause-repeats
returns-in-Ok-attempt-2-clause-repeats c = repeats _ c.args.frame.now c.args.memory.now c.test_last.new.frame c.args.place After c.args.action c.args.test c.args.step c.args.body c.in-After.is c.in-Ok-attempt-2.ensures
