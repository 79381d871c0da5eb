use Rattle.std.proofs.Common.{refl}
use Rattle.cert_check_jobs.specs.declared.jobs.Job.TheVariants.{Close}
use Rattle.path_cond.proofs.Banks.{extends_itself}
use Rattle.cert_check.proofs.Leaving.{first_inside, below_kept, on_ok}
use Rattle.cert_check.proofs.logs.begin_first.Goals as goal

pub begin-requires : goal.begin-requires
begin-requires c =
    first_inside c.args.function.now c.args.walk.now.bank c.args.walk.now.bank _ _ c.args.walk.now.jobs.items c.take_goal-goal.new.jobs.items (Close c.take_goal-goal.result) c.requires.kept
    (extends_itself c.args.walk.now.bank) c.take_goal-goal.ensures

pub returns : goal.returns
returns c = record {
  parts = refl;
  kept = on_ok c.begin.result
      (below_kept c.args.function.now c.args.walk.now.bank c.begin.new.bank _ _ c.args.walk.now.jobs.items c.take_goal-goal.new.jobs.items (Close c.take_goal-goal.result) c.requires.kept
      c.begin.ensures.extends c.take_goal-goal.ensures);
  goal = c.take_goal-goal.result;
  first = c.take_goal-goal.ensures;
  extends = c.begin.ensures.extends;
  begins = c.begin.ensures.begins;
}
