use Rattle.std.proofs.Common.{◌∙◌, List, length, sym, ap, subst}
use Rattle.cert_check_frames.specs.Jobs.{AreBelow, tests_at}
use Rattle.cert_check_jobs.specs.declared.cuts.CutGoal.{CutGoal}
use Rattle.cert_check_jobs.specs.declared.cuts.Cuts.{Cuts}
use Rattle.cert_check_jobs.specs.Cuts.{AreGoalsBelow, goals_in, goals_seen}
use Rattle.cert_check_jobs.proofs.frames.extra_trees.Goals as goal

pub tests-requires : goal.tests-requires
tests-requires c = subst (AreBelow (length c.args.bank.now)) (sym c.as_slice-2.ensures.value) c.requires.premises

pub add_goal_trees-requires-clause-below : goal.add_goal_trees-requires-clause-below
add_goal_trees-requires-clause-below c =
    subst (λ (l : List CutGoal). AreGoalsBelow (length c.args.bank.now) (goals_seen l)) (sym (c.as_slice.ensures.value ∙ ap (λ (x : Cuts). x.goals.items) c.deref.ensures)) c.requires.goals

pub returns-3 : goal.returns-3
returns-3 c = record {
  tests = c.in-Ok-attempt-tests.ensures ∙ ap (tests_at c.args.bank.now) c.as_slice-2.ensures.value;
  goals = c.in-Ok-attempt.ensures ∙ ap (λ (l : List CutGoal). goals_in c.args.bank.now (goals_seen l)) (c.as_slice.ensures.value ∙ ap (λ (x : Cuts). x.goals.items) c.deref.ensures);
}
