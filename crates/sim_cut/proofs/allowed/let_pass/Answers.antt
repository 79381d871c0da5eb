use Rattle.std.proofs.Common.{◌≡◌, ◌<◌, ◌≤◌, List, length, get_or, refl, subst}
use Rattle.proof_tree.specs.declared.frame.Goal.{Goal}
use Rattle.std.proofs.lemmas.Bool.{both_ways}
use Rattle.sim_cut.proofs.EachGoal.{tested, all_pass, one_stops, pass_more}
use Rattle.sim_cut.proofs.allowed.let_pass.Goals as goal

pub returns-then-not-passes_both : goal.returns-then-not-passes_both
returns-then-not-passes_both c = λ paths.
    let test = tested c.args.frame.now c.args.cut c.loop-goal.goal-index c.goal-item.result c.passes_both.result (subst (λ (xs : List Goal). c.loop-goal.goal-index < length xs) c.as_slice-goal-items.ensures.value c.loop-goal-test.true) (subst (λ (xs : List Goal). c.goal-item.result ≡ get_or xs c.loop-goal.goal-index c.goal-item.result) c.as_slice-goal-items.ensures.value c.goal-item.is) c.passes_both.ensures paths in (
      (λ bad. absurd (both_ways _ refl bad)),
      (λ all. absurd (one_stops c.args.frame.now paths c.args.cut c.loop-goal.goal-index c.goal-item.result (subst (λ (xs : List Goal). c.loop-goal.goal-index < length xs) c.as_slice-goal-items.ensures.value c.loop-goal-test.true) (subst (λ (xs : List Goal). c.goal-item.result ≡ get_or xs c.loop-goal.goal-index c.goal-item.result) c.as_slice-goal-items.ensures.value c.goal-item.is)
          (λ pass. both_ways _ c.if-not-passes_both.true (test.1 pass)) all)),
    )

pub loop-goal-preserved : goal.loop-goal-preserved
loop-goal-preserved c = λ paths.
    let test = tested c.args.frame.now c.args.cut c.loop-goal.goal-index c.goal-item.result c.passes_both.result (subst (λ (xs : List Goal). c.loop-goal.goal-index < length xs) c.as_slice-goal-items.ensures.value c.loop-goal-test.true) (subst (λ (xs : List Goal). c.goal-item.result ≡ get_or xs c.loop-goal.goal-index c.goal-item.result) c.as_slice-goal-items.ensures.value c.goal-item.is) c.passes_both.ensures paths in
    pass_more c.args.frame.now paths c.args.cut c.loop-goal.goal-index c.goal-item.result (subst (λ (xs : List Goal). c.loop-goal.goal-index < length xs) c.as_slice-goal-items.ensures.value c.loop-goal-test.true) (subst (λ (xs : List Goal). c.goal-item.result ≡ get_or xs c.loop-goal.goal-index c.goal-item.result) c.as_slice-goal-items.ensures.value c.goal-item.is) (c.loop-goal.invariant paths)
    (test.0 c.if-not-passes_both.false)

pub returns : goal.returns
returns c = λ paths. ((λ is. all_pass c.args.frame.now paths c.args.cut c.loop-goal.goal-index (subst (λ (xs : List Goal). length xs ≤ c.loop-goal.goal-index) c.as_slice-goal-items.ensures.value c.loop-goal-test.false) (c.loop-goal.invariant paths)), (λ all. refl))
