use Rattle.std.proofs.Common.{◌≡◌, ◌<◌, ◌≤◌, List, length, get_or, refl, subst, arith}
use Rattle.proof_tree.specs.declared.frame.Goal.{Goal}
use Rattle.std.proofs.lemmas.Bool.{both_ways}
use Rattle.sim_cut.proofs.EachGoal.{all_clear, one_there}
use Rattle.sim_cut.proofs.allowed.are_clear.Goals as goal
use Rattle.sim_cut.proofs.allowed.are_clear.Goals.{then-goal-nodes-via-then-goal-nodes, then-goal-nodes-via-else-goal-nodes+then-goal-nodes-2}

pub returns-then-goal-nodes : goal.returns-then-goal-nodes
returns-then-goal-nodes c = (
  (λ bad. absurd (both_ways _ refl bad)),
  (λ clear. absurd (one_there c.args.frame.now c.args.nodes c.loop-goal.goal-index c.goal-item.result (subst (λ (xs : List Goal). c.loop-goal.goal-index < length xs) c.as_slice-goal-items.ensures.value c.loop-goal-test.true) (subst (λ (xs : List Goal). c.goal-item.result ≡ get_or xs c.loop-goal.goal-index c.goal-item.result) c.as_slice-goal-items.ensures.value c.goal-item.is)
      (λ apart. elim c.then-goal-nodes.branch [
        | then-goal-nodes-via-then-goal-nodes w ↦ apart.binary (omega arith)
        | then-goal-nodes-via-else-goal-nodes+then-goal-nodes-2 w ↦ apart.source (omega arith)
      ]) clear)),
)

pub returns : goal.returns
returns c = ((λ is. all_clear c.args.frame.now c.args.nodes c.loop-goal.goal-index (subst (λ (xs : List Goal). length xs ≤ c.loop-goal.goal-index) c.as_slice-goal-items.ensures.value c.loop-goal-test.false) c.loop-goal.invariant), (λ all. refl))
