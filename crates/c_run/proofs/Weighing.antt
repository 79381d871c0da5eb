-- Each task weighs more than what it leaves.
use Rattle.std.proofs.Common.{◌≡◌, ℕ, zero, suc, ◌+◌, ◌<◌, ◌≤◌, Option, Some, List, [], ◌∷◌, ◌++◌, length, get_or, sym, ap, subst, ◌∙◌, arith}
use Rattle.std.specs.Prelude.{map, Vec, Result, Ok, Err}
use Rattle.std.specs.Borrow.{Bor}
use Rattle.std.specs.declared.alloc.Global.{Global}
use Rattle.std.specs.declared.boxed.Box.{Box}
use Rattle.std.proofs.lemmas.List.{map-append}
use Rattle.c_types_core.specs.declared.expression.Core.{Core}
use Rattle.c_types_core.specs.declared.action.Action.{Action, fold_out-Action, fold-roll-Action}
use Rattle.c_types_core.specs.declared.action.Action.TheOpen as layer
use Rattle.c_types_core.specs.declared.action.Action.TheVariants as made
use Rattle.c_types_core.specs.declared.action.Group.{Group, out-Group, fold_out-Group}
use Rattle.attempt.specs.declared.refusal.Refusal.{Refusal}
use Rattle.c_run_value.specs.declared.setting.Stop.{Stop}
use Rattle.c_run.specs.declared.frame.Frame.{Frame}
use Rattle.c_run.specs.declared.frame.Next.{Next}
use Rattle.c_run.specs.declared.frame.Next.TheVariants as next
use Rattle.c_run.specs.declared.frame.Ending.{Ending}
use Rattle.c_run.specs.declared.frame.Task.{Task}
use Rattle.c_run.specs.declared.frame.Task.TheVariants as task
use Rattle.c_run.specs.Frames.{ArePushed, IsTaken}
use Rattle.c_run.specs.Weights.{total, action_weight, group_weight, weight_of, weight_of_group, weight_of_all, weight_of_groups, weight_of_task, weight_of_tasks, IsBelow}

-- ---- statements

pub weight-Block : (actions : Vec Action Global) → weight_of (made.Block actions) ≡ suc (suc (weight_of_all actions.items))
unfolding weight_of weight_of_group
weight-Block actions = ap weight_of (sym (made.rolls-Block actions)) ∙ fold-roll-Action _ _ action_weight group_weight (layer.Block actions)

pub weight-If : (test : Box Core Global) (first second : Box Action Global) → weight_of (made.If test first second) ≡ suc (weight_of first.value + weight_of second.value)
unfolding weight_of weight_of_group
weight-If test first second = ap weight_of (sym (made.rolls-If test first second)) ∙ fold-roll-Action _ _ action_weight group_weight (layer.If test first second)

pub weight-Switch : (test : Box Core Global) (list : Vec Group Global) → weight_of (made.Switch test list) ≡ suc (suc (weight_of_groups list.items))
unfolding weight_of weight_of_group
weight-Switch test list = ap weight_of (sym (made.rolls-Switch test list)) ∙ fold-roll-Action _ _ action_weight group_weight (layer.Switch test list)

pub weighs : (action : Action) → 1 ≤ weight_of action
unfolding weight_of weight_of_group
weighs action = let is = fold_out-Action ℕ ℕ action_weight group_weight action in omega (arith, is)

pub group_weighs : (g : Group) → weight_of_group g ≡ weight_of (out-Group g).body.value
unfolding weight_of weight_of_group
group_weighs g = fold_out-Group _ _ action_weight group_weight g

-- ---- tasks

pub task_weighs : (t : Task) → 1 ≤ weight_of_task t
unfolding weight_of_task
task_weighs (task.Do action) = weighs action.now
task_weighs (task.Rest actions) = omega arith
task_weighs (task.Step action) = weighs action.now
task_weighs (task.Test core) = omega arith
task_weighs (task.Repeat action) = weighs action.now
task_weighs task.Switch = omega arith

total-append : (ms ns : List ℕ) → total (ms ++ ns) ≡ total ms + total ns
unfolding total
total-append [] ns = omega arith
total-append (m ∷ ms) ns = let rest = total-append ms ns in omega (arith, rest)

pub tasks-append : (ts us : List Task) → weight_of_tasks (ts ++ us) ≡ weight_of_tasks ts + weight_of_tasks us
unfolding weight_of_tasks
tasks-append ts us = ap total (map-append weight_of_task ts us) ∙ total-append (map weight_of_task ts) (map weight_of_task us)

one_task : (t : Task) → weight_of_tasks (t ∷ []) ≡ weight_of_task t
unfolding weight_of_tasks total
one_task t = omega arith

-- ---- what follows

pub below_more : (m n : ℕ) (old new : Frame) (result : Result Next (Refusal Stop)) → m ≤ n → IsBelow m old new result → IsBelow n old new result
below_more m n old new (Ok (next.Goes end)) more below = omega (arith, more, below)
below_more m n old new (Ok (next.Pauses at)) more below = tt {0}
below_more m n old new (Err e) more below = tt {0}

-- a statement that leaves no tasks
pub below_any : (action : Action) (old new : Frame) (result : Result Next (Refusal Stop)) → IsBelow 1 old new result → IsBelow (weight_of action) old new result
below_any action old new result below = below_more 1 (weight_of action) old new result (weighs action) below

pub below_same : (n : ℕ) (old new : Frame) (end : Ending) → new.tasks ≡ old.tasks → 1 ≤ n → IsBelow n old new (Ok (next.Goes end))
below_same n old new end same some =
    let is = ap (λ (ts : Vec Task Global). weight_of_tasks ts.items) same in omega (arith, is, some)

pub below_pushed : (n : ℕ) (old new : Frame) (t : Task) (end : Ending) → ArePushed old new (t ∷ []) → weight_of_task t < n → IsBelow n old new (Ok (next.Goes end))
below_pushed n old new t end pushed less =
    let is = ap weight_of_tasks pushed.tasks ∙ tasks-append old.tasks.items (t ∷ []) in
    let one = one_task t in omega (arith, is, one, less)

-- a task is taken, and what it leaves weighs less
pub goes_below : (old popped new : Frame) (taken : Option Task) (t : Task) (n : Next) (end : Ending) → IsTaken old popped taken → taken ≡ Some t → n ≡ next.Goes end
    → IsBelow (weight_of_task t) popped new (Ok n) → weight_of_tasks new.tasks.items < weight_of_tasks old.tasks.items
goes_below old popped new taken t n end takes is goes below =
    let some : IsTaken old popped (Some t) = subst (λ o. IsTaken old popped o) is takes in
    let less : IsBelow (weight_of_task t) popped new (Ok (next.Goes end)) = subst (λ x. IsBelow (weight_of_task t) popped new (Ok x)) goes below in
    let weight = ap weight_of_tasks some.tasks ∙ tasks-append popped.tasks.items (t ∷ []) in
    let one = one_task t in omega (arith, less, weight, one)

-- the first of a list of statements is performed above the others
pub below_rest : (old middle new : Frame) (result : Result Next (Refusal Stop)) (actions others : Bor (List Action)) (first : Bor Action) → actions.now ≡ first.now ∷ others.now
    → ArePushed old middle (task.Rest others ∷ []) → IsBelow (weight_of first.now) middle new result → IsBelow (suc (weight_of_all actions.now)) old new result
unfolding weight_of_task total
below_rest old middle new (Ok (next.Goes end)) actions others first is pushed below =
    let weight = ap weight_of_tasks pushed.tasks ∙ tasks-append old.tasks.items (task.Rest others ∷ []) in
    let one = one_task (task.Rest others) in
    let all : weight_of_all actions.now ≡ weight_of first.now + weight_of_all others.now = ap weight_of_all is in
    omega (arith, below, weight, one, all)
below_rest old middle new (Ok (next.Pauses at)) actions others first is pushed below = tt {0}
below_rest old middle new (Err e) actions others first is pushed below = tt {0}

-- one of the groups
pub within_groups : (groups : List Group) (i : ℕ) (g : Group) (action : Action) → i < length groups → g ≡ get_or groups i g → action ≡ (out-Group g).body.value → weight_of action ≤ weight_of_groups groups
unfolding total
within_groups [] i g action within is same = absurd (omega (arith, within))
within_groups (x ∷ xs) zero g action within is same = let w = ap weight_of same ∙ sym (group_weighs g) ∙ ap weight_of_group is in omega (arith, w)
within_groups (x ∷ xs) (suc i) g action within is same = let later = within_groups xs i g action (omega (arith, within)) is same in omega (arith, later)

-- the end of a `switch`, and a group of it
pub below_switch : (old middle new : Frame) (end : Ending) (groups : List Group) (action : Bor Action) → ArePushed old middle (task.Switch ∷ []) → ArePushed middle new (task.Do action ∷ [])
    → weight_of action.now ≤ weight_of_groups groups → IsBelow (suc (suc (weight_of_groups groups))) old new (Ok (next.Goes end))
unfolding weight_of_task
below_switch old middle new end groups action first second less =
    let one = ap weight_of_tasks first.tasks ∙ tasks-append old.tasks.items (task.Switch ∷ []) in
    let two = ap weight_of_tasks second.tasks ∙ tasks-append middle.tasks.items (task.Do action ∷ []) in
    let a = one_task task.Switch in let b = one_task (task.Do action) in
    omega (arith, one, two, a, b, less)

pub rest_below : (actions : Bor (List Action)) → weight_of_task (task.Rest actions) < suc (suc (weight_of_all actions.now))
unfolding weight_of_task
rest_below actions = omega arith

pub first_below : (action : Bor Action) (other : ℕ) → weight_of_task (task.Do action) < suc (weight_of action.now + other)
unfolding weight_of_task
first_below action other = omega arith

pub second_below : (action : Bor Action) (other : ℕ) → weight_of_task (task.Do action) < suc (other + weight_of action.now)
unfolding weight_of_task
second_below action other = omega arith

-- ---- by the task

module _ (old new : Frame) (result : Result Next (Refusal Stop)) where
  pub below_this : (t t' : Task) → t ≡ t' → IsBelow (weight_of_task t') old new result → IsBelow (weight_of_task t) old new result
  below_this t t' same below = subst (λ u. IsBelow (weight_of_task u) old new result) (sym same) below

  pub below_do : (action : Bor Action) → IsBelow (weight_of action.now) old new result → IsBelow (weight_of_task (task.Do action)) old new result
  unfolding weight_of_task
  below_do action below = below

  pub below_step : (action : Bor Action) → IsBelow (weight_of action.now) old new result → IsBelow (weight_of_task (task.Step action)) old new result
  unfolding weight_of_task
  below_step action below = below

  pub below_repeat : (action : Bor Action) → IsBelow (weight_of action.now) old new result → IsBelow (weight_of_task (task.Repeat action)) old new result
  unfolding weight_of_task
  below_repeat action below = below

  pub below_rest_task : (actions : Bor (List Action)) → IsBelow (suc (weight_of_all actions.now)) old new result → IsBelow (weight_of_task (task.Rest actions)) old new result
  unfolding weight_of_task
  below_rest_task actions below = below

  pub below_test : (test : Bor Core) → IsBelow 1 old new result → IsBelow (weight_of_task (task.Test test)) old new result
  unfolding weight_of_task
  below_test test below = below

  -- ---- by the statement

  pub below_block : (action : Action) (actions : Vec Action Global) (seen : Bor (List Action)) → action ≡ made.Block actions → seen.now ≡ actions.items
      → IsBelow (suc (suc (weight_of_all seen.now))) old new result → IsBelow (weight_of action) old new result
  below_block action actions seen is same below =
      let weight : suc (suc (weight_of_all seen.now)) ≡ weight_of action = ap (λ xs. suc (suc (weight_of_all xs))) same ∙ sym (weight-Block actions) ∙ sym (ap weight_of is) in
      subst (λ n. IsBelow n old new result) weight below

  pub below_if : (action : Action) (test : Box Core Global) (first second : Box Action Global) (a b : Bor Action) → action ≡ made.If test first second → a.now ≡ first.value → b.now ≡ second.value
      → IsBelow (suc (weight_of a.now + weight_of b.now)) old new result → IsBelow (weight_of action) old new result
  below_if action test first second a b is one two below =
      let weight : suc (weight_of a.now + weight_of b.now) ≡ weight_of action = ap (λ x. suc (weight_of x + weight_of b.now)) one ∙ ap (λ x. suc (weight_of first.value + weight_of x)) two ∙ sym (weight-If test first second) ∙ sym (ap weight_of is) in
      subst (λ n. IsBelow n old new result) weight below

  pub below_list : (action : Action) (test : Box Core Global) (list : Vec Group Global) (seen : Bor (List Group)) → action ≡ made.Switch test list → seen.now ≡ list.items
      → IsBelow (suc (suc (weight_of_groups seen.now))) old new result → IsBelow (weight_of action) old new result
  below_list action test list seen is same below =
      let weight : suc (suc (weight_of_groups seen.now)) ≡ weight_of action = ap (λ xs. suc (suc (weight_of_groups xs))) same ∙ sym (weight-Switch test list) ∙ sym (ap weight_of is) in
      subst (λ n. IsBelow n old new result) weight below
