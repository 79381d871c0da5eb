-- How much a function still does before it returns, calls, or takes a turn: each task weighs more than what it leaves.
use Rattle.std.specs.Prelude.{ℕ, suc, ◌+◌, ◌<◌, List, [], ◌∷◌, map, Result, Ok, Err}
use Rattle.c_types_core.specs.declared.action.Action.{Action, Action-F, fold-Action}
use Rattle.c_types_core.specs.declared.action.Action.TheOpen as open_tree
use Rattle.c_types_core.specs.declared.action.Group.{Group, Group-F, fold-Group}
use Rattle.attempt.specs.declared.refusal.Refusal.{Refusal}
use Rattle.c_run_value.specs.declared.setting.Stop.{Stop}
use Rattle.c_run.specs.declared.frame.Frame.{Frame}
use Rattle.c_run.specs.declared.frame.Next.{Next}
use Rattle.c_run.specs.declared.frame.Next.TheVariants as next
use Rattle.c_run.specs.declared.frame.Task.{Task}
use Rattle.c_run.specs.declared.frame.Task.TheVariants as task

unfoldable pub total : List ℕ → ℕ
total [] = 0
total (n ∷ ns) = n + total ns

-- what the parts of a statement weigh that it leaves as tasks. A loop takes a turn first
abbrev pub left_parts : Action-F ℕ ℕ → ℕ
left_parts (open_tree.Block actions) = suc (total actions.items)
left_parts (open_tree.If test first second) = first.value + second.value
left_parts (open_tree.Switch test list) = suc (total list.items)
left_parts other = 0

abbrev pub action_weight : Action-F ℕ ℕ → ℕ
action_weight action = suc (left_parts action)

abbrev pub group_weight : Group-F ℕ ℕ → ℕ
group_weight group = group.body.value

unfoldable pub weight_of : Action → ℕ
weight_of = fold-Action ℕ ℕ action_weight group_weight

unfoldable pub weight_of_group : Group → ℕ
weight_of_group = fold-Group ℕ ℕ action_weight group_weight

abbrev pub weight_of_all : List Action → ℕ
weight_of_all actions = total (map weight_of actions)

abbrev pub weight_of_groups : List Group → ℕ
weight_of_groups groups = total (map weight_of_group groups)

unfoldable pub weight_of_task : Task → ℕ
weight_of_task (task.Do action) = weight_of action.now
weight_of_task (task.Rest actions) = suc (weight_of_all actions.now)
weight_of_task (task.Step action) = weight_of action.now
weight_of_task (task.Test core) = 1
weight_of_task (task.Repeat action) = weight_of action.now
weight_of_task task.Switch = 1

unfoldable pub weight_of_tasks : List Task → ℕ
weight_of_tasks tasks = total (map weight_of_task tasks)

-- where control goes on to the next task, the tasks weigh less than those before and so much
abbrev pub IsBelow : (n : ℕ) → (old new : Frame) → Result Next (Refusal Stop) → Type 0
IsBelow n old new (Ok (next.Goes end)) = weight_of_tasks new.tasks.items < weight_of_tasks old.tasks.items + n
IsBelow n old new (Ok (next.Pauses at)) = Unit {0}
IsBelow n old new (Err e) = Unit {0}
