-- What a statement of the typed core does, without the program's pointers.
use Rattle.std.specs.Prelude.{ℤ, List, map, Option, option_map, Vec}
use Rattle.std.specs.declared.alloc.Global.{Global}
use Rattle.std.specs.declared.boxed.Box.{Box}
use Rattle.c_types_spec.specs.Core as tree
use Rattle.c_types_spec.specs.Statements as statement
use Rattle.c_types_core.specs.Expressions.{core_of}
use Rattle.c_types_core.specs.declared.expression.Core.{Core}
use Rattle.c_types_core.specs.declared.action.Action.{Action, Action-F, fold-Action}
use Rattle.c_types_core.specs.declared.action.Action.TheOpen as open_tree
use Rattle.c_types_core.specs.declared.action.Group.{Group, Group-F, fold-Group}

abbrev pub cores_in : Vec (Box Core Global) Global → List tree.Core
cores_in boxes = map (λ b. core_of b.value) boxes.items

abbrev pub core_in : Option (Box Core Global) → Option tree.Core
core_in value = option_map (λ b. core_of b.value) value

-- a group: its values, and what it does
abbrev pub Grouped : Type 0
Grouped = List (Option ℤ) × tree.Action

-- one level, whose parts are seen as trees already
abbrev pub action_step : Action-F tree.Action Grouped → tree.Action
action_step (open_tree.Block actions) = tree.sequence actions.items
action_step (open_tree.Evaluate value) = tree.Evaluate (core_of value.value)
action_step (open_tree.Set local value) = tree.Set local (core_of value.value)
action_step (open_tree.Unset local) = tree.Unset local
action_step (open_tree.Store type address displacement value offset) = tree.Store type (core_of address.value) displacement (core_of value.value) offset
action_step (open_tree.Call number function arguments local) = tree.Call number function.now (cores_in arguments) local
action_step (open_tree.If test first second) = tree.If (core_of test.value) first.value second.value
action_step (open_tree.Loop number place test step body) = tree.Loop number place (core_of test.value) step.value body.value
action_step (open_tree.Leave jump) = tree.Leave jump
action_step (open_tree.Switch test list) = tree.Switch (core_of test.value) (statement.groups_in list.items)
action_step (open_tree.Return value) = tree.Return (core_in value)
action_step (open_tree.MissingReturn offset) = tree.MissingReturn offset

abbrev pub group_step : Group-F tree.Action Grouped → Grouped
group_step group = (group.labels.items, group.body.value)

unfoldable pub action_of : Action → tree.Action
action_of = fold-Action tree.Action Grouped action_step group_step

unfoldable pub group_of : Group → Grouped
group_of = fold-Group tree.Action Grouped action_step group_step

-- lists of the program
abbrev pub actions_in : Vec Action Global → List tree.Action
actions_in actions = map action_of actions.items

abbrev pub groups_in : Vec Group Global → tree.Groups
groups_in groups = statement.groups_in (map group_of groups.items)
