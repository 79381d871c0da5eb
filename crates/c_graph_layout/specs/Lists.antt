-- Lists of the program, and exits, as the definitions see them.
use Rattle.std.specs.Prelude.{List, map}
use Rattle.std.specs.declared.alloc.Global.{Global}
use Rattle.std.specs.declared.boxed.Box.{Box}
use Rattle.c_types_spec.specs.Core as tree
use Rattle.c_types_spec.specs.Statements as statement
use Rattle.c_types_core.specs.Expressions.{core_of}
use Rattle.c_types_core.specs.Actions.{action_of, group_of}
use Rattle.c_types_core.specs.declared.expression.Core.{Core}
use Rattle.c_types_core.specs.declared.action.Action.{Action}
use Rattle.c_types_core.specs.declared.action.Group.{Group}

abbrev pub cores_of : List (Box Core Global) → List tree.Core
cores_of boxes = map (λ b. core_of b.value) boxes

-- statements one after the other
abbrev pub block_of : List Action → tree.Action
block_of actions = tree.sequence (map action_of actions)

abbrev pub groups_of : List Group → tree.Groups
groups_of groups = statement.groups_in (map group_of groups)
