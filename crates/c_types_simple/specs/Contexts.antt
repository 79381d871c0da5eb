-- Contexts and actions of the program.
use Rattle.std.specs.Prelude.{ℕ, ℤ, List, map, Option, Some, None, Vec}
use Rattle.std.specs.declared.alloc.Global.{Global}
use Rattle.std.specs.declared.boxed.Box.{Box}
use Rattle.c_types_spec.specs.declared.Scalar.{Scalar}
use Rattle.c_types_spec.specs.Core as tree
use Rattle.c_types_spec.specs.Statements as given
use Rattle.c_types_core.specs.declared.action.Action.{Action}
use Rattle.c_types_core.specs.Actions.{action_of}
use Rattle.c_types_layout.specs.Types.{type_of}
use Rattle.c_types_operator.specs.declared.operand.Valued.{Valued}
use Rattle.c_types_operator.specs.Operands.{core_in, valued_of}
use Rattle.c_types_spec.specs.Operands as operands
use Rattle.c_types_core.specs.declared.expression.Core.{Core}
use Rattle.c_types_simple.specs.declared.context.Context.{Context}
use Rattle.c_types_simple.specs.declared.calls.Made.{Made}

abbrev pub context_of : Context → given.Context
context_of context = record {
  returned = type_of context.returned.now;
  declared_locals = context.declared_locals;
  in_loop = context.in_loop;
  in_switch = context.in_switch;
}

abbrev pub action_in : Box Action Global → tree.Action
action_in b = action_of b.value

abbrev pub values_in : List Valued → List operands.Valued
values_in values = map valued_of values

abbrev pub cores_in : Vec (Box Core Global) Global → List tree.Core
cores_in cores = map core_in cores.items

unfoldable pub made_of : Made → given.Made
made_of made = record {
  number = made.number;
  callee = made.callee.now;
  arguments = cores_in made.arguments;
  type = type_of made.of;
  offset = made.offset;
}

abbrev pub seen_local : ℕ × Valued → ℕ × operands.Valued
seen_local pair = (pair.0, valued_of pair.1)

abbrev pub seen_test : Box Core Global × Scalar → tree.Core × Scalar
seen_test pair = (core_in pair.0, pair.1)
