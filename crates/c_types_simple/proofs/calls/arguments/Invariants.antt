use Rattle.std.proofs.Common.{◌≡◌, drop}
use Rattle.c_types_spec.specs.Statements as rule
use Rattle.c_types_expression.specs.Trees.{expressions_in}
use Rattle.c_types_scope.specs.States.{state_of}
use Rattle.c_types_simple.specs.Contexts.{values_in}
use Rattle.c_types_simple.proofs.calls.arguments.Given as goal

-- what is left gives what all give
abbrev pub invariant-loop-item : goal.invariant-loop-item
invariant-loop-item l =
    rule.arguments (expressions_in (drop l.item-index l.list)) (values_in l.values.items) (state_of l.state)
    ≡ rule.arguments (expressions_in l.list) (values_in l.fn.values.items) (state_of l.fn.state)
