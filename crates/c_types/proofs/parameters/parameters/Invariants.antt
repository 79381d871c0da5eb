use Rattle.std.proofs.Common.{◌≡◌, drop, map}
use Rattle.c_syntax.specs.Units.{parameter_of}
use Rattle.c_types_expression.specs.Trees.{unboxed}
use Rattle.c_types_scope.specs.Meanings.{types_in}
use Rattle.c_types_scope.specs.States.{state_of}
use Rattle.c_types_spec.specs.Units as rule
use Rattle.c_types.proofs.parameters.parameters.Given as goal

-- what is left gives what all give
abbrev pub invariant-loop-item : goal.invariant-loop-item
invariant-loop-item l =
    rule.parameters (map parameter_of (unboxed (drop l.item-index l.list))) l.has_body (types_in l.types) (state_of l.state)
    ≡ rule.parameters (map parameter_of (unboxed l.list)) l.has_body (types_in l.fn.types) (state_of l.fn.state)
