use Rattle.std.proofs.Common.{◌≡◌, drop, map}
use Rattle.c_syntax.specs.Units.{global_of}
use Rattle.c_types_expression.specs.Trees.{unboxed}
use Rattle.c_types_layout.specs.Types.{type_of}
use Rattle.c_types_scope.specs.States.{state_of}
use Rattle.c_types_spec.specs.Units as rule
use Rattle.c_types.proofs.unit.globals.Given as goal

-- what is left gives what all give
abbrev pub invariant-loop-item : goal.invariant-loop-item
invariant-loop-item l =
    rule.globals (map global_of (unboxed (drop l.item-index l.list))) (type_of l.base) l.is_typedef (state_of l.state)
    ≡ rule.globals (map global_of (unboxed l.list)) (type_of l.base) l.is_typedef (state_of l.fn.state)
