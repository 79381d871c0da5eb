use Rattle.std.proofs.Common.{◌≡◌, drop, map}
use Rattle.c_syntax.specs.Units.{external_declaration_of}
use Rattle.c_types_expression.specs.Trees.{unboxed}
use Rattle.c_types_scope.specs.States.{state_of}
use Rattle.c_types_spec.specs.Units as rule
use Rattle.c_types.specs.Typed.{bodies_of}
use Rattle.c_types.specs.Reached.{IsReached}
use Rattle.c_types.proofs.unit.external_declarations.Given as goal

-- what is left gives what all give, and some declarations give what is there
abbrev pub invariant-loop-item : goal.invariant-loop-item
invariant-loop-item l =
    (rule.external_declarations (map external_declaration_of (unboxed (drop l.item-index l.list))) (bodies_of l.bodies.entries) (state_of l.state)
    ≡ rule.external_declarations (map external_declaration_of (unboxed l.list)) (bodies_of l.fn.bodies.entries) (state_of l.fn.state))
    × IsReached (bodies_of l.bodies.entries) (state_of l.state)
