use Rattle.std.proofs.Common.{◌≡◌, drop, map}
use Rattle.c_syntax.specs.Locals.{local_of}
use Rattle.c_types_core.specs.Actions.{actions_in}
use Rattle.c_types_spec.specs.Statements as rule
use Rattle.c_types_layout.specs.Types.{type_of}
use Rattle.c_types_scope.specs.States.{state_of}
use Rattle.c_types_expression.specs.Trees.{unboxed}
use Rattle.c_types_simple.proofs.locals.declared_locals.Given as goal

-- what is left gives what all give
abbrev pub invariant-loop-item : goal.invariant-loop-item
invariant-loop-item l =
    rule.declared_locals (map local_of (unboxed (drop l.item-index l.list))) (type_of l.base) l.is_static (actions_in l.done) (state_of l.state)
    ≡ rule.declared_locals (map local_of (unboxed l.list)) (type_of l.base) l.is_static (actions_in l.fn.done) (state_of l.fn.state)
