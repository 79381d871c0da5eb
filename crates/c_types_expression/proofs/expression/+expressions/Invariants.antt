use Rattle.std.proofs.Common.{◌≡◌, drop}
use Rattle.std.specs.Prelude.{false, pos}
use Rattle.c_types_spec.specs.Expressions as rule
use Rattle.c_types_layout.specs.Structs.{layout_of}
use Rattle.c_types_layout.specs.Types.{type_of}
use Rattle.c_types_scope.specs.States.{state_of}
use Rattle.c_types_expression.specs.Trees as trees
use Rattle.c_types_expression.proofs.expression.+expressions.Given as goal

-- what is left gives what all give
abbrev pub invariant-members-loop-item : goal.invariant-members-loop-item
invariant-members-loop-item l =
    rule.members (trees.members_in (drop l.item-index l.list)) (layout_of l.layout) (state_of l.state)
    ≡ rule.members (trees.members_in l.list) (layout_of l.fn.layout) (state_of l.fn.state)

abbrev pub invariant-member_declarators-loop-item : goal.invariant-member_declarators-loop-item
invariant-member_declarators-loop-item l =
    rule.member_declarators (trees.declarators_in (drop l.item-index l.list)) (type_of l.of) (layout_of l.layout) (state_of l.state)
    ≡ rule.member_declarators (trees.declarators_in l.list) (type_of l.of) (layout_of l.fn.layout) (state_of l.fn.state)

abbrev pub invariant-lengths_into-loop-item : goal.invariant-lengths_into-loop-item
invariant-lengths_into-loop-item l =
    rule.lengths (trees.expressions_in (drop l.item-index l.list)) l.found.items (state_of l.state)
    ≡ rule.lengths (trees.expressions_in l.list) l.fn.found.items (state_of l.fn.state)

abbrev pub invariant-enumerators-loop-item : goal.invariant-enumerators-loop-item
invariant-enumerators-loop-item l =
    rule.enumerators (trees.constants_in (drop l.item-index l.list)) l.next.value l.next.is_negative (state_of l.state)
    ≡ rule.enumerators (trees.constants_in l.list) (pos 0) false (state_of l.fn.state)
