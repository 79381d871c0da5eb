use Rattle.std.proofs.Common.{◌≡◌, drop, map}
use Rattle.c_types_core.specs.Actions.{actions_in, group_of as core_group_of}
use Rattle.c_syntax.specs.Statements.{part_of, parts_of, group_of, groups_of}
use Rattle.c_types_expression.specs.Trees.{unboxed}
use Rattle.c_types_spec.specs.Statements as rule
use Rattle.c_types_scope.specs.States.{state_of}
use Rattle.c_types_simple.specs.Contexts.{context_of}
use Rattle.c_types_statement.proofs.statement.+statements.Given as goal

-- what is left gives what all give
abbrev pub invariant-parts-loop-part : goal.invariant-parts-loop-part
invariant-parts-loop-part l =
    rule.parts (parts_of (map part_of (drop l.part-index l.list))) (context_of l.context) (actions_in l.done) (state_of l.state)
    ≡ rule.parts (parts_of (map part_of l.list)) (context_of l.context) (actions_in l.fn.done) (state_of l.fn.state)

abbrev pub invariant-groups-loop-i : goal.invariant-groups-loop-i
invariant-groups-loop-i l =
    rule.switch_groups (groups_of (map group_of (unboxed (drop l.i l.list)))) (context_of l.context) l.of l.seen.keys (map core_group_of l.done.items) (state_of l.state)
    ≡ rule.switch_groups (groups_of (map group_of (unboxed l.list))) (context_of l.context) l.of l.fn.seen.keys (map core_group_of l.fn.done.items) (state_of l.fn.state)
