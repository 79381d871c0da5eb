use Rattle.std.proofs.Common.{◌≡◌, ◌+◌, drop, map}
use Rattle.c_syntax.specs.Statements.{part_of, parts_of, group_of, groups_of}
use Rattle.c_types_spec.specs.Statements as rule
use Rattle.c_types_expression.specs.Trees.{unboxed}
use Rattle.c_types_statement.proofs.counts.+counts.Given as goal

-- what is left comes on top of the count so far
abbrev pub invariant-locals_of-loop-part : goal.invariant-locals_of-loop-part
invariant-locals_of-loop-part l = l.count + rule.locals_of (parts_of (map part_of (drop l.part-index l.list))) ≡ rule.locals_of (parts_of (map part_of l.list))

abbrev pub invariant-locals_of_groups-loop-group : goal.invariant-locals_of_groups-loop-group
invariant-locals_of_groups-loop-group l =
    l.count + rule.locals_of_groups (groups_of (map group_of (unboxed (drop l.group-index l.list)))) ≡ rule.locals_of_groups (groups_of (map group_of (unboxed l.list)))
