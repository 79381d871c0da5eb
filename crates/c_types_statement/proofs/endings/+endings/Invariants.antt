use Rattle.std.proofs.Common.{◌≡◌, drop, map}
use Rattle.c_syntax.specs.Statements.{part_of, parts_of}
use Rattle.c_types_spec.specs.Statements as rule
use Rattle.c_types_statement.proofs.endings.+endings.Given as goal

-- what is left decides
abbrev pub invariant-ends-loop-part : goal.invariant-ends-loop-part
invariant-ends-loop-part l = rule.ends (parts_of (map part_of (drop l.part-index l.list))) l.ends ≡ rule.ends (parts_of (map part_of l.list)) l.last
