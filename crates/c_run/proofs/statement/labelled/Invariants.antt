use Rattle.std.proofs.Common.{◌≡◌, drop, map}
use Rattle.c_types_core.specs.Actions.{group_of}
use Rattle.c_types_spec.specs.Statements.{groups_in}
use Rattle.c_run.specs.Groups.{picked}
use Rattle.c_run.proofs.statement.labelled.Given as goal

abbrev pub invariant-loop-group : goal.invariant-loop-group
invariant-loop-group l = picked l.label (groups_in (map group_of (drop l.group-index l.groups))) ≡ picked l.label (groups_in (map group_of l.groups))
