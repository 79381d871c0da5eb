use Rattle.std.specs.List.{flat_map}
use Rattle.code_reach_spec.specs.Code.{aligned}
use Rattle.code_reach_tables.specs.Tables.{targets_from}
use Rattle.code_reach.specs.Growth.{Grows, IsInside}
use Rattle.code_reach.proofs.walk.add_jump.Given as goal

abbrev pub invariant-loop-index : goal.invariant-loop-index
invariant-loop-index l = Grows (IsInside l.entry l.size (flat_map aligned (targets_from l.image l.jump.first l.index))) l.initial.reached.keys l.reached.keys
