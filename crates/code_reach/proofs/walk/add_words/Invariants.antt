use Rattle.std.specs.Prelude.{Contains}
use Rattle.code_reach_tables.specs.Tables.{targets_from}
use Rattle.code_reach.specs.Growth.{Grows}
use Rattle.code_reach.proofs.walk.add_words.Given as goal

abbrev pub invariant-loop-index : goal.invariant-loop-index
invariant-loop-index l = Grows (Contains (targets_from l.image l.jump.first l.index)) l.initial.targets.keys l.targets.keys
