use Rattle.code_reach_tables.specs.Tables.{IsRun}
use Rattle.code_reach_tables.proofs.tables.follow_words.Given as goal

abbrev pub invariant-loop-k : goal.invariant-loop-k
invariant-loop-k l = IsRun l.image l.r l.start l.k l.straight
