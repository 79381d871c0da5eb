use Rattle.code_reach_tables.proofs.Tabled.{IsBegun}
use Rattle.code_reach_tables.proofs.straight.Straight.new.Given as goal

abbrev pub invariant-loop-r : goal.invariant-loop-r
invariant-loop-r l = IsBegun l.nodes.keys l.registers.items l.r
