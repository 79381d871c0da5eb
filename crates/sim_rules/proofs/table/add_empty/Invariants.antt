use Rattle.std.proofs.Common.{◌≡◌, [], replicate}
use Rattle.sim_rules.specs.Tables.{lists_of}
use Rattle.sim_rules.proofs.table.add_empty.Given as goal

abbrev pub invariant-loop : goal.invariant-loop
invariant-loop l = lists_of l.before.items ≡ replicate l.counter []
