use Rattle.std.proofs.Common.{◌-◌, ◌^◌}
use Rattle.sim_rules.specs.Tables.{lists_of}
use Rattle.sim_rules.proofs.Searching.{IsWalkedBack}
use Rattle.sim_rules.proofs.search.search.Given as goal

abbrev pub invariant-loop-next : goal.invariant-loop-next
invariant-loop-next l = IsWalkedBack (lists_of l.before) l.fn.found.keys l.next l.found.keys

abbrev pub decreases-loop-next : goal.decreases-loop-next
decreases-loop-next l = 2 ^ 64 - l.next
