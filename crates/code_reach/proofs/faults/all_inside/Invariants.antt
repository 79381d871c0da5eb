use Rattle.std.proofs.Common.{◌≡◌, ◌+◌, ◌*◌, ◌<◌, ℕ, true}
use Rattle.code_reach_tables.specs.Tables.{target_at}
use Rattle.code_reach.specs.Flows.{is_inside}
use Rattle.code_reach.proofs.faults.all_inside.Given as goal

abbrev pub invariant-loop-index : goal.invariant-loop-index
invariant-loop-index l = (j : ℕ) → j < l.index → is_inside l.entry l.size (target_at l.image (l.jump.first + 4 * j)) ≡ true
