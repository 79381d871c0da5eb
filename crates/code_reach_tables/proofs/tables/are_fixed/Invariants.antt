use Rattle.std.proofs.Common.{ℕ, ◌+◌, ◌*◌, ◌<◌, IsSome}
use Rattle.code_reach_spec.specs.Code.{word_at}
use Rattle.code_reach_tables.proofs.tables.are_fixed.Given as goal

abbrev pub invariant-loop-k : goal.invariant-loop-k
invariant-loop-k l = (j : ℕ) → j < l.k → IsSome (word_at l.image (l.address + 4 * j))
