use Rattle.std.proofs.Common.{ℕ, ◌<◌, get_or}
use Rattle.std.specs.HashMap.{get}
use Rattle.std.specs.Prelude.{nat_eq, IsSome}
use Rattle.term_substitution.proofs.moving.untaken.Given as goal

-- the arguments before this one were taken
abbrev pub invariant-loop-k : goal.invariant-loop-k
invariant-loop-k l = (j : ℕ) → j < l.k → IsSome (get nat_eq l.done (get_or l.ids j 0))
