use Rattle.std.proofs.Common.{◌≡◌, ◌++◌, ℕ, drop, filter}
use Rattle.std.specs.Prelude.{◌==◌, not}
use Rattle.bit_blast.specs.Loads.{with_memory}
use Rattle.bit_blast.proofs.loads.with_memory.Given as goal

abbrev pub invariant-others : goal.invariant-others
invariant-others l = l.all.items ++ filter (λ (o : ℕ). not (o == l.memory)) (drop l.other-index l.memories) ≡ with_memory l.memory l.memories
