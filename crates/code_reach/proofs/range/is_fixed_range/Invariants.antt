use Rattle.std.proofs.Common.{ℕ, IsSome}
use Rattle.elf_read_spec.specs.Image.{fixed_byte}
use Rattle.code_reach_spec.specs.Code.{InRange}
use Rattle.code_reach.proofs.range.is_fixed_range.Given as goal

abbrev pub invariant-loop-k : goal.invariant-loop-k
invariant-loop-k l = (address : ℕ) → InRange l.entry l.k address → IsSome (fixed_byte l.image address)
