use Rattle.std.proofs.Common.{◌<◌, ℕ, get_or}
use Rattle.elf_read_spec.specs.File as spec
use Rattle.elf_read.proofs.segments.range_fault.Given as goal

abbrev pub invariant-loop-at : goal.invariant-loop-at
invariant-loop-at l = (k : ℕ) → k < l.at-index → spec.IsPlaced l.bytes (get_or l.loads k 0)
