use Rattle.std.proofs.Common.{◌≡◌, filter, take}
use Rattle.elf_read.specs.Fixed.{has_fixed_bytes}
use Rattle.elf_read.proofs.fixed.fixed_segments.Given as goal

abbrev pub invariant-loop-segment : goal.invariant-loop-segment
invariant-loop-segment l = l.fixed.items ≡ filter has_fixed_bytes (take l.segment-index l.segments)
