use Rattle.std.proofs.Common.{◌≡◌, map, take}
use Rattle.elf_read_spec.specs.File as spec
use Rattle.elf_read.specs.Values.{segment_of}
use Rattle.elf_read.proofs.segments.segments.Given as goal

abbrev pub invariant-loop-at : goal.invariant-loop-at
invariant-loop-at l = map segment_of l.segments.items ≡ map (spec.segment_at l.bytes) (take l.at-index l.loads)
