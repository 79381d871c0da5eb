use Rattle.std.proofs.Common.{◌≡◌, ◌+◌, length, map, drop}
use Rattle.elf_read.specs.Values.{segment_of}
use Rattle.elf_make.specs.Layout as layout
use Rattle.elf_make.proofs.writer.contents_length.Given as goal

abbrev pub invariant-loop-segment : goal.invariant-loop-segment
invariant-loop-segment l =
    l.total + length (layout.contents (map segment_of (drop l.segment-index l.segments)))
    ≡ length (layout.contents (map segment_of l.segments))
