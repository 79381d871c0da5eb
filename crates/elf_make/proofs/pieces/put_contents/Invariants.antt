use Rattle.std.proofs.Common.{◌≡◌, ◌++◌, map, drop}
use Rattle.elf_read.specs.Values.{segment_of}
use Rattle.elf_make.specs.Layout as layout
use Rattle.elf_make.proofs.pieces.put_contents.Given as goal

abbrev pub invariant-loop-segment : goal.invariant-loop-segment
invariant-loop-segment l =
    l.out.items ++ layout.contents (map segment_of (drop l.segment-index l.segments))
    ≡ l.initial.out.items ++ layout.contents (map segment_of l.segments)
