use Rattle.std.proofs.Common.{◌+◌, ◌++◌, length, map}
use Rattle.elf_read.specs.Values.{segment_of}
use Rattle.elf_make.specs.Layout as layout
use Rattle.elf_make.proofs.Steps.{ProgramsLeft}
use Rattle.elf_make.proofs.pieces.put_programs.Given as goal

abbrev pub invariant-loop-segment : goal.invariant-loop-segment
invariant-loop-segment l =
    ProgramsLeft l.out.items (l.initial.out.items ++ layout.program_headers l.offset (map segment_of l.segments)) l.at
    (l.offset + length (layout.contents (map segment_of l.segments))) l.segment-index l.segments
