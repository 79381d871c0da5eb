use Rattle.std.proofs.Common.{arith, []}
use Rattle.elf_read.specs.Values.{segment_of}
use Rattle.elf_make.specs.Parts.{IsSegmentOfWords}
use Rattle.elf_make.proofs.Steps.{program_written, programs_done, segment_fits, all_mapped}
use Rattle.elf_make.proofs.pieces.put_programs.Goals as goal

pub put_program-requires : goal.put_program-requires
put_program-requires c = omega (arith, segment_fits _ _ _ _ _ (record { vaddr = 0; memsz = 0; flags = 0; bytes = record { ref_ptr = (0, 0); now = [] } }) _ c.loop-segment-test.true c.loop-segment.invariant)

pub overflow_cast-at : goal.overflow_cast-at
overflow_cast-at c = omega (arith, segment_fits _ _ _ _ _ (record { vaddr = 0; memsz = 0; flags = 0; bytes = record { ref_ptr = (0, 0); now = [] } }) _ c.loop-segment-test.true c.loop-segment.invariant)

pub overflow_add-at : goal.overflow_add-at
overflow_add-at c = omega (arith, segment_fits _ _ _ _ _ (record { vaddr = 0; memsz = 0; flags = 0; bytes = record { ref_ptr = (0, 0); now = [] } }) _ c.loop-segment-test.true c.loop-segment.invariant)

pub returns-clause-items : goal.returns-clause-items
returns-clause-items c = programs_done _ _ _ _ _ _ c.loop-segment-test.false c.loop-segment.invariant

pub loop-segment-preserved : goal.loop-segment-preserved
loop-segment-preserved c =
    rw c.in_ok-put_program.ensures.items
    (program_written _ _ _ _ _ _ _ c.loop-segment-test.true c.in_ok-put_program.ensures.words c.loop-segment.invariant)

pub returns-clause-words : goal.returns-clause-words
returns-clause-words c =
    all_mapped segment_of IsSegmentOfWords _ (record { vaddr = 0; memsz = 0; flags = 0; bytes = record { ref_ptr = (0, 0); now = [] } }) _
    c.loop-segment-test.false c.loop-segment.invariant.words
