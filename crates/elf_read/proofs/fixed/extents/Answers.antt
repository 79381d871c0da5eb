use Rattle.std.proofs.Common.{ap, arith, length}
use Rattle.elf_read.proofs.ExtentSteps.{extent_pushed, extent_joined, extents_whole, joined_last}
use Rattle.elf_read.proofs.fixed.extents.Goals as goal
use Rattle.elf_read.proofs.fixed.extents.Goals.{then-end_before, else-end_before+in_ok-push}

pub loop-segment-preserved : goal.loop-segment-preserved
loop-segment-preserved c =
    let full = c.requires.full c.loop-segment.segment-index _ c.loop-segment-test.true in
    elim c.if-end_before.branch [
      | then-end_before w ↦
          rw w.extents-is
          (extent_joined _ _ _ _ _ _ _ c.requires c.loop-segment.invariant c.loop-segment-test.true
          (record { full = full; first = c.extent-extent.ensures.first; last = c.extent-extent.ensures.last })
          (joined_last _ c.extent-extent.result _ _ (rw c.as_slice.ensures.value at c.end_before.ensures.0 w.if-end_before.true) (omega (arith, w.len-last.ensures, c.as_slice.ensures.len, ap length c.as_slice.ensures.value)) w.index.ensures))
      | else-end_before+in_ok-push w ↦
          rw (w.extents-is, w.in_ok-push.ensures.items)
          (extent_pushed _ _ _ _ _ c.requires c.loop-segment.invariant c.loop-segment-test.true
          (record { full = full; first = c.extent-extent.ensures.first; last = c.extent-extent.ensures.last })
          (λ ends. grind (arith, c.end_before.ensures.1 (rw c.as_slice.ensures.value ends))))
    ]

pub returns : goal.returns
returns c = extents_whole _ _ _ (omega arith) c.loop-segment.invariant
