use Rattle.elf_read.proofs.ZeroPlaces.{zero_pushed, zero_passed}
use Rattle.elf_read.proofs.strings.zeros.Goals as goal
use Rattle.elf_read.proofs.strings.zeros.Goals.{then-byte-eq0+in_ok-push, else-byte-eq0}

pub loop-place-preserved : goal.loop-place-preserved
loop-place-preserved c =
    elim c.if-byte-eq0.branch [
      | then-byte-eq0+in_ok-push w ↦
          rw (w.zeros-is, w.in_ok-push.ensures.items) (zero_pushed _ _ _ c.loop-place.invariant w.if-byte-eq0.true)
      | else-byte-eq0 w ↦ rw w.zeros-is (zero_passed _ _ _ c.loop-place.invariant w.if-byte-eq0.false)
    ]
