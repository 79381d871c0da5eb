use Rattle.std.proofs.Common.{◌+◌, List, ℕ, sym, ◌∙◌, arith, eq-eqb, ne_eqb}
use Rattle.elf_read.proofs.Loads.{AreLoads, load_pushed, load_passed}
use Rattle.elf_read.proofs.segments.loads.Goals as goal
use Rattle.elf_read.proofs.segments.loads.Goals.{then-u32_at-eq-PT_LOAD+in_ok-push, else-u32_at-eq-PT_LOAD}

pub loop-i-preserved : goal.loop-i-preserved
loop-i-preserved c =
    let P : List ℕ → Type 0 = λ xs. AreLoads c.args.bytes.now xs c.u32_at-start.result c.u16_at-count.result (c.loop-i.i + 1) in
    elim c.if-u32_at-eq-PT_LOAD.branch [
      | then-u32_at-eq-PT_LOAD+in_ok-push w ↦
          rw (w.loads-is, w.in_ok-push.ensures.items)
          (load_pushed _ _ _ _ _ c.loop-i.invariant c.loop-i-test.true (omega arith) (eq-eqb _ 1 (sym c.u32_at.ensures ∙ w.if-u32_at-eq-PT_LOAD.true)))
      | else-u32_at-eq-PT_LOAD w ↦
          rw w.loads-is
          (load_passed _ _ _ _ _ c.loop-i.invariant c.loop-i-test.true (ne_eqb _ 1 (λ e. w.if-u32_at-eq-PT_LOAD.false (c.u32_at.ensures ∙ e))))
    ]
