use Rattle.std.proofs.Common.{arith}
use Rattle.elf_read.proofs.Loads.{no_overlap}
use Rattle.elf_read.proofs.Overlaps.{by_start, first_met, header_added, header_passed}
use Rattle.elf_read.proofs.segments.overlap_fault.Goals as goal
use Rattle.elf_read.proofs.segments.overlap_fault.Goals.{then-u32_at-gt0+in_ok-insert, else-u32_at-gt0}

pub meets_any-requires-clause-by_start : goal.meets_any-requires-clause-by_start
meets_any-requires-clause-by_start c = by_start _ _ _ _ c.loop-at.invariant (omega arith) c.requires.inside

pub returns-then-meets_any : goal.returns-then-meets_any
returns-then-meets_any c =
    let met = c.if-meets_any.ensures.meets in
    first_met _ _ _ _ met.0 met.1 c.requires.loads c.requires.rising c.loop-at-test.true c.loop-at.invariant met.2 met.3

pub loop-at-preserved : goal.loop-at-preserved
loop-at-preserved c =
    let bytes = c.args.bytes.now in
    let loads = c.args.loads.now in
    let i = c.loop-at.at-index in
    elim c.if-u32_at-gt0.branch [
      | then-u32_at-gt0+in_ok-insert w ↦
          rw w.headers-is
          (header_added bytes loads c.loop-at.headers w.insert.new.self i _ c.loop-at.invariant c.if-meets_any.ensures.apart
          (omega (arith, c.u32_at.ensures, w.if-u32_at-gt0.true)) w.u32_at-then-u32_at-gt0.ensures w.in_ok-insert.ensures.updates.0)
      | else-u32_at-gt0 w ↦
          rw w.headers-is
          (header_passed bytes loads c.loop-at.headers i c.loop-at.invariant c.if-meets_any.ensures.apart
          (λ full. omega (arith, c.u32_at.ensures, full, w.if-u32_at-gt0.false)))
    ]

pub returns : goal.returns
returns c = no_overlap _ _ c.requires.loads c.requires.rising (λ j k l w. c.loop-at.invariant.apart j k l (omega arith))
