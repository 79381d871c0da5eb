use Rattle.std.proofs.Common.{arith}
use Rattle.elf_read.proofs.Loads.{range_first, no_range_fault}
use Rattle.elf_read.proofs.segments.range_fault.Goals as goal

pub returns-then-not-is_placed : goal.returns-then-not-is_placed
returns-then-not-is_placed c =
    range_first _ _ _ c.requires.loads c.requires.rising c.loop-at-test.true c.loop-at.invariant
    (λ placed. grind (arith, c.is_placed.ensures.1 placed))

pub returns : goal.returns
returns c = no_range_fault _ _ c.requires.loads (λ k w. c.loop-at.invariant k (omega arith))
