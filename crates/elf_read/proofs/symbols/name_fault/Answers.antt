use Rattle.std.proofs.Common.{◌/◌, arith, ap, below_more}
use Rattle.elf_read.proofs.Defined.{first_unended, all_ended}
use Rattle.elf_read.proofs.symbols.name_fault.Goals as goal

pub loop-i-preserved : goal.loop-i-preserved
loop-i-preserved c = below_more _ _ c.loop-i.invariant (c.is_ended.ensures.0 c.if-not-is_ended.false)

pub returns-then-not-is_ended : goal.returns-then-not-is_ended
returns-then-not-is_ended c =
    first_unended _ _ _ _ _ c.u32_at-start.ensures (ap (λ n. n / 16) c.u32_at.ensures) c.loop-i-test.true c.loop-i.invariant
    (λ ended. grind (arith, c.is_ended.ensures.1 ended))

pub returns : goal.returns
returns c =
    all_ended _ _ _ _ c.u32_at-start.ensures (ap (λ n. n / 16) c.u32_at.ensures) (λ k w. c.loop-i.invariant k (omega arith))
