use Rattle.std.proofs.Common.{arith}
use Rattle.elf_read.proofs.Halves.{lower_half, upper_half}
use Rattle.elf_read.proofs.fixed.place_of.Goals as goal

pub loop-low-preserved-then-fixed-middle : goal.loop-low-preserved-then-fixed-middle
loop-low-preserved-then-fixed-middle c = record {
  order = omega arith;
  bound = c.loop-low.invariant.bound;
  below = lower_half (λ s. s.vaddr) c.args.fixed.now _ c.args.address _ c.requires (omega arith) c.if-fixed-middle.true;
  above = c.loop-low.invariant.above;
}

pub loop-low-preserved : goal.loop-low-preserved
loop-low-preserved c = record {
  order = omega arith;
  bound = omega arith;
  below = c.loop-low.invariant.below;
  above = upper_half (λ s. s.vaddr) c.args.fixed.now _ c.args.address _ c.requires c.if-fixed-middle.false;
}
