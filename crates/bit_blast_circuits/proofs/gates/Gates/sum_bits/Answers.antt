use Rattle.std.proofs.Common.{arith}
use Rattle.bit_blast_circuits.proofs.Steps.{adds_start, sum_at, sum_end}
use Rattle.bit_blast_circuits.proofs.gates.Gates.sum_bits.Goals as goal

pub returns : goal.returns
returns c = sum_end c.args.xs.now c.args.ys.now c.loop-index.carried c.loop-index.index c.loop-index.out.items (omega arith) c.loop-index.invariant

pub loop-index-init : goal.loop-index-init
loop-index-init c = adds_start _ _ c.new-out.result.items c.new-out.ensures.items

pub loop-index-preserved : goal.loop-index-preserved
loop-index-preserved c =
    sum_at c.index-xs-index.result c.index-ys-index.result c.loop-index.carried c.in_ok-half.half c.in_ok-bit.bit c.in_ok-carried.carried c.args.xs.now c.args.ys.now c.loop-index.index c.loop-index.out.items c.push.new.self.items
    (omega arith) (omega arith) c.index-xs-index.is c.index-ys-index.is c.in_ok-push.ensures.items c.loop-index.invariant c.in_ok-half.ensures c.in_ok-bit.ensures c.in_ok-carried.ensures
