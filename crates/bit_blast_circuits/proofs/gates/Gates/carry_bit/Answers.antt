use Rattle.std.proofs.Common.{arith}
use Rattle.bit_blast_circuits.proofs.Built.{continues_start}
use Rattle.bit_blast_circuits.proofs.Steps.{carry_at, carry_end}
use Rattle.bit_blast_circuits.proofs.gates.Gates.carry_bit.Goals as goal

pub returns : goal.returns
returns c = carry_end c.args.xs.now c.args.ys.now c.loop-index.last c.loop-index.index (omega arith) c.loop-index.invariant

pub loop-index-init : goal.loop-index-init
loop-index-init c = continues_start _ _

pub loop-index-preserved : goal.loop-index-preserved
loop-index-preserved c =
    carry_at c.index-xs-index.result c.index-ys-index.result c.loop-index.last c.in_ok-last.last c.args.xs.now c.args.ys.now c.loop-index.index (omega arith) (omega arith) c.index-xs-index.is c.index-ys-index.is c.loop-index.invariant c.in_ok-last.ensures
