use Rattle.std.proofs.Common.{arith}
use Rattle.bit_blast_circuits.specs.Kinds.{gate_of}
use Rattle.bit_blast_circuits.proofs.Built.{continues_start}
use Rattle.bit_blast_circuits.proofs.Steps.{fold_at, fold_end}
use Rattle.bit_blast_circuits.proofs.gates.Gates.fold_gates.Goals as goal

pub returns : goal.returns
returns c = fold_end (gate_of c.args.connective) c.loop-bit.so_far c.args.bits.now c.loop-bit.bit-index (omega arith) c.loop-bit.invariant

pub loop-bit-init : goal.loop-bit-init
loop-bit-init c = continues_start _ _

pub loop-bit-preserved : goal.loop-bit-preserved
loop-bit-preserved c =
    fold_at (gate_of c.args.connective) c.loop-bit.so_far c.bit-item.result c.in_ok-so_far.so_far c.args.bits.now c.loop-bit.bit-index (omega arith) c.bit-item.is c.loop-bit.invariant c.in_ok-so_far.ensures
