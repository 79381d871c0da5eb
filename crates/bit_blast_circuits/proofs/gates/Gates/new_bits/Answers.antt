use Rattle.std.proofs.Common.{arith}
use Rattle.bit_blast_circuits.proofs.Stages.{new_start, new_at, new_end}
use Rattle.bit_blast_circuits.proofs.gates.Gates.new_bits.Goals as goal

pub returns : goal.returns
returns c = λ term index. new_end term index c.args.count c.loop.counter c.loop.out.items (omega arith) (c.loop.invariant term index)

pub loop-init : goal.loop-init
loop-init c = λ term index. new_start term index c.args.count c.args.self.now c.new-out.result.items c.new-out.ensures.items

pub loop-preserved : goal.loop-preserved
loop-preserved c =
    λ term index. new_at term index c.args.count c.loop.counter c.in_ok-bit.bit c.loop.out.items c.push.new.self.items (omega arith) c.in_ok-push.ensures.items
    c.in_ok-bit.ensures.new c.in_ok-bit.ensures.added (c.loop.invariant term index)
