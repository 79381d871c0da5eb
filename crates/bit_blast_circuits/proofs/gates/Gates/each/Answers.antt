use Rattle.std.proofs.Common.{arith}
use Rattle.bit_blast_circuits.specs.Kinds.{gate_with}
use Rattle.bit_blast_circuits.proofs.Steps.{adds_start, each_at, each_end}
use Rattle.bit_blast_circuits.proofs.gates.Gates.each.Goals as goal

pub returns : goal.returns
returns c = each_end (gate_with c.args.with) c.args.xs.now c.loop-x.x-index c.loop-x.out.items (omega arith) c.loop-x.invariant

pub loop-x-init : goal.loop-x-init
loop-x-init c = adds_start _ _ c.new-out.result.items c.new-out.ensures.items

pub loop-x-preserved : goal.loop-x-preserved
loop-x-preserved c =
    each_at (gate_with c.args.with) c.x-item.result c.in_ok-bit.bit c.args.xs.now c.loop-x.x-index c.loop-x.out.items c.push.new.self.items
    (omega arith) c.x-item.is c.in_ok-push.ensures.items c.loop-x.invariant c.in_ok-bit.ensures
