use Rattle.std.proofs.Common.{◌∙◌}
use Rattle.bit_blast_circuits.proofs.Calls.{less_made}
use Rattle.bit_blast_circuits.proofs.gates.Gates.less_bit.Goals as goal

pub returns : goal.returns
returns c =
    less_made c.args.xs.now c.args.ys.now c.deref.result.now c.one.result c.in_ok-carry.carry c.negation.result
    (c.deref.ensures.value ∙ c.in_ok-complement.ensures) c.one.ensures c.negation.ensures c.in_ok-carry.ensures
