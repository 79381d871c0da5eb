use Rattle.std.proofs.Common.{◌-◌, arith}
use Rattle.cnf_core.specs.Bits.{valuation}
use Rattle.bit_blast.proofs.Numbers.{number_at}
use Rattle.bit_blast.proofs.back.number_of.Goals as goal

pub bits-preserved : goal.bits-preserved
bits-preserved c = (
  omega (arith, c.bits.invariant.0),
  number_at (valuation c.args.values.now) c.args.bits.now c.index-bits-index.result c.bits.index (c.bits.index - 1) c.bits.number c.with_bit-number.result (omega arith) c.bits.invariant.0 c.index-bits-index.is c.bits.invariant.1 c.with_bit-number.ensures,
)
