use Rattle.std.proofs.Common.{arith, ◌∙◌}
use Rattle.bit_blast.proofs.Known.{known_step, known_end}
use Rattle.bit_blast.proofs.atoms.known_bits.Goals as goal

pub loop-index-preserved : goal.loop-index-preserved
loop-index-preserved c =
    known_step c.loop-index.out.items c.push.new.self.items c.args.count c.loop-index._index c.loop-index.rest c.known.result (omega arith) c.known.ensures c.in-Ok-attempt.ensures.items
    ∙ c.loop-index.invariant

pub returns : goal.returns
returns c = known_end c.loop-index.out.items c.args.count c.loop-index._index c.loop-index.rest (omega arith) ∙ c.loop-index.invariant
