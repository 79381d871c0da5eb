use Rattle.bit_blast_spec.specs.Goal.{binary_bits}
use Rattle.bit_blast.proofs.Bare.{single_gives}
use Rattle.bit_blast.proofs.operators.less.Goals as goal

pub returns-3 : goal.returns-3
unfolding binary_bits
returns-3 c = λ term. single_gives c.in-Ok-attempt-out.field-0.items c.in-Ok-attempt-out.ensures c.in-Ok-attempt.ensures
