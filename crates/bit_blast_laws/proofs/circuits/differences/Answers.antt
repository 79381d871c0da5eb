use Rattle.term_core_spec.specs.Value.{operation}
use Rattle.bit_blast_spec.specs.Circuits.{difference_bits}
use Rattle.bit_blast_laws.proofs.Gates.{all_hold}
use Rattle.bit_blast_laws.proofs.Adders.{difference_holds}
use Rattle.bit_blast_laws.proofs.circuits.differences.Goals as goal

pub returns : goal.returns
unfolding operation
returns c = λ values xs ys last same truth satisfied.
    difference_holds values xs ys last same truth (all_hold values last (difference_bits xs ys last).gates satisfied)
