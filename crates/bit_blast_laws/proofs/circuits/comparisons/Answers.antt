use Rattle.bit_blast_spec.specs.Circuits.{less_bit, equal_bits}
use Rattle.bit_blast_laws.proofs.Gates.{all_hold}
use Rattle.bit_blast_laws.proofs.Adders.{less_holds}
use Rattle.bit_blast_laws.proofs.Bitwise.{equal_holds}
use Rattle.bit_blast_laws.proofs.circuits.comparisons.Goals as goal

pub returns : goal.returns
returns c = record {
  less = λ values xs ys last same truth satisfied. less_holds values xs ys last same truth (all_hold values last (less_bit xs ys last).gates satisfied);
  equal = λ values xs ys last same truth satisfied. equal_holds values xs ys last same truth (all_hold values last (equal_bits xs ys last).gates satisfied);
}
