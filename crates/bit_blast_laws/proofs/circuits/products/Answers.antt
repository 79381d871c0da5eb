use Rattle.term_core_spec.specs.Value.{operation}
use Rattle.bit_blast_spec.specs.Circuits.{product_bits}
use Rattle.bit_blast_laws.proofs.Gates.{all_hold}
use Rattle.bit_blast_laws.proofs.Rows.{product_holds}
use Rattle.bit_blast_laws.proofs.circuits.products.Goals as goal

pub returns : goal.returns
unfolding operation
returns c = λ values xs ys last same truth satisfied.
    product_holds values xs ys last truth same (all_hold values last (product_bits xs ys last).gates satisfied)
