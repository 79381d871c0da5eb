use Rattle.std.proofs.Common.{drop}
use Rattle.bit_blast_spec.specs.Circuits.{product_bits, add_rows}
use Rattle.bit_blast_circuits.specs.Built.{Continues}
use Rattle.bit_blast_circuits.proofs.gates.Gates.product_bits.Given as goal

abbrev pub invariant-loop-index : goal.invariant-loop-index
invariant-loop-index l =
    Continues (product_bits l.xs l.ys) l.fn.self l.self (add_rows l.xs l.index (drop l.index l.ys) l.sum.items) (λ bits. bits)
