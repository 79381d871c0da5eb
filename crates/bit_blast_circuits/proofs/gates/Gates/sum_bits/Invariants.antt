use Rattle.std.proofs.Common.{drop}
use Rattle.bit_blast_spec.specs.Circuits.{sum_bits}
use Rattle.bit_blast_circuits.proofs.Steps.{Adds}
use Rattle.bit_blast_circuits.proofs.gates.Gates.sum_bits.Given as goal

abbrev pub invariant-loop-index : goal.invariant-loop-index
invariant-loop-index l =
    Adds (sum_bits l.xs l.ys l.fn.carry) l.fn.self l.self l.out.items (sum_bits (drop l.index l.xs) (drop l.index l.ys) l.carried)
