use Rattle.std.proofs.Common.{drop}
use Rattle.bit_blast_spec.specs.Circuits.{fold_gates}
use Rattle.bit_blast_circuits.specs.Built.{Continues}
use Rattle.bit_blast_circuits.specs.Kinds.{gate_of}
use Rattle.bit_blast_circuits.proofs.gates.Gates.fold_gates.Given as goal

abbrev pub invariant-loop-bit : goal.invariant-loop-bit
invariant-loop-bit l =
    Continues (fold_gates (gate_of l.connective) l.fn.first l.bits) l.fn.self l.self (fold_gates (gate_of l.connective) l.so_far (drop l.bit-index l.bits)) (λ o. o)
