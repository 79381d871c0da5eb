use Rattle.std.proofs.Common.{drop}
use Rattle.bit_blast_spec.specs.Circuits.{each_two}
use Rattle.bit_blast_circuits.specs.Kinds.{gate_of}
use Rattle.bit_blast_circuits.proofs.Steps.{Adds}
use Rattle.bit_blast_circuits.proofs.gates.Gates.each_two.Given as goal

abbrev pub invariant-loop-index : goal.invariant-loop-index
invariant-loop-index l =
    Adds (each_two (gate_of l.connective) l.xs l.ys) l.fn.self l.self l.out.items (each_two (gate_of l.connective) (drop l.index l.xs) (drop l.index l.ys))
