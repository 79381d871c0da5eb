use Rattle.std.proofs.Common.{drop}
use Rattle.bit_blast_spec.specs.Circuits.{each}
use Rattle.bit_blast_circuits.specs.Kinds.{gate_with}
use Rattle.bit_blast_circuits.proofs.Steps.{Adds}
use Rattle.bit_blast_circuits.proofs.gates.Gates.each.Given as goal

abbrev pub invariant-loop-x : goal.invariant-loop-x
invariant-loop-x l = Adds (each (gate_with l.with) l.xs) l.fn.self l.self l.out.items (each (gate_with l.with) (drop l.x-index l.xs))
