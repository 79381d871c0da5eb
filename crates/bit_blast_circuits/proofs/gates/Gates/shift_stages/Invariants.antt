use Rattle.std.proofs.Common.{drop}
use Rattle.bit_blast_spec.specs.Circuits.{shift_stages}
use Rattle.bit_blast_circuits.specs.Built.{Continues}
use Rattle.bit_blast_circuits.specs.Kinds.{move_of}
use Rattle.bit_blast_circuits.proofs.gates.Gates.shift_stages.Given as goal

abbrev pub invariant-loop-stage : goal.invariant-loop-stage
invariant-loop-stage l =
    Continues (shift_stages (move_of l.shift) 1 l.counts l.xs) l.fn.self l.self (shift_stages (move_of l.shift) l.distance (drop l.stage l.counts) l.word.items) (λ made. made)
