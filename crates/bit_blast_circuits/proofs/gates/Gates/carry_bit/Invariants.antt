use Rattle.std.proofs.Common.{drop}
use Rattle.bit_blast_spec.specs.Circuits.{carry_bit}
use Rattle.bit_blast_circuits.specs.Built.{Continues}
use Rattle.bit_blast_circuits.proofs.gates.Gates.carry_bit.Given as goal

abbrev pub invariant-loop-index : goal.invariant-loop-index
invariant-loop-index l =
    Continues (carry_bit l.xs l.ys l.fn.carry) l.fn.self l.self (carry_bit (drop l.index l.xs) (drop l.index l.ys) l.last) (λ o. o)
