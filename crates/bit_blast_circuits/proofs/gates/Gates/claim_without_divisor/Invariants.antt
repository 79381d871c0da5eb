use Rattle.std.proofs.Common.{drop}
use Rattle.bit_blast_spec.specs.Circuits.{without_divisor}
use Rattle.bit_blast_circuits.proofs.Stages.{Claims}
use Rattle.bit_blast_circuits.proofs.gates.Gates.claim_without_divisor.Given as goal

abbrev pub invariant-loop-index : goal.invariant-loop-index
invariant-loop-index l =
    Claims (without_divisor l.some l.q l.r l.x) l.fn.self l.self (without_divisor l.some (drop l.index l.q) (drop l.index l.r) (drop l.index l.x))
