use Rattle.std.proofs.Common.{map, drop}
use Rattle.bit_blast_spec.specs.Goal.{tie}
use Rattle.bit_blast_circuits.specs.Built.{Continues}
use Rattle.bit_blast.specs.Loads.{load_at}
use Rattle.bit_blast.proofs.loads.tie.Given as goal

abbrev pub invariant-ties : goal.invariant-ties
invariant-ties l =
    Continues (tie (load_at l.table l.load) (map (load_at l.table) l.later)) l.initial.gates l.gates
    (tie (load_at l.table l.load) (map (load_at l.table) (drop l.other-index l.later))) (λ (u : Unit {0}). u)
