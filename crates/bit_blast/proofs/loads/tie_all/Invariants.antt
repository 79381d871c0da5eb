use Rattle.std.proofs.Common.{map, drop}
use Rattle.bit_blast_spec.specs.Goal.{tie_all}
use Rattle.bit_blast.specs.Loads.{load_at}
use Rattle.bit_blast.proofs.Within.{ContinuesWithin}
use Rattle.bit_blast.proofs.loads.tie_all.Given as goal

abbrev pub invariant-ties : goal.invariant-ties
invariant-ties l =
    ContinuesWithin l.maximum (tie_all (map (load_at l.table) l.loads)) l.initial.gates l.gates (tie_all (map (load_at l.table) (drop l.index l.loads)))
