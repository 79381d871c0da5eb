use Rattle.std.proofs.Common.{◌≡◌, ◌-◌, ◌++◌}
use Rattle.bit_blast_spec.specs.Goal.{known_bits}
use Rattle.bit_blast.proofs.atoms.known_bits.Given as goal

abbrev pub invariant-loop-index : goal.invariant-loop-index
invariant-loop-index l = l.out.items ++ known_bits (l.count - l._index) l.rest ≡ known_bits l.count l.number
