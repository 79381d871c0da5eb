use Rattle.std.proofs.Common.{ℕ, ◌-◌, ◌+◌}
use Rattle.term_core_spec.specs.Term.{Term}
use Rattle.bit_blast_spec.specs.Circuits.{new_bits}
use Rattle.bit_blast_circuits.proofs.Steps.{Adds}
use Rattle.bit_blast_circuits.proofs.gates.Gates.new_bits.Given as goal

abbrev pub invariant-loop : goal.invariant-loop
invariant-loop l =
    (term : Term) (index : ℕ) → Adds (new_bits term index l.count) l.fn.self l.self l.out.items (new_bits term (index + l.counter) (l.count - l.counter))
