use Rattle.std.proofs.Common.{map, refl, ◌∙◌}
use Rattle.clause_check_spec.specs.Clause.{negation}
use Rattle.bit_blast_spec.specs.Circuits.{one, sum_bits, difference_bits}
use Rattle.bit_blast_circuits.proofs.Built.{same_ok}
use Rattle.bit_blast_circuits.proofs.Calls.{sum_same}
use Rattle.bit_blast_circuits.proofs.gates.Gates.difference_bits.Goals as goal

pub returns : goal.returns
returns c =
    same_ok c.args.self.now c.sum_bits.new.self c.sum_bits.result (λ bits. bits.items) (sum_bits c.args.xs.now c.deref.result.now c.one.result) (difference_bits c.args.xs.now c.args.ys.now)
    (sum_same c.args.xs.now (map negation c.args.ys.now) c.args.xs.now c.deref.result.now one c.one.result refl (c.deref.ensures.value ∙ c.in_ok-complement.ensures) c.one.ensures)
    c.sum_bits.ensures
