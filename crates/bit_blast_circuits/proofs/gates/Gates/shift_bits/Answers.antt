use Rattle.std.proofs.Common.{ap, ◌∙◌}
use Rattle.clause_check_spec.specs.Clause.{negation}
use Rattle.bit_blast_spec.specs.Circuits.{and_gate, each}
use Rattle.bit_blast_circuits.proofs.Built.{then_ok, same_ok}
use Rattle.bit_blast_circuits.proofs.gates.Gates.shift_bits.Goals as goal

pub returns : goal.returns
returns c =
    then_ok c.each.new.self c.each.result (λ bits. bits.items) (λ (moved, past). each (λ x. and_gate (negation past) x) moved) c.in_ok-word.ensures
    (same_ok c.shift_stages.new.self c.each.new.self c.each.result (λ bits. bits.items) (each (and_gate c.negation.result) c.deref.result.now)
    (each (and_gate (negation c.in_ok-word.past)) c.in_ok-word.word.items)
    (ap (λ l. each (and_gate l) c.deref.result.now) c.negation.ensures ∙ ap (each (and_gate (negation c.in_ok-word.past))) c.deref.ensures.value)
    c.each.ensures)
