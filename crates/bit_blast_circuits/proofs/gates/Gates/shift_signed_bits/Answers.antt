use Rattle.std.proofs.Common.{ap, ◌∙◌}
use Rattle.bit_blast_spec.specs.Circuits.{mux_gate, each, sign_of, moved_down, shift_stages}
use Rattle.bit_blast_circuits.proofs.Built.{then_ok, same_ok, same_gives}
use Rattle.bit_blast_circuits.proofs.gates.Gates.shift_signed_bits.Goals as goal

pub returns : goal.returns
returns c =
    then_ok c.each.new.self c.each.result (λ bits. bits.items) (λ (moved, past). each (λ x. mux_gate past (sign_of c.args.xs.now) x) moved)
    (same_gives (shift_stages (moved_down c.sign_of-sign.result) 1 c.args.counts.now c.args.xs.now) (shift_stages (moved_down (sign_of c.args.xs.now)) 1 c.args.counts.now c.args.xs.now)
    (ap (λ l. shift_stages (moved_down l) 1 c.args.counts.now c.args.xs.now) c.sign_of-sign.ensures) c.in_ok-word.ensures)
    (same_ok c.shift_stages.new.self c.each.new.self c.each.result (λ bits. bits.items) (each (mux_gate c.in_ok-word.past c.sign_of-sign.result) c.deref.result.now)
    (each (mux_gate c.in_ok-word.past (sign_of c.args.xs.now)) c.in_ok-word.word.items)
    (ap (λ l. each (mux_gate c.in_ok-word.past l) c.deref.result.now) c.sign_of-sign.ensures
    ∙ ap (each (mux_gate c.in_ok-word.past (sign_of c.args.xs.now))) c.deref.ensures.value)
    c.each.ensures)
