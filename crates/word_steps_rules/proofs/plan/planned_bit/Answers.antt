use Rattle.std.proofs.Common.{length, subst, sym, ap, ◌∙◌}
use Rattle.word_steps_rules.specs.Bits.{AreBits, IsBit, bytes_of, rows_of, row_in, shifted_bit}
use Rattle.word_steps_rules.proofs.Known.{known_shift, known_joined, known_both}
use Rattle.word_steps_rules.proofs.plan.planned_bit.Goals as goal

pub gate_bit-requires : goal.gate_bit-requires
gate_bit-requires c =
    subst (AreBits (length c.args.bank.now)) (sym c.bits_at.ensures)
    (known_both (length c.args.bank.now) (rows_of c.args.rows.now) c.requires.rows c.args.id c.in-Both.first c.in-Both.second c.args.place c.requires.id)

pub returns-in-Shifted-clause-within : goal.returns-in-Shifted-clause-within
returns-in-Shifted-clause-within c =
    subst (IsBit (length c.args.bank.now))
    (sym (c.shifted_bit.ensures ∙ ap (λ l. shifted_bit c.in-Shifted.shift l c.in-Shifted.places c.args.place) c.row_at.ensures))
    (known_shift (length c.args.bank.now) c.in-Shifted.shift (row_in (rows_of c.args.rows.now) c.in-Shifted.index) (c.requires.rows c.in-Shifted.index) c.in-Shifted.places c.args.place)

pub returns-in-Joined-clause-within : goal.returns-in-Joined-clause-within
returns-in-Joined-clause-within c =
    subst (IsBit (length c.args.bank.now)) (sym c.bit_of_bytes.ensures)
    (known_joined (length c.args.bank.now) (rows_of c.args.rows.now) c.requires.rows (bytes_of c.in-Joined.bytes) c.args.place)
