use Rattle.std.proofs.Common.{ap, subst, length, arith}
use Rattle.term_core_spec.specs.Term.{divide, remainder}
use Rattle.term_bank.specs.Nodes.{tree_at}
use Rattle.bit_blast_spec.specs.Circuits.{Bits, division}
use Rattle.bit_blast_circuits.specs.Built.{IsBuilt}
use Rattle.bit_blast.specs.Terms.{terms_in}
use Rattle.bit_blast.specs.BitsAt.{bits_at}
use Rattle.bit_blast.proofs.Entered.{second_absent, second_grown, second_longer, division_gives}
use Rattle.bit_blast.proofs.entry.enter_division.Goals as goal

pub enter-requires-2-clause-absent : goal.enter-requires-2-clause-absent
enter-requires-2-clause-absent c =
    second_absent c.args.table.now c.enter.new.self c.args.x c.args.y c.in-Ok-attempt.field-0.items c.requires.dividend c.requires.divisor c.in-Ok-attempt-index.ensures.entered c.requires.no_remainder

pub returns-6-clause-rest : goal.returns-6-clause-rest
returns-6-clause-rest c =
    omega (
      arith,
      c.in-Ok-attempt-rest.ensures.index,
      second_longer c.args.table.now c.enter.new.self c.args.x c.args.y c.in-Ok-attempt.field-0.items c.requires.dividend c.requires.divisor c.in-Ok-attempt-index.ensures.entered,
    )

pub returns-6-clause-gives : goal.returns-6-clause-gives
returns-6-clause-gives c =
    let dividend = tree_at (terms_in c.args.table.now) c.args.x in
    let divisor = tree_at (terms_in c.args.table.now) c.args.y in
    division_gives dividend divisor c.args.table.now c.enter-2.new.self c.args.gates.now c.new_bits.new.self c.new_bits-2.new.self c.division.new.self
    (length c.bits-count.result.now) c.in-Ok-attempt.field-0.items c.in-Ok-attempt-r.field-0.items (ap (λ (bits : Bits). length bits) c.bits-count.ensures)
    (c.in-Ok-attempt.ensures (divide dividend divisor) 0) (c.in-Ok-attempt-r.ensures (remainder dividend divisor) 0)
    (subst (λ (q : Bits). IsBuilt (division q c.in-Ok-attempt-r.field-0.items (bits_at c.args.table.now c.args.x) (bits_at c.args.table.now c.args.y)) c.new_bits-2.new.self tt c.division.new.self) c.deref.ensures.value
    (subst (λ (r : Bits). IsBuilt (division c.deref.result.now r (bits_at c.args.table.now c.args.x) (bits_at c.args.table.now c.args.y)) c.new_bits-2.new.self tt c.division.new.self) c.deref-2.ensures.value
    (subst (λ (x : Bits). IsBuilt (division c.deref.result.now c.deref-2.result.now x (bits_at c.args.table.now c.args.y)) c.new_bits-2.new.self tt c.division.new.self) c.bits.ensures
    (subst (λ (y : Bits). IsBuilt (division c.deref.result.now c.deref-2.result.now c.bits.result.now y) c.new_bits-2.new.self tt c.division.new.self) c.bits-2.ensures c.in-Ok-attempt-2.ensures))))
    (second_grown c.args.table.now c.enter.new.self c.args.x c.args.y c.in-Ok-attempt.field-0.items c.requires.dividend c.requires.divisor c.in-Ok-attempt-index.ensures.entered
    c.enter-2.new.self c.in-Ok-attempt-r.field-0.items c.in-Ok-attempt-rest.ensures.entered)
