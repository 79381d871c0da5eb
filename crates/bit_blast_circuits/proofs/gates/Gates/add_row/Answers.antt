use Rattle.std.proofs.Common.{◌-◌, ◌++◌, length, take, refl, ap, ◌∙◌}
use Rattle.bit_blast_spec.specs.Circuits.{none, zeros, and_each, sum_bits}
use Rattle.bit_blast_circuits.proofs.Built.{then_ok, same_ok, same_gives}
use Rattle.bit_blast_circuits.proofs.Calls.{sum_same}
use Rattle.bit_blast_circuits.proofs.gates.Gates.add_row.Goals as goal

pub returns : goal.returns
returns c =
    then_ok c.sum_bits.new.self c.sum_bits.result (λ bits. bits.items) (λ row. sum_bits c.args.so_far.now (zeros c.args.index ++ row) none)
    (same_gives (and_each (take c.saturating_sub.result c.args.xs.now) c.args.bit) (and_each (take (length c.args.xs.now - c.args.index) c.args.xs.now) c.args.bit)
    (ap (λ n. and_each (take n c.args.xs.now) c.args.bit) c.saturating_sub.ensures) c.in_ok-row.ensures)
    (same_ok c.and_each.new.self c.sum_bits.new.self c.sum_bits.result (λ bits. bits.items) (sum_bits c.args.so_far.now c.deref-2.result.now c.none.result)
    (sum_bits c.args.so_far.now (zeros c.args.index ++ c.in_ok-row.row.items) none)
    (sum_same c.args.so_far.now (zeros c.args.index ++ c.in_ok-row.row.items) c.args.so_far.now c.deref-2.result.now none c.none.result refl
    (c.deref-2.ensures.value ∙ c.in_ok-moved.ensures ∙ ap (λ row. zeros c.args.index ++ row) c.deref.ensures.value) c.none.ensures)
    c.sum_bits.ensures)
