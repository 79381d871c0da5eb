use Rattle.std.proofs.Common.{◌-◌, length, take, drop}
use Rattle.bit_blast_spec.specs.Circuits.{or_gate, fold_gates, or_all}
use Rattle.bit_blast_circuits.proofs.Built.{same_ok}
use Rattle.bit_blast_circuits.proofs.Calls.{or_all_none, or_all_some}
use Rattle.bit_blast_circuits.proofs.gates.Gates.or_all.Goals as goal

pub returns-in-empty : goal.returns-in-empty
returns-in-empty c = or_all_none c.args.bits.now c.none.result c.args.self.now c.in-empty.len_below c.none.ensures

pub returns-in-len1-up : goal.returns-in-len1-up
returns-in-len1-up c =
    same_ok c.args.self.now c.fold_gates.new.self c.fold_gates.result (λ o. o)
    (fold_gates or_gate c.first-item.result (take (length c.args.bits.now - 1) (drop 1 c.args.bits.now))) (or_all c.args.bits.now)
    (or_all_some c.args.bits.now c.first-item.result c.in-len1-up.len_at_least c.first-item.is) c.fold_gates.ensures
