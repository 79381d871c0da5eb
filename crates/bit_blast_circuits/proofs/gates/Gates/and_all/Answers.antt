use Rattle.std.proofs.Common.{◌-◌, length, take, drop}
use Rattle.bit_blast_spec.specs.Circuits.{and_gate, fold_gates, and_all}
use Rattle.bit_blast_circuits.proofs.Built.{same_ok}
use Rattle.bit_blast_circuits.proofs.Calls.{and_all_none, and_all_some}
use Rattle.bit_blast_circuits.proofs.gates.Gates.and_all.Goals as goal

pub returns-in-empty : goal.returns-in-empty
returns-in-empty c = and_all_none c.args.bits.now c.one.result c.args.self.now c.in-empty.len_below c.one.ensures

pub returns-in-len1-up : goal.returns-in-len1-up
returns-in-len1-up c =
    same_ok c.args.self.now c.fold_gates.new.self c.fold_gates.result (λ o. o)
    (fold_gates and_gate c.first-item.result (take (length c.args.bits.now - 1) (drop 1 c.args.bits.now))) (and_all c.args.bits.now)
    (and_all_some c.args.bits.now c.first-item.result c.in-len1-up.len_at_least c.first-item.is) c.fold_gates.ensures
