use Rattle.bit_blast_circuits.proofs.gates.Gates.and_each.Goals as goal

pub returns : goal.returns
returns c = c.each.ensures
