use Rattle.sim_rules_terms.specs.Ways.{walk_on}
use Rattle.sim_rules.proofs.Knowing.{enough, fault_found, fault_of}
use Rattle.sim_rules.proofs.sides.Sides.ends.Goals as goal

pub returns-in-Some : goal.returns-in-Some
returns-in-Some c = λ maximum of_a of_d.
    let sides = c.args.self.now in
    fault_of c.args.needs (walk_on sides.binary.way) (walk_on sides.source.way) maximum sides.binary.visits sides.source.visits of_a of_d c.in-Some.fault
    (fault_found _ _ _ _ _ _ _ c.first_fault.ensures c.walk_fault.ensures c.walk_fault-2.ensures c.in-Some.is)

pub returns-in-None : goal.returns-in-None
returns-in-None c = λ maximum of_a of_d.
    let sides = c.args.self.now in
    enough c.args.needs (walk_on sides.binary.way) (walk_on sides.source.way) maximum sides.binary.visits sides.source.visits of_a of_d
    (fault_found _ _ _ _ _ _ _ c.first_fault.ensures c.walk_fault.ensures c.walk_fault-2.ensures c.in-None.is)
