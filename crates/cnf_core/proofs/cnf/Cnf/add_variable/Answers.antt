use Rattle.cnf_core.proofs.Named.{wider_clauses}
use Rattle.cnf_core.proofs.cnf.Cnf.add_variable.Goals as goal

pub invariant_of-self : goal.invariant_of-self
invariant_of-self c = wider_clauses c.self.inside.variables c.self.inside.clauses.clauses c.self.invariant
