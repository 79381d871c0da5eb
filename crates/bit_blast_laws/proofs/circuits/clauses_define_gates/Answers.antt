use Rattle.bit_blast_laws.proofs.Gates.{all_hold, all_satisfied}
use Rattle.bit_blast_laws.proofs.circuits.clauses_define_gates.Goals as goal

pub returns : goal.returns
returns c = λ values last gates. (all_hold values last gates, all_satisfied values last gates)
