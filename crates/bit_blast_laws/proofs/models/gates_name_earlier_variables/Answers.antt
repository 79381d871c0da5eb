use Rattle.bit_blast_laws.proofs.Goals.{goal_made}
use Rattle.bit_blast_laws.proofs.models.gates_name_earlier_variables.Goals as goal

pub returns : goal.returns
returns c = λ goal. (goal_made goal).gates
