use Rattle.bit_blast_laws.proofs.Goals.{goal_named}
use Rattle.bit_blast_laws.proofs.models.clauses_are_of_their_variables.Goals as goal

pub returns : goal.returns
returns c = goal_named
