use Rattle.bit_blast_laws.proofs.GoalModels.{terms_hold}
use Rattle.bit_blast_laws.proofs.models.terms_settle_for_each_assignment.Goals as goal

pub returns : goal.returns
returns c = terms_hold
