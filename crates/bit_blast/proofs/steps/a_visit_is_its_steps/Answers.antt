use Rattle.bit_blast.proofs.Visits.{visit_steps}
use Rattle.bit_blast.proofs.steps.a_visit_is_its_steps.Goals as goal

pub returns : goal.returns
returns c = λ steps term table last closed. visit_steps steps term table last closed
