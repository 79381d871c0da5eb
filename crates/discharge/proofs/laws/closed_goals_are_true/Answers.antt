use Rattle.discharge.proofs.Sound.{closed_is_true}
use Rattle.discharge.proofs.laws.closed_goals_are_true.Goals as goal

pub returns : goal.returns
returns c = closed_is_true
