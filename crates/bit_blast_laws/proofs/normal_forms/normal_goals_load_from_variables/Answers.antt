use Rattle.bit_blast_laws.proofs.NormalWhole.{goal_from}
use Rattle.bit_blast_laws.proofs.normal_forms.normal_goals_load_from_variables.Goals as goal

pub returns : goal.returns
returns c = goal_from
