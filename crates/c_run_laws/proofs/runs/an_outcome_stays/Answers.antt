use Rattle.c_run_laws.proofs.Laws.{outcome_stays}
use Rattle.c_run_laws.proofs.runs.an_outcome_stays.Goals as goal

pub returns : goal.returns
returns c = outcome_stays
