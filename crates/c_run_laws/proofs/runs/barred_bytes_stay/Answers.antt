use Rattle.c_run_laws.proofs.Laws.{barred_stay}
use Rattle.c_run_laws.proofs.runs.barred_bytes_stay.Goals as goal

pub returns : goal.returns
returns c = barred_stay
