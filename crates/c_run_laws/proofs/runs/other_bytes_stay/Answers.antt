use Rattle.c_run_laws.proofs.Storing.{stored_outside}
use Rattle.c_run_laws.proofs.runs.other_bytes_stay.Goals as goal

pub returns : goal.returns
returns c = stored_outside
