use Rattle.c_run_laws.proofs.Storing.{stored_read}
use Rattle.c_run_laws.proofs.runs.what_is_stored_is_read.Goals as goal

pub returns : goal.returns
returns c = stored_read
