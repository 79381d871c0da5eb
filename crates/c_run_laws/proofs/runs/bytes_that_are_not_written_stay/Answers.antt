use Rattle.c_run_laws.proofs.Laws.{unwritten_stay}
use Rattle.c_run_laws.proofs.runs.bytes_that_are_not_written_stay.Goals as goal

pub returns : goal.returns
returns c = unwritten_stay
