use Rattle.c_run_laws.proofs.Laws.{zone_unread}
use Rattle.c_run_laws.proofs.runs.the_zone_is_not_read.Goals as goal

pub returns : goal.returns
returns c = zone_unread
