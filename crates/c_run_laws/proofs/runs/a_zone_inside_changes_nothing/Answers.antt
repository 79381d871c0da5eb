use Rattle.c_run_laws.proofs.Laws.{narrow_zone}
use Rattle.c_run_laws.proofs.runs.a_zone_inside_changes_nothing.Goals as goal

pub returns : goal.returns
returns c = narrow_zone
