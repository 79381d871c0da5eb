use Rattle.validity_laws.proofs.Excluded.{trails_exclude}
use Rattle.validity_laws.proofs.trails.trails_exclude_proofs.Goals as goal

pub returns : goal.returns
returns c = trails_exclude
