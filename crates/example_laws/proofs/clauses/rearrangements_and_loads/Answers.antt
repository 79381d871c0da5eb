use Rattle.std.proofs.Common.{refl}
use Rattle.example_laws.proofs.ClauseComputes.{clauses_compute}
use Rattle.example_laws.proofs.clauses.rearrangements_and_loads.Goals as goal

pub returns : goal.returns
unfolding clauses_compute
returns c = record { rearranged = refl; loads = refl }
