use Rattle.std.proofs.Common.{refl}
use Rattle.example_laws.proofs.ClauseComputes.{clauses_compute}
use Rattle.example_laws.proofs.clauses.known_values.Goals as goal

pub returns : goal.returns
unfolding clauses_compute
returns c = record { truth = refl; falsehood = refl }
