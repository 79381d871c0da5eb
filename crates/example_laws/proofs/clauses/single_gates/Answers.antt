use Rattle.std.proofs.Common.{refl}
use Rattle.example_laws.proofs.ClauseComputes.{clauses_compute}
use Rattle.example_laws.proofs.clauses.single_gates.Goals as goal

pub returns : goal.returns
unfolding clauses_compute
returns c = record { both = refl; alike = refl; choice = refl }
