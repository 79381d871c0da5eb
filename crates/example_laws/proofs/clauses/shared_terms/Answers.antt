use Rattle.std.proofs.Common.{refl}
use Rattle.example_laws.proofs.ClauseComputes.{clauses_compute}
use Rattle.example_laws.proofs.clauses.shared_terms.Goals as goal

pub returns : goal.returns
unfolding clauses_compute
returns c = refl
