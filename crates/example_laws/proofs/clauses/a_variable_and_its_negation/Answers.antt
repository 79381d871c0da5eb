use Rattle.std.proofs.Common.{refl}
use Rattle.example_laws.proofs.ClauseComputes.{clauses_compute}
use Rattle.example_laws.proofs.clauses.a_variable_and_its_negation.Goals as goal

pub returns : goal.returns
unfolding clauses_compute
returns c = record { variable = refl; negated = refl; either = refl }
