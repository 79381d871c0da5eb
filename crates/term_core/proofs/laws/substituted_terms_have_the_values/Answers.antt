use Rattle.term_core_spec.proofs.Substitution.{value-substituted, sort-substituted, values-sort}
use Rattle.term_core.proofs.laws.substituted_terms_have_the_values.Goals as goal

pub returns-clause-value : goal.returns-clause-value
returns-clause-value c = value-substituted

pub returns-clause-sort : goal.returns-clause-sort
returns-clause-sort c = sort-substituted

pub returns-clause-assignment : goal.returns-clause-assignment
returns-clause-assignment c = values-sort
