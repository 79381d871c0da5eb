use Rattle.term_core_spec.proofs.Substitution.{sort-instance, occurs-instance}
use Rattle.term_core.proofs.laws.renamed_terms_belong_to_their_instance.Goals as goal

pub returns-clause-sort : goal.returns-clause-sort
returns-clause-sort c = sort-instance

pub returns-clause-variables : goal.returns-clause-variables
returns-clause-variables c = occurs-instance
