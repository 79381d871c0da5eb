use Rattle.term_core_spec.proofs.Substitution.{renamed-is, value-renamed}
use Rattle.term_core.proofs.laws.renamed_terms_are_substituted.Goals as goal

pub returns-clause-substituted : goal.returns-clause-substituted
returns-clause-substituted c = renamed-is

pub returns-clause-value : goal.returns-clause-value
returns-clause-value c = value-renamed
