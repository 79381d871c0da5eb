use Rattle.term_core_spec.proofs.Substitution.{occurs-substituted}
use Rattle.term_core.proofs.laws.substituted_terms_have_the_variables.Goals as goal

pub returns : goal.returns
returns c = occurs-substituted
