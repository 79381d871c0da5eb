use Rattle.term_core_spec.proofs.Same.{same_is, same_itself}
use Rattle.term_norm_spec.proofs.laws.same_terms_are_equal.Goals as goal

pub returns : goal.returns
returns c = record { equal = same_is; same = same_itself }
