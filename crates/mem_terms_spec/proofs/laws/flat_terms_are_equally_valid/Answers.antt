use Rattle.mem_terms_spec.proofs.Validity.{equally}
use Rattle.mem_terms_spec.proofs.laws.flat_terms_are_equally_valid.Goals as goal

pub returns : goal.returns
returns c = equally
