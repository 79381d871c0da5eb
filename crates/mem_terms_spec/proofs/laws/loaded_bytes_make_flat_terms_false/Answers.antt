use Rattle.mem_terms_spec.proofs.Validity.{bytes_assign, flat_false}
use Rattle.mem_terms_spec.proofs.laws.loaded_bytes_make_flat_terms_false.Goals as goal

pub returns-clause-assignment : goal.returns-clause-assignment
returns-clause-assignment c = bytes_assign

pub returns-clause-value : goal.returns-clause-value
returns-clause-value c = flat_false
