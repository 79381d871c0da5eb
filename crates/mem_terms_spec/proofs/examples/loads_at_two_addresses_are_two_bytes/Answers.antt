use Rattle.std.proofs.Common.{refl}
use Rattle.term_core_spec.specs.Same.{same_term}
use Rattle.mem_terms_spec.specs.Flat.{with_loads, without_loads}
use Rattle.mem_terms_spec.proofs.examples.loads_at_two_addresses_are_two_bytes.Goals as goal

pub returns : goal.returns
unfolding same_term with_loads without_loads
returns c = (refl, (refl, tt))
