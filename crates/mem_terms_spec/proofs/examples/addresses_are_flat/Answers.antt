use Rattle.std.proofs.Common.{refl}
use Rattle.term_core_spec.specs.Same.{same_term}
use Rattle.mem_terms_spec.specs.Flat.{with_loads, without_loads}
use Rattle.mem_terms_spec.proofs.examples.addresses_are_flat.Goals as goal

pub returns : goal.returns
unfolding same_term with_loads without_loads
returns c = (refl, tt)
