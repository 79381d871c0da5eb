use Rattle.term_core_spec.proofs.Soundness.{value-sort}
use Rattle.term_core.proofs.laws.values_are_of_their_sort.Goals as goal

pub returns : goal.returns
returns c = value-sort
