use Rattle.std.proofs.Common.{refl}
use Rattle.c_graph_spec.specs.Guards.{conjoined}
use Rattle.c_graph_laws.proofs.examples.a_conjunction_is_by_halves.Goals as goal

pub returns : goal.returns
unfolding conjoined
returns c = λ s t u v w. refl
