use Rattle.std.proofs.Common.{refl}
use Rattle.term_core_spec.specs.Substitution.{renamed}
use Rattle.graph_inline_spec.specs.Inlined.{start_term}
use Rattle.graph_inline_spec.proofs.examples.a_source_call_is_inlined.Goals as goal

pub returns : goal.returns
unfolding renamed start_term
returns c = refl
