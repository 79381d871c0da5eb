-- What a proof unfolds to compute a run that is written out.
use Rattle.std.specs.Prelude.{⊤}
use Rattle.term_core_spec.specs.Value.{value, unary_value, binary_value, ternary_value, operation}
use Rattle.graph_core_spec.specs.TransitionSystem.{after, arrivals, reached}
use Rattle.graph_core_spec.specs.Run.{bound, step}

unfoldable pub runs_compute : ⊤
unfolding value unary_value binary_value ternary_value operation after arrivals reached bound step
runs_compute = tt
