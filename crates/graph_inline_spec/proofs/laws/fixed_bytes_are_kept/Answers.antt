use Rattle.graph_inline_spec.proofs.Ends.{fixed_kept}
use Rattle.graph_inline_spec.proofs.laws.fixed_bytes_are_kept.Goals as goal

pub returns : goal.returns
returns c = λ graphs g n own instance new is m less old_values new_values alike fixed memory shared unbound always. fixed_kept graphs g n own instance new is m less old_values new_values alike fixed memory shared unbound always
