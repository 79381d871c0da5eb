use Rattle.graph_inline_spec.proofs.Ends.{ends_alike}
use Rattle.graph_inline_spec.proofs.laws.runs_are_kept.Goals as goal

pub returns : goal.returns
returns c = λ graphs g n own instance new is m less old_values new_values alike. ends_alike graphs g n own instance new is m less old_values new_values alike
