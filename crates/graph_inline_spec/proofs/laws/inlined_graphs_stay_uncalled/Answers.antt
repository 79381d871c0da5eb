use Rattle.graph_inline_spec.proofs.Again.{stays_uncalled}
use Rattle.graph_inline_spec.proofs.laws.inlined_graphs_stay_uncalled.Goals as goal

pub returns : goal.returns
returns c = λ graphs g n own instance new is. stays_uncalled graphs g n own instance new is
