use Rattle.graph_inline_spec.proofs.Unbound.{stays_unbound}
use Rattle.graph_inline_spec.proofs.laws.other_instances_stay_unbound.Goals as goal

pub returns : goal.returns
returns c = λ caller n callee own instance can result e v apart other never. stays_unbound caller n callee own instance can result e v apart other never
