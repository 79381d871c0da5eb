use Rattle.graph_inline_spec.proofs.Again.{stays_fresh}
use Rattle.graph_inline_spec.proofs.laws.other_instances_stay_fresh.Goals as goal

pub returns : goal.returns
returns c = λ caller n callee own instance can result e other apart fresh. stays_fresh caller n callee own instance can result e other apart fresh
