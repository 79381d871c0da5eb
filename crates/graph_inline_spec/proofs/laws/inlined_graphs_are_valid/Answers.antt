use Rattle.graph_inline_spec.proofs.Valid.{there_is}
use Rattle.graph_inline_spec.proofs.laws.inlined_graphs_are_valid.Goals as goal

pub returns : goal.returns
returns c = λ caller n callee own instance can. there_is caller n callee own instance can
