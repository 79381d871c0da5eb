use Rattle.graph_inline_spec.proofs.Valid.{calls_alone}
use Rattle.graph_inline_spec.proofs.laws.calls_alone_are_inlined.Goals as goal

pub returns : goal.returns
returns c = λ caller n callee own instance. calls_alone caller n callee own instance
