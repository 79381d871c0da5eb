use Rattle.graph_inline_spec.proofs.Valid.{sizes}
use Rattle.graph_inline_spec.proofs.laws.sizes_are_sums.Goals as goal

pub returns : goal.returns
returns c = λ caller n callee own instance result e. sizes caller n callee own instance result e
