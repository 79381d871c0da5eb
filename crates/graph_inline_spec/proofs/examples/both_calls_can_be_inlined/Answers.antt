use Rattle.graph_inline_spec.proofs.Worked.{both}
use Rattle.graph_inline_spec.proofs.examples.both_calls_can_be_inlined.Goals as goal

pub returns : goal.returns
returns c = both
