use Rattle.std.proofs.Common.{◌≡◌, take}
use Rattle.graph_inline.specs.Moved.{shared_inputs}
use Rattle.graph_inline.proofs.start.add_shared_inputs.Given as goal

abbrev pub invariant-loop-input : goal.invariant-loop-input
invariant-loop-input l = l.found.items ≡ shared_inputs (take l.input-index l.inputs)
