use Rattle.std.proofs.Common.{◌≡◌, drop}
use Rattle.graph_inline.specs.Moved.{input_of}
use Rattle.graph_inline.proofs.start.find_input.Given as goal

-- none of those so far binds it
abbrev pub invariant-loop-input : goal.invariant-loop-input
invariant-loop-input l = input_of (drop l.input-index l.inputs) l.variable ≡ input_of l.inputs l.variable
