use Rattle.std.proofs.Common.{◌≡◌, ◌++◌, drop}
use Rattle.proof_tree.specs.Frames.{terms_of}
use Rattle.sim_calls.specs.Callees.{argument_lines}
use Rattle.sim_calls.proofs.callee.add_arguments.Given as goal

-- what is left to add completes the whole
abbrev pub invariant-loop-number : goal.invariant-loop-number
invariant-loop-number l =
    terms_of l.lines.items ++ argument_lines l.number (drop l.number l.parameters) ≡ terms_of l.fn.lines.items ++ argument_lines 0 l.parameters
