use Rattle.std.proofs.Common.{◌≡◌, ◌++◌, map, drop}
use Rattle.c_graph_spec.specs.State.{sort_of_scalar}
use Rattle.cert_check_frames.proofs.scope.add_sorts.Given as goal

-- what is left to add completes the whole
abbrev pub invariant-loop-index : goal.invariant-loop-index
invariant-loop-index l = l.sorts.items ++ map sort_of_scalar (drop l.index l.types) ≡ l.fn.sorts.items ++ map sort_of_scalar l.types
