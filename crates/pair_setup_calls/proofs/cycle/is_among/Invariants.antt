use Rattle.std.proofs.Common.{◌≡◌}
use Rattle.pair_setup_calls.proofs.Cycles.{NoneBelow}
use Rattle.pair_setup_calls.proofs.cycle.is_among.Given as goal

abbrev pub invariant-loop-other : goal.invariant-loop-other
invariant-loop-other l = NoneBelow (λ t. t ≡ l.node) l.nodes l.other-index
