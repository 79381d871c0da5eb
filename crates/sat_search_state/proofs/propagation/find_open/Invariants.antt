use Rattle.std.proofs.Common.{take}
use Rattle.sat_search_state.specs.Visits.{AreFalse}
use Rattle.sat_search_state.proofs.propagation.find_open.Given as goal

abbrev pub invariant-loop-literal : goal.invariant-loop-literal
invariant-loop-literal l = AreFalse (take l.literal-index l.clause) l.trail l.other
