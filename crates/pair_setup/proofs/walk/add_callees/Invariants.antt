use Rattle.std.proofs.Common.{take}
use Rattle.pair_setup_calls.specs.Graph.{Grows}
use Rattle.pair_setup.specs.Names.{IsOf}
use Rattle.pair_setup.specs.Walks.{IsCalled}
use Rattle.pair_setup.proofs.walk.add_callees.Given as goal

abbrev pub invariant-loop-step : goal.invariant-loop-step
invariant-loop-step l = Grows (IsOf IsCalled (take l.step-index l.steps)) l.initial.entries.keys l.entries.keys
