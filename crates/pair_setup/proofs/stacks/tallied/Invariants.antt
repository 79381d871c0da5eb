use Rattle.std.proofs.Common.{take}
use Rattle.std.specs.Prelude.{nat_eq}
use Rattle.indexmap.specs.IndexMap.{get}
use Rattle.pair_setup.specs.Stacks.{IsTally}
use Rattle.pair_setup.proofs.stacks.tallied.Given as goal

abbrev pub invariant-loop-step : goal.invariant-loop-step
invariant-loop-step l = IsTally (get nat_eq l.known) (take l.step-index l.steps) l.tally
