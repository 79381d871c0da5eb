use Rattle.std.specs.Prelude.{nat_eq}
use Rattle.indexmap.specs.IndexMap.{get}
use Rattle.pair_setup.specs.Stacks.{AreStacks}
use Rattle.pair_setup.proofs.stacks.settle.Given as goal

abbrev pub invariant-loop : goal.invariant-loop
invariant-loop l = AreStacks l.image (get nat_eq l.known)
