use Rattle.std.specs.Prelude.{nat_eq}
use Rattle.indexmap.specs.IndexMap.{get}
use Rattle.pair_setup.specs.Stacks.{AreStacks}
use Rattle.pair_setup.proofs.stacks.settle_all.Given as goal

abbrev pub invariant-loop-first : goal.invariant-loop-first
invariant-loop-first l = AreStacks l.image (get nat_eq l.known)
