use Rattle.std.specs.Prelude.{nat_eq}
use Rattle.indexmap.specs.IndexMap.{get}
use Rattle.code_reach.proofs.Deepest.{IsDeepestOf}
use Rattle.code_reach.proofs.stacks.deepest.Given as goal

abbrev pub invariant-loop-entry : goal.invariant-loop-entry
invariant-loop-entry l = IsDeepestOf (get nat_eq l.known) l.entries l.entry-index l.deepest
