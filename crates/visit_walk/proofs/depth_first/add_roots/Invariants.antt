use Rattle.std.proofs.Common.{◌≡◌, ◌++◌, map, take}
use Rattle.visit_walk.specs.declared.depth_first.Task.TheVariants.{Take}
use Rattle.visit_walk.proofs.depth_first.add_roots.Given as goal

abbrev pub invariant-loop-root : goal.invariant-loop-root
invariant-loop-root l = l.tasks.items ≡ l.fn.tasks.items ++ map Take (take l.root-index l.roots)
