use Rattle.std.proofs.Common.{◌≡◌, ◌++◌, map, take}
use Rattle.code_reach.specs.declared.stacks.Task.TheVariants.{Enter}
use Rattle.code_reach.proofs.stacks.add_tasks.Given as goal

abbrev pub invariant-loop-target : goal.invariant-loop-target
invariant-loop-target l = l.tasks.items ≡ l.initial.tasks.items ++ map Enter (take l.target-index l.calls)
