use Rattle.std.proofs.Common.{take}
use Rattle.decompile.specs.Items.{AreBranches}
use Rattle.decompile.proofs.items.add_branches.Given as goal

abbrev pub invariant-loop-item : goal.invariant-loop-item
invariant-loop-item l = AreBranches (take l.item-index l.items) l.branches.keys
