use Rattle.std.proofs.Common.{◌≡◌, map, take}
use Rattle.decompile.specs.Items.{keeping}
use Rattle.decompile.proofs.items.keeping.Given as goal

abbrev pub invariant-loop-item : goal.invariant-loop-item
invariant-loop-item l = l.kept.items ≡ map (keeping l.branches.keys) (take l.item-index l.items)
