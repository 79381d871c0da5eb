use Rattle.std.proofs.Common.{◌≡◌, ◌≤◌, map, drop}
use Rattle.elf_read_spec.specs.Image.{Image}
use Rattle.decompile.specs.Items.{item_of}
use Rattle.decompile.specs.Counts.{counted}
use Rattle.decompile.proofs.numbers.count_nodes.Given as goal

-- at most the maximum so far, and with those that are left the whole number
abbrev pub invariant-loop-item : goal.invariant-loop-item
invariant-loop-item l =
    (l.count ≤ l.fn.maximum)
    × ((image : Image) → counted l.fn.by l.count (map (item_of image) (drop l.item-index l.items)) ≡ counted l.fn.by 1 (map (item_of image) l.items))
