use Rattle.std.proofs.Common.{◌≡◌, ◌++◌, map, drop}
use Rattle.elf_read_spec.specs.Image.{Image}
use Rattle.decompile.specs.Items.{item_of}
use Rattle.decompile.specs.Counts.{numbered}
use Rattle.decompile.proofs.numbers.number_nodes.Given as goal

abbrev pub invariant-loop-item : goal.invariant-loop-item
invariant-loop-item l =
    (image : Image) → l.firsts.entries ++ numbered l.fn.by l.next (map (item_of image) (drop l.item-index l.items)) ≡ numbered l.fn.by 1 (map (item_of image) l.items)
