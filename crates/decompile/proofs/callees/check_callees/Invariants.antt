use Rattle.std.proofs.Common.{ℕ, ◌<◌, get_or}
use Rattle.elf_read_spec.specs.Image.{Image}
use Rattle.decompile.specs.declared.items.Item.{Item}
use Rattle.decompile.specs.Callees.{IsListed}
use Rattle.decompile.proofs.callees.check_callees.Given as goal

-- those so far have listed callees
abbrev pub invariant-loop-item : goal.invariant-loop-item
invariant-loop-item l = (image : Image) (k : ℕ) (d : Item) → k < l.item-index → IsListed image l.entry l.size l.entries (get_or l.items k d)
