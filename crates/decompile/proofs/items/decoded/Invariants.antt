use Rattle.std.proofs.Common.{take}
use Rattle.decompile.specs.Items.{Decoded}
use Rattle.decompile.proofs.items.decoded.Given as goal

abbrev pub invariant-loop-address : goal.invariant-loop-address
invariant-loop-address l = Decoded l.image l.entry (take l.address-index l.words) l.items.items
