use Rattle.std.proofs.Common.{drop}
use Rattle.templates.specs.Viewed.{orders_of}
use Rattle.templates.proofs.Growth.{IsSoFar}
use Rattle.templates.proofs.words.add_orders.Given as goal

abbrev pub invariant-loop-i : goal.invariant-loop-i
invariant-loop-i l = IsSoFar l.fn.bank l.bank l.fn.ids.items l.ids.items orders_of l.pairs (drop l.i-index l.pairs)
