use Rattle.std.proofs.Common.{take}
use Rattle.c_graph.specs.Emitted.{AreImported}
use Rattle.c_graph.proofs.imports.import_into.Given as goal

-- the terms before this one are there
abbrev pub invariant-loop-i : goal.invariant-loop-i
invariant-loop-i l = AreImported l.fn.graph l.graph (take l.i l.bank) l.ids.items
