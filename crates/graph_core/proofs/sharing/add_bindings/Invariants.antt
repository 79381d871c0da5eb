use Rattle.std.proofs.Common.{map, take}
use Rattle.term_bank.specs.Nodes.{Extends}
use Rattle.graph_core.specs.Graphs.{binding_of, AreShared}
use Rattle.graph_core.proofs.sharing.add_bindings.Given as goal

-- those so far are shared
abbrev pub invariant-loop-binding : goal.invariant-loop-binding
invariant-loop-binding l = record {
  extends : Extends l.fn.bank l.bank;
  shared : AreShared l.bank (map binding_of (take l.binding-index l.bindings)) l.shared.items;
}
