use Rattle.std.proofs.Common.{◌≡◌, map, take}
use Rattle.graph_inline.specs.Moved.{moved_shared}
use Rattle.graph_inline.proofs.bindings.add_bindings.Given as goal

abbrev pub invariant-loop-binding : goal.invariant-loop-binding
invariant-loop-binding l = l.found.items ≡ map (moved_shared l.variables l.table) (take l.binding-index l.bindings)
