use Rattle.std.proofs.Common.{◌≡◌, map, take}
use Rattle.c_graph.specs.Emitted.{binding_under}
use Rattle.c_graph.proofs.imports.mapped_bindings.Given as goal

abbrev pub invariant-loop-binding : goal.invariant-loop-binding
invariant-loop-binding l = l.found.items ≡ map (binding_under l.ids) (take l.binding-index l.given)
