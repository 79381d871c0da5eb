use Rattle.std.proofs.Common.{◌≡◌, map, take}
use Rattle.c_graph_terms.specs.Tables.{id_at}
use Rattle.c_graph.proofs.imports.mapped.Given as goal

abbrev pub invariant-loop-id : goal.invariant-loop-id
invariant-loop-id l = l.found.items ≡ map (id_at l.ids) (take l.id-index l.given)
