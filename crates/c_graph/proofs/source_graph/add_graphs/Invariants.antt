use Rattle.std.proofs.Common.{◌≡◌, ◌++◌, map, take}
use Rattle.c_graph_terms.specs.Scenes.{place_of}
use Rattle.c_types.specs.Typed.{bodies_of, typed_of}
use Rattle.c_graph.specs.Seen.{made_for, made_of}
use Rattle.c_graph.proofs.source_graph.add_graphs.Given as goal

abbrev pub invariant-loop-i : goal.invariant-loop-i
invariant-loop-i l = map made_of l.found.items ≡ map made_of l.fn.found.items ++ map (made_for (typed_of l.unit) (place_of l.place)) (bodies_of (take l.i l.unit.bodies.entries))
