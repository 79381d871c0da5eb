use Rattle.std.proofs.Common.{◌∙◌, ◌++◌, map, ap}
use Rattle.c_graph_terms.specs.Scenes.{place_of}
use Rattle.c_types.specs.Typed.{typed_of}
use Rattle.c_graph.specs.Seen.{made_for, made_of}
use Rattle.c_graph.proofs.Making.{all_graphs, all_points}
use Rattle.c_graph.proofs.source_graph.graphs.Goals as goal

pub returns-2-clause-graphs : goal.returns-2-clause-graphs
returns-2-clause-graphs c =
    let unit = typed_of c.args.unit.now in
    let p = place_of c.args.place.now in
    all_graphs unit p c.add_graphs.new.found.items (c.in-Ok-attempt.ensures ∙ ap (λ l. map made_of l ++ map (made_for unit p) unit.bodies) c.new-found.ensures.items)

pub returns-2-clause-points : goal.returns-2-clause-points
returns-2-clause-points c =
    let unit = typed_of c.args.unit.now in
    let p = place_of c.args.place.now in
    all_points unit p c.add_graphs.new.found.items (c.in-Ok-attempt.ensures ∙ ap (λ l. map made_of l ++ map (made_for unit p) unit.bodies) c.new-found.ensures.items)
