use Rattle.std.proofs.Common.{ap}
use Rattle.graph_core.specs.Graphs.{graph_of}
use Rattle.c_types_core.specs.Actions.{action_of}
use Rattle.c_graph_terms.specs.Scenes.{place_of}
use Rattle.c_types.specs.Typed.{body_of, typed_of}
use Rattle.c_graph.specs.Seen.{points_in}
use Rattle.c_graph.proofs.Making.{made_is, setting_with}
use Rattle.c_graph.proofs.source_graph.translated.Goals as goal

pub returns-3 : goal.returns-3
returns-3 c =
    let unit = typed_of c.args.unit.now in
    let p = place_of c.args.place.now in
    made_is unit p (body_of c.args.body.now) (graph_of c.in-Ok-attempt-graph.field-0) (points_in c.in-Ok-attempt.field-0.items) c.as_slice.result.now (action_of c.deref.result.now) (action_of c.deref-2.result.now)
    c.as_slice.ensures.value (ap action_of c.deref.ensures) (ap action_of c.deref-2.ensures) (c.in-Ok-attempt.ensures (setting_with unit p c.as_slice.result.now)) c.in-Ok-attempt-graph.ensures
