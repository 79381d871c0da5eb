use Rattle.std.proofs.Common.{◌∙◌, List, map, sym, ap}
use Rattle.proof_tree.specs.declared.frame.Goal.{Goal}
use Rattle.proof_tree.specs.Frames.{frame_of}
use Rattle.sim_rules_spec.specs.Sides.{graph_at, visit_mark}
use Rattle.sim_rules.specs.Sides.{side_at}
use Rattle.sim_rules.specs.Marks.{bounds_with, stop_mark, stops_with}
use Rattle.sim_rules.proofs.Added.{bounds_are, made_walk, stops_are}
use Rattle.sim_rules.proofs.sides.way.Goals as goal

pub returns-4 : goal.returns-4
returns-4 c =
    let f = c.args.setup.now.frame.now in
    let one = c.one_side-one.ensures in
    let shape = c.in-Ok-attempt.field-0 in
    let graph = c.graph_at-graph.ensures ∙ ap graph_at one.run_is in
    let shape_is = c.in-Ok-attempt.ensures (side_at (frame_of f) c.args.side) (sym graph) in
    let stops = c.in-Ok-attempt-stops.ensures ∙ ap (stops_with c.args.change) (ap (λ (l : List Goal). map (stop_mark c.args.side) l) c.as_slice-goals.ensures.value ∙ stops_are f c.args.side) in
    let bounds = c.in-Ok-attempt-bounds.ensures ∙ ap (bounds_with c.args.change) (bounds_are c.one_side-one.result.bounds.now ∙ ap (map visit_mark) one.bounds_are) in
    record {
      graph_is = graph;
      shape_is = shape_is;
      walk_is = λ o. made_walk o (frame_of f) c.args.side c.args.change shape.successors.items c.one_side-one.result.start _ _ shape_is one.start_is stops bounds;
      ids_are = one.terms_are;
    }
