-- Ways of the code that were made for a side of a frame.
use Rattle.std.specs.Prelude.{◌≡◌, ◌∷◌}
use Rattle.std.specs.HashMap.{get}
use Rattle.term_core_spec.specs.Same.{same_variable}
use Rattle.graph_core.specs.Graphs.{graph_of}
use Rattle.visit_walk_spec.specs.Shape.{Shape, shape_of}
use Rattle.proof_tree_spec.specs.Frames.{Side as SpecSide}
use Rattle.proof_tree.specs.Frames.{frame_of}
use Rattle.sim_rules_spec.specs.Sides as sides
use Rattle.sim_rules_spec.specs.Sides.{graph_at, visit_mark, IsCutTo}
use Rattle.sim_rules_spec.specs.Rules.{Opening, hold_mark, restricted}
use Rattle.sim_rules_terms.specs.declared.way.Way.{Way}
use Rattle.sim_rules_terms.specs.Ways.{walk_on}
use Rattle.sim_rules.specs.declared.setup.Setup.{Setup}
use Rattle.sim_rules_spec.specs.declared.Side.{Side}
use Rattle.sim_rules.specs.declared.change.Change.{Change}
use Rattle.sim_rules.specs.declared.change.Change.TheVariants.{Plain, Holding, Restricting}
use Rattle.sim_rules.specs.Sides.{ids_at, side_at, way_at}

-- a shape for a side's walk, as a rule changes it
abbrev pub IsShapeFor : SpecSide → Change → Shape → Type 0
IsShapeFor side Plain shape = shape ≡ shape_of (graph_at side)
IsShapeFor side (Holding node) shape = shape ≡ shape_of (graph_at side)
IsShapeFor side (Restricting bound) shape = IsCutTo side bound.node shape

-- a side's way, as a rule changes it; in a restriction over this shape
abbrev pub changed : sides.Way → Change → Shape → sides.Way
changed w Plain shape = w
changed w (Holding node) shape = record w {
  walk = record { shape = w.walk.shape; start = w.walk.start; stops = visit_mark (hold_mark node) ∷ w.walk.stops; bounds = w.walk.bounds };
}
changed w (Restricting bound) shape = restricted w shape bound

-- the way is over the side's graph, its walk is the side's, as the rule changes it, and the ids of the terms of the side's
-- variables are the opening's
pub record IsMade (s : Setup) (side : Side) (change : Change) (way : Way) : Type 0 where
  pub graph_is : graph_of way.graph.now ≡ graph_at (side_at (frame_of s.frame.now) side)
  pub shape_is : IsShapeFor (side_at (frame_of s.frame.now) side) change way.shape.successors.items
  pub walk_is : (o : Opening) → walk_on way ≡ (changed (way_at o (frame_of s.frame.now) side) change way.shape.successors.items).walk
  pub ids_are : get same_variable way.terms.now ≡ ids_at s.opening side
