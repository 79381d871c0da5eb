-- One side of a frame.
use Rattle.std.specs.Prelude.{◌≡◌, ℕ, List, map, Option}
use Rattle.term_core_spec.specs.Substitution.{State as Terms}
use Rattle.graph_core_spec.specs.declared.Mark.{Mark}
use Rattle.proof_tree_spec.specs.Frames as spec
use Rattle.proof_tree_spec.specs.Frames.{Frame, binary_marks, source_marks}
use Rattle.proof_tree.specs.Frames.{frame_of, mark_of, side_of}
use Rattle.sim_rules_spec.specs.Rules.{Opening}
use Rattle.sim_rules_spec.specs.Sides as sides
use Rattle.std.specs.HashMap.{get}
use Rattle.term_core_spec.specs.Same.{same_variable}
use Rattle.term_core_spec.specs.declared.Variable.{Variable}
use Rattle.sim_rules_terms.specs.declared.points.Opening.{Opening as CodeOpening}
use Rattle.sim_rules.specs.declared.setup.Setup.{Setup}
use Rattle.sim_rules_spec.specs.declared.Side.{Side}
use Rattle.sim_rules_spec.specs.declared.Side.TheVariants.{Binary, Source}
use Rattle.sim_rules.specs.declared.sides.OneSide.{OneSide}

abbrev pub side_at : Frame → Side → spec.Side
side_at f Binary = f.binary
side_at f Source = f.source

-- the node where it starts
abbrev pub start_at : Frame → Side → ℕ
start_at f Binary = f.start.nodes.binary
start_at f Source = f.start.nodes.source

-- where the goals stop it
abbrev pub marks_at : Frame → Side → List Mark
marks_at f Binary = binary_marks f
marks_at f Source = source_marks f

abbrev pub bounds_at : Frame → Side → List Mark
bounds_at f Binary = f.start.binary_bounds
bounds_at f Source = f.start.source_bounds

-- the terms of its variables where it starts
abbrev pub terms_at : Opening → Side → Terms
terms_at o Binary = o.binary
terms_at o Source = o.source

-- its way
abbrev pub way_at : Opening → Frame → Side → sides.Way
way_at o f side = sides.way (side_at f side) (start_at f side) (marks_at f side) (bounds_at f side) (terms_at o side)

-- the ids of these terms
abbrev pub ids_at : CodeOpening → Side → Variable → Option ℕ
ids_at o Binary = get same_variable o.binary.now
ids_at o Source = get same_variable o.source.now

-- what the code has of a side is the side's
pub record IsOneSide (s : Setup) (side : Side) (one : OneSide) : Type 0 where
  pub run_is : side_of one.run.now ≡ side_at (frame_of s.frame.now) side
  pub start_is : one.start ≡ start_at (frame_of s.frame.now) side
  pub bounds_are : map mark_of one.bounds.now ≡ bounds_at (frame_of s.frame.now) side
  pub terms_are : get same_variable one.terms.now ≡ ids_at s.opening side
