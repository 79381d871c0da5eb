-- Frames over graphs and terms as frames over the transition systems of the graphs.
use Rattle.std.specs.Prelude.{ℕ, ◌&&◌, ◌||◌, Bool, List, map}
use Rattle.term_core_spec.specs.Term.{Term}
use Rattle.graph_core_spec.specs.TransitionSystem.{TransitionSystem}
use Rattle.graph_core_spec.specs.Simulation as systems
use Rattle.graph_core_spec.specs.Simulation.{Simulates}
use Rattle.graph_core_spec.specs.Run.{State, Failed, has_failed, system_of}
use Rattle.graph_core_spec.specs.Sorts.{IsSorted}
use Rattle.graph_core_spec.specs.Fixed.{holds_byte}
use Rattle.proof_tree_spec.specs.Cuts.{IsFine, both}
use Rattle.proof_tree_spec.specs.Frames.{Side, Goal, Hold, Frame}
use Rattle.sim_rules_spec.specs.Points.{Convention, all_hold, with_memory, bounded, nothing, binary_memory, source_memory, entry_zone, source_zone}

-- a relation of two states, by the address at which memories are compared
abbrev pub Relation : Type 0
Relation = ℕ → State → State → Bool

abbrev pub relation : Convention → List Term → Relation
relation c lines = all_hold (with_memory c lines)

abbrev pub system_at : Side → TransitionSystem State
system_at side = system_of side.graphs side.outermost

abbrev pub goal_over : Convention → Goal → systems.Goal State State
goal_over c g = record { binary = g.binary; source = g.source; relation = relation c g.relation }

abbrev pub hold_over : Convention → Hold → systems.Hold State State
hold_over c h = record { binary = h.nodes.binary; source = h.nodes.source; relation = relation c h.relation }

-- the frame over its systems. `opening` is what is known of the states where it starts beside its premises: at a cut, that
-- memories are equal outside the zone; at the entry of the function, which values registers and locals have, too
abbrev pub frame_over : Convention → (opening : Relation) → Frame → systems.Frame State State
frame_over c opening f = record {
  binary = system_at f.binary;
  source = system_at f.source;
  binary_start = f.start.nodes.binary;
  source_start = f.start.nodes.source;
  premise = both opening (all_hold f.start.premises);
  returns = relation c c.returns;
  goals = map (goal_over c) f.goals;
  binary_bounds = f.start.binary_bounds;
  source_bounds = f.start.source_bounds;
  holds = map (hold_over c) f.holds;
}

-- what holds at entry, which speaks of values at entry alone; a binary that has failed has none
abbrev pub entry_holds : Frame → Relation
entry_holds f at x y = has_failed x || all_hold f.entry at x y

-- what always holds of the binary: its memory has no byte from 2 ^ 32 on; and until it has failed, what holds at entry, and
-- where the zone is, which speak of values at entry alone, still do
abbrev pub binary_always : Convention → Frame → ℕ → State → Bool
binary_always c f at x =
    holds_byte (bounded nothing) binary_memory at x
    && (entry_holds f at x Failed && (has_failed x || all_hold (entry_zone c) at x Failed))

-- of the source: its memory has the fixed bytes and none from 2 ^ 32 on, and until it has failed its words say where the
-- zone is
abbrev pub source_always : Convention → ℕ → State → Bool
source_always c at y = holds_byte (bounded c.fixed) source_memory at y && (has_failed y || all_hold (source_zone c) at Failed y)

-- variables have values of their sorts, and this holds now and after every number of steps
abbrev pub IsBinaryFine : Convention → Frame → State → Type 0
IsBinaryFine c f = IsFine (system_at f.binary) (IsSorted f.binary.graphs) (binary_always c f)

abbrev pub IsSourceFine : Convention → Frame → State → Type 0
IsSourceFine c f = IsFine (system_at f.source) (IsSorted f.source.graphs) (source_always c)

-- the sides agree from each start of the frame
abbrev pub IsSimulated : Convention → (opening : Relation) → Frame → Type 0
IsSimulated c opening f = Simulates (frame_over c opening f) (IsBinaryFine c f) (IsSourceFine c f)
