-- Two states where a frame starts, and what is true there under the assignment of an address.
use Rattle.std.proofs.Common.{◌≡◌, ◌∙◌, ℕ, ◌+◌, ◌<◌, ◌≤◌, ◌||◌, true, false, List, [], ◌++◌, map, Some, refl, sym, subst, inl, inr, arith}
use Rattle.std.specs.Prelude.{slice_get}
use Rattle.std.specs.List.{All}
use Rattle.std.proofs.lemmas.Bool.{cases_Bool, both_ways, and_parts}
use Rattle.std.proofs.lemmas.List.Elements.{All-nil, All-cons, All-map, All-append}
use Rattle.term_core_spec.specs.Term.{not_term}
use Rattle.term_core_spec.specs.Value.{Assignment, IsAssignment}
use Rattle.graph_core_spec.specs.TransitionSystem as walk
use Rattle.graph_core_spec.specs.TransitionSystem.{after, arrivals, stopped}
use Rattle.graph_core_spec.specs.Simulation as systems
use Rattle.graph_core_spec.specs.Simulation.{IsStart, IsRelated}
use Rattle.graph_core_spec.specs.Run.{State, Running, has_failed, system_of, Failed}
use Rattle.graph_core_spec.specs.Fixed.{has_byte, holds_byte}
use Rattle.graph_core_spec.specs.declared.Mark.{Mark}
use Rattle.visit_walk_spec.specs.Shape.{Shape}
use Rattle.visit_walk_spec.specs.Visits.{Visit}
use Rattle.visit_walk_spec.specs.Outcomes.{AreVisits}
use Rattle.path_cond_spec.specs.Runs.{IsShapeOf, mark_of, is_failure, AreCounted}
use Rattle.proof_tree_spec.specs.Frames.{Frame, binary_marks, source_marks}
use Rattle.sim_rules_spec.specs.Points.{Convention, is_binary, is_source, source_memory, all_hold, bounded, source_zone}
use Rattle.sim_rules_spec.specs.Systems.{frame_over, IsBinaryFine, IsSourceFine}
use Rattle.sim_rules_spec.specs.Sides.{unbroken, Way, graph_at, visit_mark, condition_where, fails}
use Rattle.sim_rules_spec.specs.Rules.{Seen, unbroken_if, unfailed_if, Opening, premise_terms}
use Rattle.sim_rules_spec.specs.Proper.{IsProper, IsOpened, Opens}
use Rattle.sim_rules_spec.proofs.Truths.{IsTrue}
use Rattle.sim_rules_spec.proofs.Sides.{joined, joined-sort, start_values}
use Rattle.sim_rules_spec.proofs.Watched.{Watched, watch}
use Rattle.sim_rules_spec.proofs.Goals.{not_last_failed, marks_are}
use Rattle.sim_rules_spec.proofs.Start.{holds_fixed, start_lines, walk_over, all_unbroken, not_failing}

module _ (c : Convention) (f : Frame) (o : Opening) (proper : IsProper f) (opens : Opens c f o) (first_x first_y : Assignment) where
  abbrev pub frame : systems.Frame State State
  frame = frame_over c o.known f

  abbrev pub x : State
  x = Running f.binary.outermost f.start.nodes.binary first_x []

  abbrev pub y : State
  y = Running f.source.outermost f.start.nodes.source first_y []

  abbrev pub run_x : walk.TransitionSystem State
  run_x = system_of f.binary.graphs f.binary.outermost

  abbrev pub run_y : walk.TransitionSystem State
  run_y = system_of f.source.graphs f.source.outermost

  abbrev pub stops_x : List Mark
  stops_x = map visit_mark (binary_marks f)

  abbrev pub stops_y : List Mark
  stops_y = map visit_mark (source_marks f)

  -- a way of each side, over a shape and with these bounds
  abbrev pub way_x : Shape → List Mark → Way
  way_x shape bounds = record {
    graph = graph_at f.binary;
    walk = record { shape = shape; start = f.start.nodes.binary; stops = stops_x; bounds = bounds };
    start = o.binary;
  }

  abbrev pub way_y : Shape → List Mark → Way
  way_y shape bounds = record {
    graph = graph_at f.source;
    walk = record { shape = shape; start = f.start.nodes.source; stops = stops_y; bounds = bounds };
    start = o.source;
  }

  pub binary_marks_are : map mark_of stops_x ≡ systems.binary_marks frame
  binary_marks_are = marks_are c (λ g. g.binary) (λ g. g.binary) (λ g. refl) f.goals

  pub source_marks_are : map mark_of stops_y ≡ systems.source_marks frame
  source_marks_are = marks_are c (λ g. g.source) (λ g. g.source) (λ g. refl) f.goals

  pub counted_x : (bounds : List Mark) → AreCounted bounds → AreCounted (stops_x ++ bounds)
  counted_x bounds counted = All-append (λ (m : Mark). 1 ≤ m.count) stops_x bounds (All-map (λ (m : Mark). 1 ≤ m.count) visit_mark (binary_marks f) proper.binary_goals) counted

  pub counted_y : (bounds : List Mark) → AreCounted bounds → AreCounted (stops_y ++ bounds)
  counted_y bounds counted = All-append (λ (m : Mark). 1 ≤ m.count) stops_y bounds (All-map (λ (m : Mark). 1 ≤ m.count) visit_mark (source_marks f) proper.source_goals) counted

  module _ (start : IsStart frame (IsBinaryFine c f) (IsSourceFine c f) x y) where
    known : IsRelated o.known x y
    known = λ at. (and_parts (o.known at x y) (all_hold f.start.premises at x y) (start.premise at)).0

    pub premises_hold : (at : ℕ) → all_hold f.start.premises at x y ≡ true
    premises_hold at = (and_parts (o.known at x y) (all_hold f.start.premises at x y) (start.premise at)).1

    pub fixed : (at : ℕ) → has_byte (first_y source_memory) at (c.fixed at) ≡ true
    unfolding after
    fixed = holds_fixed c.fixed opens.fixed_below (first_y source_memory)
        (λ at. (and_parts (holds_byte (bounded c.fixed) source_memory at y) (has_failed y || all_hold (source_zone c) at Failed y) (start.source_fine.held 0 at)).0)

    -- until it stops each run keeps the bounds
    pub kept_x : (k : ℕ) → stopped run_x (map mark_of stops_x) k x ≡ false → All (λ (b : Mark). arrivals run_x b.node k x < b.count) f.start.binary_bounds
    kept_x k runs = start.binary_kept k k (omega arith) (subst (λ (ms : List Mark). stopped run_x ms k x ≡ false) binary_marks_are runs)

    pub kept_y : (k : ℕ) → stopped run_y (map mark_of stops_y) k y ≡ false → All (λ (b : Mark). arrivals run_y b.node k y < b.count) f.start.source_bounds
    kept_y k runs = start.source_kept k k (omega arith) (subst (λ (ms : List Mark). stopped run_y ms k y ≡ false) source_marks_are runs)

    module _ (at : ℕ) where
      abbrev pub a : Assignment
      a = joined at first_x first_y

      pub sorted : IsAssignment a
      sorted = joined-sort at first_x first_y start.binary_fine.kept.sorted.0 start.source_fine.kept.sorted.0

      pub opened : IsOpened o at x y
      opened = opens.opened x y refl refl known start.binary_fine start.source_fine at

      pub see_x : (shape : Shape) (bounds : List Mark) (visits : List Visit) → IsShapeOf (graph_at f.binary) shape → AreCounted bounds
          → AreVisits (way_x shape bounds).walk visits → Watched f.binary.graphs f.binary.outermost is_binary (way_x shape bounds) visits a x
      see_x shape bounds visits is counted are = watch f.binary.graphs f.binary.outermost is_binary (way_x shape bounds) visits a
          (walk_over f.binary is_binary proper.binary start.binary_fine.kept.valid (way_x shape bounds) refl is visits are)
          proper.binary.speaks (counted_x bounds counted) (opens.binary_sorts a sorted) first_x opened.binary

      pub see_y : (shape : Shape) (bounds : List Mark) (visits : List Visit) → IsShapeOf (graph_at f.source) shape → AreCounted bounds
          → AreVisits (way_y shape bounds).walk visits → Watched f.source.graphs f.source.outermost is_source (way_y shape bounds) visits a y
      see_y shape bounds visits is counted are = watch f.source.graphs f.source.outermost is_source (way_y shape bounds) visits a
          (walk_over f.source is_source proper.source start.source_fine.kept.valid (way_y shape bounds) refl is visits are)
          proper.source.speaks (counted_y bounds counted) (opens.source_sorts a sorted) first_y opened.source

      -- the source doesn't fail where its walk ends
      pub alive_source : (shape : Shape) (bounds : List Mark) (visits : List Visit)
          (seen : Watched f.source.graphs f.source.outermost is_source (way_y shape bounds) visits a y) → is_failure seen.visit.place ≡ false
      alive_source shape bounds visits seen = elim (cases_Bool (is_failure seen.visit.place)) [
        | inl fails_there ↦
            let runs : stopped run_y (map mark_of stops_y) seen.moment y ≡ false = seen.stops ∙ not_last_failed seen.visit.place fails_there stops_y seen.visit.counts in
            let safe = start.source_safe seen.moment seen.moment (omega arith) (subst (λ (ms : List Mark). stopped run_y ms seen.moment y ≡ false) source_marks_are runs) in
            absurd (both_ways (is_failure seen.visit.place) (sym seen.failing ∙ safe) fails_there)
        | inr alive ↦ alive
      ]

      -- ---- premises

      pub unbroken_x : (shape : Shape) (bounds : List Mark) (visits : List Visit) → AreCounted bounds
          → (seen : Watched f.binary.graphs f.binary.outermost is_binary (way_x shape bounds) visits a x)
          → ((k : ℕ) (b : Mark) → slice_get f.start.binary_bounds k ≡ Some b → slice_get bounds (0 + k) ≡ Some (visit_mark b))
          → All (IsTrue a) (unbroken (way_x shape bounds) visits 0 f.start.binary_bounds)
      unbroken_x shape bounds visits counted seen front =
          all_unbroken f.binary.graphs f.binary.outermost is_binary (way_x shape bounds) visits a x (counted_x bounds counted) seen f.start.binary_bounds 0 (kept_x seen.moment) front

      pub unbroken_y : (shape : Shape) (bounds : List Mark) (visits : List Visit) → AreCounted bounds
          → (seen : Watched f.source.graphs f.source.outermost is_source (way_y shape bounds) visits a y)
          → ((k : ℕ) (b : Mark) → slice_get f.start.source_bounds k ≡ Some b → slice_get bounds (0 + k) ≡ Some (visit_mark b))
          → All (IsTrue a) (unbroken (way_y shape bounds) visits 0 f.start.source_bounds)
      unbroken_y shape bounds visits counted seen front =
          all_unbroken f.source.graphs f.source.outermost is_source (way_y shape bounds) visits a y (counted_y bounds counted) seen f.start.source_bounds 0 (kept_y seen.moment) front

      pub unfailed_y : (shape : Shape) (bounds : List Mark) (visits : List Visit) → AreCounted bounds
          → (seen : Watched f.source.graphs f.source.outermost is_source (way_y shape bounds) visits a y)
          → All (IsTrue a) (unfailed_if (way_y shape bounds) (Some visits))
      unfailed_y shape bounds visits counted seen =
          All-cons (IsTrue a) (not_term (condition_where (way_y shape bounds) visits fails)) []
          (not_failing f.source.graphs f.source.outermost is_source (way_y shape bounds) visits a y (counted_y bounds counted) seen (alive_source shape bounds visits seen)) (All-nil (IsTrue a))

      pub premises_true : (binary source : Seen) → All (IsTrue a) (unbroken_if binary.way binary.visits f.start.binary_bounds)
          → All (IsTrue a) (unbroken_if source.way source.visits f.start.source_bounds) → All (IsTrue a) (unfailed_if source.way source.visits)
          → All (IsTrue a) (premise_terms o f binary source)
      premises_true binary source of_x of_y safe =
          All-append (IsTrue a) _ _ (start_lines at first_x first_y o (start_values at first_x first_y o opened.binary opened.source) f.start.premises (premises_hold at))
          (All-append (IsTrue a) _ _ of_x (All-append (IsTrue a) _ _ of_y safe))
