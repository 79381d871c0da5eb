-- Valid obligations of a Restrict, and the simulation of the frame with its bound, give the simulation of the frame.
use Rattle.std.proofs.Common.{◌≡◌, ◌∙◌, ℕ, ◌+◌, ◌<◌, ◌≤◌, Bool, false, List, [], ◌∷◌, ◌++◌, length, map, Option, Some, None, refl, sym, ap, subst, inr}
use Rattle.std.specs.Prelude.{slice_get}
use Rattle.std.specs.List.{All}
use Rattle.std.proofs.lemmas.Bool.{false_from_ne_true}
use Rattle.std.proofs.lemmas.List.Elements.{All-push, All-nil, All-cons, All-head, All-map, All-append}
use Rattle.term_core_spec.specs.Term.{Term}
use Rattle.term_core_spec.specs.Value.{Assignment, Truth}
use Rattle.graph_core_spec.specs.TransitionSystem.{arrivals, stopped}
use Rattle.graph_core_spec.specs.Simulation as systems
use Rattle.graph_core_spec.specs.Simulation.{IsStart}
use Rattle.graph_core_spec.specs.Run.{State, Running, system_of}
use Rattle.graph_core_spec.specs.declared.Mark.{Mark}
use Rattle.visit_walk_spec.specs.Shape.{shape_of}
use Rattle.visit_walk_spec.specs.Visits.{Visit}
use Rattle.path_cond_spec.specs.Runs.{AreCounted}
use Rattle.proof_tree_spec.specs.Frames.{Frame, with_binary_bound, with_source_bound}
use Rattle.sim_rules_spec.specs.Points.{Convention, is_binary, is_source}
use Rattle.sim_rules_spec.specs.Systems.{frame_over, IsBinaryFine, IsSourceFine, IsSimulated}
use Rattle.sim_rules_spec.specs.Sides.{AreVisitsIf, breaks, binary_way, source_way, graph_at, visit_mark}
use Rattle.sim_rules_spec.specs.Rules.{Opening, under, AreOfBinaryRestrict, AreOfSourceRestrict, restricted, excluded, unbroken_if, unfailed_if, IsTrueWith, AreTrueWith}
use Rattle.sim_rules_spec.specs.Proper.{IsProper, Opens}
use Rattle.sim_rules_spec.proofs.Truths.{IsTrue, denied, from_under}
use Rattle.sim_rules_spec.proofs.Sides.{joined}
use Rattle.sim_rules_spec.proofs.Goals.{front_marks}
use Rattle.sim_rules_spec.proofs.Opened.{see_x, see_y, sorted, fixed, kept_x, kept_y, unbroken_x, unbroken_y, unfailed_y, premises_true, counted_x, counted_y, binary_marks_are, source_marks_are}
use Rattle.sim_rules_spec.proofs.Start.{graph_is, broken_ends, get_front, running_at}
use Rattle.sim_rules_spec.proofs.Case.{as_other}
use Rattle.sim_rules_spec.proofs.Restricted.{cut_shape, keeps}

module _ (c : Convention) (f : Frame) (o : Opening) (proper : IsProper f) (opens : Opens c f o) (bound : Mark) (counts : 1 ≤ bound.count)
    (first_x first_y : Assignment) where
  abbrev at_x : State
  at_x = Running f.binary.outermost f.start.nodes.binary first_x []

  abbrev at_y : State
  at_y = Running f.source.outermost f.start.nodes.source first_y []

  counted_binary : AreCounted (map visit_mark f.start.binary_bounds)
  counted_binary = All-map (λ (m : Mark). 1 ≤ m.count) visit_mark f.start.binary_bounds proper.binary_bounds

  counted_source : AreCounted (map visit_mark f.start.source_bounds)
  counted_source = All-map (λ (m : Mark). 1 ≤ m.count) visit_mark f.start.source_bounds proper.source_bounds

  with_bound : (bounds : List Mark) → AreCounted bounds → AreCounted (bounds ++ visit_mark bound ∷ [])
  with_bound bounds counted =
      All-append (λ (m : Mark). 1 ≤ m.count) bounds (visit_mark bound ∷ []) counted
      (All-cons (λ (m : Mark). 1 ≤ m.count) (visit_mark bound) [] counts (All-nil (λ (m : Mark). 1 ≤ m.count)))

  front_with : (ms : List Mark) (k : ℕ) (b : Mark) → slice_get ms k ≡ Some b → slice_get (map visit_mark ms ++ visit_mark bound ∷ []) (0 + k) ≡ Some (visit_mark b)
  front_with ms k b e = get_front (map visit_mark ms) (visit_mark bound ∷ []) (0 + k) (visit_mark b) (front_marks ms k b e)

  last_in : (ms : List Mark) → slice_get (map visit_mark ms ++ visit_mark bound ∷ []) (length ms) ≡ Some (visit_mark bound)
  last_in [] = refl
  last_in (m ∷ ms) = last_in ms

  module _ (start : IsStart (frame_over c o.known f) (IsBinaryFine c f) (IsSourceFine c f) at_x at_y) where
    abbrev values : Assignment
    values = joined 0 first_x first_y

    -- ---- the side that isn't restricted

    record OfSource (visits : Option (List Visit)) : Type 0 where
      kept : All (IsTrue values) (unbroken_if (source_way f o.source) visits f.start.source_bounds)
      safe : All (IsTrue values) (unfailed_if (source_way f o.source) visits)

    of_source : (visits : Option (List Visit)) → AreVisitsIf (source_way f o.source).walk visits → OfSource visits
    of_source None are = record { kept = All-nil (IsTrue values); safe = All-nil (IsTrue values) }
    of_source (Some visits) are =
        let shape = shape_of (graph_at f.source) in
        let bounds = map visit_mark f.start.source_bounds in
        let seen = see_y c f o proper opens first_x first_y start 0 shape bounds visits (λ n. inr refl) counted_source are in
        record {
          kept = unbroken_y c f o proper opens first_x first_y start 0 shape bounds visits counted_source seen (front_marks f.start.source_bounds);
          safe = unfailed_y c f o proper opens first_x first_y start 0 shape bounds visits counted_source seen;
        }

    of_binary : (visits : Option (List Visit)) → AreVisitsIf (binary_way f o.binary).walk visits
        → All (IsTrue values) (unbroken_if (binary_way f o.binary) visits f.start.binary_bounds)
    of_binary None are = All-nil (IsTrue values)
    of_binary (Some visits) are =
        let shape = shape_of (graph_at f.binary) in
        let bounds = map visit_mark f.start.binary_bounds in
        let seen = see_x c f o proper opens first_x first_y start 0 shape bounds visits (λ n. inr refl) counted_binary are in
        unbroken_x c f o proper opens first_x first_y start 0 shape bounds visits counted_binary seen (front_marks f.start.binary_bounds)

    -- ---- the side that is

    module _ (terms : List Term) (valid : AreTrueWith c terms) where
      one_true : (premises : List Term) (goal : Term) → terms ≡ under premises goal ∷ [] → All (IsTrue values) premises → IsTrue values goal
      one_true premises goal is held =
          from_under values premises goal
          (All-head (IsTrueWith c) (under premises goal) [] (subst (AreTrueWith c) is valid) values
          (sorted c f o proper opens first_x first_y start 0) (fixed c f o proper opens first_x first_y start)) held

      binary_keeps : AreOfBinaryRestrict o f bound terms → (k : ℕ)
          → stopped (system_of f.binary.graphs f.binary.outermost) (systems.binary_marks (frame_over c o.known f)) k at_x ≡ false
          → arrivals (system_of f.binary.graphs f.binary.outermost) bound.node k at_x < bound.count
      binary_keeps are k runs =
          let bounds = map visit_mark f.start.binary_bounds ++ visit_mark bound ∷ [] in
          let counted = with_bound (map visit_mark f.start.binary_bounds) counted_binary in
          let way = restricted (binary_way f o.binary) are.shape bound in
          let seen = see_x c f o proper opens first_x first_y start 0 are.shape bounds are.binary (cut_shape f.binary bound.node are.shape are.cut) counted are.binary_are in
          let other = of_source are.source are.source_are in
          let premises = premises_true c f o proper opens first_x first_y start 0 (record { way = way; visits = Some are.binary }) (record { way = source_way f o.source; visits = are.source })
          (unbroken_x c f o proper opens first_x first_y start 0 are.shape bounds are.binary counted seen (front_with f.start.binary_bounds)) other.kept other.safe in
          let goal = one_true _ (excluded way are.binary f.start.binary_bounds bound) are.terms_are premises in
          let ends = broken_ends f.binary.graphs f.binary.outermost is_binary way are.binary values at_x (counted_x c f o proper opens first_x first_y bounds counted) seen
          (length f.start.binary_bounds) (visit_mark bound) (last_in f.start.binary_bounds) in
          let free = false_from_ne_true (breaks way.walk (visit_mark bound) (length f.start.binary_bounds) seen.visit)
          (λ h. denied values _ goal (seen.condition (breaks way.walk (visit_mark bound) (length f.start.binary_bounds)) ends ∙ ap (λ (t : Bool). Truth t) h)) in
          keeps f.binary is_binary way are.binary values at_x seen f.start.binary_bounds bound
          (graph_is f.binary is_binary proper.binary start.binary_fine.kept.valid) are.cut counts refl
          (kept_x c f o proper opens first_x first_y start) free k
          (subst (λ (ms : List Mark). stopped (system_of f.binary.graphs f.binary.outermost) ms k at_x ≡ false) (sym (binary_marks_are c f o proper opens first_x first_y)) runs)

      source_keeps : AreOfSourceRestrict o f bound terms → (k : ℕ)
          → stopped (system_of f.source.graphs f.source.outermost) (systems.source_marks (frame_over c o.known f)) k at_y ≡ false
          → arrivals (system_of f.source.graphs f.source.outermost) bound.node k at_y < bound.count
      source_keeps are k runs =
          let bounds = map visit_mark f.start.source_bounds ++ visit_mark bound ∷ [] in
          let counted = with_bound (map visit_mark f.start.source_bounds) counted_source in
          let way = restricted (source_way f o.source) are.shape bound in
          let seen = see_y c f o proper opens first_x first_y start 0 are.shape bounds are.source (cut_shape f.source bound.node are.shape are.cut) counted are.source_are in
          let premises = premises_true c f o proper opens first_x first_y start 0 (record { way = binary_way f o.binary; visits = are.binary }) (record { way = way; visits = Some are.source })
          (of_binary are.binary are.binary_are)
          (unbroken_y c f o proper opens first_x first_y start 0 are.shape bounds are.source counted seen (front_with f.start.source_bounds))
          (unfailed_y c f o proper opens first_x first_y start 0 are.shape bounds are.source counted seen) in
          let goal = one_true _ (excluded way are.source f.start.source_bounds bound) are.terms_are premises in
          let ends = broken_ends f.source.graphs f.source.outermost is_source way are.source values at_y (counted_y c f o proper opens first_x first_y bounds counted) seen
          (length f.start.source_bounds) (visit_mark bound) (last_in f.start.source_bounds) in
          let free = false_from_ne_true (breaks way.walk (visit_mark bound) (length f.start.source_bounds) seen.visit)
          (λ h. denied values _ goal (seen.condition (breaks way.walk (visit_mark bound) (length f.start.source_bounds)) ends ∙ ap (λ (t : Bool). Truth t) h)) in
          keeps f.source is_source way are.source values at_y seen f.start.source_bounds bound
          (graph_is f.source is_source proper.source start.source_fine.kept.valid) are.cut counts refl
          (kept_y c f o proper opens first_x first_y start) free k
          (subst (λ (ms : List Mark). stopped (system_of f.source.graphs f.source.outermost) ms k at_y ≡ false) (sym (source_marks_are c f o proper opens first_x first_y)) runs)

-- ---- the laws

module _ (c : Convention) (f : Frame) (o : Opening) (bound : Mark) (terms : List Term) (proper : IsProper f) (opens : Opens c f o) (counts : 1 ≤ bound.count)
    (valid : AreTrueWith c terms) where
  abbrev over : systems.Frame State State
  over = frame_over c o.known f

  -- a start of the frame, at its nodes
  record Placed (x y : State) : Type 0 where
    first_x : Assignment
    first_y : Assignment
    x_is : x ≡ Running f.binary.outermost f.start.nodes.binary first_x []
    y_is : y ≡ Running f.source.outermost f.start.nodes.source first_y []
    start : IsStart over (IsBinaryFine c f) (IsSourceFine c f) (Running f.binary.outermost f.start.nodes.binary first_x []) (Running f.source.outermost f.start.nodes.source first_y [])

  placed : (x y : State) → IsStart over (IsBinaryFine c f) (IsSourceFine c f) x y → Placed x y
  placed x y start =
      let at_x = running_at f.binary.graphs f.binary.outermost f.start.nodes.binary x start.binary_at in
      let at_y = running_at f.source.graphs f.source.outermost f.start.nodes.source y start.source_at in
      record {
        first_x = at_x.0;
        first_y = at_y.0;
        x_is = at_x.1;
        y_is = at_y.1;
        start =
            subst (λ (s : State). IsStart over (IsBinaryFine c f) (IsSourceFine c f) s (Running f.source.outermost f.start.nodes.source at_y.0 [])) at_x.1
            (subst (λ (s : State). IsStart over (IsBinaryFine c f) (IsSourceFine c f) x s) at_y.1 start);
      }

  pub binary_restrict_is_sound : AreOfBinaryRestrict o f bound terms → IsSimulated c o.known (record f { start = with_binary_bound f.start bound }) → IsSimulated c o.known f
  binary_restrict_is_sound are simulated x y start n =
      let there = placed x y start in
      let new : (k : ℕ) → stopped over.binary (systems.binary_marks over) k x ≡ false → arrivals over.binary bound.node k x < bound.count =
      subst (λ (s : State). (k : ℕ) → stopped over.binary (systems.binary_marks over) k s ≡ false → arrivals over.binary bound.node k s < bound.count) (sym there.x_is)
      (binary_keeps c f o proper opens bound counts there.first_x there.first_y there.start terms valid are) in
      as_other over over.premise (f.start.binary_bounds ++ bound ∷ []) f.start.source_bounds n x y
      (simulated x y (record {
        binary_at = start.binary_at;
        source_at = start.source_at;
        premise = start.premise;
        binary_fine = start.binary_fine;
        source_fine = start.source_fine;
        binary_kept = λ m k within runs.
            All-push (λ (b : Mark). arrivals over.binary b.node k x < b.count) f.start.binary_bounds bound (start.binary_kept m k within runs) (new k runs);
        source_kept = start.source_kept;
        source_safe = start.source_safe;
      }) n)

  pub source_restrict_is_sound : AreOfSourceRestrict o f bound terms → IsSimulated c o.known (record f { start = with_source_bound f.start bound }) → IsSimulated c o.known f
  source_restrict_is_sound are simulated x y start n =
      let there = placed x y start in
      let new : (k : ℕ) → stopped over.source (systems.source_marks over) k y ≡ false → arrivals over.source bound.node k y < bound.count =
      subst (λ (s : State). (k : ℕ) → stopped over.source (systems.source_marks over) k s ≡ false → arrivals over.source bound.node k s < bound.count) (sym there.y_is)
      (source_keeps c f o proper opens bound counts there.first_x there.first_y there.start terms valid are) in
      as_other over over.premise f.start.binary_bounds (f.start.source_bounds ++ bound ∷ []) n x y
      (simulated x y (record {
        binary_at = start.binary_at;
        source_at = start.source_at;
        premise = start.premise;
        binary_fine = start.binary_fine;
        source_fine = start.source_fine;
        binary_kept = start.binary_kept;
        source_kept = λ m k within runs.
            All-push (λ (b : Mark). arrivals over.source b.node k y < b.count) f.start.source_bounds bound (start.source_kept m k within runs) (new k runs);
        source_safe = start.source_safe;
      }) n)
