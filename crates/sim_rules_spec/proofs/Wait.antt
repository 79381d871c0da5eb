-- Valid obligations of a Wait: the binary alone comes to the hold.
use Rattle.std.proofs.Common.{◌≡◌, ◌∙◌, ℕ, ◌<◌, ◌≤◌, zero, suc, Bool, true, false, List, [], ◌∷◌, map, Option, Some, None, refl, sym, ap, subst, inr, arith}
use Rattle.std.specs.Prelude.{get_or, nat_le, Contains}
use Rattle.std.specs.List.{All}
use Rattle.std.proofs.lemmas.Bool.{or_parts, false_from_ne_true, or_from, or_right}
use Rattle.std.proofs.lemmas.List.Elements.{All-nil, All-cons, All-head, All-tail, All-map, All-append, All-weaker}
use Rattle.std.proofs.lemmas.List.{length-map}
use Rattle.std.proofs.Math.ListN.{get_or-map}
use Rattle.term_core_spec.specs.Term.{Term, not_term}
use Rattle.term_core_spec.specs.Substitution.{substituted}
use Rattle.term_core_spec.specs.Value.{Assignment, Truth, value}
use Rattle.term_core_spec.proofs.Substitution.{value-substituted}
use Rattle.graph_core_spec.specs.TransitionSystem as walk
use Rattle.graph_core_spec.specs.TransitionSystem.{after, arrivals, reached, stopped, StopsAt}
use Rattle.graph_core_spec.specs.Simulation as systems
use Rattle.graph_core_spec.specs.Simulation.{IsStart, IsRelated}
use Rattle.graph_core_spec.proofs.Runs.{stops_once}
use Rattle.graph_core_spec.specs.Run.{State, Running, has_returned, is_truth, system_of}
use Rattle.graph_core_spec.specs.declared.Mark.{Mark}
use Rattle.visit_walk_spec.specs.Shape.{shape_of}
use Rattle.visit_walk_spec.specs.Visits.{Visit, marks, edges, is_stop}
use Rattle.path_cond_spec.specs.Runs.{mark_of, is_return, is_failure, AreCounted}
use Rattle.proof_tree_spec.specs.Frames.{Frame, Hold, binary_marks}
use Rattle.sim_rules_spec.specs.Points.{Convention, is_binary, values_in, all_hold, with_memory}
use Rattle.sim_rules_spec.specs.Systems.{frame_over, hold_over, relation, IsBinaryFine, IsSourceFine}
use Rattle.sim_rules_spec.specs.Sides.{AreVisitsIf, Way, source_way, graph_at, visit_mark, visits_where, condition_where, fails}
use Rattle.sim_rules_spec.specs.Rules.{Opening, terms_at, AreOfWait, hold_mark, waiting_way, comes_to, wait_premises, held_there, unbroken_if, AreTrueWith}
use Rattle.sim_rules_spec.specs.Proper.{IsProper, Opens}
use Rattle.sim_rules_spec.proofs.Truths.{IsTrue, all_mapped, pass_all, denied, all_true}
use Rattle.sim_rules_spec.proofs.Sides.{joined, start_values, point_values}
use Rattle.sim_rules_spec.proofs.Ends.{failed_ends, marked_ends}
use Rattle.sim_rules_spec.proofs.Members.{arrived_last}
use Rattle.sim_rules_spec.proofs.Watched.{Watched, watch, counts_at, stops_there}
use Rattle.sim_rules_spec.proofs.Goals.{full_count, each_true, front_marks}
use Rattle.sim_rules_spec.proofs.Opened.{opened, premises_hold, see_y, sorted, fixed, unbroken_y, binary_marks_are}
use Rattle.sim_rules_spec.proofs.Start.{running_at, start_lines, walk_over, all_unbroken}
use Rattle.proof_tree_spec.specs.Cuts.{Waits}
use Rattle.sim_rules_spec.proofs.Cleaned.{arrivals-zero}

module _ (c : Convention) (f : Frame) (o : Opening) (proper : IsProper f) (opens : Opens c f o) (hold : Hold) (terms : List Term)
    (are : AreOfWait c o f hold terms) (valid : AreTrueWith c terms) (first_x first_y : Assignment) where
  abbrev at_x : State
  at_x = Running f.binary.outermost f.start.nodes.binary first_x []

  abbrev at_y : State
  at_y = Running f.source.outermost f.start.nodes.source first_y []

  abbrev over : systems.Frame State State
  over = frame_over c o.known f

  abbrev of_x : walk.TransitionSystem State
  of_x = system_of f.binary.graphs f.binary.outermost

  abbrev waiting : Way
  waiting = waiting_way f o.binary hold.nodes.binary

  abbrev there : Visit → Bool
  there = comes_to hold.nodes.binary

  abbrev marks_here : List Mark
  marks_here = map visit_mark (hold_mark hold.nodes.binary ∷ binary_marks f)

  one_counts : 1 ≤ 1
  one_counts = omega arith

  counted_bounds : AreCounted (map visit_mark f.start.binary_bounds)
  counted_bounds = All-map (λ (m : Mark). 1 ≤ m.count) visit_mark f.start.binary_bounds proper.binary_bounds

  counted : AreCounted (marks waiting.walk)
  counted =
      All-append (λ (m : Mark). 1 ≤ m.count) marks_here (map visit_mark f.start.binary_bounds)
      (All-map (λ (m : Mark). 1 ≤ m.count) visit_mark (hold_mark hold.nodes.binary ∷ binary_marks f)
      (All-cons (λ (m : Mark). 1 ≤ m.count) (hold_mark hold.nodes.binary) (binary_marks f) one_counts proper.binary_goals)) counted_bounds

  counted_source : AreCounted (map visit_mark f.start.source_bounds)
  counted_source = All-map (λ (m : Mark). 1 ≤ m.count) visit_mark f.start.source_bounds proper.source_bounds

  ends : (v : Visit) → there v ≡ true → edges waiting.walk v ≡ []
  ends v h = marked_ends waiting.walk v (arrived_last v.place (marks waiting.walk) v.counts 0 (visit_mark (hold_mark hold.nodes.binary)) refl one_counts h)

  module _ (start : IsStart over (IsBinaryFine c f) (IsSourceFine c f) at_x at_y) where
    -- with one stop more the run stops no later
    fewer : (k : ℕ) → stopped of_x (map mark_of marks_here) k at_x ≡ false → stopped of_x (systems.binary_marks over) k at_x ≡ false
    unfolding reached
    fewer k runs =
        let parts = or_parts (has_returned (after of_x k at_x)) (reached of_x (map mark_of marks_here) k at_x) runs in
        let rest = or_parts (nat_le 1 (arrivals of_x hold.nodes.binary k at_x)) (reached of_x (map mark_of (map visit_mark (binary_marks f))) k at_x) parts.1 in
        subst (λ (ms : List Mark). stopped of_x ms k at_x ≡ false) (binary_marks_are c f o proper opens first_x first_y)
        (or_from (has_returned (after of_x k at_x)) (reached of_x (map mark_of (map visit_mark (binary_marks f))) k at_x) parts.0 rest.1)

    module _ (at : ℕ) where
      abbrev values : Assignment
      values = joined at first_x first_y

      seen : Watched f.binary.graphs f.binary.outermost is_binary waiting are.binary values at_x
      seen = watch f.binary.graphs f.binary.outermost is_binary waiting are.binary values
          (walk_over f.binary is_binary proper.binary start.binary_fine.kept.valid waiting refl (λ n. inr refl) are.binary are.binary_are)
          proper.binary.speaks counted (opens.binary_sorts values (sorted c f o proper opens first_x first_y start at)) first_x
          (opened c f o proper opens first_x first_y start at).binary

      of_source : (visits : Option (List Visit)) → AreVisitsIf (source_way f o.source).walk visits
          → All (IsTrue values) (unbroken_if (source_way f o.source) visits f.start.source_bounds)
      of_source None are_visits = All-nil (IsTrue values)
      of_source (Some visits) are_visits =
          let shape = shape_of (graph_at f.source) in
          let bounds = map visit_mark f.start.source_bounds in
          let seen_y = see_y c f o proper opens first_x first_y start at shape bounds visits (λ n. inr refl) counted_source are_visits in
          unbroken_y c f o proper opens first_x first_y start at shape bounds visits counted_source seen_y (front_marks f.start.source_bounds)

      premises : All (IsTrue values) (wait_premises o f (record { way = waiting; visits = Some are.binary }) (record { way = source_way f o.source; visits = are.source }))
      premises =
          All-append (IsTrue values) _ _
          (start_lines at first_x first_y o (start_values at first_x first_y o (opened c f o proper opens first_x first_y start at).binary (opened c f o proper opens first_x first_y start at).source)
          f.start.premises (premises_hold c f o proper opens first_x first_y start at))
          (All-append (IsTrue values) _ _
          (all_unbroken f.binary.graphs f.binary.outermost is_binary waiting are.binary values at_x counted seen f.start.binary_bounds 0
          (λ runs. start.binary_kept seen.moment seen.moment (omega arith) (fewer seen.moment runs)) (front_marks f.start.binary_bounds))
          (of_source are.source are.source_are))

      goals : All (IsTrue values) (not_term (condition_where waiting are.binary fails) ∷ condition_where waiting are.binary there
          ∷ held_there c o (visits_where waiting are.binary there).state hold.relation ∷ [])
      goals = each_true c values (sorted c f o proper opens first_x first_y start at) (fixed c f o proper opens first_x first_y start) _
          (not_term (condition_where waiting are.binary fails) ∷ condition_where waiting are.binary there
          ∷ held_there c o (visits_where waiting are.binary there).state hold.relation ∷ [])
          (subst (AreTrueWith c) are.terms_are valid) premises

      abbrev no_failure : Term
      no_failure = not_term (condition_where waiting are.binary fails)

      abbrev arrival : Term
      arrival = condition_where waiting are.binary there

      abbrev relation_there : Term
      relation_there = held_there c o (visits_where waiting are.binary there).state hold.relation

      comes : there seen.visit ≡ true
      comes = sym (ap is_truth (seen.condition there ends)) ∙ All-head (IsTrue values) arrival (relation_there ∷ []) (All-tail (IsTrue values) no_failure (arrival ∷ relation_there ∷ []) goals)

      alive : is_failure seen.visit.place ≡ false
      alive = false_from_ne_true _ (λ h. denied values (condition_where waiting are.binary fails) (All-head (IsTrue values) no_failure (arrival ∷ relation_there ∷ []) goals)
          (seen.condition fails (λ v k. failed_ends waiting.walk v k) ∙ ap (λ (t : Bool). Truth t) h))

      stops_now : StopsAt of_x (map mark_of marks_here) seen.moment at_x
      stops_now = record {
        now = seen.stops ∙ or_right (is_return seen.visit.place) (is_stop waiting.walk seen.visit)
            (arrived_last seen.visit.place marks_here seen.visit.counts 0 (visit_mark (hold_mark hold.nodes.binary)) refl one_counts comes);
        before = λ k less. (seen.before k less).runs;
      }

      holds_there : all_hold (with_memory c hold.relation) at (after of_x seen.moment at_x) at_y ≡ true
      holds_there =
          let state = (visits_where waiting are.binary there).state in
          let later = point_values at first_x first_y state o.source (values_in (after of_x seen.moment at_x)) first_y
          (seen.values there ends comes alive) (opened c f o proper opens first_x first_y start at).source in
          let lines = All-head (IsTrue values) relation_there [] (All-tail (IsTrue values) arrival (relation_there ∷ []) (All-tail (IsTrue values) no_failure (arrival ∷ relation_there ∷ []) goals)) in
          let each = all_mapped (IsTrue values) (substituted (terms_at state o.source)) (with_memory c hold.relation)
          (all_true values (map (substituted (terms_at state o.source)) (with_memory c hold.relation)) lines) in
          pass_all _ (with_memory c hold.relation)
          (All-weaker (λ (line : Term). IsTrue values (substituted (terms_at state o.source) line)) _
          (λ line h. sym (ap is_truth (value-substituted values (terms_at state o.source) line) ∙ ap (λ (b : Assignment). is_truth (value b line)) later) ∙ h)
          (with_memory c hold.relation) each)

    abbrev moment : ℕ
    moment = (seen 0).moment

    same_moment : (at : ℕ) → (seen at).moment ≡ moment
    same_moment at = stops_once of_x (map mark_of marks_here) (seen at).moment moment at_x (stops_now at) (stops_now 0)

    enough : 1 ≤ arrivals of_x hold.nodes.binary moment at_x
    enough =
        let count : get_or (seen 0).visit.counts 0 0 ≡ arrivals of_x hold.nodes.binary moment at_x =
        ap (λ (cs : List ℕ). get_or cs 0 0) (seen 0).counts
        ∙ counts_at (λ (m : Mark). arrivals of_x m.node moment at_x) (marks waiting.walk) 0 (visit_mark (hold_mark hold.nodes.binary)) refl in
        let full = full_count (seen 0).visit.place (visit_mark (hold_mark hold.nodes.binary)) (get_or (seen 0).visit.counts 0 0) (comes 0) in
        omega (arith, count, full)

    some_step : (t : ℕ) → 1 ≤ arrivals of_x hold.nodes.binary t at_x → 0 < t
    some_step zero some = absurd (omega (arith, some, arrivals-zero f.binary.graphs f.binary.outermost hold.nodes.binary at_x))
    some_step (suc t) some = omega arith

    waits_there : (t : ℕ) × (0 < t) × ((k : ℕ) → k < t → stopped of_x (systems.binary_marks over) k at_x ≡ false)
        × (of_x.at hold.nodes.binary (after of_x t at_x) ≡ true) × IsRelated (relation c hold.relation) (after of_x t at_x) at_y
    waits_there = (
      moment,
      some_step moment enough,
      λ k less. fewer k ((seen 0).before k less).runs,
      stops_there f.binary.graphs f.binary.outermost at_x (map mark_of marks_here) moment 0 (hold_mark hold.nodes.binary) refl one_counts (λ k less. ((seen 0).before k less).runs) enough,
      λ at. subst (λ (t : ℕ). all_hold (with_memory c hold.relation) at (after of_x t at_x) at_y ≡ true) (same_moment at) (holds_there at),
    )

-- ---- the law

contains_map : {X Y : Type 0} (h : X → Y) (xs : List X) (x : X) → Contains xs x → Contains (map h xs) (h x)
contains_map h xs x inside = (inside.0, omega (arith, inside.1, length-map xs h), get_or-map h xs inside.0 x ∙ ap h inside.2)

pub waits : (c : Convention) (f : Frame) (o : Opening) (hold : Hold) (terms : List Term) → IsProper f → Opens c f o → Contains f.holds hold
    → hold.nodes.source ≡ f.start.nodes.source → AreOfWait c o f hold terms → AreTrueWith c terms
    → Waits (frame_over c o.known f) (IsBinaryFine c f) (IsSourceFine c f) (hold_over c hold)
waits c f o hold terms proper opens inside same are valid = record {
  is_open = contains_map (hold_over c) f.holds hold inside;
  source_there = same;
  comes = λ x y start.
      let over = frame_over c o.known f in
      let at_x = running_at f.binary.graphs f.binary.outermost f.start.nodes.binary x start.binary_at in
      let at_y = running_at f.source.graphs f.source.outermost f.start.nodes.source y start.source_at in
      let placed : IsStart over (IsBinaryFine c f) (IsSourceFine c f) (Running f.binary.outermost f.start.nodes.binary at_x.0 []) (Running f.source.outermost f.start.nodes.source at_y.0 []) =
      subst (λ (s : State). IsStart over (IsBinaryFine c f) (IsSourceFine c f) s (Running f.source.outermost f.start.nodes.source at_y.0 [])) at_x.1
      (subst (λ (s : State). IsStart over (IsBinaryFine c f) (IsSourceFine c f) x s) at_y.1 start) in
      subst (λ (s : State). (t : ℕ) × (0 < t) × ((k : ℕ) → k < t → stopped over.binary (systems.binary_marks over) k s ≡ false)
      × (over.binary.at hold.nodes.binary (after over.binary t s) ≡ true) × IsRelated (relation c hold.relation) (after over.binary t s) y) (sym at_x.1)
      (subst (λ (s : State). (t : ℕ) × (0 < t) × ((k : ℕ) → k < t → stopped over.binary (systems.binary_marks over) k (Running f.binary.outermost f.start.nodes.binary at_x.0 []) ≡ false)
      × (over.binary.at hold.nodes.binary (after over.binary t (Running f.binary.outermost f.start.nodes.binary at_x.0 [])) ≡ true)
      × IsRelated (relation c hold.relation) (after over.binary t (Running f.binary.outermost f.start.nodes.binary at_x.0 [])) s) (sym at_y.1)
      (waits_there c f o proper opens hold terms are valid at_x.0 at_y.0 placed));
}
