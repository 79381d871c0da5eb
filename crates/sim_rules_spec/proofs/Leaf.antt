-- Valid obligations of a Leaf give the simulation of its frame.
use Rattle.std.proofs.Common.{◌≡◌, ◌∙◌, ℕ, ◌+◌, ◌-◌, ◌<◌, ◌≤◌, ◌&&◌, ◌||◌, Bool, true, false, if◌then◌else◌, List, [], ◌++◌, map, Some, refl, sym, ap, ap₂, subst, inl, inr, arith}
use Rattle.std.specs.Prelude.{slice_get, get_or, Contains}
use Rattle.std.specs.List.{All, list_any}
use Rattle.std.proofs.lemmas.Bool.{cases_Bool, cases_lt, both_ways, or_cases, or_left, or_right}
use Rattle.std.proofs.lemmas.List.Elements.{All-head, All-tail, All-map, All-contains, All-weaker}
use Rattle.term_core_spec.specs.Term.{Term, truth, and_term, not_term}
use Rattle.term_core_spec.specs.Substitution.{substituted}
use Rattle.term_core_spec.specs.Value.{Assignment, Truth, value}
use Rattle.term_core_spec.proofs.Substitution.{value-substituted}
use Rattle.graph_core_spec.specs.TransitionSystem as walk
use Rattle.graph_core_spec.specs.TransitionSystem.{after, arrivals, stopped, StopsAt}
use Rattle.graph_core_spec.specs.Simulation as systems
use Rattle.graph_core_spec.specs.Simulation.{IsStart, Agree, EndsAlike, both_return, both_arrive, IsRelated}
use Rattle.graph_core_spec.proofs.Runs.{stopped_on, stops_once}
use Rattle.graph_core_spec.specs.Run.{State, Running, is_truth, system_of}
use Rattle.graph_core_spec.specs.declared.Mark.{Mark}
use Rattle.visit_walk_spec.specs.Shape.{shape_of}
use Rattle.visit_walk_spec.specs.Visits.{Visit, marks, edges, is_full, is_stop, is_bounded}
use Rattle.visit_walk_spec.specs.Outcomes.{AreVisits}
use Rattle.path_cond_spec.specs.Runs.{counts_after, mark_of, is_return, is_failure, AreCounted}
use Rattle.path_cond_spec.proofs.Edges.{contains_head, contains_tail, contains_any}
use Rattle.proof_tree_spec.specs.Frames.{Frame, Goal}
use Rattle.sim_rules_spec.specs.Points.{Convention, is_binary, is_source, values_in, all_hold, with_memory}
use Rattle.sim_rules_spec.specs.Systems.{frame_over, goal_over, relation, IsBinaryFine, IsSourceFine, IsSimulated}
use Rattle.sim_rules_spec.specs.Sides.{Way, binary_way, source_way, graph_at, visit_mark, visits_where, condition_where, returns, fails, arrives}
use Rattle.sim_rules_spec.specs.Rules.{Opening, terms_at, Stop, stops, goal_stops, comes_too, related, related_if, ends_alike, leaf_goals, leaf_terms, AreOfLeaf, AreTrueWith}
use Rattle.sim_rules_spec.specs.Proper.{IsProper, Opens}
use Rattle.sim_rules_spec.proofs.Truths.{IsTrue, all_left, all_right, all_mapped, pass_all, true-and, implied, denied, all_true}
use Rattle.sim_rules_spec.proofs.Sides.{joined, point_values}
use Rattle.sim_rules_spec.proofs.Ends.{Ends, at_return, at_failure, at_stop, at_bound, at_cut, why, returned_ends, failed_ends, marked_ends}
use Rattle.sim_rules_spec.proofs.Members.{arrived_last}
use Rattle.sim_rules_spec.proofs.Watched.{Watched, place_in, returned_place, counts_at, stops_there}
use Rattle.sim_rules_spec.proofs.Goals.{never_nothing, full_count, mark_at, walk_mark_at, goal_met, stop_of, goal_stop_in, contains_goal, returned_still, each_true, front_marks}
use Rattle.sim_rules_spec.proofs.Opened.{see_x, see_y, sorted, fixed, kept_x, kept_y, alive_source, unbroken_x, unbroken_y, unfailed_y, premises_true, counted_x, counted_y, binary_marks_are, source_marks_are}
use Rattle.sim_rules_spec.proofs.Start.{all_at, get_front, running_at, unbounded}

module _ (c : Convention) (f : Frame) (o : Opening) (proper : IsProper f) (opens : Opens c f o) (binary_visits source_visits : List Visit)
    (binary_are : AreVisits (binary_way f o.binary).walk binary_visits) (source_are : AreVisits (source_way f o.source).walk source_visits)
    (valid : AreTrueWith c (leaf_terms c o f binary_visits source_visits)) (first_x first_y : Assignment) where
  abbrev binary : Way
  binary = binary_way f o.binary

  abbrev source : Way
  source = source_way f o.source

  abbrev here_frame : systems.Frame State State
  here_frame = frame_over c o.known f

  abbrev at_x : State
  at_x = Running f.binary.outermost f.start.nodes.binary first_x []

  abbrev at_y : State
  at_y = Running f.source.outermost f.start.nodes.source first_y []

  abbrev of_x : walk.TransitionSystem State
  of_x = system_of f.binary.graphs f.binary.outermost

  abbrev of_y : walk.TransitionSystem State
  of_y = system_of f.source.graphs f.source.outermost

  counted_binary : AreCounted (map visit_mark f.start.binary_bounds)
  counted_binary = All-map (λ (m : Mark). 1 ≤ m.count) visit_mark f.start.binary_bounds proper.binary_bounds

  counted_source : AreCounted (map visit_mark f.start.source_bounds)
  counted_source = All-map (λ (m : Mark). 1 ≤ m.count) visit_mark f.start.source_bounds proper.source_bounds

  module _ (start : IsStart here_frame (IsBinaryFine c f) (IsSourceFine c f) at_x at_y) where
    -- ---- at one address

    module _ (at : ℕ) where
      abbrev values : Assignment
      values = joined at first_x first_y

      seen_x : Watched f.binary.graphs f.binary.outermost is_binary binary binary_visits values at_x
      seen_x = see_x c f o proper opens first_x first_y start at (shape_of (graph_at f.binary)) (map visit_mark f.start.binary_bounds) binary_visits (λ n. inr refl) counted_binary binary_are

      seen_y : Watched f.source.graphs f.source.outermost is_source source source_visits values at_y
      seen_y = see_y c f o proper opens first_x first_y start at (shape_of (graph_at f.source)) (map visit_mark f.start.source_bounds) source_visits (λ n. inr refl) counted_source source_are

      free_x : is_bounded binary.walk seen_x.visit ≡ false
      free_x = unbounded f.binary.graphs f.binary.outermost is_binary binary binary_visits values at_x (counted_x c f o proper opens first_x first_y _ counted_binary) seen_x
          (λ runs. All-map (λ (b : Mark). arrivals of_x b.node seen_x.moment at_x < b.count) visit_mark f.start.binary_bounds (kept_x c f o proper opens first_x first_y start seen_x.moment runs))

      free_y : is_bounded source.walk seen_y.visit ≡ false
      free_y = unbounded f.source.graphs f.source.outermost is_source source source_visits values at_y (counted_y c f o proper opens first_x first_y _ counted_source) seen_y
          (λ runs. All-map (λ (b : Mark). arrivals of_y b.node seen_y.moment at_y < b.count) visit_mark f.start.source_bounds (kept_y c f o proper opens first_x first_y start seen_y.moment runs))

      alive_y : is_failure seen_y.visit.place ≡ false
      alive_y = alive_source c f o proper opens first_x first_y start at (shape_of (graph_at f.source)) (map visit_mark f.start.source_bounds) source_visits seen_y

      stops_at_y : (is_return seen_y.visit.place || is_stop source.walk seen_y.visit) ≡ true
      stops_at_y = by (why source.walk seen_y.visit seen_y.last)
        where
          by : Ends source.walk seen_y.visit → (is_return seen_y.visit.place || is_stop source.walk seen_y.visit) ≡ true
          by (at_return h) = or_left (is_return seen_y.visit.place) (is_stop source.walk seen_y.visit) h
          by (at_failure h) = absurd (both_ways (is_failure seen_y.visit.place) alive_y h)
          by (at_stop h) = or_right (is_return seen_y.visit.place) (is_stop source.walk seen_y.visit) h
          by (at_bound h) = absurd (both_ways (is_bounded source.walk seen_y.visit) free_y h)
          by (at_cut n at_n h no_stop no_bound) = absurd (never_nothing (graph_at f.source).nodes n h)

      abbrev at_stops : List Term
      at_stops = map (comes_too c binary source binary_visits source_visits) (stops c f) ++ map (ends_alike c binary source binary_visits source_visits) (stops c f)

      goals_true : All (IsTrue values) (leaf_goals c binary source binary_visits source_visits (stops c f))
      goals_true = each_true c values (sorted c f o proper opens first_x first_y start at) (fixed c f o proper opens first_x first_y start) _ (leaf_goals c binary source binary_visits source_visits (stops c f)) valid
          (premises_true c f o proper opens first_x first_y start at (record { way = binary; visits = Some binary_visits }) (record { way = source; visits = Some source_visits })
          (unbroken_x c f o proper opens first_x first_y start at (shape_of (graph_at f.binary)) (map visit_mark f.start.binary_bounds) binary_visits counted_binary seen_x (front_marks f.start.binary_bounds))
          (unbroken_y c f o proper opens first_x first_y start at (shape_of (graph_at f.source)) (map visit_mark f.start.source_bounds) source_visits counted_source seen_y (front_marks f.start.source_bounds))
          (unfailed_y c f o proper opens first_x first_y start at (shape_of (graph_at f.source)) (map visit_mark f.start.source_bounds) source_visits counted_source seen_y))

      -- the binary doesn't fail
      alive_x : is_failure seen_x.visit.place ≡ false
      alive_x = elim (cases_Bool (is_failure seen_x.visit.place)) [
        | inl fails_there ↦
            absurd (denied values (condition_where binary binary_visits fails) (All-head (IsTrue values) (not_term (condition_where binary binary_visits fails)) at_stops goals_true)
            (seen_x.condition fails (λ v h. failed_ends binary.walk v h) ∙ ap (λ (t : Bool). Truth t) fails_there))
        | inr alive ↦ alive
      ]

      stops_at_x : (is_return seen_x.visit.place || is_stop binary.walk seen_x.visit) ≡ true
      stops_at_x = by (why binary.walk seen_x.visit seen_x.last)
        where
          by : Ends binary.walk seen_x.visit → (is_return seen_x.visit.place || is_stop binary.walk seen_x.visit) ≡ true
          by (at_return h) = or_left (is_return seen_x.visit.place) (is_stop binary.walk seen_x.visit) h
          by (at_failure h) = absurd (both_ways (is_failure seen_x.visit.place) alive_x h)
          by (at_stop h) = or_right (is_return seen_x.visit.place) (is_stop binary.walk seen_x.visit) h
          by (at_bound h) = absurd (both_ways (is_bounded binary.walk seen_x.visit) free_x h)
          by (at_cut n at_n h no_stop no_bound) = absurd (never_nothing (graph_at f.binary).nodes n h)

      ends_x : StopsAt of_x (systems.binary_marks here_frame) seen_x.moment at_x
      ends_x = subst (λ (ms : List Mark). StopsAt of_x ms seen_x.moment at_x) (binary_marks_are c f o proper opens first_x first_y)
          (record { now = seen_x.stops ∙ stops_at_x; before = λ k less. (seen_x.before k less).runs })

      ends_y : StopsAt of_y (systems.source_marks here_frame) seen_y.moment at_y
      ends_y = subst (λ (ms : List Mark). StopsAt of_y ms seen_y.moment at_y) (source_marks_are c f o proper opens first_x first_y)
          (record { now = seen_y.stops ∙ stops_at_y; before = λ k less. (seen_y.before k less).runs })

      -- where the source is at a stop the binary is, and what holds there holds
      record IsAlike (s : Stop) : Type 0 where
        binary_there : s.binary seen_x.visit ≡ true
        holds_there : all_hold (with_memory c s.lines) at (after of_x seen_x.moment at_x) (after of_y seen_y.moment at_y) ≡ true

      alike : (s : Stop) → Contains (stops c f) s → ((v : Visit) → s.binary v ≡ true → edges binary.walk v ≡ [])
          → ((v : Visit) → s.source v ≡ true → edges source.walk v ≡ []) → s.source seen_y.visit ≡ true → IsAlike s
      alike s inside ends_a ends_b here =
          let rest = All-tail (IsTrue values) (not_term (condition_where binary binary_visits fails)) at_stops goals_true in
          let a_condition = condition_where binary binary_visits s.binary in
          let b_condition = condition_where source source_visits s.source in
          let come = all_mapped (IsTrue values) (comes_too c binary source binary_visits source_visits) (stops c f)
          (all_left (IsTrue values) (map (comes_too c binary source binary_visits source_visits) (stops c f)) (map (ends_alike c binary source binary_visits source_visits) (stops c f)) rest) in
          let meet = all_mapped (IsTrue values) (ends_alike c binary source binary_visits source_visits) (stops c f)
          (all_right (IsTrue values) (map (comes_too c binary source binary_visits source_visits) (stops c f)) (map (ends_alike c binary source binary_visits source_visits) (stops c f)) rest) in
          let b_true : IsTrue values b_condition = ap is_truth (seen_y.condition s.source ends_b) ∙ here in
          let a_true : IsTrue values a_condition = implied values b_condition a_condition
          (All-contains (λ (t : Stop). IsTrue values (comes_too c binary source binary_visits source_visits t)) (stops c f) s come inside) b_true in
          let there : s.binary seen_x.visit ≡ true = sym (ap is_truth (seen_x.condition s.binary ends_a)) ∙ a_true in
          let both : IsTrue values (related_if c binary source binary_visits source_visits s) =
          implied values (and_term a_condition b_condition) (related_if c binary source binary_visits source_visits s)
          (All-contains (λ (t : Stop). IsTrue values (ends_alike c binary source binary_visits source_visits t)) (stops c f) s meet inside)
          (true-and values a_condition b_condition a_true b_true) in
          let some_a : list_any s.binary binary_visits ≡ true = contains_any s.binary binary_visits seen_x.visit seen_x.listed there in
          let some_b : list_any s.source source_visits ≡ true = contains_any s.source source_visits seen_y.visit seen_y.listed here in
          let lines_true : IsTrue values (related c binary source binary_visits source_visits s) =
          subst (IsTrue values) (ap₂ (λ (p q : Bool). if p && q then related c binary source binary_visits source_visits s else truth true) some_a some_b) both in
          let a_state = (visits_where binary binary_visits s.binary).state in
          let b_state = (visits_where source source_visits s.source).state in
          let later = point_values at first_x first_y a_state b_state (values_in (after of_x seen_x.moment at_x)) (values_in (after of_y seen_y.moment at_y))
          (seen_x.values s.binary ends_a there alive_x) (seen_y.values s.source ends_b here alive_y) in
          let each = all_mapped (IsTrue values) (substituted (terms_at a_state b_state)) (with_memory c s.lines) (all_true values (map (substituted (terms_at a_state b_state)) (with_memory c s.lines)) lines_true) in
          record {
            binary_there = there;
            holds_there = pass_all _ (with_memory c s.lines)
                (All-weaker (λ (line : Term). IsTrue values (substituted (terms_at a_state b_state) line)) _
                (λ line h. sym (ap is_truth (value-substituted values (terms_at a_state b_state) line) ∙ ap (λ (b : Assignment). is_truth (value b line)) later) ∙ h)
                (with_memory c s.lines) each);
          }

    -- ---- the end, whatever the address

    abbrev end_x : ℕ
    end_x = (seen_x 0).moment

    abbrev end_y : ℕ
    end_y = (seen_y 0).moment

    moment_x : (at : ℕ) → (seen_x at).moment ≡ end_x
    moment_x at = stops_once of_x (systems.binary_marks here_frame) (seen_x at).moment end_x at_x (ends_x at) (ends_x 0)

    moment_y : (at : ℕ) → (seen_y at).moment ≡ end_y
    moment_y at = stops_once of_y (systems.source_marks here_frame) (seen_y at).moment end_y at_y (ends_y at) (ends_y 0)

    visit_y : (at : ℕ) → (seen_y at).visit ≡ (seen_y 0).visit
    visit_y at =
        let place : (seen_y at).visit.place ≡ (seen_y 0).visit.place =
        sym (seen_y at).place ∙ ap (λ (t : ℕ). place_in (after of_y t at_y)) (moment_y at) ∙ (seen_y 0).place in
        let counts : (seen_y at).visit.counts ≡ (seen_y 0).visit.counts =
        (seen_y at).counts ∙ ap (λ (t : ℕ). counts_after f.source.graphs f.source.outermost (marks source.walk) t at_y) (moment_y at) ∙ sym (seen_y 0).counts in
        λ i. record { place = place i; counts = counts i }

    abbrev last_x : State
    last_x = after of_x end_x at_x

    abbrev last_y : State
    last_y = after of_y end_y at_y

    module _ (s : Stop) (inside : Contains (stops c f) s) (ends_a : (v : Visit) → s.binary v ≡ true → edges binary.walk v ≡ [])
        (ends_b : (v : Visit) → s.source v ≡ true → edges source.walk v ≡ []) (here : s.source (seen_y 0).visit ≡ true) where
      too : s.binary (seen_x 0).visit ≡ true
      too = (alike 0 s inside ends_a ends_b here).binary_there

      related_there : IsRelated (relation c s.lines) last_x last_y
      related_there = λ at.
          let it = alike at s inside ends_a ends_b (ap s.source (visit_y at) ∙ here) in
          subst (λ (t : ℕ). all_hold (with_memory c s.lines) at (after of_x t at_x) last_y ≡ true) (moment_x at)
          (subst (λ (u : ℕ). all_hold (with_memory c s.lines) at (after of_x (seen_x at).moment at_x) (after of_y u at_y) ≡ true) (moment_y at) it.holds_there)

    returned_alike : is_return (seen_y 0).visit.place ≡ true → EndsAlike here_frame last_x last_y
    returned_alike here =
        let s : Stop = record { binary = returns; source = returns; lines = c.returns } in
        let inside : Contains (stops c f) s = contains_head s (goal_stops 0 f.goals) in
        let ends_a = λ (v : Visit) (h : is_return v.place ≡ true). returned_ends binary.walk v h in
        let ends_b = λ (v : Visit) (h : is_return v.place ≡ true). returned_ends source.walk v h in
        both_return
        (returned_place last_x ∙ ap is_return (seen_x 0).place ∙ too s inside ends_a ends_b here)
        (returned_place last_y ∙ ap is_return (seen_y 0).place ∙ here)
        (related_there s inside ends_a ends_b here)

    goal_alike : (i : ℕ) (g : Goal) → slice_get f.goals i ≡ Some g → is_full (seen_y 0).visit.place (visit_mark g.source) (get_or (seen_y 0).visit.counts i 0) ≡ true
        → EndsAlike here_frame last_x last_y
    goal_alike i g e here =
        let s : Stop = stop_of i g in
        let zero_is : 0 + i ≡ i = omega arith in
        let inside : Contains (stops c f) s =
        contains_tail (record { binary = returns; source = returns; lines = c.returns }) s (goal_stops 0 f.goals)
        (subst (λ (n : ℕ). Contains (goal_stops 0 f.goals) (stop_of n g)) zero_is (goal_stop_in f.goals 0 i g e)) in
        let in_a : slice_get (marks binary.walk) i ≡ Some (visit_mark g.binary) =
        get_front binary.walk.stops binary.walk.bounds i (visit_mark g.binary) (mark_at c (λ k. k.binary) (λ k. k.binary) (λ k. refl) f.goals i g e) in
        let in_b : slice_get (marks source.walk) i ≡ Some (visit_mark g.source) =
        get_front source.walk.stops source.walk.bounds i (visit_mark g.source) (mark_at c (λ k. k.source) (λ k. k.source) (λ k. refl) f.goals i g e) in
        let some_a : 1 ≤ g.binary.count = all_at (λ (m : Mark). 1 ≤ m.count) (marks binary.walk) i (visit_mark g.binary) (counted_x c f o proper opens first_x first_y _ counted_binary) in_a in
        let some_b : 1 ≤ g.source.count = all_at (λ (m : Mark). 1 ≤ m.count) (marks source.walk) i (visit_mark g.source) (counted_y c f o proper opens first_x first_y _ counted_source) in_b in
        let ends_a = λ (v : Visit) (h : arrives (visit_mark g.binary) i v ≡ true).
        marked_ends binary.walk v (arrived_last v.place (marks binary.walk) v.counts i (visit_mark g.binary) in_a some_a h) in
        let ends_b = λ (v : Visit) (h : arrives (visit_mark g.source) i v ≡ true).
        marked_ends source.walk v (arrived_last v.place (marks source.walk) v.counts i (visit_mark g.source) in_b some_b h) in
        let count_a : get_or (seen_x 0).visit.counts i 0 ≡ arrivals of_x g.binary.node end_x at_x =
        ap (λ (cs : List ℕ). get_or cs i 0) (seen_x 0).counts ∙ counts_at (λ (m : Mark). arrivals of_x m.node end_x at_x) (marks binary.walk) i (visit_mark g.binary) in_a in
        let count_b : get_or (seen_y 0).visit.counts i 0 ≡ arrivals of_y g.source.node end_y at_y =
        ap (λ (cs : List ℕ). get_or cs i 0) (seen_y 0).counts ∙ counts_at (λ (m : Mark). arrivals of_y m.node end_y at_y) (marks source.walk) i (visit_mark g.source) in_b in
        let enough_a : g.binary.count ≤ get_or (seen_x 0).visit.counts i 0 =
        full_count (seen_x 0).visit.place (visit_mark g.binary) (get_or (seen_x 0).visit.counts i 0) (too s inside ends_a ends_b here) in
        let enough_b : g.source.count ≤ get_or (seen_y 0).visit.counts i 0 =
        full_count (seen_y 0).visit.place (visit_mark g.source) (get_or (seen_y 0).visit.counts i 0) here in
        both_arrive (goal_over c g) (contains_goal c f.goals i g e)
        (stops_there f.binary.graphs f.binary.outermost at_x (map mark_of binary.walk.stops) end_x i g.binary
        (walk_mark_at c (λ k. k.binary) (λ k. k.binary) (λ k. refl) f.goals i g e) some_a (λ k less. ((seen_x 0).before k less).runs) (omega (arith, count_a, enough_a)))
        (stops_there f.source.graphs f.source.outermost at_y (map mark_of source.walk.stops) end_y i g.source
        (walk_mark_at c (λ k. k.source) (λ k. k.source) (λ k. refl) f.goals i g e) some_b (λ k less. ((seen_y 0).before k less).runs) (omega (arith, count_b, enough_b)))
        (related_there s inside ends_a ends_b here)

    ends_are_alike : EndsAlike here_frame last_x last_y
    ends_are_alike = elim (or_cases (is_return (seen_y 0).visit.place) (is_stop source.walk (seen_y 0).visit) (stops_at_y 0)) [
      | inl returned ↦ returned_alike returned
      | inr stop ↦
          let met = goal_met c (λ g. g.source) (λ g. g.source) (λ g. refl) f.goals (seen_y 0).visit.place (seen_y 0).visit.counts stop in
          goal_alike met.0 met.1 met.2 met.3
    ]

    agrees : (n : ℕ) → Agree here_frame n at_x at_y
    agrees n = record {
      safe = λ k within runs. elim (cases_lt k end_x) [
        | inl less ↦ ((seen_x 0).before k less).alive
        | inr more ↦
            let same : end_x + (k - end_x) ≡ k = omega (arith, more) in
            let stays = stopped_on of_x (returned_still f.binary.graphs) (systems.binary_marks here_frame) end_x (k - end_x) at_x (ends_x 0).now in
            absurd (both_ways (stopped of_x (systems.binary_marks here_frame) k at_x) runs
            (subst (λ (t : ℕ). stopped of_x (systems.binary_marks here_frame) t at_x ≡ true) same stays))
      ];
      forth = λ t within stop.
          let same : end_x ≡ t = stops_once of_x (systems.binary_marks here_frame) end_x t at_x (ends_x 0) stop in
          (end_y, ends_y 0, subst (λ (k : ℕ). EndsAlike here_frame (after of_x k at_x) last_y) same ends_are_alike);
      back = λ u within stop.
          let same : end_y ≡ u = stops_once of_y (systems.source_marks here_frame) end_y u at_y (ends_y 0) stop in
          (end_x, ends_x 0, subst (λ (k : ℕ). EndsAlike here_frame last_x (after of_y k at_y)) same ends_are_alike);
    }

-- ---- the law

pub leaf_is_sound : (c : Convention) (f : Frame) (o : Opening) (terms : List Term) → IsProper f → Opens c f o → AreOfLeaf c o f terms → AreTrueWith c terms
    → IsSimulated c o.known f
leaf_is_sound c f o terms proper opens are valid x y start n =
    let at_x = running_at f.binary.graphs f.binary.outermost f.start.nodes.binary x start.binary_at in
    let at_y = running_at f.source.graphs f.source.outermost f.start.nodes.source y start.source_at in
    let there : IsStart (frame_over c o.known f) (IsBinaryFine c f) (IsSourceFine c f)
    (Running f.binary.outermost f.start.nodes.binary at_x.0 []) (Running f.source.outermost f.start.nodes.source at_y.0 []) =
    subst (λ (s : State). IsStart (frame_over c o.known f) (IsBinaryFine c f) (IsSourceFine c f) s (Running f.source.outermost f.start.nodes.source at_y.0 [])) at_x.1
    (subst (λ (s : State). IsStart (frame_over c o.known f) (IsBinaryFine c f) (IsSourceFine c f) x s) at_y.1 start) in
    let true_terms : AreTrueWith c (leaf_terms c o f are.binary are.source) = subst (AreTrueWith c) are.terms_are valid in
    let all = agrees c f o proper opens are.binary are.source are.binary_are are.source_are true_terms at_x.0 at_y.0 there n in
    inl (subst (λ (s : State). Agree (frame_over c o.known f) n s y) (sym at_x.1)
    (subst (λ (s : State). Agree (frame_over c o.known f) n (Running f.binary.outermost f.start.nodes.binary at_x.0 []) s) (sym at_y.1) all))
