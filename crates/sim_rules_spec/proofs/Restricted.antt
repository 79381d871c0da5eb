-- A side whose walk ends where it doesn't lead to a point: where the arrival that a new bound counts is excluded, the run
-- never comes to it.
use Rattle.std.proofs.Common.{◌≡◌, ◌∙◌, ℕ, ◌+◌, ◌-◌, ◌<◌, ◌≤◌, ◌==◌, zero, suc, Bool, true, false, List, [], ◌∷◌, ◌++◌, length, map, Option, Some, refl, sym, ap, ap₂, subst, inl, inr, arith}
use Rattle.std.specs.Prelude.{slice_get, get_or, nat_le, not, is_some, option_and_then, unwrap_or}
use Rattle.std.specs.List.{All}
use Rattle.std.proofs.lemmas.Bool.{cases_Bool, cases_lt, both_ways, and_from, and_right, or_parts, or_left, or_right, eq-eqb, le-leb, false_from_ne_true, not_from_false}
use Rattle.std.proofs.lemmas.List.{length-map}
use Rattle.std.proofs.lemmas.Option.{slice_get_past}
use Rattle.std.proofs.lemmas.List.Elements.{All-nil, All-cons, All-map, All-append}
use Rattle.term_core_spec.specs.declared.Family.{Family}
use Rattle.term_core_spec.specs.Value.{Assignment}
use Rattle.graph_core_spec.specs.TransitionSystem as walk
use Rattle.graph_core_spec.specs.TransitionSystem.{after, arrivals, tick, stopped}
use Rattle.graph_core_spec.proofs.Runs.{arrivals-add, stopped_on, no_arrivals}
use Rattle.graph_core_spec.specs.declared.Next.{Next}
use Rattle.graph_core_spec.specs.declared.Next.TheVariants as next
use Rattle.graph_core_spec.specs.Graph.{Node, Graph, Graphs, node_at}
use Rattle.graph_core_spec.specs.Run.{State, is_at, has_failed, system_of}
use Rattle.graph_core_spec.specs.Sorts.{IsSorted}
use Rattle.graph_core_spec.proofs.Sorts.{stays_sorted}
use Rattle.graph_core_spec.proofs.Walks.{is_system, led}
use Rattle.graph_core_spec.specs.declared.Mark.{Mark}
use Rattle.visit_walk_spec.specs.declared.Successors.{Successors}
use Rattle.visit_walk_spec.specs.declared.Successors.TheVariants.{One, Nothing}
use Rattle.visit_walk_spec.specs.Shape.{Shape, shape_of, successors_of, successors_at}
use Rattle.visit_walk_spec.specs.Visits.{Visit, marks, is_full, is_stop, is_bounded}
use Rattle.path_cond_spec.specs.Runs.{IsShapeOf, mark_of, is_return}
use Rattle.path_cond_spec.proofs.Runs.{arrivals-suc}
use Rattle.proof_tree_spec.specs.Frames.{Side}
use Rattle.sim_rules_spec.specs.Sides.{Way, IsCutTo, graph_at, visit_mark, arrives, breaks}
use Rattle.sim_rules_spec.proofs.Ends.{Ends, at_return, at_failure, at_stop, at_bound, at_cut, why}
use Rattle.sim_rules_spec.proofs.Goals.{never_nothing, returned_still}
use Rattle.sim_rules_spec.proofs.Start.{all_at, get_back, running_at}
use Rattle.sim_rules_spec.proofs.Cleaned.{arrivals-zero}
use Rattle.sim_rules_spec.proofs.Watched.{Watched, place_in, place_running, counts_at}

-- ---- shapes

inside_shape : (shape : Shape) (n : ℕ) → successors_at shape n ≡ Nothing → n < length shape
inside_shape [] n e = absurd (cc)
inside_shape (s ∷ shape) zero e = omega arith
inside_shape (s ∷ shape) (suc n) e = let rest : n < length shape = inside_shape shape n e in omega (arith, rest)

outside_shape : (shape : Shape) (n : ℕ) → length shape ≤ n → successors_at shape n ≡ One next.Err
outside_shape shape n more = ap (λ (o : Option Successors). unwrap_or o (One next.Err)) (slice_get_past shape n more)

-- a shape that is cut is one that walks over the graph may have
pub cut_shape : (side : Side) (point : ℕ) (shape : Shape) → IsCutTo side point shape → IsShapeOf (graph_at side) shape
cut_shape side point shape cut n = elim (cases_lt n (length shape)) [
  | inl less ↦ elim (cut.each n less) [
    | inl leads ↦ inr leads.1
    | inr apart ↦ inl apart.1
  ]
  | inr more ↦ inr (outside_shape shape n more ∙ sym (outside_shape (shape_of (graph_at side)) n (omega (arith, more, cut.long))))
]

-- ---- arrivals

module _ (graphs : Graphs) (outermost : ℕ) where
  abbrev run : walk.TransitionSystem State
  run = system_of graphs outermost

  -- a run that is nowhere at a node doesn't arrive there
  never_there : (n k : ℕ) (s : State) → ((j : ℕ) → is_at graphs outermost n (after run (suc j) s) ≡ false) → arrivals run n k s ≡ 0
  never_there n zero s away = arrivals-zero graphs outermost n s
  never_there n (suc k) s away =
      arrivals-suc graphs outermost n k s ∙ ap₂ (λ (b : Bool) (c : ℕ). tick run b c) (away k) (never_there n k s away)

  -- where arrivals first are as many as a mark counts, the run is at its node
  first_there : (m : Mark) (t : ℕ) (s : State) → 1 ≤ m.count → ((k : ℕ) → k < t → arrivals run m.node k s < m.count) → m.count ≤ arrivals run m.node t s
      → is_at graphs outermost m.node (after run t s) ≡ true
  first_there m zero s some few enough = absurd (omega (arith, some, enough, arrivals-zero graphs outermost m.node s))
  first_there m (suc t) s some few enough = elim (cases_Bool (is_at graphs outermost m.node (after run (suc t) s))) [
    | inl here ↦ here
    | inr away ↦
        let same : arrivals run m.node (suc t) s ≡ arrivals run m.node t s =
        arrivals-suc graphs outermost m.node t s ∙ ap (λ (b : Bool). tick run b (arrivals run m.node t s)) away in
        let before = few t (omega arith) in
        absurd (omega (arith, same, before, enough))
  ]

  place_there : (n : ℕ) (s : State) → is_at graphs outermost n s ≡ true → place_in s ≡ next.At n
  place_there n s h = let is = running_at graphs outermost n s h in ap place_in is.1 ∙ place_running outermost n is.0

-- ---- the run of a restricted side

module _ (side : Side) (own : Family → Bool) (w : Way) (visits : List Visit) (a : Assignment) (x : State)
    (seen : Watched side.graphs side.outermost own w visits a x) (bounds : List Mark) (bound : Mark)
    (there : slice_get side.graphs side.outermost ≡ Some (graph_at side)) (cut : IsCutTo side bound.node w.walk.shape) (counts : 1 ≤ bound.count)
    (bounds_are : w.walk.bounds ≡ map visit_mark bounds ++ visit_mark bound ∷ [])
    (kept : (k : ℕ) → stopped (system_of side.graphs side.outermost) (map mark_of w.walk.stops) k x ≡ false
    → All (λ (b : Mark). arrivals (system_of side.graphs side.outermost) b.node k x < b.count) bounds)
    (excluded : breaks w.walk (visit_mark bound) (length bounds) seen.visit ≡ false) where
  abbrev system : walk.TransitionSystem State
  system = system_of side.graphs side.outermost

  abbrev stop_marks : List Mark
  stop_marks = map mark_of w.walk.stops

  bound_in : slice_get w.walk.bounds (length bounds) ≡ Some (visit_mark bound)
  bound_in =
      let long : length (map visit_mark bounds) + 0 ≡ length bounds = omega (arith, length-map bounds visit_mark) in
      ap (λ (bs : List Mark). slice_get bs (length bounds)) bounds_are
      ∙ ap (slice_get (map visit_mark bounds ++ visit_mark bound ∷ [])) (sym long)
      ∙ get_back (map visit_mark bounds) (visit_mark bound ∷ []) 0 (visit_mark bound) refl

  before : (k : ℕ) → k < seen.moment → arrivals system bound.node k x < bound.count
  before k less =
      all_at (λ (b : Mark). arrivals system b.node k x < b.count) w.walk.bounds (length bounds) (visit_mark bound) (seen.before k less).kept bound_in

  -- where it ends without a stop, the new bound is kept
  at_end : stopped system stop_marks seen.moment x ≡ false → arrivals system bound.node seen.moment x < bound.count
  at_end runs = elim (cases_lt (arrivals system bound.node seen.moment x) bound.count) [
    | inl less ↦ less
    | inr enough ↦
        let here = first_there side.graphs side.outermost bound seen.moment x counts before enough in
        let place : seen.visit.place ≡ next.At bound.node = sym seen.place ∙ place_there side.graphs side.outermost bound.node (after system seen.moment x) here in
        let count : get_or seen.visit.counts (length w.walk.stops + length bounds) 0 ≡ arrivals system bound.node seen.moment x =
        ap (λ (cs : List ℕ). get_or cs (length w.walk.stops + length bounds) 0) seen.counts
        ∙ counts_at (λ (m : Mark). arrivals system m.node seen.moment x) (marks w.walk) (length w.walk.stops + length bounds) (visit_mark bound)
        (get_back w.walk.stops w.walk.bounds (length bounds) (visit_mark bound) bound_in) in
        let full : arrives (visit_mark bound) (length w.walk.stops + length bounds) seen.visit ≡ true =
        ap₂ (λ (p : Next) (n : ℕ). is_full p (visit_mark bound) n) place count
        ∙ and_from (bound.node == bound.node) (nat_le bound.count (arrivals system bound.node seen.moment x)) (eq-eqb bound.node bound.node refl)
        (le-leb bound.count (arrivals system bound.node seen.moment x) enough) in
        let parts = or_parts (is_return seen.visit.place) (is_stop w.walk seen.visit) (sym seen.stops ∙ runs) in
        let broke = and_from (not (is_stop w.walk seen.visit)) (arrives (visit_mark bound) (length w.walk.stops + length bounds) seen.visit)
        (not_from_false (is_stop w.walk seen.visit) parts.1) full in
        absurd (both_ways (breaks w.walk (visit_mark bound) (length bounds) seen.visit) excluded broke)
  ]

  -- ---- after the end

  none_later : ((j : ℕ) → arrivals system bound.node j (after system seen.moment x) ≡ 0) → arrivals system bound.node seen.moment x < bound.count
      → (k : ℕ) → seen.moment ≤ k → arrivals system bound.node k x < bound.count
  none_later none few k more =
      let sum = arrivals-add system bound.node seen.moment (k - seen.moment) x in
      let rest = none (k - seen.moment) in
      let same : seen.moment + (k - seen.moment) ≡ k = omega (arith, more) in
      let whole : arrivals system bound.node (seen.moment + (k - seen.moment)) x ≡ arrivals system bound.node k x = ap (λ (t : ℕ). arrivals system bound.node t x) same in
      omega (arith, sum, rest, whole, few)

  node_here : (n : ℕ) → successors_at w.walk.shape n ≡ Nothing → is_some (node_at side.graphs side.outermost n) ≡ true
  node_here n nothing =
      let inside : n < length w.walk.shape = inside_shape w.walk.shape n nothing in
      let long : length (shape_of (graph_at side)) ≡ length (graph_at side).nodes = length-map (graph_at side).nodes successors_of in
      ap (λ (o : Option Graph). is_some (option_and_then (λ (g : Graph). slice_get g.nodes n) o)) there ∙ is_there (graph_at side).nodes n (omega (arith, inside, long, cut.long))
    where
      is_there : (nodes : List Node) (n : ℕ) → n < length nodes → is_some (slice_get nodes n) ≡ true
      is_there [] n less = absurd (omega (arith, less))
      is_there (node ∷ nodes) zero less = refl
      is_there (node ∷ nodes) (suc n) less = is_there nodes n (omega (arith, less))

  -- from a node that doesn't lead to the point
  from_cut : (n : ℕ) → seen.visit.place ≡ next.At n → successors_at w.walk.shape n ≡ Nothing → (j : ℕ) → arrivals system bound.node j (after system seen.moment x) ≡ 0
  from_cut n at nothing j =
      let here = seen.at_node n at (node_here n nothing) in
      never_there side.graphs side.outermost bound.node j (after system seen.moment x)
      (λ i. false_from_ne_true _ (λ comes. elim (cut.each n (inside_shape w.walk.shape n nothing)) [
        | inl leads ↦ never_nothing (graph_at side).nodes n (sym leads.1 ∙ nothing)
        | inr apart ↦ apart.0 (inr (led side.graphs side.outermost n bound.node i (after system seen.moment x) here comes))
      ]))

  ended : has_failed (after system seen.moment x) ≡ true → (j : ℕ) → arrivals system bound.node j (after system seen.moment x) ≡ 0
  ended failed j =
      no_arrivals system (is_system side.graphs side.outermost (IsSorted side.graphs) (stays_sorted side.graphs)) bound.node j (after system seen.moment x) (inr failed)

  all_kept : stopped system stop_marks seen.moment x ≡ false → All (λ (b : Mark). arrivals system b.node seen.moment x < b.count) w.walk.bounds
  all_kept runs =
      subst (All (λ (b : Mark). arrivals system b.node seen.moment x < b.count)) (sym bounds_are)
      (All-append (λ (b : Mark). arrivals system b.node seen.moment x < b.count) (map visit_mark bounds) (visit_mark bound ∷ [])
      (All-map (λ (b : Mark). arrivals system b.node seen.moment x < b.count) visit_mark bounds (kept seen.moment runs))
      (All-cons (λ (b : Mark). arrivals system b.node seen.moment x < b.count) (visit_mark bound) [] (at_end runs) (All-nil (λ (b : Mark). arrivals system b.node seen.moment x < b.count))))

  none_by : stopped system stop_marks seen.moment x ≡ false → Ends w.walk seen.visit → (j : ℕ) → arrivals system bound.node j (after system seen.moment x) ≡ 0
  none_by runs (at_return h) j =
      absurd (both_ways (stopped system stop_marks seen.moment x) runs (seen.stops ∙ or_left (is_return seen.visit.place) (is_stop w.walk seen.visit) h))
  none_by runs (at_failure h) j = ended (seen.failing ∙ h) j
  none_by runs (at_stop h) j =
      absurd (both_ways (stopped system stop_marks seen.moment x) runs (seen.stops ∙ or_right (is_return seen.visit.place) (is_stop w.walk seen.visit) h))
  none_by runs (at_bound h) j =
      absurd (both_ways (is_bounded w.walk seen.visit) (and_right (not (is_stop w.walk seen.visit)) _ (seen.bounded.1 (all_kept runs))) h)
  none_by runs (at_cut n at nothing no_stop no_bound) j = from_cut n at nothing j

  -- until it stops the run keeps the new bound
  pub keeps : (k : ℕ) → stopped system stop_marks k x ≡ false → arrivals system bound.node k x < bound.count
  keeps k runs = elim (cases_lt k seen.moment) [
    | inl less ↦ before k less
    | inr more ↦
        let same : seen.moment + (k - seen.moment) ≡ k = omega (arith, more) in
        let going : stopped system stop_marks seen.moment x ≡ false = false_from_ne_true _ (λ h.
        both_ways (stopped system stop_marks k x) runs
        (subst (λ (t : ℕ). stopped system stop_marks t x ≡ true) same (stopped_on system (returned_still side.graphs) stop_marks seen.moment (k - seen.moment) x h))) in
        none_later (none_by going (why w.walk seen.visit seen.last)) (at_end going) k more
  ]
