-- The obligations that the rules of a proof leave: terms that are to be true wherever the source's memory holds the fixed
-- bytes.
use Rattle.std.specs.Prelude.{◌≡◌, ℕ, suc, ◌&&◌, Bool, true, if◌then◌else◌, List, [], ◌∷◌, ◌++◌, length, map, All, Option, Some, None}
use Rattle.std.specs.List.{fold, list_any}
use Rattle.term_core_spec.specs.Same.{same_variable}
use Rattle.term_core_spec.specs.Term.{Term, truth, and_term, or_term, not_term, open_term, over}
use Rattle.term_core_spec.specs.Value.{Value, Assignment, IsAssignment}
use Rattle.term_core_spec.specs.Substitution.{State as Terms, substituted}
use Rattle.graph_core_spec.specs.declared.Mark.{Mark}
use Rattle.graph_core_spec.specs.Fixed.{has_byte}
use Rattle.visit_walk_spec.specs.Shape.{Shape}
use Rattle.visit_walk_spec.specs.Visits.{Visit}
use Rattle.visit_walk_spec.specs.Outcomes.{AreVisits}
use Rattle.path_cond_spec.specs.Passages.{holds}
use Rattle.proof_tree_spec.specs.Frames.{Goal, Hold, Frame, binary_marks}
use Rattle.sim_rules_spec.specs.Points.{Convention, binary_memory, source_memory, zone_memory, of_sides, all_hold, same_byte, with_memory, zone_low, zone_high}
use Rattle.sim_rules_spec.specs.Systems.{Relation}
use Rattle.sim_rules_spec.specs.Sides.{Way, way, binary_way, source_way, visits_where, condition_where, visit_mark, returns, fails, arrives, breaks, unbroken, IsCutTo, AreVisitsIf}

-- ---- the terms of variables

-- where a frame starts: the terms of each side's variables, over values there; and what is known of two states that have
-- these values
pub record Opening : Type 0 where
  pub binary : Terms
  pub source : Terms
  pub known : Relation

-- the zone's memory at the start is a variable of its own
abbrev pub terms_at_start : Opening → Terms
terms_at_start o = of_sides o.binary o.source open_term

-- at a later point it is the binary's memory there
abbrev pub terms_at : (binary source : Terms) → Terms
terms_at binary source = of_sides binary source (λ v. if same_variable v zone_memory then binary binary_memory else open_term v)

-- ---- stops

-- where both sides stop: the visits of each there, and what holds there beside memory
pub record Stop : Type 0 where
  pub binary : Visit → Bool
  pub source : Visit → Bool
  pub lines : List Term

abbrev pub goal_stops : (index : ℕ) → List Goal → List Stop
goal_stops index [] = []
goal_stops index (g ∷ goals) =
    record { binary = arrives (visit_mark g.binary) index; source = arrives (visit_mark g.source) index; lines = g.relation }
    ∷ goal_stops (suc index) goals

-- return, then the goals, outermost first
abbrev pub stops : Convention → Frame → List Stop
stops c f = record { binary = returns; source = returns; lines = c.returns } ∷ goal_stops 0 f.goals

-- ---- premises

-- `and` of the terms, nested to the left
abbrev pub all_of : List Term → Term
all_of [] = truth true
all_of (t ∷ terms) = fold and_term t terms

-- what a side whose walk is acyclic gives: that no bound is broken; of a cyclic one nothing is known
abbrev pub unbroken_if : Way → Option (List Visit) → List Mark → List Term
unbroken_if w (Some visits) bounds = unbroken w visits 0 bounds
unbroken_if w None bounds = []

-- that it doesn't fail
abbrev pub unfailed_if : Way → Option (List Visit) → List Term
unfailed_if w (Some visits) = not_term (condition_where w visits fails) ∷ []
unfailed_if w None = []

-- one side of a rule: its way, and its visits, if it has a list of them
pub record Seen : Type 0 where
  pub way : Way
  pub visits : Option (List Visit)

-- the frame's premises, the bounds of the binary, those of the source, and that the source doesn't fail
abbrev pub premise_terms : Opening → Frame → (binary source : Seen) → List Term
premise_terms o f binary source =
    map (substituted (terms_at_start o)) f.start.premises
    ++ (unbroken_if binary.way binary.visits f.start.binary_bounds
    ++ (unbroken_if source.way source.visits f.start.source_bounds
    ++ unfailed_if source.way source.visits))

-- under some premises
abbrev pub under : List Term → Term → Term
under premises goal = or_term (not_term (fold and_term (truth true) premises)) goal

-- ---- Leaf

module _ (c : Convention) (binary source : Way) (binary_visits source_visits : List Visit) where
  -- where the source comes to the stop, the binary does
  abbrev pub comes_too : Stop → Term
  comes_too s = or_term (not_term (condition_where source source_visits s.source)) (condition_where binary binary_visits s.binary)

  -- what holds at the stop
  abbrev pub related : Stop → Term
  related s =
      all_of (map (substituted (terms_at (visits_where binary binary_visits s.binary).state (visits_where source source_visits s.source).state))
      (with_memory c s.lines))

  -- true where a side has no visit there
  abbrev pub related_if : Stop → Term
  related_if s = if list_any s.binary binary_visits && list_any s.source source_visits then related s else truth true

  -- where both come to the stop, it holds
  abbrev pub ends_alike : Stop → Term
  ends_alike s =
      or_term (not_term (and_term (condition_where binary binary_visits s.binary) (condition_where source source_visits s.source))) (related_if s)

  -- the binary doesn't fail; at each stop where the source comes the binary does; and at each stop what holds there
  abbrev pub leaf_goals : List Stop → List Term
  leaf_goals all = not_term (condition_where binary binary_visits fails) ∷ (map comes_too all ++ map ends_alike all)

abbrev pub leaf_terms : Convention → Opening → Frame → (binary source : List Visit) → List Term
leaf_terms c o f binary source =
    let a = binary_way f o.binary in
    let b = source_way f o.source in
    map (under (premise_terms o f (record { way = a; visits = Some binary }) (record { way = b; visits = Some source })))
    (leaf_goals c a b binary source (stops c f))

-- the obligations of a Leaf: both walks are acyclic
pub record AreOfLeaf (c : Convention) (o : Opening) (f : Frame) (terms : List Term) : Type 0 where
  pub binary : List Visit
  pub source : List Visit
  pub binary_are : AreVisits (binary_way f o.binary).walk binary
  pub source_are : AreVisits (source_way f o.source).walk source
  pub terms_are : terms ≡ leaf_terms c o f binary source

-- ---- Restrict

-- the way with one more bound, over a shape in which walks end
abbrev pub restricted : Way → Shape → Mark → Way
restricted w shape bound = record w {
  walk = record { shape = shape; start = w.walk.start; stops = w.walk.stops; bounds = w.walk.bounds ++ visit_mark bound ∷ [] };
}

-- the arrival that the new bound counts doesn't come
abbrev pub excluded : Way → List Visit → (bounds : List Mark) → Mark → Term
excluded w visits bounds bound = not_term (condition_where w visits (breaks w.walk (visit_mark bound) (length bounds)))

-- the obligation where the binary is restricted; its premises have the frame's bounds
pub record AreOfBinaryRestrict (o : Opening) (f : Frame) (bound : Mark) (terms : List Term) : Type 0 where
  pub shape : Shape
  pub cut : IsCutTo f.binary bound.node shape
  pub binary : List Visit
  pub source : Option (List Visit)
  pub binary_are : AreVisits (restricted (binary_way f o.binary) shape bound).walk binary
  pub source_are : AreVisitsIf (source_way f o.source).walk source
  pub terms_are : let a = restricted (binary_way f o.binary) shape bound in
      terms ≡ under (premise_terms o f (record { way = a; visits = Some binary }) (record { way = source_way f o.source; visits = source }))
      (excluded a binary f.start.binary_bounds bound) ∷ []

-- where the source is
pub record AreOfSourceRestrict (o : Opening) (f : Frame) (bound : Mark) (terms : List Term) : Type 0 where
  pub shape : Shape
  pub cut : IsCutTo f.source bound.node shape
  pub binary : Option (List Visit)
  pub source : List Visit
  pub binary_are : AreVisitsIf (binary_way f o.binary).walk binary
  pub source_are : AreVisits (restricted (source_way f o.source) shape bound).walk source
  pub terms_are : let b = restricted (source_way f o.source) shape bound in
      terms ≡ under (premise_terms o f (record { way = binary_way f o.binary; visits = binary }) (record { way = b; visits = Some source }))
      (excluded b source f.start.source_bounds bound) ∷ []

-- ---- Wait

-- the first arrival at a hold
abbrev pub hold_mark : ℕ → Mark
hold_mark node = record { node = node; count = 1 }

-- the binary's way, on which that arrival is a stop that comes before the goals
abbrev pub waiting_way : Frame → Terms → (node : ℕ) → Way
waiting_way f terms node = way f.binary f.start.nodes.binary (hold_mark node ∷ binary_marks f) f.start.binary_bounds terms

abbrev pub comes_to : (node : ℕ) → Visit → Bool
comes_to node = arrives (visit_mark (hold_mark node)) 0

-- the frame's premises and the bounds; that the source doesn't fail is none of them
abbrev pub wait_premises : Opening → Frame → (binary source : Seen) → List Term
wait_premises o f binary source =
    map (substituted (terms_at_start o)) f.start.premises
    ++ (unbroken_if binary.way binary.visits f.start.binary_bounds ++ unbroken_if source.way source.visits f.start.source_bounds)

-- what holds at the arrival, with the source where it starts
abbrev pub held_there : Convention → Opening → (binary : Terms) → List Term → Term
held_there c o binary lines = all_of (map (substituted (terms_at binary o.source)) (with_memory c lines))

-- the obligations where the binary alone comes to an open hold: it doesn't fail, it comes there, and the relation holds
pub record AreOfWait (c : Convention) (o : Opening) (f : Frame) (hold : Hold) (terms : List Term) : Type 0 where
  pub binary : List Visit
  pub source : Option (List Visit)
  pub binary_are : AreVisits (waiting_way f o.binary hold.nodes.binary).walk binary
  pub source_are : AreVisitsIf (source_way f o.source).walk source
  pub terms_are : let a = waiting_way f o.binary hold.nodes.binary in
      let there = visits_where a binary (comes_to hold.nodes.binary) in
      terms ≡ map (under (wait_premises o f (record { way = a; visits = Some binary }) (record { way = source_way f o.source; visits = source })))
      (not_term (condition_where a binary fails) ∷ there.condition ∷ held_there c o there.state hold.relation ∷ [])

-- ---- validity

-- the memory holds the fixed bytes
abbrev pub HasFixed : Convention → Value → Type 0
HasFixed c memory = (at : ℕ) → has_byte memory at (c.fixed at) ≡ true

-- the term is true wherever the source's memory holds the fixed bytes
abbrev pub IsTrueWith : Convention → Term → Type 0
IsTrueWith c t = (a : Assignment) → IsAssignment a → HasFixed c (a source_memory) → holds a t ≡ true

abbrev pub AreTrueWith : Convention → List Term → Type 0
AreTrueWith c terms = All (IsTrueWith c) terms

-- ---- cuts

-- where a frame starts at a cut each variable is itself, but that the binary's memory is the source's with the zone's over
-- it, and that the source's words for the zone's ends are those by values at entry
abbrev pub at_cut : Convention → Opening
at_cut c = record {
  binary = λ v. if same_variable v binary_memory then over (open_term source_memory) (open_term zone_memory) c.zone_from c.zone_to else open_term v;
  source = λ v. if same_variable v zone_low then c.zone_from else (if same_variable v zone_high then c.zone_to else open_term v);
  known = all_hold (same_byte c ∷ []);
}
