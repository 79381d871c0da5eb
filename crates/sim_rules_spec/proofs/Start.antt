-- Two states where a frame starts: an assignment for each address, and what the sides' visits say under it.
use Rattle.std.proofs.Common.{◌≡◌, ◌∙◌, ℕ, ◌+◌, ◌<◌, ◌≤◌, ◌^◌, ◌==◌, ◌&&◌, ◌||◌, zero, suc, Bool, true, false, if◌then◌else◌, List, [], ◌∷◌, ◌++◌, length, map, drop, Option, Some, None, refl, sym, ap, ap₂, subst, inl, inr, arith, get_or-drop}
use Rattle.std.specs.Prelude.{slice_get, not, nat_le, get_or, is_some, unwrap_or}
use Rattle.std.specs.List.{All, list_all}
use Rattle.std.proofs.lemmas.Bool.{cases_Bool, cases_lt, false≢true, and_parts, and_from, and_right, or_cases, or_right, or_from, eqb-true, lt-ltb, leb-true, not-true}
use Rattle.std.proofs.lemmas.List.Elements.{All-nil, All-cons, All-head, All-tail, All-map, All-weaker}
use Rattle.std.proofs.lemmas.Option.{slice_get_within, get_or_from_slice_get}
use Rattle.term_core_spec.specs.declared.Family.{Family}
use Rattle.term_core_spec.specs.Term.{Term, not_term}
use Rattle.term_core_spec.specs.Substitution.{substituted, values_of}
use Rattle.term_core_spec.specs.Value.{Assignment, Value, Truth, value}
use Rattle.term_core_spec.proofs.Substitution.{value-substituted}
use Rattle.graph_core_spec.specs.TransitionSystem as walk
use Rattle.graph_core_spec.specs.TransitionSystem.{arrivals, stopped}
use Rattle.graph_core_spec.specs.declared.Next.{Next}
use Rattle.graph_core_spec.specs.declared.Next.TheVariants as next
use Rattle.graph_core_spec.specs.Graph.{Graph, Graphs, IsValid, node_at, empty}
use Rattle.graph_core_spec.specs.Run.{State, Running, Returned, Failed, is_at, system_of, is_truth}
use Rattle.graph_core_spec.specs.Fixed.{has_byte}
use Rattle.graph_core_spec.specs.declared.Mark.{Mark}
use Rattle.visit_walk_spec.specs.Visits.{Visit, marks, edges, is_full, is_last, is_stop, is_bounded}
use Rattle.visit_walk_spec.specs.Outcomes.{AreVisits}
use Rattle.visit_walk_spec.proofs.Order.{stop_or_bounded}
use Rattle.path_cond_spec.specs.Passages.{holds}
use Rattle.path_cond_spec.specs.Runs.{IsWalkOver, IsShapeOf, AreCounted, mark_of, is_return, is_failure}
use Rattle.proof_tree_spec.specs.Frames.{Side}
use Rattle.sim_rules_spec.specs.Points.{bounded}
use Rattle.sim_rules_spec.specs.Sides.{Way, graph_at, visit_mark, condition_where, fails, arrives, breaks, unbroken}
use Rattle.sim_rules_spec.specs.Rules.{Opening, terms_at_start}
use Rattle.sim_rules_spec.specs.Proper.{IsProperSide}
use Rattle.sim_rules_spec.proofs.Truths.{IsTrue, all_pass, not_false}
use Rattle.sim_rules_spec.proofs.Sides.{joined}
use Rattle.sim_rules_spec.proofs.Ends.{marked_ends, failed_ends}
use Rattle.sim_rules_spec.proofs.Members.{arrived_last}
use Rattle.sim_rules_spec.proofs.Watched.{Watched, counts_at}

-- ---- lists

pub all_at : {X : Type 0} (P : X → Type 0) (xs : List X) (i : ℕ) (x : X) → All P xs → slice_get xs i ≡ Some x → P x
all_at P xs i x all e = subst P (get_or_from_slice_get xs i x x e) (all i x (slice_get_within xs i x e))

pub get_front : {X : Type 0} (xs ys : List X) (i : ℕ) (x : X) → slice_get xs i ≡ Some x → slice_get (xs ++ ys) i ≡ Some x
get_front [] ys i x e = absurd (cc)
get_front (z ∷ xs) ys zero x e = e
get_front (z ∷ xs) ys (suc i) x e = get_front xs ys i x e

pub get_back : {X : Type 0} (xs ys : List X) (i : ℕ) (x : X) → slice_get ys i ≡ Some x → slice_get (xs ++ ys) (length xs + i) ≡ Some x
get_back [] ys i x e = let same : 0 + i ≡ i = omega arith in ap (slice_get ys) same ∙ e
get_back (z ∷ xs) ys i x e =
    let same : length (z ∷ xs) + i ≡ suc (length xs + i) = omega arith in
    ap (slice_get (z ∷ (xs ++ ys))) same ∙ get_back xs ys i x e

-- ---- states at a node

pub running_at : (graphs : Graphs) (outermost n : ℕ) (s : State) → is_at graphs outermost n s ≡ true → (first : Assignment) × (s ≡ Running outermost n first [])
running_at graphs outermost n (Running g m values []) h =
    let parts = and_parts (g == outermost) (m == n && is_some (node_at graphs g m)) h in
    let node = and_parts (m == n) (is_some (node_at graphs g m)) parts.1 in
    (values, ap₂ (λ (i j : ℕ). Running i j values []) (eqb-true g outermost parts.0) (eqb-true m n node.0))
running_at graphs outermost n (Running g m values (f ∷ below)) h = absurd (false≢true h)
running_at graphs outermost n (Returned values) h = absurd (false≢true h)
running_at graphs outermost n Failed h = absurd (false≢true h)

-- ---- fixed bytes

pub holds_fixed : (fixed : ℕ → Option ℕ) → ((at : ℕ) → 2 ^ 32 ≤ at → fixed at ≡ None) → (memory : Value)
    → ((at : ℕ) → has_byte memory at (bounded fixed at) ≡ true) → (at : ℕ) → has_byte memory at (fixed at) ≡ true
holds_fixed fixed below memory held at = elim (cases_lt at (2 ^ 32)) [
  | inl less ↦
      ap (λ (b : Bool). has_byte memory at (if b then fixed at else Some 0)) (sym (lt-ltb at (2 ^ 32) less)) ∙ held at
  | inr more ↦ ap (has_byte memory at) (below at more) ∙ none memory
]
  where
    none : (u : Value) → has_byte u at None ≡ true
    none u = refl

-- ---- premises, under an assignment

module _ (at : ℕ) (x y : Assignment) where
  -- a term of the start is true where the line is
  pub start_line : (o : Opening) → values_of (joined at x y) (terms_at_start o) ≡ joined at x y → (line : Term)
      → holds (joined at x y) line ≡ true → IsTrue (joined at x y) (substituted (terms_at_start o) line)
  start_line o same line h =
      ap is_truth (value-substituted (joined at x y) (terms_at_start o) line) ∙ ap (λ (b : Assignment). is_truth (value b line)) same ∙ h

  pub start_lines : (o : Opening) → values_of (joined at x y) (terms_at_start o) ≡ joined at x y → (lines : List Term)
      → list_all (λ (line : Term). holds (joined at x y) line) lines ≡ true → All (IsTrue (joined at x y)) (map (substituted (terms_at_start o)) lines)
  start_lines o same lines h =
      All-map (IsTrue (joined at x y)) (substituted (terms_at_start o)) lines
      (All-weaker (λ (line : Term). holds (joined at x y) line ≡ true) (λ (line : Term). IsTrue (joined at x y) (substituted (terms_at_start o) line))
      (λ line k. start_line o same line k) lines (all_pass (λ (line : Term). holds (joined at x y) line) lines h))

-- ---- the ways of a frame's sides

module _ (side : Side) (own : Family → Bool) (proper : IsProperSide side own) (valid : All IsValid side.graphs) where
  pub graph_is : slice_get side.graphs side.outermost ≡ Some (graph_at side)
  graph_is = proper.there ∙ ap (λ (g : Graph). Some g) (sym (ap (λ (o : Option Graph). unwrap_or o empty) proper.there))

  pub walk_over : (w : Way) → w.graph ≡ graph_at side → IsShapeOf (graph_at side) w.walk.shape → (visits : List Visit) → AreVisits w.walk visits
      → IsWalkOver side.graphs side.outermost w.graph w.walk visits
  walk_over w is shape visits are = record {
    graph = graph_is ∙ ap (λ (g : Graph). Some g) (sym is);
    valid = subst IsValid (sym is) (all_at IsValid side.graphs side.outermost (graph_at side) valid graph_is);
    shape = subst (λ (g : Graph). IsShapeOf g w.walk.shape) (sym is) shape;
    are = are;
  }

-- ---- what a watched side doesn't do

module _ (graphs : Graphs) (outermost : ℕ) (own : Family → Bool) (w : Way) (visits : List Visit) (a : Assignment) (x : State)
    (counted : AreCounted (marks w.walk)) (seen : Watched graphs outermost own w visits a x) where
  last_returned : (p : Next) → is_return p ≡ true → (ms : List Mark) (counts : List ℕ) → is_last p ms counts ≡ false
  last_returned p h [] counts = refl
  last_returned p h (m ∷ ms) [] = refl
  last_returned p h (m ∷ ms) (c ∷ counts) = or_from (is_full p m c) (is_last p ms counts) (full p h) (last_returned p h ms counts)
    where
      full : (p : Next) → is_return p ≡ true → is_full p m c ≡ false
      full (next.At n) e = absurd (false≢true e)
      full next.Ret e = refl
      full next.Err e = refl

  -- where the run keeps its bounds until it stops, its walk ends at none
  pub unbounded : (stopped (system_of graphs outermost) (map mark_of w.walk.stops) seen.moment x ≡ false
      → All (λ (b : Mark). arrivals (system_of graphs outermost) b.node seen.moment x < b.count) w.walk.bounds) → is_bounded w.walk seen.visit ≡ false
  unbounded kept = elim (cases_Bool (is_return seen.visit.place || is_stop w.walk seen.visit)) [
    | inl stops ↦ elim (or_cases (is_return seen.visit.place) (is_stop w.walk seen.visit) stops) [
      | inl returned ↦ and_right (not (is_stop w.walk seen.visit)) _ (last_returned seen.visit.place returned w.walk.bounds (drop (length w.walk.stops) seen.visit.counts))
      | inr stop ↦ ap (λ (b : Bool). not b && is_last seen.visit.place w.walk.bounds (drop (length w.walk.stops) seen.visit.counts)) stop
    ]
    | inr runs ↦ and_right (not (is_stop w.walk seen.visit)) _ (seen.bounded.1 (kept (seen.stops ∙ runs)))
  ]

  bound_count : (i : ℕ) (b : Mark) → slice_get w.walk.bounds i ≡ Some b → 1 ≤ b.count
  bound_count i b e =
      all_at (λ (m : Mark). 1 ≤ m.count) (marks w.walk) (length w.walk.stops + i) b counted (get_back w.walk.stops w.walk.bounds i b e)

  -- a bound that is broken is one of the walk's
  pub broken : (i : ℕ) (b : Mark) → slice_get w.walk.bounds i ≡ Some b → (v : Visit) → breaks w.walk b i v ≡ true → is_bounded w.walk v ≡ true
  broken i b e v h =
      let parts = and_parts (not (is_stop w.walk v)) (arrives b (length w.walk.stops + i) v) h in
      let full : is_full v.place b (get_or (drop (length w.walk.stops) v.counts) i 0) ≡ true =
      ap (is_full v.place b) (get_or-drop (length w.walk.stops) v.counts i 0) ∙ parts.1 in
      and_from (not (is_stop w.walk v)) _ parts.0 (arrived_last v.place w.walk.bounds (drop (length w.walk.stops) v.counts) i b e (bound_count i b e) full)

  pub broken_ends : (i : ℕ) (b : Mark) → slice_get w.walk.bounds i ≡ Some b → (v : Visit) → breaks w.walk b i v ≡ true → edges w.walk v ≡ []
  broken_ends i b e v h = marked_ends w.walk v (stop_or_bounded w.walk v ∙ or_right (is_stop w.walk v) (is_bounded w.walk v) (broken i b e v h))

  placed : (p : Next) (m : Mark) (n : ℕ) → is_full p m n ≡ true → (is_return p ≡ false) × (m.count ≤ n)
  placed (next.At k) m n h = (refl, leb-true m.count n (and_parts (m.node == k) (nat_le m.count n) h).1)
  placed next.Ret m n h = absurd (false≢true h)
  placed next.Err m n h = absurd (false≢true h)

  -- a bound that the run keeps until it stops isn't broken
  pub not_broken : (i : ℕ) (b : Mark) → slice_get w.walk.bounds i ≡ Some (visit_mark b)
      → (stopped (system_of graphs outermost) (map mark_of w.walk.stops) seen.moment x ≡ false → arrivals (system_of graphs outermost) b.node seen.moment x < b.count)
      → breaks w.walk (visit_mark b) i seen.visit ≡ false
  not_broken i b e kept = elim (cases_Bool (breaks w.walk (visit_mark b) i seen.visit)) [
    | inr free ↦ free
    | inl broke ↦
        let parts = and_parts (not (is_stop w.walk seen.visit)) (arrives (visit_mark b) (length w.walk.stops + i) seen.visit) broke in
        let full = placed seen.visit.place (visit_mark b) (get_or seen.visit.counts (length w.walk.stops + i) 0) parts.1 in
        let runs = seen.stops ∙ or_from (is_return seen.visit.place) (is_stop w.walk seen.visit) full.0 (not-true (is_stop w.walk seen.visit) parts.0) in
        let count : get_or seen.visit.counts (length w.walk.stops + i) 0 ≡ arrivals (system_of graphs outermost) b.node seen.moment x =
        ap (λ (cs : List ℕ). get_or cs (length w.walk.stops + i) 0) seen.counts
        ∙ counts_at (λ (m : Mark). arrivals (system_of graphs outermost) m.node seen.moment x) (marks w.walk) (length w.walk.stops + i) (visit_mark b)
        (get_back w.walk.stops w.walk.bounds i (visit_mark b) e) in
        let few = kept runs in
        absurd (omega (arith, count, few, full.1))
  ]

  -- nor is any of a front of the walk's bounds
  pub all_unbroken : (bounds : List Mark) (index : ℕ)
      → (stopped (system_of graphs outermost) (map mark_of w.walk.stops) seen.moment x ≡ false
      → All (λ (b : Mark). arrivals (system_of graphs outermost) b.node seen.moment x < b.count) bounds)
      → ((k : ℕ) (b : Mark) → slice_get bounds k ≡ Some b → slice_get w.walk.bounds (index + k) ≡ Some (visit_mark b))
      → All (IsTrue a) (unbroken w visits index bounds)
  all_unbroken [] index kept front = All-nil (IsTrue a)
  all_unbroken (b ∷ bounds) index kept front =
      let same : index + 0 ≡ index = omega arith in
      let there : slice_get w.walk.bounds index ≡ Some (visit_mark b) = ap (slice_get w.walk.bounds) (sym same) ∙ front 0 b refl in
      let free = not_broken index b there (λ runs. All-head (λ (m : Mark). arrivals (system_of graphs outermost) m.node seen.moment x < m.count) b bounds (kept runs)) in
      All-cons (IsTrue a) (not_term (condition_where w visits (breaks w.walk (visit_mark b) index))) (unbroken w visits (suc index) bounds)
      (not_false a (condition_where w visits (breaks w.walk (visit_mark b) index))
      (seen.condition (breaks w.walk (visit_mark b) index) (broken_ends index (visit_mark b) there) ∙ ap (λ (t : Bool). Truth t) free))
      (all_unbroken bounds (suc index) (λ runs. All-tail (λ (m : Mark). arrivals (system_of graphs outermost) m.node seen.moment x < m.count) b bounds (kept runs))
      (λ k m e. let next_is : suc index + k ≡ index + suc k = omega arith in ap (slice_get w.walk.bounds) next_is ∙ front (suc k) m e))

  -- it doesn't fail
  pub not_failing : is_failure seen.visit.place ≡ false → IsTrue a (not_term (condition_where w visits fails))
  not_failing alive = not_false a (condition_where w visits fails) (seen.condition fails (λ v h. failed_ends w.walk v h) ∙ ap (λ (t : Bool). Truth t) alive)
