-- Where the walk of a run ends: it does, since its visits are one list.
use Rattle.std.proofs.Common.{◌≡◌, ◌∙◌, ℕ, ◌+◌, ◌<◌, ◌≤◌, ◌&&◌, zero, suc, Bool, true, false, if◌then◌else◌, List, [], ◌∷◌, length, map, drop, Some, refl, sym, ap, subst, inl, inr, arith}
use Rattle.std.specs.Prelude.{◌≢◌, slice_get, not}
use Rattle.std.specs.List.{All}
use Rattle.std.proofs.lemmas.Bool.{cases_lt, cases_order, false≢true, or_cases, or_parts, or_from}
use Rattle.std.proofs.lemmas.Option.{slice_get_within}
use Rattle.term_core_spec.specs.Value.{Assignment}
use Rattle.graph_core_spec.specs.TransitionSystem.{after, arrivals, stopped}
use Rattle.graph_core_spec.specs.declared.Next.{Next}
use Rattle.graph_core_spec.specs.declared.Next.TheVariants as next
use Rattle.graph_core_spec.specs.Graph.{Graph, Graphs}
use Rattle.graph_core_spec.specs.Run.{State, Running, system_of, has_failed}
use Rattle.graph_core_spec.specs.declared.Mark.{Mark}
use Rattle.visit_walk_spec.specs.declared.Successors.{Successors}
use Rattle.visit_walk_spec.specs.declared.Successors.TheVariants.{One, Two, Callee, Nothing}
use Rattle.visit_walk_spec.specs.Shape.{successors_at}
use Rattle.visit_walk_spec.specs.Visits.{Walk, Visit, Edge, marks, edges, edges_at, edges_of, followed, is_stop, is_bounded, is_last, is_marked_end}
use Rattle.visit_walk_spec.proofs.Order.{stop_or_bounded}
use Rattle.path_cond_spec.specs.Junctions.{junctions}
use Rattle.path_cond_spec.specs.Passages.{PassesAt}
use Rattle.path_cond_spec.specs.Runs.{IsAt, GoesOn, Visits, IsWalkOver, mark_of, is_return, is_failure, AreCounted, EndsAs}
use Rattle.path_cond_spec.proofs.Links.{linked}
use Rattle.path_cond_spec.proofs.Runs.{comes, passing, one_at_a_time}
use Rattle.path_cond_spec.proofs.Stops.{ends_as}

-- ---- where a walk doesn't go on from a visit

-- at a visit from which the walk goes on the run is at a node, and no mark ends the walk
going_on : (w : Walk) (v : Visit) (marked : Bool) (p : Next) → is_marked_end w v ≡ marked → v.place ≡ p → edges w v ≢ []
    → (is_marked_end w v ≡ false) × (is_return v.place ≡ false) × (is_failure v.place ≡ false)
unfolding edges_of
going_on w v true p is at on = absurd (on (ap (λ (b : Bool). if b then [] else edges_at w.shape (marks w) v v.place) is))
going_on w v false (next.At n) is at on = (is, ap is_return at, ap is_failure at)
going_on w v false next.Ret is at on =
    absurd (on (ap (λ (b : Bool). if b then [] else edges_at w.shape (marks w) v v.place) is ∙ ap (edges_at w.shape (marks w) v) at))
going_on w v false next.Err is at on =
    absurd (on (ap (λ (b : Bool). if b then [] else edges_at w.shape (marks w) v v.place) is ∙ ap (edges_at w.shape (marks w) v) at))

pub goes_on : (w : Walk) (v : Visit) → edges w v ≢ [] → (is_marked_end w v ≡ false) × (is_return v.place ≡ false) × (is_failure v.place ≡ false)
goes_on w v on = going_on w v (is_marked_end w v) v.place refl refl on

pub marked_ends : (w : Walk) (v : Visit) → is_marked_end w v ≡ true → edges w v ≡ []
unfolding edges_of
marked_ends w v h = ap (λ (b : Bool). if b then [] else edges_at w.shape (marks w) v v.place) h

pub placed_ends : (w : Walk) (v : Visit) → edges_at w.shape (marks w) v v.place ≡ [] → edges w v ≡ []
unfolding edges_of
placed_ends w v h = by (is_marked_end w v)
  where
    by : (b : Bool) → (if b then [] else edges_at w.shape (marks w) v v.place) ≡ []
    by true = refl
    by false = h

pub returned_ends : (w : Walk) (v : Visit) → is_return v.place ≡ true → edges w v ≡ []
returned_ends w v h = placed_ends w v (by v.place h)
  where
    by : (p : Next) → is_return p ≡ true → edges_at w.shape (marks w) v p ≡ []
    by (next.At n) e = absurd (false≢true e)
    by next.Ret e = refl
    by next.Err e = refl

pub failed_ends : (w : Walk) (v : Visit) → is_failure v.place ≡ true → edges w v ≡ []
failed_ends w v h = placed_ends w v (by v.place h)
  where
    by : (p : Next) → is_failure p ≡ true → edges_at w.shape (marks w) v p ≡ []
    by (next.At n) e = absurd (false≢true e)
    by next.Ret e = refl
    by next.Err e = refl

-- why a walk ends at a visit
pub data Ends (w : Walk) (v : Visit) : Type 0 where
  at_return : is_return v.place ≡ true → Ends w v
  at_failure : is_failure v.place ≡ true → Ends w v
  at_stop : is_stop w v ≡ true → Ends w v
  at_bound : is_bounded w v ≡ true → Ends w v
  at_cut : (n : ℕ) → v.place ≡ next.At n → successors_at w.shape n ≡ Nothing → is_stop w v ≡ false → is_bounded w v ≡ false → Ends w v

none_follows : (w : Walk) (v : Visit) (s : Successors) → followed (marks w) v s ≡ [] → s ≡ Nothing
none_follows w v (One to) e = absurd (cc)
none_follows w v (Two a b) e = absurd (cc)
none_follows w v Callee e = absurd (cc)
none_follows w v Nothing e = refl

ending : (w : Walk) (v : Visit) (marked : Bool) (p : Next) → is_marked_end w v ≡ marked → v.place ≡ p → edges w v ≡ [] → Ends w v
unfolding edges_of
ending w v true p is at none = elim (or_cases (is_stop w v) (is_bounded w v) (sym (stop_or_bounded w v) ∙ is)) [
  | inl stop ↦ at_stop stop
  | inr bound ↦ at_bound bound
]
ending w v false (next.At n) is at none =
    let e : edges_at w.shape (marks w) v v.place ≡ [] = sym (ap (λ (b : Bool). if b then [] else edges_at w.shape (marks w) v v.place) is) ∙ none in
    let parts = or_parts (is_stop w v) (is_bounded w v) (sym (stop_or_bounded w v) ∙ is) in
    at_cut n at (none_follows w v (successors_at w.shape n) (sym (ap (edges_at w.shape (marks w) v) at) ∙ e)) parts.0 parts.1
ending w v false next.Ret is at none = at_return (ap is_return at)
ending w v false next.Err is at none = at_failure (ap is_failure at)

pub why : (w : Walk) (v : Visit) → edges w v ≡ [] → Ends w v
why w v none = ending w v (is_marked_end w v) v.place refl refl none

-- ---- the end of a run's walk

module _ (graphs : Graphs) (outermost : ℕ) (g : Graph) (w : Walk) (visits : List Visit) (over : IsWalkOver graphs outermost g w visits) (first : Assignment) where
  abbrev begin : State
  begin = Running outermost w.start first []

  pub record IsEnd : Type 0 where
    pub moment : ℕ
    pub index : ℕ
    pub visit : Visit
    pub values : Assignment
    pub there : slice_get visits index ≡ Some visit
    pub here : Visits graphs outermost w begin moment visit values
    pub last : edges w visit ≡ []

  -- each passage leads to a later visit
  late : (k j : ℕ) (values : Assignment) → PassesAt g (junctions w visits) first k j values → k ≤ j
  unfolding PassesAt
  late zero j values p = omega arith
  late (suc k) j values p =
      let before : k ≤ p.edge.source = late k p.edge.source p.before p.from in
      let later : p.edge.source < j = (linked g w visits over.shape over.are).earlier j p.edge p.into in
      omega arith

  on_from : (k : ℕ) (u : Visit) (x : Assignment) → GoesOn graphs outermost w begin k → IsAt graphs outermost w begin k u x → edges w u ≢ []
      → GoesOn graphs outermost w begin (suc k)
  on_from k u x on here some = λ i v values less at. elim (cases_lt i k) [
    | inl earlier ↦ on i v values earlier at
    | inr now ↦
        let same : i ≡ k = omega arith in
        let is : v ≡ u = one_at_a_time graphs outermost w begin k v u values x (subst (λ (n : ℕ). IsAt graphs outermost w begin n v values) same at) here in
        subst (λ (y : Visit). edges w y ≢ []) (sym is) some
  ]

  turn : (k index : ℕ) (visit : Visit) (values : Assignment) → slice_get visits index ≡ Some visit → Visits graphs outermost w begin k visit values
      → (GoesOn graphs outermost w begin (suc k) → IsEnd) → (es : List Edge) → edges w visit ≡ es → IsEnd
  turn k index visit values there come onward [] e =
      record { moment = k; index = index; visit = visit; values = values; there = there; here = come; last = e }
  turn k index visit values there come onward (x ∷ es) e =
      onward (on_from k visit values come.before come.here (λ none. let bad : [] ≡ x ∷ es = sym none ∙ e in absurd (cc)))

  search_end : (left k : ℕ) → length visits ≤ k + left → GoesOn graphs outermost w begin k → IsEnd
  search_end zero k enough on =
      let p = passing graphs outermost g w visits over first k on in
      let least : k ≤ p.index = late k p.index p.values p.passes in
      let most : p.index < length visits = slice_get_within visits p.index p.visit p.there in
      absurd (omega (arith, enough, least, most))
  search_end (suc left) k enough on =
      let p = passing graphs outermost g w visits over first k on in
      let come = comes graphs outermost g w visits over first k p.index p.visit p.values p.there p.passes in
      turn k p.index p.visit p.values p.there come (λ further. search_end left (suc k) (omega (arith, enough)) further) (edges w p.visit) refl

  pub end_of : IsEnd
  end_of = search_end (length visits) 0 (omega arith) (λ i u values less at. absurd (omega (arith, less)))

  -- ---- what the run has done there, and before

  module _ (counted : AreCounted (marks w)) (end : IsEnd) where
    pub at_end : EndsAs graphs outermost w begin end.moment end.visit
    at_end = ends_as graphs outermost g w visits over first counted end.moment end.visit end.values end.here

    -- before, it neither stops nor fails, and it keeps the bounds
    pub record IsRunning (k : ℕ) : Type 0 where
      pub runs : stopped (system_of graphs outermost) (map mark_of w.stops) k begin ≡ false
      pub alive : has_failed (after (system_of graphs outermost) k begin) ≡ false
      pub kept : All (λ (b : Mark). arrivals (system_of graphs outermost) b.node k begin < b.count) w.bounds

    pub before_end : (k : ℕ) → k < end.moment → IsRunning k
    before_end k less =
        let p = passing graphs outermost g w visits over first k (λ i u values earlier at. end.here.before i u values (omega (arith, less, earlier)) at) in
        let come = comes graphs outermost g w visits over first k p.index p.visit p.values p.there p.passes in
        let free = goes_on w p.visit (end.here.before k p.visit p.values less come.here) in
        let none = or_parts (is_stop w p.visit) (is_bounded w p.visit) (sym (stop_or_bounded w p.visit) ∙ free.0) in
        let ended = ends_as graphs outermost g w visits over first counted k p.visit p.values come in
        let unbroken : is_last p.visit.place w.bounds (drop (length w.stops) p.visit.counts) ≡ false =
        ap (λ (b : Bool). not b && is_last p.visit.place w.bounds (drop (length w.stops) p.visit.counts)) (sym none.0) ∙ none.1 in
        record {
          runs = ended.stopped ∙ or_from (is_return p.visit.place) (is_stop w p.visit) free.1 none.0;
          alive = ended.failed ∙ free.2;
          kept = ended.kept.0 unbroken;
        }

    -- a walk that ends earlier, or later, ends there
    pub one_ending : (k : ℕ) (v : Visit) (values : Assignment) → Visits graphs outermost w begin k v values → edges w v ≡ [] → (k ≡ end.moment) × (v ≡ end.visit)
    one_ending k v values visit none = elim (cases_order k end.moment) [
      | inl same ↦ (
        same,
        one_at_a_time graphs outermost w begin end.moment v end.visit values end.values
            (subst (λ (n : ℕ). IsAt graphs outermost w begin n v values) same visit.here) end.here.here,
      )
      | inr apart ↦ elim apart [
        | inl less ↦ absurd (end.here.before k v values less visit.here none)
        | inr more ↦ absurd (visit.before end.moment end.visit end.values more end.here.here end.last)
      ]
    ]
