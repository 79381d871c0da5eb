-- Where a run is at a visit, it has stopped, failed or broken a bound as the visit says.
use Rattle.std.proofs.Common.{◌≡◌, ◌∙◌, ℕ, ◌<◌, ◌≤◌, ◌==◌, ◌&&◌, ◌||◌, zero, suc, Bool, true, false, if◌then◌else◌, List, [], ◌∷◌, ◌++◌, length, map, drop, refl, sym, ap, ap₂, inl, inr, arith}
use Rattle.std.specs.Prelude.{◌≢◌, nat_le, Contains, is_some}
use Rattle.std.specs.List.{list_any, All}
use Rattle.std.proofs.lemmas.Bool.{cases_Bool, false≢true, eq-eqb, eqb-true, leb-true, leb-false, lt-leb, le-leb, and_parts, and_right, or_parts}
use Rattle.std.proofs.lemmas.List.Elements.{All-head, All-tail, All-cons, All-nil, All-contains, Contains-append_left, Contains-append_right}
use Rattle.term_core_spec.specs.Value.{Assignment}
use Rattle.graph_core_spec.specs.TransitionSystem.{after, arrivals, tick, reached}
use Rattle.graph_core_spec.specs.declared.Next.{Next}
use Rattle.graph_core_spec.specs.declared.Next.TheVariants as next
use Rattle.graph_core_spec.specs.Graph.{Graph, Graphs, node_at}
use Rattle.graph_core_spec.specs.Run.{State, Running, has_returned, has_failed, is_at, system_of}
use Rattle.graph_core_spec.specs.declared.Mark.{Mark}
use Rattle.visit_walk_spec.specs.Visits.{Walk, Visit, marks, edges, edges_at, edges_of, is_full, is_last, is_stop, is_marked_end}
use Rattle.path_cond_spec.specs.Runs.{state_at, Visits, IsWalkOver, mark_of, is_return, is_failure, AreCounted, EndsAs}
use Rattle.path_cond_spec.proofs.Edges.{contains_head, contains_tail, contains_any}
use Rattle.path_cond_spec.proofs.Runs.{arrivals-suc, comes, passing}

-- ---- marks, by the counts of a run

module _ (count_at : Mark → ℕ) (place : Next) where
  -- the place is the mark's node, and its count is full
  abbrev full : Mark → Bool
  full m = is_full place m (count_at m)

  last_front : (ms more : List Mark) → is_last place ms (map count_at (ms ++ more)) ≡ list_any full ms
  last_front [] more = refl
  last_front (m ∷ ms) more = ap (λ (b : Bool). full m || b) (last_front ms more)

  last_all : (ms : List Mark) → is_last place ms (map count_at ms) ≡ list_any full ms
  last_all [] = refl
  last_all (m ∷ ms) = ap (λ (b : Bool). full m || b) (last_all ms)

  drop_front : (ms more : List Mark) → drop (length ms) (map count_at (ms ++ more)) ≡ map count_at more
  drop_front [] more = refl
  drop_front (m ∷ ms) more = drop_front ms more

full_is : (place : Next) (m : Mark) (c : ℕ) → (m.count ≤ c → place ≡ next.At m.node) → nat_le m.count c ≡ is_full place m c
full_is (next.At n) m c at = elim (cases_Bool (nat_le m.count c)) [
  | inl enough ↦
      let same : next.At n ≡ next.At m.node = at (leb-true m.count c enough) in
      let node : m.node ≡ n = cc in
      enough ∙ sym (ap₂ (λ (p q : Bool). p && q) (eq-eqb m.node n node) enough)
  | inr few ↦ few ∙ sym (and_right (m.node == n) (nat_le m.count c) few)
]
full_is next.Ret m c at = elim (cases_Bool (nat_le m.count c)) [
  | inl enough ↦ let bad : next.Ret ≡ next.At m.node = at (leb-true m.count c enough) in absurd (cc)
  | inr few ↦ few
]
full_is next.Err m c at = elim (cases_Bool (nat_le m.count c)) [
  | inl enough ↦ let bad : next.Err ≡ next.At m.node = at (leb-true m.count c enough) in absurd (cc)
  | inr few ↦ few
]

-- ---- the marks of a run

module _ (graphs : Graphs) (outermost : ℕ) (g : Graph) (w : Walk) (visits : List Visit) (over : IsWalkOver graphs outermost g w visits) (first : Assignment) where
  abbrev begin : State
  begin = Running outermost w.start first []

  abbrev arrived : ℕ → Mark → ℕ
  arrived k m = arrivals (system_of graphs outermost) m.node k begin

  -- an arrival is at the node of the visit
  arrives_at : (n : ℕ) (p : Next) (values : Assignment) → is_at graphs outermost n (state_at outermost p values) ≡ true → p ≡ next.At n
  arrives_at n (next.At m) values h =
      let inner = and_parts (outermost == outermost) (m == n && is_some (node_at graphs outermost m)) h in
      let node = and_parts (m == n) (is_some (node_at graphs outermost m)) inner.1 in
      ap (λ (k : ℕ). next.At k) (eqb-true m n node.0)
  arrives_at n next.Ret values h = absurd (false≢true h)
  arrives_at n next.Err values h = absurd (false≢true h)

  ends : (u : Visit) → is_marked_end w u ≡ true → edges w u ≡ []
  unfolding edges_of
  ends u h = ap (λ (b : Bool). if b then [] else edges_at w.shape (marks w) u u.place) h

  -- where a mark's count is full, the run is at its node
  module _ (counted : AreCounted (marks w)) where
    full_at : (k : ℕ) (v : Visit) (values : Assignment) → Visits graphs outermost w begin k v values → (m : Mark) → Contains (marks w) m → m.count ≤ arrived k m → v.place ≡ next.At m.node
    unfolding arrivals
    full_at zero v values visit m c enough =
        let some : 1 ≤ m.count = All-contains (λ (x : Mark). 1 ≤ x.count) (marks w) m counted c in
        absurd (omega (arith, enough))
    full_at (suc k) v values visit m c enough = elim (cases_Bool (is_at graphs outermost m.node (after (system_of graphs outermost) (suc k) begin))) [
      | inl here ↦ arrives_at m.node v.place values (ap (is_at graphs outermost m.node) (sym visit.here.state) ∙ here)
      | inr away ↦
          let p = passing graphs outermost g w visits over first k (λ i u x less at. visit.before i u x (omega arith) at) in
          let before = comes graphs outermost g w visits over first k p.index p.visit p.values p.there p.passes in
          let same : arrived (suc k) m ≡ arrived k m =
          arrivals-suc graphs outermost m.node k begin ∙ ap (λ (b : Bool). tick (system_of graphs outermost) b (arrived k m)) away in
          let enough_before : m.count ≤ arrived k m = omega arith in
          let at : p.visit.place ≡ next.At m.node = full_at k p.visit p.values before m c enough_before in
          let is : is_full p.visit.place m (arrived k m) ≡ true =
          sym (full_is p.visit.place m (arrived k m) (λ h. at)) ∙ le-leb m.count (arrived k m) enough_before in
          let last : is_marked_end w p.visit ≡ true =
          ap (is_last p.visit.place (marks w)) before.here.counts ∙ last_all (arrived k) p.visit.place (marks w) ∙ contains_any (full (arrived k) p.visit.place) (marks w) m c is in
          absurd (visit.before k p.visit p.values (omega arith) before.here (ends p.visit last))
    ]

    module _ (k : ℕ) (v : Visit) (values : Assignment) (visit : Visits graphs outermost w begin k v values) where
      reached_is : (ms : List Mark) → ((m : Mark) → Contains ms m → Contains (marks w) m) → reached (system_of graphs outermost) (map mark_of ms) k begin ≡ list_any (full (arrived k) v.place) ms
      unfolding reached
      reached_is [] among = refl
      reached_is (m ∷ ms) among =
          ap₂ (λ (p q : Bool). p || q) (full_is v.place m (arrived k m) (full_at k v values visit m (among m (contains_head m ms))))
          (reached_is ms (λ x c. among x (contains_tail m x ms c)))

      returned_is : has_returned (state_at outermost v.place values) ≡ is_return v.place
      returned_is = by v.place
        where
          by : (p : Next) → has_returned (state_at outermost p values) ≡ is_return p
          by (next.At n) = refl
          by next.Ret = refl
          by next.Err = refl

      failed_is : has_failed (state_at outermost v.place values) ≡ is_failure v.place
      failed_is = by v.place
        where
          by : (p : Next) → has_failed (state_at outermost p values) ≡ is_failure p
          by (next.At n) = refl
          by next.Ret = refl
          by next.Err = refl

      below_from : (ms : List Mark) → ((m : Mark) → Contains ms m → Contains (marks w) m) → list_any (full (arrived k) v.place) ms ≡ false → All (λ (b : Mark). arrived k b < b.count) ms
      below_from [] among none = All-nil (λ (b : Mark). arrived k b < b.count)
      below_from (m ∷ ms) among none =
          let parts = or_parts (full (arrived k) v.place m) (list_any (full (arrived k) v.place) ms) none in
          let few : nat_le m.count (arrived k m) ≡ false = full_is v.place m (arrived k m) (full_at k v values visit m (among m (contains_head m ms))) ∙ parts.0 in
          All-cons (λ (b : Mark). arrived k b < b.count) m ms (leb-false m.count (arrived k m) few) (below_from ms (λ x c. among x (contains_tail m x ms c)) parts.1)

      below_to : (ms : List Mark) → ((m : Mark) → Contains ms m → Contains (marks w) m) → All (λ (b : Mark). arrived k b < b.count) ms → list_any (full (arrived k) v.place) ms ≡ false
      below_to [] among below = refl
      below_to (m ∷ ms) among below =
          let less : arrived k m < m.count = All-head (λ (b : Mark). arrived k b < b.count) m ms below in
          let few : full (arrived k) v.place m ≡ false =
          sym (full_is v.place m (arrived k m) (full_at k v values visit m (among m (contains_head m ms)))) ∙ lt-leb m.count (arrived k m) less in
          ap₂ (λ (p q : Bool). p || q) few (below_to ms (λ x c. among x (contains_tail m x ms c)) (All-tail (λ (b : Mark). arrived k b < b.count) m ms below))

      pub ends_as : EndsAs graphs outermost w begin k v
      ends_as =
          let in_stops : (m : Mark) → Contains w.stops m → Contains (marks w) m = λ m c. Contains-append_left w.stops w.bounds m c in
          let in_bounds : (m : Mark) → Contains w.bounds m → Contains (marks w) m = λ m c. Contains-append_right w.stops w.bounds m c in
          let stops : is_stop w v ≡ list_any (full (arrived k) v.place) w.stops =
          ap (is_last v.place w.stops) visit.here.counts ∙ last_front (arrived k) v.place w.stops w.bounds in
          let bounds : is_last v.place w.bounds (drop (length w.stops) v.counts) ≡ list_any (full (arrived k) v.place) w.bounds =
          ap (λ (cs : List ℕ). is_last v.place w.bounds (drop (length w.stops) cs)) visit.here.counts
          ∙ ap (is_last v.place w.bounds) (drop_front (arrived k) v.place w.stops w.bounds) ∙ last_all (arrived k) v.place w.bounds in
          record {
            stopped =
                ap₂ (λ (p q : Bool). p || q) (ap has_returned visit.here.state ∙ returned_is) (reached_is w.stops in_stops ∙ sym stops);
            failed = ap has_failed visit.here.state ∙ failed_is;
            kept = (λ none. below_from w.bounds in_bounds (sym bounds ∙ none), λ below. bounds ∙ below_to w.bounds in_bounds below);
          }
