-- What a side's visits say of its run from a state.
use Rattle.std.proofs.Common.{◌≡◌, ◌∙◌, ℕ, ◌<◌, ◌≤◌, ◌==◌, ◌&&◌, ◌||◌, zero, suc, Bool, true, false, if◌then◌else◌, List, [], ◌∷◌, length, map, drop, Some, refl, sym, ap, ap₂, subst, inl, inr, arith}
use Rattle.std.specs.Prelude.{◌↔◌, slice_get, nat_le, get_or, Contains, is_some}
use Rattle.std.specs.List.{All}
use Rattle.std.proofs.lemmas.Bool.{cases_Bool, both_ways, or_right, or_left, le-leb, and_from, eq-eqb}
use Rattle.std.proofs.lemmas.Option.{slice_get_within, get_or_from_slice_get, same_Some}
use Rattle.term_core_spec.specs.declared.Family.{Family}
use Rattle.term_core_spec.specs.declared.Variable.{Variable}
use Rattle.term_core_spec.specs.Substitution.{values_of}
use Rattle.term_core_spec.specs.Value.{Assignment, IsAssignment, Truth, value}
use Rattle.graph_core_spec.specs.TransitionSystem as walk
use Rattle.graph_core_spec.specs.TransitionSystem.{after, arrivals, tick, reached, stopped}
use Rattle.graph_core_spec.specs.declared.Next.{Next}
use Rattle.graph_core_spec.specs.declared.Next.TheVariants as next
use Rattle.graph_core_spec.specs.Graph.{Graphs, node_at}
use Rattle.graph_core_spec.specs.Run.{State, Running, Returned, Failed, has_returned, has_failed, is_at, system_of, unset}
use Rattle.graph_core_spec.specs.declared.Mark.{Mark}
use Rattle.visit_walk_spec.specs.Visits.{Visit, marks, edges, is_stop, is_last}
use Rattle.path_cond_spec.proofs.Runs.{arrivals-suc}
use Rattle.path_cond_spec.specs.Runs.{IsWalkOver, counts_after, state_at, mark_of, is_return, is_failure, AreCounted}
use Rattle.sim_rules_spec.specs.Points.{values_in}
use Rattle.sim_rules_spec.specs.Sides.{Way, condition_where, visits_where}
use Rattle.sim_rules_spec.specs.Proper.{IsOwnGraph}
use Rattle.sim_rules_spec.proofs.Cleaned.{cleaned_state, same_arrivals, same_at, same_failed, same_stopped, same_values, twin}
use Rattle.sim_rules_spec.proofs.Ends.{IsEnd, end_of, at_end, before_end}
use Rattle.sim_rules_spec.proofs.Members.{value_is, values_are}

-- the place of a state
pub place_in : State → Next
place_in (Running g n values below) = next.At n
place_in (Returned values) = next.Ret
place_in Failed = next.Err

place_cleaned : (own : Family → Bool) (s : State) → place_in (cleaned_state own s) ≡ place_in s
unfolding place_in
place_cleaned own (Running g n values below) = refl
place_cleaned own (Returned values) = refl
place_cleaned own Failed = refl

place_at : (outermost : ℕ) (p : Next) (values : Assignment) → place_in (state_at outermost p values) ≡ p
unfolding place_in
place_at outermost (next.At n) values = refl
place_at outermost next.Ret values = refl
place_at outermost next.Err values = refl

pub place_running : (outermost n : ℕ) (values : Assignment) → place_in (Running outermost n values []) ≡ next.At n
unfolding place_in
place_running outermost n values = refl

pub returned_place : (s : State) → has_returned s ≡ is_return (place_in s)
unfolding place_in
returned_place (Running g n values below) = refl
returned_place (Returned values) = refl
returned_place Failed = refl

module _ (graphs : Graphs) (outermost : ℕ) (own : Family → Bool) (w : Way) (visits : List Visit) (a : Assignment) (x : State) where
  abbrev pub system : walk.TransitionSystem State
  system = system_of graphs outermost

  abbrev pub stop_marks : List Mark
  stop_marks = map mark_of w.walk.stops

  -- the run before its walk ends
  pub record IsBefore (k : ℕ) : Type 0 where
    pub runs : stopped system stop_marks k x ≡ false
    pub alive : has_failed (after system k x) ≡ false
    pub kept : All (λ (b : Mark). arrivals system b.node k x < b.count) w.walk.bounds

  -- at each visit that passes the test the walk ends
  abbrev pub IsOfEnds : (Visit → Bool) → Type 0
  IsOfEnds test = (v : Visit) → test v ≡ true → edges w.walk v ≡ []

  -- the run's walk ends at this moment, at this visit; and what conditions and states say of it
  pub record Watched : Type 0 where
    pub moment : ℕ
    pub visit : Visit
    pub listed : Contains visits visit
    pub last : edges w.walk visit ≡ []
    pub place : place_in (after system moment x) ≡ visit.place
    pub counts : visit.counts ≡ counts_after graphs outermost (marks w.walk) moment x
    pub at_node : (n : ℕ) → visit.place ≡ next.At n → is_some (node_at graphs outermost n) ≡ true → is_at graphs outermost n (after system moment x) ≡ true
    pub before : (k : ℕ) → k < moment → IsBefore k
    pub stops : stopped system stop_marks moment x ≡ (is_return visit.place || is_stop w.walk visit)
    pub failing : has_failed (after system moment x) ≡ is_failure visit.place
    pub bounded : is_last visit.place w.walk.bounds (drop (length w.walk.stops) visit.counts) ≡ false
        ↔ All (λ (b : Mark). arrivals system b.node moment x < b.count) w.walk.bounds
    pub condition : (test : Visit → Bool) → IsOfEnds test → value a (condition_where w visits test) ≡ Truth (test visit)
    pub values : (test : Visit → Bool) → IsOfEnds test → test visit ≡ true → is_failure visit.place ≡ false
        → (v : Variable) → own v.family ≡ true → values_of a (visits_where w visits test).state v ≡ values_in (after system moment x) v

-- the run that the visits tell of is that from a state in which other variables may differ
module _ (graphs : Graphs) (outermost : ℕ) (own : Family → Bool) (w : Way) (visits : List Visit) (a : Assignment)
    (over : IsWalkOver graphs outermost w.graph w.walk visits) (speaks : All (IsOwnGraph own) graphs) (counted : AreCounted (marks w.walk))
    (sorted : IsAssignment (values_of a w.start)) (first : Assignment) (opened : (v : Variable) → own v.family ≡ true → values_of a w.start v ≡ first v) where
  abbrev told : State
  told = Running outermost w.walk.start (values_of a w.start) []

  abbrev there : State
  there = Running outermost w.walk.start first []

  abbrev run : walk.TransitionSystem State
  run = system_of graphs outermost

  cleaned_same : cleaned_state own told ≡ cleaned_state own there
  cleaned_same = ap (λ (values : Assignment). Running outermost w.walk.start values []) (λ i v. by v (own v.family) refl i)
    where
      by : (v : Variable) (b : Bool) → own v.family ≡ b
          → (if own v.family then values_of a w.start v else unset v.sort) ≡ (if own v.family then first v else unset v.sort)
      by v true e = ap (λ (p : Bool). if p then values_of a w.start v else unset v.sort) e ∙ opened v e ∙ sym (ap (λ (p : Bool). if p then first v else unset v.sort) e)
      by v false e = ap (λ (p : Bool). if p then values_of a w.start v else unset v.sort) e ∙ sym (ap (λ (p : Bool). if p then first v else unset v.sort) e)

  end : IsEnd graphs outermost w.graph w.walk visits over (values_of a w.start)
  end = end_of graphs outermost w.graph w.walk visits over (values_of a w.start)

  arrivals_are : (n k : ℕ) → arrivals run n k told ≡ arrivals run n k there
  arrivals_are n k = same_arrivals own graphs outermost speaks told there tt tt cleaned_same n k

  bounds_there : (bs : List Mark) (k : ℕ) → All (λ (b : Mark). arrivals run b.node k told < b.count) bs → All (λ (b : Mark). arrivals run b.node k there < b.count) bs
  bounds_there bs k all = λ i d less. subst (λ (n : ℕ). n < (get_or bs i d).count) (arrivals_are (get_or bs i d).node k) (all i d less)

  bounds_told : (bs : List Mark) (k : ℕ) → All (λ (b : Mark). arrivals run b.node k there < b.count) bs → All (λ (b : Mark). arrivals run b.node k told < b.count) bs
  bounds_told bs k all = λ i d less. subst (λ (n : ℕ). n < (get_or bs i d).count) (sym (arrivals_are (get_or bs i d).node k)) (all i d less)

  counts_are : (ms : List Mark) (k : ℕ) → counts_after graphs outermost ms k told ≡ counts_after graphs outermost ms k there
  counts_are [] k = refl
  counts_are (m ∷ ms) k = ap₂ (λ (c : ℕ) (cs : List ℕ). c ∷ cs) (arrivals_are m.node k) (counts_are ms k)

  stopped_are : (ms : List Mark) (k : ℕ) → stopped run ms k told ≡ stopped run ms k there
  stopped_are ms k = same_stopped own graphs outermost speaks told there tt tt cleaned_same ms k

  pub watch : Watched graphs outermost own w visits a there
  watch =
      let ended = at_end graphs outermost w.graph w.walk visits over (values_of a w.start) counted end in
      record {
        moment = end.moment;
        visit = end.visit;
        listed = (end.index, slice_get_within visits end.index end.visit end.there, get_or_from_slice_get visits end.index end.visit end.visit end.there);
        last = end.last;
        place =
            sym (place_cleaned own (after run end.moment there))
            ∙ ap place_in (sym (twin own graphs outermost speaks told there tt tt cleaned_same end.moment))
            ∙ place_cleaned own (after run end.moment told) ∙ ap place_in end.here.here.state ∙ place_at outermost end.visit.place end.values;
        at_node = λ n at there_is.
            sym (same_at own graphs outermost speaks told there tt tt cleaned_same n end.moment)
            ∙ ap (is_at graphs outermost n) (end.here.here.state ∙ ap (λ (p : Next). state_at outermost p end.values) at)
            ∙ and_from (outermost == outermost) (n == n && is_some (node_at graphs outermost n)) (eq-eqb outermost outermost refl)
            (and_from (n == n) (is_some (node_at graphs outermost n)) (eq-eqb n n refl) there_is);
        counts = end.here.here.counts ∙ counts_are (marks w.walk) end.moment;
        before = λ k less.
            let run_before = before_end graphs outermost w.graph w.walk visits over (values_of a w.start) counted end k less in
            record {
              runs = sym (stopped_are (map mark_of w.walk.stops) k) ∙ run_before.runs;
              alive = sym (same_failed own graphs outermost speaks told there tt tt cleaned_same k) ∙ run_before.alive;
              kept = bounds_there w.walk.bounds k run_before.kept;
            };
        stops = sym (stopped_are (map mark_of w.walk.stops) end.moment) ∙ ended.stopped;
        failing = sym (same_failed own graphs outermost speaks told there tt tt cleaned_same end.moment) ∙ ended.failed;
        bounded = (λ none. bounds_there w.walk.bounds end.moment (ended.kept.0 none), λ below. ended.kept.1 (bounds_told w.walk.bounds end.moment below));
        condition = λ test ends. value_is graphs outermost w.graph w.walk visits w.start a over sorted counted end test ends;
        values = λ test ends h alive v mine.
            ap (λ (values : Assignment). values v) (sym (values_are graphs outermost w.graph w.walk visits w.start a over sorted counted end test ends h alive))
            ∙ same_values own graphs outermost speaks told there tt tt cleaned_same end.moment v mine;
      }

-- ---- stops, by marks

-- the count of a mark of a walk
pub counts_at : (f : Mark → ℕ) (ms : List Mark) (index : ℕ) (m : Mark) → slice_get ms index ≡ Some m → get_or (map f ms) index 0 ≡ f m
counts_at f [] index m e = absurd (cc)
counts_at f (x ∷ ms) zero m e = ap f (same_Some x m e)
counts_at f (x ∷ ms) (suc index) m e = counts_at f ms index m e

module _ (graphs : Graphs) (outermost : ℕ) (x : State) where
  reached_at : (ms : List Mark) (k index : ℕ) (m : Mark) → slice_get ms index ≡ Some m → m.count ≤ arrivals (system_of graphs outermost) m.node k x
      → reached (system_of graphs outermost) ms k x ≡ true
  unfolding reached
  reached_at [] k index m e enough = absurd (cc)
  reached_at (y ∷ ms) k zero m e enough =
      let is : y ≡ m = same_Some y m e in
      or_left (nat_le y.count (arrivals (system_of graphs outermost) y.node k x)) (reached (system_of graphs outermost) ms k x)
      (ap (λ (z : Mark). nat_le z.count (arrivals (system_of graphs outermost) z.node k x)) is ∙ le-leb m.count (arrivals (system_of graphs outermost) m.node k x) enough)
  reached_at (y ∷ ms) k (suc index) m e enough =
      or_right (nat_le y.count (arrivals (system_of graphs outermost) y.node k x)) (reached (system_of graphs outermost) ms k x) (reached_at ms k index m e enough)

  -- where a run first stops at a mark, it is at the mark's node
  pub stops_there : (ms : List Mark) (t index : ℕ) (m : Mark) → slice_get ms index ≡ Some m → 1 ≤ m.count
      → ((k : ℕ) → k < t → stopped (system_of graphs outermost) ms k x ≡ false)
      → m.count ≤ arrivals (system_of graphs outermost) m.node t x → is_at graphs outermost m.node (after (system_of graphs outermost) t x) ≡ true
  unfolding arrivals
  stops_there ms zero index m e some runs enough = absurd (omega (arith, some, enough))
  stops_there ms (suc t) index m e some runs enough = elim (cases_Bool (is_at graphs outermost m.node (after (system_of graphs outermost) (suc t) x))) [
    | inl here ↦ here
    | inr away ↦
        let same : arrivals (system_of graphs outermost) m.node (suc t) x ≡ arrivals (system_of graphs outermost) m.node t x =
        arrivals-suc graphs outermost m.node t x ∙ ap (λ (b : Bool). tick (system_of graphs outermost) b (arrivals (system_of graphs outermost) m.node t x)) away in
        let met : reached (system_of graphs outermost) ms t x ≡ true = reached_at ms t index m e (omega (arith, same, enough)) in
        let stop : stopped (system_of graphs outermost) ms t x ≡ true =
        or_right (has_returned (after (system_of graphs outermost) t x)) (reached (system_of graphs outermost) ms t x) met in
        absurd (both_ways (stopped (system_of graphs outermost) ms t x) (runs t (omega arith)) stop)
  ]
