-- A run of graphs comes to the visits of a walk.
use Rattle.std.proofs.Common.{◌≡◌, ◌∙◌, ℕ, ◌+◌, ◌<◌, ◌==◌, ◌&&◌, zero, suc, Bool, true, false, if◌then◌else◌, List, [], ◌∷◌, length, Option, Some, None, refl, sym, ap, ap₂, subst, inl, inr, arith}
use Rattle.std.specs.Prelude.{◌≢◌, slice_get, Contains, is_some, not, ⊤, option_and_then, option_map, unwrap_or}
use Rattle.std.proofs.lemmas.Bool.{cases_lt, cases_eq, false≢true, eq-eqb, ne_eqb, not-true}
use Rattle.std.proofs.lemmas.Option.{same_Some, slice_get-map, slice_get_within, get_or_from_slice_get}
use Rattle.term_core_spec.specs.Value.{Assignment, value}
use Rattle.graph_core_spec.specs.TransitionSystem.{after, arrivals, tick}
use Rattle.graph_core_spec.proofs.Runs.{after-suc, arrivals-add}
use Rattle.graph_core_spec.specs.declared.Next.{Next}
use Rattle.graph_core_spec.specs.declared.Next.TheVariants as next
use Rattle.graph_core_spec.specs.Graph.{Node, Basic, Cond, Call, IsNode, IsNext, Graph, Graphs, IsValid, node_at}
use Rattle.graph_core_spec.specs.Run.{State, Running, Returned, Failed, go, act, step, bound, is_truth, is_at, system_of}
use Rattle.graph_core_spec.specs.declared.Mark.{Mark}
use Rattle.visit_walk_spec.specs.declared.Branch.{Branch}
use Rattle.visit_walk_spec.specs.declared.Branch.TheVariants.{Only, IfTrue, IfFalse}
use Rattle.visit_walk_spec.specs.declared.Successors.{Successors}
use Rattle.visit_walk_spec.specs.declared.Successors.TheVariants.{One}
use Rattle.visit_walk_spec.specs.Shape.{successors_of, successors_at}
use Rattle.visit_walk_spec.specs.Visits.{Walk, Visit, Edge, counted, followed, edges_at, edges_of, marks, is_marked_end, arrival, first_visit, edges}
use Rattle.path_cond_spec.specs.Junctions.{Junction, junctions}
use Rattle.path_cond_spec.specs.Conditions.{node_of_place, node_of_junction}
use Rattle.path_cond_spec.specs.Passages.{takes, target, values_after, PassesAt}
use Rattle.path_cond_spec.specs.Runs.{state_at, counts_after, IsAt, GoesOn, Visits, IsWalkOver}
use Rattle.path_cond_spec.proofs.Edges.{contains_none, contains_head, contains_tail}
use Rattle.path_cond_spec.proofs.Incoming.{edge_to, edge_by}
use Rattle.path_cond_spec.proofs.Links.{place-arrival, IsBranch, is_first, listed_on, no_loop, branch_of, junction_is, into_listed, link}

-- ---- the place of a state

place_of : State → Next
place_of (Running g n values below) = next.At n
place_of (Returned values) = next.Ret
place_of Failed = next.Err

place_of-state_at : (outermost : ℕ) (p : Next) (values : Assignment) → place_of (state_at outermost p values) ≡ p
unfolding place_of
place_of-state_at outermost (next.At n) values = refl
place_of-state_at outermost next.Ret values = refl
place_of-state_at outermost next.Err values = refl

-- a run is at one visit at a time
pub one_at_a_time : (graphs : Graphs) (outermost : ℕ) (w : Walk) (s : State) (k : ℕ) (u v : Visit) (x y : Assignment) → IsAt graphs outermost w s k u x → IsAt graphs outermost w s k v y → u ≡ v
one_at_a_time graphs outermost w s k u v x y p q =
    let place : u.place ≡ v.place =
    sym (place_of-state_at outermost u.place x) ∙ ap place_of (sym p.state ∙ q.state) ∙ place_of-state_at outermost v.place y in
    let counts : u.counts ≡ v.counts = p.counts ∙ sym q.counts in
    λ i. record { place = place i; counts = counts i }

-- ---- one step

gone : (outermost : ℕ) (to : Next) (values : Assignment) → go outermost to values [] ≡ state_at outermost to values
gone outermost (next.At n) values = refl
gone outermost next.Ret values = refl
gone outermost next.Err values = refl

-- a node does what its branch says
acts : (graphs : Graphs) (outermost n : ℕ) (values : Assignment) (node : Option Node) (branch : Branch) (to : Next) → takes node branch values ≡ true → target node branch ≡ Some to
    → act graphs outermost n values [] node ≡ state_at outermost to (values_after node values)
acts graphs outermost n values None Only to h e = ap (λ (p : Next). state_at outermost p values) (same_Some next.Err to e)
acts graphs outermost n values None IfTrue to h e = absurd (false≢true h)
acts graphs outermost n values None IfFalse to h e = absurd (false≢true h)
acts graphs outermost n values (Some (Basic bindings after)) Only to h e =
    gone outermost after (bound bindings values values) ∙ ap (λ (p : Next). state_at outermost p (bound bindings values values)) (same_Some after to e)
acts graphs outermost n values (Some (Basic bindings after)) IfTrue to h e = absurd (false≢true h)
acts graphs outermost n values (Some (Basic bindings after)) IfFalse to h e = absurd (false≢true h)
acts graphs outermost n values (Some (Cond test on_true on_false)) Only to h e = absurd (false≢true h)
acts graphs outermost n values (Some (Cond test on_true on_false)) IfTrue to h e =
    ap (λ (p : Bool). go outermost (if p then on_true else on_false) values []) h ∙ gone outermost on_true values
    ∙ ap (λ (p : Next). state_at outermost p values) (same_Some on_true to e)
acts graphs outermost n values (Some (Cond test on_true on_false)) IfFalse to h e =
    ap (λ (p : Bool). go outermost (if p then on_true else on_false) values []) (not-true (is_truth (value values test)) h) ∙ gone outermost on_false values
    ∙ ap (λ (p : Next). state_at outermost p values) (same_Some on_false to e)
acts graphs outermost n values (Some (Call callee inputs outputs landing)) branch to h e = absurd (false≢true h)

-- a branch of a valid node leads to a node that is there
IsOptionalNext : ℕ → Option Node → Type 0
IsOptionalNext count None = ⊤
IsOptionalNext count (Some node) = IsNode count node

goes_inside : (count : ℕ) (node : Option Node) (branch : Branch) (to : Next) → IsOptionalNext count node → target node branch ≡ Some to → IsNext count to
unfolding IsOptionalNext
goes_inside count None Only to is e = subst (IsNext count) (same_Some next.Err to e) tt
goes_inside count None IfTrue to is e = absurd (cc)
goes_inside count None IfFalse to is e = absurd (cc)
goes_inside count (Some (Basic bindings after)) Only to is e = subst (IsNext count) (same_Some after to e) is.1
goes_inside count (Some (Basic bindings after)) IfTrue to is e = absurd (cc)
goes_inside count (Some (Basic bindings after)) IfFalse to is e = absurd (cc)
goes_inside count (Some (Cond test on_true on_false)) Only to is e = absurd (cc)
goes_inside count (Some (Cond test on_true on_false)) IfTrue to is e = subst (IsNext count) (same_Some on_true to e) is.1
goes_inside count (Some (Cond test on_true on_false)) IfFalse to is e = subst (IsNext count) (same_Some on_false to e) is.2
goes_inside count (Some (Call callee inputs outputs landing)) branch to is e = absurd (cc)

optional_node : (g : Graph) → IsValid g → (n : ℕ) (node : Option Node) → node ≡ slice_get g.nodes n → IsOptionalNext (length g.nodes) node
unfolding IsOptionalNext
optional_node g valid n None e = tt
optional_node g valid n (Some node) e = subst (IsNode (length g.nodes)) (get_or_from_slice_get g.nodes n node node (sym e)) (valid.nodes n node (slice_get_within g.nodes n node (sym e)))

-- ---- counts of arrivals

module _ (graphs : Graphs) (outermost : ℕ) where
  pub arrivals-suc : (n k : ℕ) (s : State) → arrivals (system_of graphs outermost) n (suc k) s
      ≡ tick (system_of graphs outermost) (is_at graphs outermost n (after (system_of graphs outermost) (suc k) s)) (arrivals (system_of graphs outermost) n k s)
  unfolding arrivals
  arrivals-suc n k s =
      let w = system_of graphs outermost in
      let one : k + 1 ≡ suc k = omega arith in
      let sum : arrivals w n (k + 1) s ≡ arrivals w n k s + arrivals w n 1 (after w k s) = arrivals-add w n k 1 s in
      let last : after w (suc k) s ≡ step graphs (after w k s) = after-suc w k s in
      ap (λ (m : ℕ). arrivals w n m s) (sym one) ∙ sum
      ∙ added (is_at graphs outermost n (step graphs (after w k s))) (arrivals w n k s)
      ∙ ap (λ (x : State). tick w (is_at graphs outermost n x) (arrivals w n k s)) (sym last)
    where
      added : (test : Bool) (count : ℕ) → count + tick (system_of graphs outermost) test 0 ≡ tick (system_of graphs outermost) test count
      added true count = omega arith
      added false count = omega arith

  eqb-sym : (m n : ℕ) → (m == n) ≡ (n == m)
  eqb-sym m n = elim (cases_eq m n) [
    | inl same ↦ eq-eqb m n same ∙ sym (eq-eqb n m (sym same))
    | inr apart ↦ ne_eqb m n apart ∙ sym (ne_eqb n m (λ e. apart (sym e)))
  ]

  and_true : (p : Bool) → (p && true) ≡ p
  and_true true = refl
  and_true false = refl

  counts-arrived : (w : Walk) (k : ℕ) (s : State) (ms : List Mark) (m : ℕ) (values : Assignment) → after (system_of graphs outermost) (suc k) s ≡ Running outermost m values []
      → is_some (node_at graphs outermost m) ≡ true → counted m ms (counts_after graphs outermost ms k s) ≡ counts_after graphs outermost ms (suc k) s
  counts-arrived w k s [] m values is there = refl
  counts-arrived w k s (x ∷ ms) m values is there =
      let system = system_of graphs outermost in
      let here : is_at graphs outermost x.node (after system (suc k) s) ≡ (x.node == m) =
      ap (is_at graphs outermost x.node) is ∙ ap (λ (p : Bool). p && (m == x.node && is_some (node_at graphs outermost m))) (eq-eqb outermost outermost refl)
      ∙ ap (λ (p : Bool). m == x.node && p) there ∙ and_true (m == x.node) ∙ eqb-sym m x.node in
      let first : tick system (x.node == m) (arrivals system x.node k s) ≡ arrivals system x.node (suc k) s =
      ap (λ (p : Bool). tick system p (arrivals system x.node k s)) (sym here) ∙ sym (arrivals-suc x.node k s) in
      ap₂ (λ (c : ℕ) (cs : List ℕ). c ∷ cs) first (counts-arrived w k s ms m values is there)

  -- at an end a run arrives nowhere
  counts-ended : (k : ℕ) (s : State) (ms : List Mark) → ((n : ℕ) → is_at graphs outermost n (after (system_of graphs outermost) (suc k) s) ≡ false)
      → counts_after graphs outermost ms k s ≡ counts_after graphs outermost ms (suc k) s
  counts-ended k s [] away = refl
  counts-ended k s (x ∷ ms) away =
      let system = system_of graphs outermost in
      let first : arrivals system x.node k s ≡ arrivals system x.node (suc k) s =
      ap (λ (p : Bool). tick system p (arrivals system x.node k s)) (sym (away x.node)) ∙ sym (arrivals-suc x.node k s) in
      ap₂ (λ (c : ℕ) (cs : List ℕ). c ∷ cs) first (counts-ended k s ms away)

  counts-next : (w : Walk) (k : ℕ) (s : State) (to : Next) (values : Assignment) (counts : List ℕ) → counts ≡ counts_after graphs outermost (marks w) k s
      → after (system_of graphs outermost) (suc k) s ≡ state_at outermost to values → ((m : ℕ) → to ≡ next.At m → is_some (node_at graphs outermost m) ≡ true)
      → (arrival w counts to).counts ≡ counts_after graphs outermost (marks w) (suc k) s
  counts-next w k s (next.At m) values counts were is there = ap (counted m (marks w)) were ∙ counts-arrived w k s (marks w) m values is (there m refl)
  counts-next w k s next.Ret values counts were is there = were ∙ counts-ended k s (marks w) (λ n. ap (is_at graphs outermost n) is)
  counts-next w k s next.Err values counts were is there = were ∙ counts-ended k s (marks w) (λ n. ap (is_at graphs outermost n) is)

-- ---- a run along the edges of a walk

module _ (graphs : Graphs) (outermost : ℕ) (g : Graph) (w : Walk) (visits : List Visit) (over : IsWalkOver graphs outermost g w visits) (first : Assignment) where
  abbrev begin : State
  begin = Running outermost w.start first []

  node_is : (n : ℕ) → node_at graphs outermost n ≡ slice_get g.nodes n
  node_is n = ap (λ (o : Option Graph). option_and_then (λ (graph : Graph). slice_get graph.nodes n) o) over.graph

  node_there : (n : ℕ) → n < length g.nodes → is_some (node_at graphs outermost n) ≡ true
  node_there n within = ap is_some (node_is n) ∙ inside g.nodes n within
    where
      inside : (nodes : List Node) (n : ℕ) → n < length nodes → is_some (slice_get nodes n) ≡ true
      inside [] n less = absurd (omega arith)
      inside (node ∷ nodes) zero less = refl
      inside (node ∷ nodes) (suc n) less = inside nodes n (omega arith)

  step_is : (n : ℕ) (values : Assignment) → step graphs (Running outermost n values []) ≡ act graphs outermost n values [] (node_at graphs outermost n)
  unfolding step
  step_is n values = refl

  -- one step further along an edge
  stepped : (k : ℕ) (u v : Visit) (branch : Branch) (before : Assignment) → Visits graphs outermost w begin k u before → IsBranch g w u (edge_to v branch)
      → Contains (edges w u) (edge_to v branch) → takes (node_of_place g u.place) branch before ≡ true
      → Visits graphs outermost w begin (suc k) v (values_after (node_of_place g u.place) before)
  stepped k u v branch before visit b out taken =
      let system = system_of graphs outermost in
      let node : node_of_place g u.place ≡ slice_get g.nodes b.node = ap (node_of_place g) b.at in
      let does : act graphs outermost b.node before [] (slice_get g.nodes b.node) ≡ state_at outermost b.goes (values_after (slice_get g.nodes b.node) before) =
      acts graphs outermost b.node before (slice_get g.nodes b.node) branch b.goes (ap (λ (o : Option Node). takes o branch before) (sym node) ∙ taken) b.leads in
      let moved : step graphs (Running outermost b.node before []) ≡ state_at outermost b.goes (values_after (slice_get g.nodes b.node) before) =
      step_is b.node before ∙ ap (λ (o : Option Node). act graphs outermost b.node before [] o) (node_is b.node) ∙ does in
      let state : after system (suc k) begin ≡ state_at outermost b.goes (values_after (slice_get g.nodes b.node) before) =
      after-suc system k begin ∙ ap (step graphs) (visit.here.state ∙ ap (λ (p : Next). state_at outermost p before) b.at) ∙ moved in
      let inside : IsNext (length g.nodes) b.goes = goes_inside (length g.nodes) (slice_get g.nodes b.node) branch b.goes (optional_node g over.valid b.node (slice_get g.nodes b.node) refl) b.leads in
      let there : (m : ℕ) → b.goes ≡ next.At m → is_some (node_at graphs outermost m) ≡ true = λ m e. node_there m (subst (IsNext (length g.nodes)) e inside) in
      let counts : (arrival w u.counts b.goes).counts ≡ counts_after graphs outermost (marks w) (suc k) begin =
      counts-next graphs outermost w k begin b.goes (values_after (slice_get g.nodes b.node) before) u.counts visit.here.counts state there in
      let place : b.goes ≡ v.place = sym (place-arrival w u.counts b.goes) ∙ ap (λ (x : Visit). x.place) (sym b.is) in
      record {
        here = record {
          state = state ∙ ap₂ (λ (p : Next) (o : Option Node). state_at outermost p (values_after o before)) place (sym node);
          counts = ap (λ (x : Visit). x.counts) b.is ∙ counts;
        };
        before = λ i x others less at none. elim (cases_lt i k) [
          | inl earlier ↦ visit.before i x others earlier at none
          | inr now ↦
              let same : i ≡ k = omega arith in
              let is : x ≡ u = one_at_a_time graphs outermost w begin k x u others before (subst (λ (n : ℕ). IsAt graphs outermost w begin n x others) same at) visit.here in
              contains_none (edge_to v branch) (subst (λ (es : List Edge). Contains es (edge_to v branch)) (ap (edges w) (sym is) ∙ none) out)
        ];
      }

  at_begin : Visits graphs outermost w begin 0 (first_visit w) first
  unfolding after arrivals
  at_begin = record {
    here = record { state = refl; counts = refl };
    before = λ i x others less at none. absurd (omega (arith, less));
  }

  -- a run that passes a visit comes there
  pub comes : (k j : ℕ) (v : Visit) (values : Assignment) → slice_get visits j ≡ Some v → PassesAt g (junctions w visits) first k j values → Visits graphs outermost w begin k v values
  unfolding PassesAt
  comes zero j v values there p =
      let at : slice_get visits 0 ≡ Some v = subst (λ (n : ℕ). slice_get visits n ≡ Some v) p.0 there in
      let is : first_visit w ≡ v = same_Some (first_visit w) v (sym (is_first w visits over.are) ∙ at) in
      subst (λ (x : Visit). Visits graphs outermost w begin 0 x values) is
      (subst (λ (x : Assignment). Visits graphs outermost w begin 0 (first_visit w) x) (sym p.1) at_begin)
  comes (suc k) j v values there p =
      let l = link w visits over.are j p.edge p.into in
      let is : l.target ≡ v = same_Some l.target v (sym l.there ∙ there) in
      let out : Contains (edges w l.source) (edge_to v p.edge.branch) = subst (λ (x : Visit). Contains (edges w l.source) (edge_to x p.edge.branch)) is l.out in
      let from = comes k p.edge.source l.source p.before l.from p.from in
      let node : node_of_junction g (junctions w visits) p.edge.source ≡ node_of_place g l.source.place =
      ap (λ (x : Junction). node_of_place g x.place) (junction_is w visits over.are p.edge.source l.source l.from) in
      let taken : takes (node_of_place g l.source.place) p.edge.branch p.before ≡ true = ap (λ (o : Option Node). takes o p.edge.branch p.before) (sym node) ∙ p.taken in
      let b = branch_of g w visits over.shape over.are p.edge.source l.source (edge_to v p.edge.branch) l.from out in
      let values_are : values_after (node_of_place g l.source.place) p.before ≡ values = ap (λ (o : Option Node). values_after o p.before) (sym node) ∙ sym p.is in
      subst (λ (x : Assignment). Visits graphs outermost w begin (suc k) v x) values_are (stepped k l.source v p.edge.branch p.before from b out taken)

  -- ---- while the walk goes on

  -- a branch that the run takes at a visit
  record Leaves (u : Visit) (values : Assignment) : Type 0 where
    branch : Branch
    to : Visit
    out : Contains (edges w u) (edge_to to branch)
    taken : takes (node_of_place g u.place) branch values ≡ true

  -- a node that is no call takes one of its branches
  module _ (u : Visit) (values : Assignment) where
    has : (es : List Edge) (x : Edge) → edges w u ≡ es → Contains es x → Contains (edges w u) x
    has es x e m = subst (λ (l : List Edge). Contains l x) (sym e) m

    node_taken : (n : ℕ) (node : Option Node) (branch : Branch) → u.place ≡ next.At n → slice_get g.nodes n ≡ node → takes node branch values ≡ true → takes (node_of_place g u.place) branch values ≡ true
    node_taken n node branch at is h = ap (λ (o : Option Node). takes o branch values) (ap (node_of_place g) at ∙ is) ∙ h

    one_way : (n : ℕ) (node : Option Node) (to : Next) → u.place ≡ next.At n → slice_get g.nodes n ≡ node → takes node Only values ≡ true
        → edges w u ≡ edge_to (arrival w u.counts to) Only ∷ [] → Leaves u values
    one_way n node to at is h e = record {
      branch = Only;
      to = arrival w u.counts to;
      out = has (edge_to (arrival w u.counts to) Only ∷ []) (edge_to (arrival w u.counts to) Only) e (contains_head (edge_to (arrival w u.counts to) Only) []);
      taken = node_taken n node Only at is h;
    }

    two_ways : (n : ℕ) (node : Option Node) (on_true on_false : Next) (test : Bool) → u.place ≡ next.At n → slice_get g.nodes n ≡ node
        → takes node IfTrue values ≡ test → takes node IfFalse values ≡ not test
        → edges w u ≡ edge_to (arrival w u.counts on_true) IfTrue ∷ edge_to (arrival w u.counts on_false) IfFalse ∷ [] → Leaves u values
    two_ways n node on_true on_false true at is h i e = record {
      branch = IfTrue;
      to = arrival w u.counts on_true;
      out = has _ (edge_to (arrival w u.counts on_true) IfTrue) e (contains_head (edge_to (arrival w u.counts on_true) IfTrue) (edge_to (arrival w u.counts on_false) IfFalse ∷ []));
      taken = node_taken n node IfTrue at is h;
    }
    two_ways n node on_true on_false false at is h i e = record {
      branch = IfFalse;
      to = arrival w u.counts on_false;
      out = has _ (edge_to (arrival w u.counts on_false) IfFalse) e
          (contains_tail (edge_to (arrival w u.counts on_true) IfTrue) (edge_to (arrival w u.counts on_false) IfFalse) (edge_to (arrival w u.counts on_false) IfFalse ∷ [])
          (contains_head (edge_to (arrival w u.counts on_false) IfFalse) []));
      taken = node_taken n node IfFalse at is i;
    }

    leaves_node : (n : ℕ) → u.place ≡ next.At n → (node : Option Node) → slice_get g.nodes n ≡ node
        → edges w u ≡ followed (marks w) u (unwrap_or (option_map successors_of node) (One next.Err)) → (Contains (edges w u) (edge_to u Only) → ⊥) → Leaves u values
    leaves_node n at None is e none = one_way n None next.Err at is refl e
    leaves_node n at (Some (Basic bindings to)) is e none = one_way n (Some (Basic bindings to)) to at is refl e
    leaves_node n at (Some (Cond test on_true on_false)) is e none =
        two_ways n (Some (Cond test on_true on_false)) on_true on_false (is_truth (value values test)) at is refl refl e
    leaves_node n at (Some (Call callee inputs outputs landing)) is e none = absurd (none (has (edge_to u Only ∷ []) (edge_to u Only) e (contains_head (edge_to u Only) [])))

    leaves_at : (p : Next) → u.place ≡ p → edges w u ≡ edges_at w.shape (marks w) u p → edges w u ≢ [] → (Contains (edges w u) (edge_to u Only) → ⊥) → Leaves u values
    leaves_at (next.At n) at e some none = elim (over.shape n) [
      | inl ended ↦ absurd (some (e ∙ ap (followed (marks w) u) ended))
      | inr same ↦
          let is : successors_at w.shape n ≡ unwrap_or (option_map successors_of (slice_get g.nodes n)) (One next.Err) =
          same ∙ ap (λ (o : Option Successors). unwrap_or o (One next.Err)) (slice_get-map successors_of g.nodes n) in
          leaves_node n at (slice_get g.nodes n) refl (e ∙ ap (followed (marks w) u) is) none
    ]
    leaves_at next.Ret at e some none = absurd (some e)
    leaves_at next.Err at e some none = absurd (some e)

    leaves_test : (test : Bool) → edges w u ≡ (if test then [] else edges_at w.shape (marks w) u u.place) → edges w u ≢ [] → (Contains (edges w u) (edge_to u Only) → ⊥) → Leaves u values
    leaves_test true e some none = absurd (some e)
    leaves_test false e some none = leaves_at u.place refl e some none

    leaves : edges w u ≢ [] → (Contains (edges w u) (edge_to u Only) → ⊥) → Leaves u values
    unfolding edges_of
    leaves some none = leaves_test (is_marked_end w u) refl some none

  -- where the run is at a moment up to which the walk goes on
  pub record IsPassing (k : ℕ) : Type 0 where
    pub index : ℕ
    pub visit : Visit
    pub values : Assignment
    pub there : slice_get visits index ≡ Some visit
    pub passes : PassesAt g (junctions w visits) first k index values

  passing_on : (k : ℕ) → IsPassing k → GoesOn graphs outermost w begin (suc k) → IsPassing (suc k)
  unfolding PassesAt
  passing_on k p on =
      let come = comes k p.index p.visit p.values p.there p.passes in
      let l = leaves p.visit p.values (on k p.visit p.values (omega arith) come.here) (no_loop w visits over.are p.index p.visit Only p.there) in
      let to = listed_on w visits over.are p.index p.visit l.to l.branch p.there l.out in
      let node : node_of_junction g (junctions w visits) p.index ≡ node_of_place g p.visit.place =
      ap (λ (x : Junction). node_of_place g x.place) (junction_is w visits over.are p.index p.visit p.there) in
      record {
        index = to.0;
        visit = l.to;
        values = values_after (node_of_junction g (junctions w visits) p.index) p.values;
        there = to.1;
        passes = record {
          edge = edge_by p.index l.branch;
          before = p.values;
          from = p.passes;
          into = into_listed w visits over.are p.index to.0 p.visit l.to l.branch p.there to.1 l.out;
          taken = ap (λ (o : Option Node). takes o l.branch p.values) node ∙ l.taken;
          is = refl;
        };
      }

  pub passing : (k : ℕ) → GoesOn graphs outermost w begin k → IsPassing k
  unfolding PassesAt
  passing zero on = record { index = 0; visit = first_visit w; values = first; there = is_first w visits over.are; passes = (refl, refl) }
  passing (suc k) on = passing_on k (passing k (λ i u values less at. on i u values (omega arith) at)) on
