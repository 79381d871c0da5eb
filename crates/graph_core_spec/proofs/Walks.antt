-- The run of a set of graphs is a transition system.
use Rattle.std.proofs.Common.{◌≡◌, ◌∙◌, ◌⊎◌, ℕ, ◌<◌, ◌==◌, ◌&&◌, zero, suc, Bool, true, false, if◌then◌else◌, List, [], ◌∷◌, length, Option, Some, None, refl, sym, ap, subst, inl, inr, arith}
use Rattle.std.specs.Prelude.{⊤, is_some, slice_get, option_and_then}
use Rattle.std.specs.Option.{option_map_or}
use Rattle.std.proofs.lemmas.Bool.{and_parts, and_from, eqb-true, eq-eqb, cases_lt}
use Rattle.std.proofs.lemmas.Option.{slice_get_past}
use Rattle.term_core_spec.specs.Value.{Assignment, value}
use Rattle.graph_core_spec.specs.TransitionSystem.{IsTransitionSystem, after}
use Rattle.graph_core_spec.specs.declared.Next.{Next}
use Rattle.graph_core_spec.specs.declared.Next.TheVariants as next
use Rattle.graph_core_spec.specs.Graph.{Node, Basic, Cond, Call, Graph, Graphs, node_at, node_count}
use Rattle.graph_core_spec.specs.Run.{Waiting, State, Running, Returned, Failed, leave, go, enter, act, step, has_returned, has_failed, is_at, system_of, GoesTo, IsPath, first, on, Lands, is_truth}

-- ---- where a run is in its outermost graph, or will continue there

outer_graph : ℕ → List Waiting → ℕ
outer_graph g [] = g
outer_graph g (f ∷ below) = outer_graph f.graph below

outer_node : ℕ → List Waiting → ℕ
outer_node n [] = n
outer_node n (f ∷ below) = outer_node f.landing below

-- a running state's outermost place has the property
OfPlace : (ℕ → ℕ → Type 0) → State → Type 0
OfPlace P (Running g n values below) = P (outer_graph g below) (outer_node n below)
OfPlace P (Returned values) = ⊤
OfPlace P Failed = ⊤

module _ (graphs : Graphs) (P : ℕ → ℕ → Type 0) where
  -- ---- while a function waits, the place stays

  left_inside : (values : Assignment) (f : Waiting) (below : List Waiting) (g n : ℕ) → P (outer_graph f.graph below) (outer_node f.landing below)
      → OfPlace P (leave values (f ∷ below))
  unfolding OfPlace
  left_inside values f below g n p = p

  gone_inside : (g : ℕ) (to : Next) (values : Assignment) (f : Waiting) (below : List Waiting) → P (outer_graph f.graph below) (outer_node f.landing below)
      → OfPlace P (go g to values (f ∷ below))
  unfolding OfPlace outer_graph outer_node
  gone_inside g (next.At n) values f below p = p
  gone_inside g next.Ret values f below p = p
  gone_inside g next.Err values f below p = tt

  entered_inside : (callee : ℕ) (graph : Option Graph) (values : Assignment) (waiting f : Waiting) (below : List Waiting)
      → P (outer_graph f.graph below) (outer_node f.landing below)
      → OfPlace P (enter callee graph values (waiting ∷ f ∷ below))
  unfolding OfPlace outer_graph outer_node
  entered_inside callee None values waiting f below p = tt
  entered_inside callee (Some graph) values waiting f below p = p

  acted_inside : (g n : ℕ) (values : Assignment) (f : Waiting) (below : List Waiting) (node : Option Node) → P (outer_graph f.graph below) (outer_node f.landing below)
      → OfPlace P (act graphs g n values (f ∷ below) node)
  unfolding OfPlace
  acted_inside g n values f below None p = tt
  acted_inside g n values f below (Some (Basic bindings to)) p = gone_inside g to _ f below p
  acted_inside g n values f below (Some (Cond test on_true on_false)) p = gone_inside g _ values f below p
  acted_inside g n values f below (Some (Call callee inputs outputs landing)) p = entered_inside callee (slice_get graphs callee) _ _ f below p

  -- ---- where none waits, the place moves along an edge

  gone_outside : (g : ℕ) (to : Next) (values : Assignment) → ((n : ℕ) → to ≡ next.At n → P g n) → OfPlace P (go g to values [])
  unfolding OfPlace outer_graph outer_node
  gone_outside g (next.At n) values move = move n refl
  gone_outside g next.Ret values move = tt
  gone_outside g next.Err values move = tt

  entered_outside : (callee : ℕ) (graph : Option Graph) (values : Assignment) (waiting : Waiting) → P waiting.graph waiting.landing
      → OfPlace P (enter callee graph values (waiting ∷ []))
  unfolding OfPlace outer_graph outer_node
  entered_outside callee None values waiting p = tt
  entered_outside callee (Some graph) values waiting p = p

  acted_outside : (g m : ℕ) (values : Assignment) (node : Option Node) → ((there : Node) (n : ℕ) → node ≡ Some there → GoesTo there n → P g n)
      → OfPlace P (act graphs g m values [] node)
  unfolding OfPlace
  acted_outside g m values None move = tt
  acted_outside g m values (Some (Basic bindings to)) move = gone_outside g to _ (λ n e. move _ n refl e)
  acted_outside g m values (Some (Cond test on_true on_false)) move = gone_outside g _ values (λ n e. move _ n refl (one_of (is_truth (value values test)) n e))
    where
      one_of : (b : Bool) (n : ℕ) → (if b then on_true else on_false) ≡ next.At n → (on_true ≡ next.At n) ⊎ (on_false ≡ next.At n)
      one_of true n e = inl e
      one_of false n e = inr e
  acted_outside g m values (Some (Call callee inputs outputs landing)) move = entered_outside callee (slice_get graphs callee) _ _ (move _ landing refl refl)

-- ---- a state at a node

module _ (graphs : Graphs) (outermost : ℕ) where
  -- what it says of a state to be at a node
  record IsAtNode (n : ℕ) (s : State) : Type 0 where
    values : Assignment
    is : s ≡ Running outermost n values []
    there : is_some (node_at graphs outermost n) ≡ true

  at_node : (n : ℕ) (s : State) → is_at graphs outermost n s ≡ true → IsAtNode n s
  at_node n (Running g m values []) h =
      let outer : g ≡ outermost = eqb-true _ _ (and_parts (g == outermost) (m == n && is_some (node_at graphs g m)) h).0 in
      let rest = and_parts (m == n) (is_some (node_at graphs g m)) (and_parts (g == outermost) (m == n && is_some (node_at graphs g m)) h).1 in
      let same : m ≡ n = eqb-true _ _ rest.0 in
      record {
        values = values;
        is = λ i. Running (outer i) (same i) values [];
        there = subst (λ (p : ℕ × ℕ). is_some (node_at graphs p.0 p.1) ≡ true) (λ i. (outer i, same i)) rest.1;
      }
  at_node n (Running g m values (f ∷ below)) h = let bad : false ≡ true = h in cc
  at_node n (Returned values) h = let bad : false ≡ true = h in cc
  at_node n Failed h = let bad : false ≡ true = h in cc

  is_there : (n : ℕ) (values : Assignment) → is_some (node_at graphs outermost n) ≡ true → is_at graphs outermost n (Running outermost n values []) ≡ true
  is_there n values there = and_from _ _ (eq-eqb outermost outermost refl) (and_from _ _ (eq-eqb n n refl) there)

  -- ---- what led to a node

  module _ (m : ℕ) where
    -- the place lies in the outermost graph, led to from m
    abbrev IsLed : ℕ → ℕ → Type 0
    IsLed g n = g ≡ outermost → IsPath graphs outermost m n

    led_by_edge : (g n : ℕ) → IsLed g n → (there : Node) (o : ℕ) → node_at graphs g n ≡ Some there → GoesTo there o → IsLed g o
    led_by_edge g n led there o here goes outer =
        on n o (led outer) (record { node = there; here = ap (λ (h : ℕ). node_at graphs h n) (sym outer) ∙ here; goes = goes })

    led_step : (s : State) → OfPlace IsLed s → OfPlace IsLed (step graphs s)
    unfolding OfPlace outer_graph outer_node step
    led_step (Running g n values []) led = acted_outside graphs IsLed g n values (node_at graphs g n) (led_by_edge g n led)
    led_step (Running g n values (f ∷ below)) led = acted_inside graphs IsLed g n values f below (node_at graphs g n) led
    led_step (Returned values) led = tt
    led_step Failed led = tt

    led_after : (k : ℕ) (s : State) → OfPlace IsLed s → OfPlace IsLed (after (system_of graphs outermost) k s)
    unfolding after
    led_after zero s led = led
    led_after (suc k) s led = led_after k (step graphs s) (led_step s led)

    led_first : (values : Assignment) → OfPlace IsLed (step graphs (Running outermost m values []))
    unfolding OfPlace step
    led_first values = acted_outside graphs IsLed outermost m values (node_at graphs outermost m)
        (λ there n here goes outer. first n (record { node = there; here = here; goes = goes }))

    led_there : (n : ℕ) (s : State) → OfPlace IsLed s → IsAtNode n s → IsPath graphs outermost m n
    unfolding OfPlace outer_graph outer_node
    led_there n s led found_at = subst (λ (x : State). OfPlace IsLed x) found_at.is led refl

  pub led : (m n k : ℕ) (s : State) → is_at graphs outermost m s ≡ true → is_at graphs outermost n (after (system_of graphs outermost) (suc k) s) ≡ true → IsPath graphs outermost m n
  unfolding after
  led m n k s here there =
      let start = at_node m s here in
      let moved : OfPlace (IsLed m) (step graphs s) = subst (λ (x : State). OfPlace (IsLed m) (step graphs x)) (sym start.is) (led_first m start.values) in
      led_there m n _ (led_after m k (step graphs s) moved) (at_node n _ there)

  -- ---- the landing node of a call

  module _ (l : ℕ) where
    -- the place is the landing node
    abbrev IsLanding : ℕ → ℕ → Type 0
    IsLanding g n = (g ≡ outermost) × (n ≡ l)

    missing_fails : (values : Assignment) → is_at graphs outermost l (Running outermost l values []) ≡ false → OfPlace IsLanding (step graphs (Running outermost l values []))
    unfolding OfPlace step
    missing_fails values away = gone (node_at graphs outermost l) refl
      where
        gone : (node : Option Node) → node ≡ node_at graphs outermost l → OfPlace IsLanding (act graphs outermost l values [] node)
        gone None e = tt
        gone (Some node) e = let there : is_some (node_at graphs outermost l) ≡ true = ap is_some (sym e) in
            let found_at = is_there l values there in
            let bad : true ≡ false = sym found_at ∙ away in cc

    landing_step : (s : State) → OfPlace IsLanding s → is_at graphs outermost l s ≡ false → OfPlace IsLanding (step graphs s)
    unfolding OfPlace outer_graph outer_node step
    landing_step (Running g n values []) place away =
        let same : Running outermost l values [] ≡ Running g n values [] = λ i. Running (sym place.0 i) (sym place.1 i) values [] in
        subst (λ (x : State). OfPlace IsLanding (step graphs x)) same
        (missing_fails values (subst (λ (x : State). is_at graphs outermost l x ≡ false) (sym same) away))
    landing_step (Running g n values (f ∷ below)) place away = acted_inside graphs IsLanding g n values f below (node_at graphs g n) place
    landing_step (Returned values) place away = tt
    landing_step Failed place away = tt

    landed_after : (n k : ℕ) (s : State) → OfPlace IsLanding s → is_at graphs outermost n (after (system_of graphs outermost) k s) ≡ true
        → ((j : ℕ) → j < k → is_at graphs outermost l (after (system_of graphs outermost) j s) ≡ false) → n ≡ l
    unfolding after OfPlace outer_graph outer_node
    landed_after n zero s place there away =
        let found_at = at_node n s there in
        (subst (λ (x : State). OfPlace IsLanding x) found_at.is place).1
    landed_after n (suc k) s place there away =
        landed_after n k (step graphs s) (landing_step s place (away 0 (omega arith))) there (λ j less. away (suc j) (omega arith))

  pub landed : (m l n k : ℕ) (s : State) → Lands graphs outermost m l → is_at graphs outermost m s ≡ true
      → is_at graphs outermost n (after (system_of graphs outermost) (suc k) s) ≡ true
      → ((j : ℕ) → j < k → is_at graphs outermost l (after (system_of graphs outermost) (suc j) s) ≡ false) → n ≡ l
  unfolding after OfPlace step outer_graph outer_node
  landed m l n k s call here there away =
      let start = at_node m s here in
      let entered_callee : OfPlace (IsLanding l) (act graphs outermost m start.values [] (Some (Call call.callee call.inputs call.outputs l))) =
      entered_outside graphs (IsLanding l) call.callee (slice_get graphs call.callee) _ _ (refl, refl) in
      let acted : OfPlace (IsLanding l) (step graphs (Running outermost m start.values [])) =
      subst (λ (node : Option Node). OfPlace (IsLanding l) (act graphs outermost m start.values [] node)) (sym call.here) entered_callee in
      let moved : OfPlace (IsLanding l) (step graphs s) = subst (λ (x : State). OfPlace (IsLanding l) (step graphs x)) (sym start.is) acted in
      landed_after l n k (step graphs s) moved there away

  -- ---- paths

  paths_join : (m n o : ℕ) → IsPath graphs outermost m n → IsPath graphs outermost n o → IsPath graphs outermost m o
  paths_join m n o p (first _ edge) = on n o p edge
  paths_join m n o p (on between _ q edge) = on between o (paths_join m n between p q) edge

  -- ---- the transition system

  there_is_node : (graph : Option Graph) (n : ℕ) → is_some (option_and_then (λ (g : Graph). slice_get g.nodes n) graph) ≡ true → n < option_map_or (λ (g : Graph). length g.nodes) graph 0
  there_is_node None n h = let bad : false ≡ true = h in cc
  there_is_node (Some graph) n h = elim (cases_lt n (length graph.nodes)) [
    | inl within ↦ within
    | inr past ↦ let none : is_some (slice_get graph.nodes n) ≡ false = ap is_some (slice_get_past graph.nodes n past) in let bad : true ≡ false = sym h ∙ none in absurd (differ bad)
  ]
    where
      differ : true ≡ false → ⊥
      differ e = cc

  ends_apart : (s : State) → has_returned s ≡ true → has_failed s ≡ false
  ends_apart (Running g n values below) h = refl
  ends_apart (Returned values) h = refl
  ends_apart Failed h = let bad : false ≡ true = h in cc

  returned_stays : (s : State) → has_returned s ≡ true → step graphs s ≡ s
  unfolding step
  returned_stays (Running g n values below) h = let bad : false ≡ true = h in cc
  returned_stays (Returned values) h = refl
  returned_stays Failed h = refl

  failed_stays : (s : State) → has_failed s ≡ true → step graphs s ≡ s
  unfolding step
  failed_stays (Running g n values below) h = let bad : false ≡ true = h in cc
  failed_stays (Returned values) h = refl
  failed_stays Failed h = refl

  no_end : (n : ℕ) (s : State) → is_at graphs outermost n s ≡ true → (has_returned s ≡ false) × (has_failed s ≡ false)
  no_end n (Running g m values below) h = (refl, refl)
  no_end n (Returned values) h = let bad : false ≡ true = h in cc
  no_end n Failed h = let bad : false ≡ true = h in cc

  node_of : State → ℕ
  node_of (Running g n values below) = n
  node_of s = 0

  one_node : (m n : ℕ) (s : State) → is_at graphs outermost m s ≡ true → is_at graphs outermost n s ≡ true → m ≡ n
  unfolding node_of
  one_node m n s a b = ap node_of (sym (at_node m s a).is ∙ (at_node n s b).is)

  -- with any property of states that steps keep
  pub is_system : (fine : State → Type 0) → ((s : State) → fine s → fine (step graphs s))
      → IsTransitionSystem (system_of graphs outermost) (IsPath graphs outermost) (Lands graphs outermost) fine (node_count graphs outermost)
  is_system fine kept = record {
    returned_stays = returned_stays;
    failed_stays = failed_stays;
    one_end = ends_apart;
    no_end = no_end;
    one_node = one_node;
    numbered = λ n s holds here. there_is_node (slice_get graphs outermost) n (at_node n s here).there;
    fine_stays = kept;
    leads_on = paths_join;
    led = led;
    landed = landed;
  }
