-- Pairs of states that the runs before and after inlining reach together.
use Rattle.std.proofs.Common.{◌≡◌, ◌∙◌, ◌≢◌, ◌⊎◌, inl, inr, ℕ, ◌+◌, ◌<◌, zero, suc, Bool, true, false, if◌then◌else◌, refl, ap, subst, arith, List, [], ◌∷◌, ◌++◌, map, length, get_or, All, Option, Some, None, option_map, option_and_then}
use Rattle.std.specs.Prelude.{⊤, slice_get}
use Rattle.std.proofs.lemmas.Bool.{cases_order}
use Rattle.std.proofs.lemmas.Option.{slice_get-get_or, slice_get_within, get_or_from_slice_get}
use Rattle.term_core_spec.specs.declared.Variable.{Variable}
use Rattle.term_core_spec.specs.Value.{Assignment, value}
use Rattle.graph_core_spec.specs.declared.Next.{Next}
use Rattle.graph_core_spec.specs.declared.Next.TheVariants as next
use Rattle.graph_core_spec.specs.TransitionSystem.{after}
use Rattle.graph_core_spec.specs.Graph.{Binding, Node, Basic, Cond, Call, Graph, Graphs, IsNext, IsNode, node_at}
use Rattle.graph_core_spec.specs.Run.{Waiting, State, Running, Returned, Failed, leave, go, enter, act, step, bound, entered, resumed, is_truth, system_of, with_waiting, has_returned}
use Rattle.graph_core_spec.proofs.Callees.{after-with_waiting}
use Rattle.graph_inline_spec.specs.Naming.{inlined_term, with_inlined_term, with_inlined_variable}
use Rattle.graph_inline_spec.specs.Inlined.{start_bindings, inlined_next, inlined_node, inlined_nodes, inlined_at}
use Rattle.graph_inline_spec.specs.Inlining.{SpeaksOf, IsOfCallee, IsElsewhere, Inlines}
use Rattle.graph_inline_spec.specs.Kept.{SameElsewhere}
use Rattle.graph_inline_spec.proofs.Bindings.{Inside, inlined_value, elsewhere_value, caller_bound, caller_entered, caller_resumed, started, callee_bound, callee_entered, callee_resumed, returned}
use Rattle.graph_inline_spec.proofs.Nodes.{get_before, get_here, get_inside, get_last}

module _ (graphs : Graphs) (g n : ℕ) (own : List Variable) (instance : ℕ) (new : Graphs) (is : Inlines graphs g n own instance new) where
  abbrev size : ℕ
  size = length is.caller.nodes

  abbrev callee_size : ℕ
  callee_size = length is.callee.nodes

  abbrev InsideOf : Assignment → Assignment → Assignment → Type 0
  InsideOf = Inside instance own is.can.own_variables

  -- ---- frames

  -- the caller waits at a call of its own
  abbrev frame : (call landing : ℕ) → List Binding → Assignment → Waiting
  frame call landing outputs values = record { graph = g; call = call; landing = landing; outputs = outputs; values = values }

  -- the caller waits at the call that is inlined
  abbrev waits : Assignment → Waiting
  waits values = frame n is.can.landing is.can.outputs values

  -- the callee waits at a call of its own
  abbrev callee_frame : (call landing : ℕ) → List Binding → Assignment → Waiting
  callee_frame call landing outputs values = record { graph = is.can.number; call = call; landing = landing; outputs = outputs; values = values }

  abbrev inlined_frame : (call landing : ℕ) → List Binding → Assignment → Waiting
  inlined_frame call landing outputs values = frame (size + call) (size + landing) (map (with_inlined_variable instance) outputs) values

  -- no function that waits is the caller
  abbrev pub AvoidsBelow : List Waiting → Type 0
  AvoidsBelow [] = ⊤
  AvoidsBelow (f ∷ below) = (f.graph ≢ g) × AvoidsBelow below

  abbrev Avoids : State → Type 0
  Avoids (Running h m values below) = (h ≢ g) × AvoidsBelow below
  Avoids (Returned values) = ⊤
  Avoids Failed = ⊤

  -- ---- pairs of states

  pub data Place : Type 0 where
    -- at the same node of the caller
    outside : (m : ℕ) (old_values new_values : Assignment) → m < size → SameElsewhere instance old_values new_values → Place
    -- at a node of the callee, and at that node of the inlined body
    inside : (k : ℕ) (callee waiting values : Assignment) → k < callee_size → InsideOf callee waiting values → Place
    -- within a call by the caller
    away : (call landing : ℕ) (outputs : List Binding) (old_values new_values : Assignment) → landing < size → SameElsewhere instance old_values new_values
        → (h m : ℕ) (values : Assignment) (below : List Waiting) → h ≢ g → AvoidsBelow below → Place
    -- within a call by the callee
    beyond : (call landing : ℕ) (outputs : List Binding) (callee waiting inlined : Assignment) → landing < callee_size → InsideOf callee waiting inlined
        → All (λ b. IsOfCallee own b.variable) outputs
        → (h m : ℕ) (values : Assignment) (below : List Waiting) → h ≢ g → AvoidsBelow below → Place
    ended : (old_values new_values : Assignment) → SameElsewhere instance old_values new_values → Place
    failed : Place

  abbrev pub old_of : Place → State
  old_of (outside m old_values new_values within alike) = Running g m old_values []
  old_of (inside k callee waiting values within is_inside) = Running is.can.number k callee (waits waiting ∷ [])
  old_of (away call landing outputs old_values new_values within alike h m values below other avoids) = Running h m values (below ++ frame call landing outputs old_values ∷ [])
  old_of (beyond call landing outputs callee waiting inlined within is_inside speak h m values below other avoids) =
      Running h m values (below ++ (callee_frame call landing outputs callee ∷ waits waiting ∷ []))
  old_of (ended old_values new_values alike) = Returned old_values
  old_of failed = Failed

  abbrev pub new_of : Place → State
  new_of (outside m old_values new_values within alike) = Running g m new_values []
  new_of (inside k callee waiting values within is_inside) = Running g (size + k) values []
  new_of (away call landing outputs old_values new_values within alike h m values below other avoids) = Running h m values (below ++ frame call landing outputs new_values ∷ [])
  new_of (beyond call landing outputs callee waiting inlined within is_inside speak h m values below other avoids) =
      Running h m values (below ++ inlined_frame call landing outputs inlined ∷ [])
  new_of (ended old_values new_values alike) = Returned new_values
  new_of failed = Failed

  pub record Meets (x y : State) : Type 0 where
    pub place : Place
    pub old : x ≡ old_of place
    pub now : y ≡ new_of place

  -- the callee has returned to the caller, and the inlined body has one more step
  pub record Returns (x y : State) : Type 0 where
    pub callee : Assignment
    pub waiting : Assignment
    pub values : Assignment
    pub is_inside : InsideOf callee waiting values
    pub old : x ≡ Running g is.can.landing (resumed is.can.outputs callee waiting) []
    pub now : y ≡ Running g (size + callee_size) values []

  met : (x y x1 y1 : State) → x1 ≡ x → y1 ≡ y → Meets x y → Meets x1 y1
  met x y x1 y1 p q m = record { place = m.place; old = p ∙ m.old; now = q ∙ m.now }

  either_met : (x y x1 y1 : State) → x1 ≡ x → y1 ≡ y → Meets x y ⊎ Returns x y → Meets x1 y1 ⊎ Returns x1 y1
  either_met x y x1 y1 p q (inl m) = inl (met x y x1 y1 p q m)
  either_met x y x1 y1 p q (inr r) =
      inr (record { callee = r.callee; waiting = r.waiting; values = r.values; is_inside = r.is_inside; old = p ∙ r.old; now = q ∙ r.now })

  -- ---- the nodes

  abbrev inlined_graph : Graph
  inlined_graph = record {
    nodes = inlined_nodes is.caller n is.callee own instance is.can.inputs is.can.outputs is.can.landing;
    entry = is.caller.entry;
  }

  abbrev start_node : Node
  start_node = Basic (start_bindings own instance is.can.inputs) (next.At (size + is.callee.entry))

  abbrev end_node : Node
  end_node = Basic (map (with_inlined_term instance) is.can.outputs) (next.At is.can.landing)

  changed : slice_get new g ≡ Some inlined_graph
  changed = is.changed ∙ ap (inlined_at is.caller n is.callee own instance) is.can.call

  in_graph : (g1 : Option Graph) (graph : Graph) (m : ℕ) → g1 ≡ Some graph → option_and_then (λ (x : Graph). slice_get x.nodes m) g1 ≡ slice_get graph.nodes m
  in_graph g1 graph m e = ap (option_and_then (λ (x : Graph). slice_get x.nodes m)) e

  old_node : (m : ℕ) → node_at graphs g m ≡ slice_get is.caller.nodes m
  old_node m = in_graph (slice_get graphs g) is.caller m is.here

  callee_node : (k : ℕ) → node_at graphs is.can.number k ≡ slice_get is.callee.nodes k
  callee_node k = in_graph (slice_get graphs is.can.number) is.callee k is.there

  abbrev inlined_at_end : Node → Node
  inlined_at_end = inlined_node instance size (size + callee_size)

  within_call : n < size
  within_call = slice_get_within is.caller.nodes n _ is.can.call

  new_node : (m : ℕ) → m < size → m ≢ n → node_at new g m ≡ slice_get is.caller.nodes m
  new_node m less other = in_graph (slice_get new g) inlined_graph m changed ∙ get_before is.caller.nodes n start_node inlined_at_end is.callee.nodes end_node m less other

  new_call : node_at new g n ≡ Some start_node
  new_call = in_graph (slice_get new g) inlined_graph n changed ∙ get_here is.caller.nodes n start_node inlined_at_end is.callee.nodes end_node within_call

  new_body : (k : ℕ) → k < callee_size → node_at new g (size + k) ≡ option_map inlined_at_end (slice_get is.callee.nodes k)
  new_body k less = in_graph (slice_get new g) inlined_graph (size + k) changed ∙ get_inside is.caller.nodes n start_node inlined_at_end is.callee.nodes end_node k less

  new_end : node_at new g (size + callee_size) ≡ Some end_node
  new_end = in_graph (slice_get new g) inlined_graph (size + callee_size) changed ∙ get_last is.caller.nodes n start_node inlined_at_end is.callee.nodes end_node

  -- what is true of each node
  of_node : (P : Node → Type 0) (nodes : List Node) (m : ℕ) (node : Node) → All P nodes → slice_get nodes m ≡ Some node → P node
  of_node P nodes m node all e = subst P (get_or_from_slice_get nodes m node node e) (all m node (slice_get_within nodes m node e))

  -- ---- steps outside the two functions

  left_avoids : (values : Assignment) (below : List Waiting) → AvoidsBelow below → Avoids (leave values below)
  left_avoids values [] avoids = tt
  left_avoids values (f ∷ below) avoids = avoids

  gone_avoids : (h : ℕ) (to : Next) (values : Assignment) (below : List Waiting) → h ≢ g → AvoidsBelow below → Avoids (go h to values below)
  gone_avoids h (next.At m) values below other avoids = (other, avoids)
  gone_avoids h next.Ret values below other avoids = left_avoids values below avoids
  gone_avoids h next.Err values below other avoids = tt

  entered_avoids : (h : ℕ) (graph : Option Graph) (values : Assignment) (below : List Waiting) → h ≢ g → AvoidsBelow below → Avoids (enter h graph values below)
  entered_avoids h None values below other avoids = tt
  entered_avoids h (Some graph) values below other avoids = (other, avoids)

  acted_avoids : (h m : ℕ) (values : Assignment) (below : List Waiting) (node : Option Node) → node_at graphs h m ≡ node → h ≢ g → AvoidsBelow below
      → Avoids (act graphs h m values below node)
  acted_avoids h m values below None e other avoids = tt
  acted_avoids h m values below (Some (Basic bindings to)) e other avoids = gone_avoids h to _ below other avoids
  acted_avoids h m values below (Some (Cond test on_true on_false)) e other avoids = gone_avoids h _ values below other avoids
  acted_avoids h m values below (Some (Call d inputs outputs landing)) e other avoids =
      entered_avoids d (slice_get graphs d) _ _ (is.never_called h m d inputs outputs landing e) (other, avoids)

  step_avoids : (h m : ℕ) (values : Assignment) (below : List Waiting) → h ≢ g → AvoidsBelow below → Avoids (step graphs (Running h m values below))
  unfolding step
  step_avoids h m values below other avoids = acted_avoids h m values below (node_at graphs h m) refl other avoids

  acted_same : (h m : ℕ) (values : Assignment) (below : List Waiting) (node : Option Node) → node_at graphs h m ≡ node → act new h m values below node ≡ act graphs h m values below node
  acted_same h m values below None e = refl
  acted_same h m values below (Some (Basic bindings to)) e = refl
  acted_same h m values below (Some (Cond test on_true on_false)) e = refl
  acted_same h m values below (Some (Call d inputs outputs landing)) e =
      ap (λ (graph : Option Graph). enter d graph (entered inputs values) (record { graph = h; call = m; landing = landing; outputs = outputs; values = values } ∷ below))
      (is.others d (is.never_called h m d inputs outputs landing e))

  node_same : (h m : ℕ) → h ≢ g → node_at new h m ≡ node_at graphs h m
  node_same h m other = ap (option_and_then (λ (x : Graph). slice_get x.nodes m)) (is.others h other)

  step_same : (h m : ℕ) (values : Assignment) (below : List Waiting) → h ≢ g → step new (Running h m values below) ≡ step graphs (Running h m values below)
  unfolding step
  step_same h m values below other = ap (act new h m values below) (node_same h m other) ∙ acted_same h m values below (node_at graphs h m) refl

  -- a step above the functions that wait
  step_above : (all : Graphs) (rest : List Waiting) (h m : ℕ) (values : Assignment) (below : List Waiting)
      → step all (Running h m values (below ++ rest)) ≡ with_waiting rest (step all (Running h m values below))
  unfolding after
  step_above all rest h m values below = after-with_waiting all rest 0 1 (Running h m values below) runs
    where
      runs : (j : ℕ) → j < 1 → has_returned (after (system_of all 0) j (Running h m values below)) ≡ false
      runs zero less = refl
      runs (suc j) less = absurd (omega (arith, less))

  -- ---- steps of the caller

  module _ (m : ℕ) (old_values new_values : Assignment) (alike : SameElsewhere instance old_values new_values) where
    gone_outside : (to : Next) (a b : Assignment) → SameElsewhere instance a b → IsNext size to → Meets (go g to a []) (go g to b [])
    gone_outside (next.At k) a b same within = record { place = outside k a b within same; old = refl; now = refl }
    gone_outside next.Ret a b same within = record { place = ended a b same; old = refl; now = refl }
    gone_outside next.Err a b same within = record { place = failed; old = refl; now = refl }

    chosen_next : (on_true on_false : Next) → IsNext size on_true → IsNext size on_false → (c : Bool) → IsNext size (if c then on_true else on_false)
    chosen_next on_true on_false p q true = p
    chosen_next on_true on_false p q false = q

    called : (d landing : ℕ) (outputs : List Binding) (graph : Option Graph) (values : Assignment) → landing < size → d ≢ g
        → Meets (enter d graph values (frame m landing outputs old_values ∷ [])) (enter d graph values (frame m landing outputs new_values ∷ []))
    called d landing outputs None values within other = record { place = failed; old = refl; now = refl }
    called d landing outputs (Some graph) values within other = record {
      place = away m landing outputs old_values new_values within alike d graph.entry values [] other tt;
      old = refl;
      now = refl;
    }

    acted_outside : (node : Node) → node_at graphs g m ≡ Some node → SpeaksOf (IsElsewhere instance) node → IsNode size node
        → Meets (act graphs g m old_values [] (Some node)) (act new g m new_values [] (Some node))
    acted_outside (Basic bindings to) here speaks is_node =
        gone_outside to _ _ (caller_bound instance own is.can.own_variables old_values new_values alike bindings speaks) is_node.1
    acted_outside (Cond test on_true on_false) here speaks is_node =
        let tested : is_truth (value new_values test) ≡ is_truth (value old_values test) = ap is_truth (elsewhere_value instance own is.can.own_variables old_values new_values alike test speaks) in
        met _ _ _ _ refl (ap (λ (c : Bool). go g (if c then on_true else on_false) new_values []) tested)
        (gone_outside (if is_truth (value old_values test) then on_true else on_false) old_values new_values alike (chosen_next on_true on_false is_node.1 is_node.2 (is_truth (value old_values test))))
    acted_outside (Call d inputs outputs landing) here speaks is_node =
        let other = is.never_called g m d inputs outputs landing here in
        let values = caller_entered instance own is.can.own_variables old_values new_values alike inputs speaks.0 in
        met _ _ _ _ refl
        (λ i. enter d (is.others d other i) (values i) (frame m landing outputs new_values ∷ []))
        (called d landing outputs (slice_get graphs d) (entered inputs old_values) is_node.2 other)

  -- ---- steps of the callee

  module _ (k : ℕ) (callee waiting values : Assignment) (is_inside : InsideOf callee waiting values) where
    gone_inside : (to : Next) (a b : Assignment) → InsideOf a waiting b → IsNext callee_size to
        → Meets (go is.can.number to a (waits waiting ∷ [])) (go g (inlined_next size (size + callee_size) to) b [])
        ⊎ Returns (go is.can.number to a (waits waiting ∷ [])) (go g (inlined_next size (size + callee_size) to) b [])
    gone_inside (next.At j) a b still within = inl (record { place = inside j a waiting b within still; old = refl; now = refl })
    gone_inside next.Ret a b still within = inr (record { callee = a; waiting = waiting; values = b; is_inside = still; old = refl; now = refl })
    gone_inside next.Err a b still within = inl (record { place = failed; old = refl; now = refl })

    called_inside : (d landing : ℕ) (outputs : List Binding) (graph : Option Graph) (start : Assignment) → landing < callee_size → d ≢ g → All (λ b. IsOfCallee own b.variable) outputs
        → Meets (enter d graph start (callee_frame k landing outputs callee ∷ waits waiting ∷ [])) (enter d graph start (inlined_frame k landing outputs values ∷ []))
    called_inside d landing outputs None start within other speak = record { place = failed; old = refl; now = refl }
    called_inside d landing outputs (Some graph) start within other speak = record {
      place = beyond k landing outputs callee waiting values within is_inside speak d graph.entry start [] other tt;
      old = refl;
      now = refl;
    }

    next_inside : (on_true on_false : Next) → (c : Bool)
        → go g (if c then inlined_next size (size + callee_size) on_true else inlined_next size (size + callee_size) on_false) values []
        ≡ go g (inlined_next size (size + callee_size) (if c then on_true else on_false)) values []
    next_inside on_true on_false true = refl
    next_inside on_true on_false false = refl

    chosen_inside : (on_true on_false : Next) → IsNext callee_size on_true → IsNext callee_size on_false → (c : Bool) → IsNext callee_size (if c then on_true else on_false)
    chosen_inside on_true on_false p q true = p
    chosen_inside on_true on_false p q false = q

    acted_inside : (node : Node) → node_at graphs is.can.number k ≡ Some node → SpeaksOf (IsOfCallee own) node → IsNode callee_size node
        → Meets (act graphs is.can.number k callee (waits waiting ∷ []) (Some node)) (act new g (size + k) values [] (Some (inlined_at_end node)))
        ⊎ Returns (act graphs is.can.number k callee (waits waiting ∷ []) (Some node)) (act new g (size + k) values [] (Some (inlined_at_end node)))
    acted_inside (Basic bindings to) here speaks is_node =
        gone_inside to _ _ (callee_bound instance own is.can.own_variables callee waiting values is_inside bindings speaks) is_node.1
    acted_inside (Cond test on_true on_false) here speaks is_node =
        let tested : is_truth (value values (inlined_term instance test)) ≡ is_truth (value callee test) =
        ap is_truth (inlined_value instance own is.can.own_variables callee waiting values is_inside test speaks) in
        either_met _ _ _ _ refl
        (ap (λ (c : Bool). go g (if c then inlined_next size (size + callee_size) on_true else inlined_next size (size + callee_size) on_false) values []) tested
        ∙ next_inside on_true on_false (is_truth (value callee test)))
        (gone_inside (if is_truth (value callee test) then on_true else on_false) callee values is_inside
        (chosen_inside on_true on_false is_node.1 is_node.2 (is_truth (value callee test))))
    acted_inside (Call d inputs outputs landing) here speaks is_node =
        let other = is.never_called is.can.number k d inputs outputs landing here in
        let start = callee_entered instance own is.can.own_variables callee waiting values is_inside inputs speaks.0 in
        inl (met _ _ _ _ refl
        (λ i. enter d (is.others d other i) (start i) (inlined_frame k landing outputs values ∷ []))
        (called_inside d landing outputs (slice_get graphs d) (entered inputs callee) is_node.2 other speaks.1))

  -- ---- a further callee returns

  back_outside : (call landing : ℕ) (outputs : List Binding) (old_values new_values : Assignment) → landing < size → SameElsewhere instance old_values new_values → (s : State) → Avoids s
      → Meets (with_waiting (frame call landing outputs old_values ∷ []) s) (with_waiting (frame call landing outputs new_values ∷ []) s)
  back_outside call landing outputs old_values new_values within alike (Running h m values below) avoids = record {
    place = away call landing outputs old_values new_values within alike h m values below avoids.0 avoids.1;
    old = refl;
    now = refl;
  }
  back_outside call landing outputs old_values new_values within alike (Returned values) avoids = record {
    place = outside landing (resumed outputs values old_values) (resumed outputs values new_values) within
        (caller_resumed instance own is.can.own_variables old_values new_values alike outputs values);
    old = refl;
    now = refl;
  }
  back_outside call landing outputs old_values new_values within alike Failed avoids = record { place = failed; old = refl; now = refl }

  back_inside : (call landing : ℕ) (outputs : List Binding) (callee waiting inlined : Assignment) → landing < callee_size → InsideOf callee waiting inlined
      → All (λ b. IsOfCallee own b.variable) outputs → (s : State) → Avoids s
      → Meets (with_waiting (callee_frame call landing outputs callee ∷ waits waiting ∷ []) s) (with_waiting (inlined_frame call landing outputs inlined ∷ []) s)
  back_inside call landing outputs callee waiting inlined within is_inside speak (Running h m values below) avoids = record {
    place = beyond call landing outputs callee waiting inlined within is_inside speak h m values below avoids.0 avoids.1;
    old = refl;
    now = refl;
  }
  back_inside call landing outputs callee waiting inlined within is_inside speak (Returned values) avoids = record {
    place = inside landing (resumed outputs values callee) waiting (resumed (map (with_inlined_variable instance) outputs) values inlined) within
        (callee_resumed instance own is.can.own_variables callee waiting inlined is_inside outputs values speak);
    old = refl;
    now = refl;
  }
  back_inside call landing outputs callee waiting inlined within is_inside speak Failed avoids = record { place = failed; old = refl; now = refl }

  -- ---- all steps

  caller_node : (m : ℕ) → m < size → (node : Node) × (slice_get is.caller.nodes m ≡ Some node)
  caller_node m less = (get_or is.caller.nodes m start_node, slice_get-get_or is.caller.nodes m start_node less)

  call_speaks : SpeaksOf (IsElsewhere instance) (Call is.can.number is.can.inputs is.can.outputs is.can.landing)
  call_speaks = of_node (SpeaksOf (IsElsewhere instance)) is.caller.nodes n _ is.can.fresh is.can.call

  call_valid : IsNode size (Call is.can.number is.can.inputs is.can.outputs is.can.landing)
  call_valid = of_node (IsNode size) is.caller.nodes n _ is.can.valid_caller.nodes is.can.call

  -- the caller's own node
  step_outside : (m : ℕ) (old_values new_values : Assignment) → m < size → SameElsewhere instance old_values new_values → m ≢ n
      → Meets (step graphs (Running g m old_values [])) (step new (Running g m new_values []))
  unfolding step
  step_outside m old_values new_values less alike other =
      let node = caller_node m less in
      met _ _ _ _
      (ap (act graphs g m old_values []) (old_node m ∙ node.1))
      (ap (act new g m new_values []) (new_node m less other ∙ node.1))
      (acted_outside m old_values new_values alike node.0 (old_node m ∙ node.1)
      (of_node (SpeaksOf (IsElsewhere instance)) is.caller.nodes m node.0 is.can.fresh node.1)
      (of_node (IsNode size) is.caller.nodes m node.0 is.can.valid_caller.nodes node.1))

  -- the call
  step_call : (old_values new_values : Assignment) → SameElsewhere instance old_values new_values
      → Meets (step graphs (Running g n old_values [])) (step new (Running g n new_values []))
  unfolding step
  step_call old_values new_values alike = record {
    place = inside is.callee.entry (entered is.can.inputs old_values) old_values (bound (start_bindings own instance is.can.inputs) new_values new_values)
        is.can.valid_callee.entry (started instance own is.can.own_variables old_values new_values alike is.can.inputs call_speaks.0);
    old =
        ap (act graphs g n old_values []) (old_node n ∙ is.can.call)
        ∙ ap (λ (graph : Option Graph). enter is.can.number graph (entered is.can.inputs old_values) (waits old_values ∷ [])) is.there;
    now = ap (act new g n new_values []) new_call;
  }

  step_inside : (k : ℕ) (callee waiting values : Assignment) → k < callee_size → InsideOf callee waiting values
      → Meets (step graphs (Running is.can.number k callee (waits waiting ∷ []))) (step new (Running g (size + k) values []))
      ⊎ Returns (step graphs (Running is.can.number k callee (waits waiting ∷ []))) (step new (Running g (size + k) values []))
  unfolding step
  step_inside k callee waiting values less is_inside =
      let node = get_or is.callee.nodes k start_node in
      let here : slice_get is.callee.nodes k ≡ Some node = slice_get-get_or is.callee.nodes k start_node less in
      either_met _ _ _ _
      (ap (act graphs is.can.number k callee (waits waiting ∷ [])) (callee_node k ∙ here))
      (ap (act new g (size + k) values []) (new_body k less ∙ ap (option_map inlined_at_end) here))
      (acted_inside k callee waiting values is_inside node (callee_node k ∙ here)
      (of_node (SpeaksOf (IsOfCallee own)) is.callee.nodes k node is.can.listed here)
      (of_node (IsNode callee_size) is.callee.nodes k node is.can.valid_callee.nodes here))

  pub step_on : (p : Place) → Meets (step graphs (old_of p)) (step new (new_of p)) ⊎ Returns (step graphs (old_of p)) (step new (new_of p))
  unfolding step
  step_on (outside m old_values new_values less alike) = elim (cases_order m n) [
    | inl here ↦
        inl (met _ _ _ _ (ap (λ (k : ℕ). step graphs (Running g k old_values [])) here) (ap (λ (k : ℕ). step new (Running g k new_values [])) here)
        (step_call old_values new_values alike))
    | inr other ↦ inl (step_outside m old_values new_values less alike (apart other))
  ]
    where
      apart : (m < n) ⊎ (n < m) → m ≢ n
      apart (inl before) e = omega (arith, before, e)
      apart (inr behind) e = omega (arith, behind, e)
  step_on (inside k callee waiting values less is_inside) = step_inside k callee waiting values less is_inside
  step_on (away call landing outputs old_values new_values within alike h m values below other avoids) =
      inl (met _ _ _ _
      (step_above graphs (frame call landing outputs old_values ∷ []) h m values below)
      (step_above new (frame call landing outputs new_values ∷ []) h m values below
      ∙ ap (with_waiting (frame call landing outputs new_values ∷ [])) (step_same h m values below other))
      (back_outside call landing outputs old_values new_values within alike (step graphs (Running h m values below)) (step_avoids h m values below other avoids)))
  step_on (beyond call landing outputs callee waiting inlined within is_inside speak h m values below other avoids) =
      inl (met _ _ _ _
      (step_above graphs (callee_frame call landing outputs callee ∷ waits waiting ∷ []) h m values below)
      (step_above new (inlined_frame call landing outputs inlined ∷ []) h m values below
      ∙ ap (with_waiting (inlined_frame call landing outputs inlined ∷ [])) (step_same h m values below other))
      (back_inside call landing outputs callee waiting inlined within is_inside speak (step graphs (Running h m values below)) (step_avoids h m values below other avoids)))
  step_on (ended old_values new_values alike) = inl (record { place = ended old_values new_values alike; old = refl; now = refl })
  step_on failed = inl (record { place = failed; old = refl; now = refl })

  -- the last node of the inlined body
  pub step_back : (x y : State) → Returns x y → Meets x (step new y)
  unfolding step
  step_back x y r = record {
    place = outside is.can.landing (resumed is.can.outputs r.callee r.waiting) (bound (map (with_inlined_term instance) is.can.outputs) r.values r.values)
        call_valid.2 (returned instance own is.can.own_variables r.callee r.waiting r.values r.is_inside is.can.outputs is.can.takes);
    old = r.old;
    now = ap (step new) r.now ∙ ap (act new g (size + callee_size) r.values []) new_end;
  }
