-- Each call of a function that is reached runs its graph as the function runs.
use Rattle.std.proofs.Common.{◌≡◌, ◌∙◌, ℕ, zero, suc, ◌+◌, Bool, true, false, cond, if◌then◌else◌, ℤ, refl, sym, ap, subst, arith, List, [], ◌∷◌, ◌++◌, Option, Some, None, Result, bytes_eq, All, map}
use Rattle.std.specs.Prelude.{slice_get, IsSome, option_and_then}
use Rattle.std.proofs.lemmas.List.Elements.{All-head, All-tail}
use Rattle.std.proofs.lemmas.Slice.Eq.{bytes_eq-Decides}
use Rattle.memory_spec.specs.Memory.{Memory}
use Rattle.memory_spec.specs.Zones.{Zone}
use Rattle.term_core_spec.specs.Value.{Assignment}
use Rattle.graph_core_spec.specs.declared.Next.{Next}
use Rattle.graph_core_spec.specs.declared.Next.TheVariants.{At, Ret}
use Rattle.graph_core_spec.specs.Graph.{Graph, Graphs, Basic, node_at}
use Rattle.graph_core_spec.specs.Run.{Waiting, State, Running, Failed, go, leave, enter, entered, resumed, system_of}
use Rattle.graph_core_spec.specs.TransitionSystem.{after}
use Rattle.c_token_spec.specs.Words.{entry_of}
use Rattle.c_types_spec.specs.declared.Scalar.{Scalar}
use Rattle.c_types_spec.specs.declared.Jump.TheVariants.{Break, Continue}
use Rattle.c_types_spec.specs.Core.{Core, Call, FunctionType, Body, Typed}
use Rattle.c_types_spec.specs.HasType as typed
use Rattle.c_types_spec.specs.HasType.{HaveTypes, IsTyped, Receives, IsTypedBody, IsTypedUnit, scope_of}
use Rattle.c_run_spec.specs.Setting.{Broken}
use Rattle.c_run_spec.specs.Execution as c
use Rattle.c_run_spec.specs.Execution.{Flow, More, Broke, Went, Jumped, Gave, Called, Unfinished, Returned, Calls, does, received, after_call, on_ok}
use Rattle.c_run_spec.specs.Evaluation.{values}
use Rattle.c_run_spec.specs.Calls as calling
use Rattle.c_run_spec.specs.Calls.{body_named, locals_at_entry, runs_body, runs}
use Rattle.pair_setup_spec.specs.SourceReach.{Reaches, further}
use Rattle.c_graph_spec.specs.Guards.{Place}
use Rattle.c_graph_laws.proofs.Extents.{IsPlain, ActionExtents, BodyExtents, ResultExtent, UnitExtents}
use Rattle.c_graph_spec.specs.Layout.{Setting, Exits, exits, argument_tests, inputs, outputs, entry, nodes}
use Rattle.c_graph_spec.specs.SourceGraph.{body_number, setting_of, graph_of, graphs_of}
use Rattle.c_graph_laws.specs.Together.{Alike, IsPlace, setting_at, IsRunning, running}
use Rattle.c_graph_laws.proofs.Occurs.{Comes, Occurs}
use Rattle.c_graph_laws.proofs.Laid.{Holds, laid}
use Rattle.c_graph_laws.proofs.Steps.{pass, stop, empty, joins}
use Rattle.c_graph_laws.proofs.Steps as steps
use Rattle.c_graph_laws.proofs.Flows.{Follows, more, broke, went, jumped, gave, later, Left}
use Rattle.c_graph_laws.proofs.Acting.{acts}
use Rattle.c_graph_laws.proofs.Entering.{Arguments, argument_breaks, arguments_mean, arguments_are, Passed, alike_entered}
use Rattle.c_graph_laws.proofs.Calling.{Ends, unfinished, breaks_off, returned, alike_on, alike_result}

-- ---- the body of a name

-- what is known of the body of a name
record Found (bodies : List Body) (P : Body → Type 0) (make : Body → Graph) (function : List ℕ) (callee : Body) : Type 0 where
  holds : P callee
  named : bytes_eq callee.name function ≡ true
  graph_is : slice_get (map make bodies) (body_number function bodies) ≡ Some (make callee)

found_in : (bodies : List Body) (P : Body → Type 0) (make : Body → Graph) (function : List ℕ) (callee : Body) → All P bodies → body_named bodies function ≡ Some callee → Found bodies P make function callee
unfolding body_number
found_in [] P make function callee all e = absurd (cc)
found_in (one ∷ rest) P make function callee all e = at (bytes_eq one.name function) refl e (λ later. found_in rest P make function callee (All-tail P one rest all) later)
  where
    at : (b : Bool) → bytes_eq one.name function ≡ b → cond b (Some one) (body_named rest function) ≡ Some callee → (body_named rest function ≡ Some callee → Found rest P make function callee)
        → Found (one ∷ rest) P make function callee
    at true is e later =
        let same : one ≡ callee = cc in
        subst (λ (c : Body). Found (one ∷ rest) P make function c) same (record {
          holds = All-head P one rest all;
          named = is;
          graph_is = ap (λ (t : Bool). slice_get (make one ∷ map make rest) (if t then 0 else body_number function rest + 1)) is;
        })
    at false is e later =
        let found = later e in
        record {
          holds = found.holds;
          named = found.named;
          graph_is = ap (λ (t : Bool). slice_get (make one ∷ map make rest) (if t then 0 else body_number function rest + 1)) is
              ∙ ap (slice_get (make one ∷ map make rest)) {x = body_number function rest + 1} {y = suc (body_number function rest)} (omega arith) ∙ found.graph_is;
        }

some_same : {X : Type 0} (o : Option X) (x y : X) → o ≡ Some x → o ≡ Some y → x ≡ y
some_same o x y e d = cc

-- what holds of each item holds of the one at a place
pub at_item : {X : Type 0} (P : X → Type 0) (xs : List X) (i : ℕ) (x : X) → All P xs → slice_get xs i ≡ Some x → P x
at_item P [] i x all e = absurd (cc)
at_item P (y ∷ xs) zero x all e = let same : y ≡ x = cc in subst P same (All-head P y xs all)
at_item P (y ∷ xs) (suc i) x all e = at_item P xs i x (All-tail P y xs all) e

some_body : (o : Option Body) → IsSome o → (body : Body) × (o ≡ Some body)
some_body (Some body) is = (body, refl)
some_body None is = absurd (cc)

-- ---- the end of a function

module _ (unit : Typed) (p : Place) (zone : Zone) (outermost g : ℕ) (body : Body) (below : List Waiting) where
  abbrev graphs : Graphs
  graphs = graphs_of unit p

  -- where a body ends that ends by a return or a guard
  ended : (d n : ℕ) (x : State) (to : Next) (e : Exits) (ends : Bool) → ends ≡ true → (f : Flow) → Follows graphs outermost g body.locals zone body.signature.result below d n x to e false false ends f
      → Ends graphs outermost below body.signature.result zone d n x (calling.returned f)
  ended d n x to e ends is _ (more k enough goes) = unfinished k enough goes
  ended d n x to e ends is _ (broke guard offset k at) = breaks_off guard offset k at
  ended d n x to e ends is _ (went st left k s enough not_ended alike at) = absurd (cc)
  ended d n x to e ends is _ (jumped Break st left k s enough may alike at) = absurd (cc)
  ended d n x to e ends is _ (jumped Continue st left k s enough may alike at) = absurd (cc)
  ended d n x to e ends is _ (gave value bytes left k s enough left_is at) = returned value bytes left k s enough left_is at

  -- after one more step
  one_later : (d n : ℕ) (x y : State) (called : Called) → after (system_of graphs outermost) 1 x ≡ y → Ends graphs outermost below body.signature.result zone d n y called
      → Ends graphs outermost below body.signature.result zone (suc d) (suc n) x called
  one_later d n x y _ at (unfinished k enough goes) =
      unfinished (1 + k) (omega arith) (subst IsRunning (sym (joins graphs outermost g 1 k x y (after (system_of graphs outermost) k y) at refl)) goes)
  one_later d n x y _ at (breaks_off guard offset k is) = breaks_off guard offset (1 + k) (joins graphs outermost g 1 k x y Failed at is)
  one_later d n x y _ at (returned v bytes left k s enough left_is is) = returned v bytes left (1 + k) s (omega arith) left_is (joins graphs outermost g 1 k x y (leave s below) at is)

-- ---- calls

module _ (unit : Typed) (p : Place) (placed : IsPlace p) (zone : Zone) (outermost : ℕ) (is_typed : All (λ (b : Body). IsTypedBody unit b) unit.bodies) (extents : UnitExtents unit) (name : List ℕ)
    (bodies : (other : List ℕ) → Reaches unit name other → IsSome (body_named unit.bodies other)) where
  abbrev all_graphs : Graphs
  all_graphs = graphs_of unit p

  -- calls of functions that are reached do as their graphs do
  abbrev pub Serves : (d : ℕ) → Calls → Type 0
  Serves d calls = (function : List ℕ) (callee : Body) → Reaches unit name function → body_named unit.bodies function ≡ Some callee
      → (vs : List ℤ) (bytes : Memory) (s : Assignment) (below : List Waiting) (n : ℕ) → Alike callee.locals (locals_at_entry callee.locals vs) bytes zone s
      → Ends all_graphs outermost below callee.signature.result zone d n (Running (body_number function unit.bodies) 0 s below) (calls function vs bytes n)

  typed_body : (function : List ℕ) (callee : Body) → body_named unit.bodies function ≡ Some callee → Found unit.bodies (λ (b : Body). IsTypedBody unit b) (graph_of unit p) function callee
  typed_body function callee e = found_in unit.bodies (λ (b : Body). IsTypedBody unit b) (graph_of unit p) function callee is_typed e

  sized_body : (function : List ℕ) (callee : Body) → body_named unit.bodies function ≡ Some callee → BodyExtents callee
  sized_body function callee e = (found_in unit.bodies BodyExtents (graph_of unit p) function callee extents.bodies e).holds

  module _ (g : ℕ) (body : Body) (body_extents : BodyExtents body) (below : List Waiting) (calls : Calls) (d : ℕ) (serve : Serves d calls) where
    abbrev f : Setting
    f = setting_of unit p body

    -- the type of a callee
    signature : (function : List ℕ) (callee : Body) (type : FunctionType) → entry_of unit.functions function ≡ Some type → body_named unit.bodies function ≡ Some callee → type ≡ callee.signature
    signature function callee type named e =
        let found = typed_body function callee e in
        let same : callee.name ≡ function = (bytes_eq-Decides callee.name function).0 found.named in
        let declared = subst (λ (n : List ℕ). entry_of unit.functions n ≡ Some callee.signature) same found.holds.declared in
        some_same (entry_of unit.functions function) type callee.signature named declared

    -- where the caller goes on
    caller : (function : List ℕ) (type : FunctionType) (result : Option ℕ) → entry_of unit.functions function ≡ Some type → Receives (scope_of unit body) type result
        → ResultExtent type.result → (st : c.State) (s callee_s : Assignment) → Alike body.locals st.locals st.memory zone s
        → (v : Option ℤ) (bytes : Memory) → Left type.result v bytes zone callee_s → Alike body.locals (received body.locals st.locals result v) bytes zone (resumed (outputs f function result) callee_s s)
    caller function type None named receives extent st s callee_s alike v bytes left = alike_on unit p zone body st.locals st.memory bytes s callee_s alike type.result v left
    caller function type (Some number) named receives extent st s callee_s alike v bytes left =
        alike_result unit p zone body st.locals st.memory bytes s callee_s alike function type number receives.0 receives.1 named receives.3 receives.2
        (subst ResultExtent receives.3 extent) (at_item IsPlain body.locals number receives.0 body_extents.locals receives.2) v
        (subst (λ (o : Option Scalar). Left o v bytes zone callee_s) receives.3 left)

    call_acts : (number : ℕ) (function : List ℕ) (arguments : List Core) (result : Option ℕ) → IsTyped (scope_of unit body) (Call number function arguments result)
        → ActionExtents (Call number function arguments result) → Reaches unit name function
        → (from to : Next) (e : Exits) (in_loop in_switch : Bool) → Occurs all_graphs g f (Call number function arguments result) from to e → Unit {0}
        → (st : c.State) (n : ℕ) (s : Assignment) → Alike body.locals st.locals st.memory zone s
        → Follows all_graphs outermost g body.locals zone body.signature.result below d n (go g from s below) to e in_loop in_switch false
        (does (setting_at unit p zone) calls body.locals d (Call number function arguments result) st n)
    unfolding does graph_of after
    call_acts number function arguments result has x reached from to e l w h j st n s alike = by has
      where
        Going : Flow → Type 0
        Going flow = Follows all_graphs outermost g body.locals zone body.signature.result below d n (go g from s below) to e l w false flow

        by : IsTyped (scope_of unit body) (Call number function arguments result)
            → Going (on_ok (values (setting_at unit p zone) st.locals st.memory arguments) (λ vs. after_call body.locals st.locals result (calls function vs st.memory n)))
        by (typed.call _ _ _ _ type named haves receives) =
            passed_on (values (setting_at unit p zone) st.locals st.memory arguments) (arguments_are unit p placed zone body st.locals st.memory s alike arguments type.parameters haves x)
          where
            callee : (b : Body) × (body_named unit.bodies function ≡ Some b)
            callee = some_body (body_named unit.bodies function) (bodies function reached)

            is_signature : type ≡ callee.0.signature
            is_signature = signature function callee.0 type named callee.1

            frame : Waiting
            frame = record { graph = g; call = h.3.number; landing = h.1; outputs = outputs f function result; values = s }

            started : after (system_of all_graphs outermost) 1 (go g h.0 s below) ≡ Running (body_number function unit.bodies) 0 (entered (inputs f 0 arguments) s) (frame ∷ below)
            started =
                steps.acts all_graphs outermost g h.0 _ s below h.3
                ∙ ap (λ (o : Option Graph). enter (body_number function unit.bodies) o (entered (inputs f 0 arguments) s) (frame ∷ below)) (typed_body function callee.0 callee.1).graph_is

            entered_alike : (vs : List ℤ) → Passed unit p placed zone body st.locals st.memory s alike type.parameters arguments vs
                → Alike callee.0.locals (locals_at_entry callee.0.locals vs) st.memory zone (entered (inputs f 0 arguments) s)
            entered_alike vs passed =
                let begun = (typed_body function callee.0 callee.1).holds.begun in
                subst (λ (types : List Scalar). Alike types (locals_at_entry types vs) st.memory zone (entered (inputs f 0 arguments) s)) (sym begun.1)
                (subst (λ (t : FunctionType). Alike (t.parameters ++ begun.0) (locals_at_entry (t.parameters ++ begun.0) vs) st.memory zone (entered (inputs f 0 arguments) s)) is_signature
                (alike_entered unit p placed zone body st.locals st.memory s alike type.parameters begun.0 arguments vs passed))

            joined : (j k i : ℕ) (x y z : State) → after (system_of all_graphs outermost) j x ≡ y → after (system_of all_graphs outermost) k y ≡ z → after (system_of all_graphs outermost) (j + k) x ≡ z
            joined j k i x y z a b = joins all_graphs outermost g j k x y z a b

            ends : (k : ℕ) → after (system_of all_graphs outermost) k (go g from s below) ≡ Running (body_number function unit.bodies) 0 (entered (inputs f 0 arguments) s) (frame ∷ below)
                → (called : Called) → Ends all_graphs outermost (frame ∷ below) callee.0.signature.result zone d n (Running (body_number function unit.bodies) 0 (entered (inputs f 0 arguments) s) (frame ∷ below)) called
                → Going (after_call body.locals st.locals result called)
            ends k at _ (unfinished i enough goes) = more (k + i) (omega arith) (subst IsRunning (sym (joined k i 0 (go g from s below) _ _ at refl)) goes)
            ends k at _ (breaks_off guard offset i is) = broke guard offset (k + i) (joined k i 0 (go g from s below) _ Failed at is)
            ends k at _ (returned v bytes left i callee_s enough left_is is) =
                went (c.state (received body.locals st.locals result v) bytes) left (k + i + 1) (resumed (outputs f function result) callee_s s) (omega arith) refl
                (caller function type result named receives (subst (λ (t : FunctionType). ResultExtent t.result) (sym is_signature) (sized_body function callee.0 callee.1).result) st s callee_s alike v bytes
                (subst (λ (t : FunctionType). Left t.result v bytes zone callee_s) (sym is_signature) left_is))
                (joined (k + i) 1 0 (go g from s below) (go g (At h.1) (resumed (outputs f function result) callee_s s) below) (go g to (resumed (outputs f function result) callee_s s) below)
                (joined k i 0 (go g from s below) _ _ at is) (empty all_graphs outermost g (At h.1) to (resumed (outputs f function result) callee_s s) below h.4))

            passed_on : (r : Result (List ℤ) Broken) → Arguments unit p placed zone body st.locals st.memory s alike type.parameters arguments r
                → Going (on_ok r (λ vs. after_call body.locals st.locals result (calls function vs st.memory n)))
            passed_on _ (argument_breaks broken fails) =
                let stopped = stop all_graphs outermost g (argument_tests f arguments) from h.0 s below h.2 fails in
                broke broken.0 broken.1 stopped.0 stopped.1
            passed_on _ (arguments_mean vs holds passed) =
                let tested = pass all_graphs outermost g (argument_tests f arguments) from h.0 s below h.2 holds in
                ends (tested.0 + 1) (joined tested.0 1 0 (go g from s below) (go g h.0 s below) _ tested.1 started) (calls function vs st.memory n)
                (serve function callee.0 reached callee.1 vs st.memory (entered (inputs f 0 arguments) s) (frame ∷ below) n (entered_alike vs passed))

  -- ---- the nodes of a function

  graph_nodes : (function : List ℕ) (callee : Body) → body_named unit.bodies function ≡ Some callee → (i : ℕ)
      → node_at all_graphs (body_number function unit.bodies) i ≡ slice_get (graph_of unit p callee).nodes i
  graph_nodes function callee e i = ap (λ (o : Option Graph). option_and_then (λ (graph : Graph). slice_get graph.nodes i) o) (typed_body function callee e).graph_is

  begin : (callee : Body) → Next
  begin callee = entry (setting_of unit p callee) callee.action 1 Ret (exits Ret Ret)

  starts : (function : List ℕ) (callee : Body) → body_named unit.bodies function ≡ Some callee → Comes all_graphs (body_number function unit.bodies) (At 0) (Basic [] (begin callee))
  unfolding graph_of begin
  starts function callee e = record { number = 0; from_is = refl; here = graph_nodes function callee e 0 }

  holds_nodes : (function : List ℕ) (callee : Body) → body_named unit.bodies function ≡ Some callee
      → Holds all_graphs (body_number function unit.bodies) (nodes (setting_of unit p callee) callee.action 1 Ret (exits Ret Ret)) 1
  unfolding graph_of
  holds_nodes function callee e = record {
    each = λ i node is. subst (λ (n : ℕ). node_at all_graphs (body_number function unit.bodies) n ≡ Some node) {x = suc i} {y = 1 + i} (omega arith) (graph_nodes function callee e (suc i) ∙ is);
  }

  pub serves : (d : ℕ) → Serves d (runs (setting_at unit p zone) d)
  unfolding runs after begin
  serves zero function callee reached e vs bytes s below n alike = unfinished 0 (omega arith) (running (body_number function unit.bodies) 0 s below)
  serves (suc d) function callee reached e vs bytes s below zero alike = unfinished 0 (omega arith) (running (body_number function unit.bodies) 0 s below)
  serves (suc d) function callee reached e vs bytes s below (suc n) alike =
      let g = body_number function unit.bodies in
      let holds = (typed_body function callee e).holds in
      let sized = sized_body function callee e in
      subst (λ (o : Option Body). Ends all_graphs outermost below callee.signature.result zone (suc d) (suc n) (Running g 0 s below)
      (runs_body (setting_at unit p zone) (runs (setting_at unit p zone) d) d o vs bytes n)) (sym e)
      (one_later unit p zone outermost g callee below d n (Running g 0 s below) (go g (begin callee) s below) _ (empty all_graphs outermost g (At 0) (begin callee) s below (starts function callee e))
      (ended unit p zone outermost g callee below d n (go g (begin callee) s below) Ret (exits Ret Ret) _ holds.ended _
      (acts unit p placed zone outermost g callee below (runs (setting_at unit p zone) d) d (Reaches unit name)
      (λ number function arguments result has x there. call_acts g callee sized below (runs (setting_at unit p zone) d) d (serves d) number function arguments result has x there)
      callee.action holds.typed sized.action
      (λ other there. further function other reached (record { body = callee; body_is = e; calls = there }))
      (begin callee) Ret (exits Ret Ret) false false (laid all_graphs g (setting_of unit p callee) callee.action 1 Ret (exits Ret Ret) (holds_nodes function callee e)) holds.inside
      (c.state (locals_at_entry callee.locals vs) bytes) n s alike)))
