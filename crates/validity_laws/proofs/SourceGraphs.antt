-- Graphs of C speak of locals, whether they are set, one memory and further words; and what their calls bind.
use Rattle.std.proofs.Common.{◌≡◌, ◌∙◌, ℕ, suc, ◌+◌, ◌==◌, true, false, ℤ, refl, sym, ap, List, [], ◌∷◌, ◌++◌, length, map, All, Option, Some, None, bytes_eq, Bool, cond, if◌then◌else◌, arith}
use Rattle.std.specs.Prelude.{⊤, ◌||◌, not}
use Rattle.std.proofs.lemmas.List.Elements.{All-nil, All-cons, All-append, All-head, All-tail, All-weaker}
use Rattle.std.proofs.lemmas.Bool.{and_parts}
use Rattle.std.proofs.lemmas.Slice.Eq.{bytes_eq-Decides}
use Rattle.term_core_spec.specs.declared.Variable.{Variable}
use Rattle.term_core_spec.specs.Same.{same_variable}
use Rattle.term_core_spec.specs.Term.{Term, Occurs, truth, open_term, equal}
use Rattle.graph_core_spec.specs.declared.Next.{Next}
use Rattle.graph_core_spec.specs.declared.Next.TheVariants.{At, Ret, Err}
use Rattle.graph_core_spec.specs.Graph.{Binding, Node, Basic, Cond, Graph}
use Rattle.graph_core_spec.specs.Graph as graph
use Rattle.c_token_spec.specs.Words.{entry_of}
use Rattle.c_types_spec.specs.declared.Scalar.{Scalar}
use Rattle.c_types_spec.specs.declared.TestPlace.TheVariants.{Before, After}
use Rattle.c_types_spec.specs.Core.{Core, FunctionType, Body, Typed, Action, Groups, type_of}
use Rattle.c_types_spec.specs.HasType as typed
use Rattle.c_types_spec.specs.HasType.{HaveTypes, IsTyped, AreTyped, IsTypedBody, scope_of}
use Rattle.c_run_spec.specs.Calls.{body_named}
use Rattle.c_graph_spec.specs.State.{width_of, local, is_set, memory, result, value_constant}
use Rattle.c_graph_spec.specs.Values.{Object, object, no_object, at_width, value_term}
use Rattle.c_graph_spec.specs.Guards.{Place, tests, write_tests}
use Rattle.c_graph_spec.specs.Layout.{Setting, Exits, exits, value_in, truth_in, tests_in, count, first, chain, guarded, binding, set_local, store_tests, memory_stored, argument_tests, inputs, outputs, result_put, selection, case_count, size, entry, otherwise, cases_of, step_entry, nodes, groups_nodes}
use Rattle.c_graph_spec.specs.SourceGraph.{body_number, setting_of, graph_of, graphs_of}
use Rattle.c_graph_laws.proofs.ExpressionSorts.{type_is}
use Rattle.sim_rules_spec.specs.Points.{is_source}
use Rattle.sim_rules_spec.specs.Calls.{IsGivenTerm}
use Rattle.sim_rules_spec.specs.Proper.{IsOwnBinding, AreOwnBindings, IsOwnNode, IsOwnGraph}
use Rattle.sim_inline_laws.proofs.OfKind.{IsKindTerm, IsKindBinding, IsKindNode}
use Rattle.validity_laws.proofs.Speaking.{const_own, truth_own, open_own, two_own}
use Rattle.validity_laws.proofs.PlainLines.{result_given}
use Rattle.validity_laws.proofs.SourceSpeaks.{is_source_memory, is_spoken, is_first, Own, width_own, stored_own, speaks, writes_own, tests_own}

-- ---- what a call node binds: an argument of its type for each parameter; and where it is back what its callee gives

abbrev pub HasCallShape : Typed → Setting → Node → Type 0
HasCallShape unit f (Basic bindings next) = ⊤
HasCallShape unit f (Cond test on_true on_false) = ⊤
HasCallShape unit f (graph.Call callee ins outs lands) =
    (function : List ℕ) × (arguments : List Core) × (type : FunctionType) × (callee ≡ f.graph_number function) × (ins ≡ inputs f 0 arguments)
    × (entry_of unit.functions function ≡ Some type) × (map type_of arguments ≡ type.parameters) × All (λ (b : Binding). IsGivenTerm b.term) outs
    × (place : Option ℕ) × (outs ≡ outputs f function place)

-- ---- nodes whose terms and variables are of the source, with its only memory

abbrev pub IsSpokenBinding : Binding → Type 0
IsSpokenBinding b = IsKindBinding is_spoken b

abbrev pub AreSpokenBindings : List Binding → Type 0
AreSpokenBindings bindings = All IsSpokenBinding bindings

abbrev pub IsSpokenNode : Node → Type 0
IsSpokenNode (Basic bindings next) = AreSpokenBindings bindings
IsSpokenNode (Cond test on_true on_false) = IsKindTerm is_spoken test
IsSpokenNode (graph.Call callee ins outs lands) = AreSpokenBindings ins × AreSpokenBindings outs

abbrev pub IsSpokenGraph : Graph → Type 0
IsSpokenGraph g = All IsSpokenNode g.nodes

of_source : (v : Variable) → is_spoken v ≡ true → is_source v.family ≡ true
of_source v h = (and_parts (is_source v.family) (not (is_source_memory v.family) || same_variable v memory) h).0

bindings_of_source : (bindings : List Binding) → AreSpokenBindings bindings → AreOwnBindings is_source bindings
bindings_of_source bindings all = All-weaker IsSpokenBinding (IsOwnBinding is_source) (λ b h. (of_source b.variable h.0, λ v o. of_source v (h.1 v o))) bindings all

pub node_of_source : (node : Node) → IsSpokenNode node → IsOwnNode is_source node
node_of_source (Basic bindings next) h = bindings_of_source bindings h
node_of_source (Cond test on_true on_false) h = λ v o. of_source v (h v o)
node_of_source (graph.Call callee ins outs lands) h = (bindings_of_source ins h.0, bindings_of_source outs h.1)

-- none of them of an inlined call

abbrev AreFirstBindings : List Binding → Type 0
AreFirstBindings bindings = All (IsKindBinding is_first) bindings

abbrev pub IsFirstGraph : Graph → Type 0
IsFirstGraph g = All (IsKindNode is_first) g.nodes

-- ---- bindings

none : AreFirstBindings []
none = All-nil (IsKindBinding is_first)

set_own : (index : ℕ) (type : Scalar) (x : Term) → Own x → AreFirstBindings (set_local index type x)
set_own index type x h =
    All-cons (IsKindBinding is_first) (binding (local index type) x) (binding (is_set index) (truth true) ∷ []) (refl, h)
    (All-cons (IsKindBinding is_first) (binding (is_set index) (truth true)) [] (refl, truth_own is_first true) none)

outputs_own : (place : Option ℕ) (local_type : ℕ → Scalar) (type : Option Scalar) → AreFirstBindings (result_put place local_type type)
outputs_own None local_type type = none
outputs_own (Some index) local_type None = none
outputs_own (Some index) local_type (Some type) =
    set_own index (local_type index) (at_width type (width_of (local_type index)) (open_term (result type)))
    (width_own type (width_of (local_type index)) (open_term (result type)) (open_own is_first (result type) refl))

outputs_given : (place : Option ℕ) (local_type : ℕ → Scalar) (type : Option Scalar) → All (λ (b : Binding). IsGivenTerm b.term) (result_put place local_type type)
unfolding Occurs
outputs_given None local_type type = All-nil (λ (b : Binding). IsGivenTerm b.term)
outputs_given (Some index) local_type None = All-nil (λ (b : Binding). IsGivenTerm b.term)
outputs_given (Some index) local_type (Some type) =
    All-cons (λ (b : Binding). IsGivenTerm b.term) (binding (local index (local_type index)) (at_width type (width_of (local_type index)) (open_term (result type)))) (binding (is_set index) (truth true) ∷ [])
    (result_given type (width_of (local_type index)))
    (All-cons (λ (b : Binding). IsGivenTerm b.term) (binding (is_set index) (truth true)) [] (λ v o. absurd o) (All-nil (λ (b : Binding). IsGivenTerm b.term)))

module _ (unit : Typed) (f : Setting) where
  abbrev IsGood : Node → Type 0
  IsGood node = IsKindNode is_first node × HasCallShape unit f node

  base_own : Own no_object.base
  base_own = const_own is_first _ 0

  word_own : (x : Core) → Own (value_in f x)
  word_own x = (speaks f.place.globals no_object base_own x).0

  pass_own : (x : Core) → Own (truth_in f x)
  pass_own x = (speaks f.place.globals no_object base_own x).1

  all_tests : (x : Core) → All Own (tests_in f x)
  all_tests x = tests_own f.place.globals no_object base_own x

  arguments_own : (list : List Core) → All Own (argument_tests f list)
  unfolding argument_tests
  arguments_own [] = All-nil Own
  arguments_own (x ∷ list) = All-append Own (tests_in f x) (argument_tests f list) (all_tests x) (arguments_own list)

  inputs_own : (index : ℕ) (list : List Core) → AreFirstBindings (inputs f index list)
  unfolding inputs
  inputs_own index [] = none
  inputs_own index (x ∷ list) =
      All-append (IsKindBinding is_first) (set_local index (type_of x) (value_in f x)) (inputs f (suc index) list) (set_own index (type_of x) (value_in f x) (word_own x)) (inputs_own (suc index) list)

  store_own : (type : Scalar) (address : Core) (displacement : ℕ) (x : Core) → All Own (store_tests f type address displacement x) × Own (memory_stored f type address displacement x)
  store_own type address displacement x =
      let o : Object = object (value_in f address) displacement in
      let base = word_own address in (
        All-append Own (tests_in f address) (tests f.place.globals o x ++ write_tests f.place.runs type o) (all_tests address)
            (All-append Own (tests f.place.globals o x) (write_tests f.place.runs type o) (tests_own f.place.globals o base x) (writes_own f.place.runs type o base)),
        stored_own type o (value_term f.place.globals o x) base (speaks f.place.globals o base x).0,
      )

  -- ---- nodes

  one_node : (node : Node) → IsGood node → All IsGood (node ∷ [])
  one_node node good = All-cons IsGood node [] good (All-nil IsGood)

  chain_good : (list : List Term) (at : ℕ) (to : Next) → All Own list → All IsGood (chain list at to)
  unfolding chain
  chain_good [] at to all = All-nil IsGood
  chain_good (test ∷ rest) at to all =
      All-cons IsGood (Cond test (first (length rest) (suc at) to) Err) (chain rest (suc at) to) (All-head Own test rest all, tt) (chain_good rest (suc at) to (All-tail Own test rest all))

  guarded_good : (list : List Term) (at : ℕ) (node : Node) → All Own list → IsGood node → All IsGood (guarded list at node)
  guarded_good list at node all good = All-append IsGood (chain list at (At (at + length list))) (node ∷ []) (chain_good list at (At (at + length list)) all) (one_node node good)

  selection_good : (type : Scalar) (x : Term) → Own x → (entries : List (ℤ × Next)) (at : ℕ) (other : Next) → All IsGood (selection type x entries at other)
  unfolding selection
  selection_good type x h [] at other = All-nil IsGood
  selection_good type x h (one ∷ entries) at other =
      All-cons IsGood (Cond (equal x (value_constant type one.0)) one.1 (first (length entries) (suc at) other)) (selection type x entries (suc at) other)
      (two_own is_first _ x (value_constant type one.0) h (const_own is_first (width_of type) _), tt) (selection_good type x h entries (suc at) other)

  module _ (body : Body) where
    types_are : (list : List Core) (types : List Scalar) → HaveTypes (scope_of unit body) list types → map type_of list ≡ types
    types_are _ _ typed.no_arguments = refl
    types_are _ _ (typed.some_argument x t list types has haves) =
        ap (λ (u : Scalar). u ∷ map type_of list) (type_is (scope_of unit body) None x t has) ∙ ap (λ (us : List Scalar). t ∷ us) (types_are list types haves)

    mutual
      unfolding nodes groups_nodes

      nodes_good : (a : Action) → IsTyped (scope_of unit body) a → (at : ℕ) (to : Next) (e : Exits) → All IsGood (nodes f a at to e)
      nodes_good _ typed.skip at to e = All-nil IsGood
      nodes_good _ (typed.sequence a b ta tb) at to e =
          All-append IsGood (nodes f a at (entry f b (at + size f a) to e) e) (nodes f b (at + size f a) to e)
          (nodes_good a ta at (entry f b (at + size f a) to e) e) (nodes_good b tb (at + size f a) to e)
      nodes_good _ (typed.evaluate x t has) at to e = chain_good (tests_in f x) at to (all_tests x)
      nodes_good _ (typed.set index x t is has) at to e =
          guarded_good (tests_in f x) at (Basic (set_local index (type_of x) (value_in f x)) to) (all_tests x) (set_own index (type_of x) (value_in f x) (word_own x), tt)
      nodes_good _ (typed.unset index t is) at to e =
          one_node (Basic (binding (is_set index) (truth false) ∷ []) to) (All-cons (IsKindBinding is_first) (binding (is_set index) (truth false)) [] (refl, truth_own is_first false) none, tt)
      nodes_good _ (typed.store t address displacement x offset ha hx) at to e =
          let are = store_own t address displacement x in
          guarded_good (store_tests f t address displacement x) at (Basic (binding memory (memory_stored f t address displacement x) ∷ []) to) are.0
          (All-cons (IsKindBinding is_first) (binding memory (memory_stored f t address displacement x)) [] (refl, are.1) none, tt)
      nodes_good _ (typed.call index function arguments place type named haves receives) at to e =
          let node = graph.Call (f.graph_number function) (inputs f 0 arguments) (outputs f function place) (at + length (argument_tests f arguments) + 1) in
          All-append IsGood (guarded (argument_tests f arguments) at node) (Basic [] to ∷ [])
          (guarded_good (argument_tests f arguments) at node (arguments_own arguments) (
            (inputs_own 0 arguments, outputs_own place f.local_type (f.function_type function).result),
            (function, arguments, type, refl, refl, named, types_are arguments type.parameters haves, outputs_given place f.local_type (f.function_type function).result, place, refl),
          ))
          (one_node (Basic [] to) (none, tt))
      nodes_good _ (typed.choice test t a b has ta tb) at to e =
          let node = Cond (truth_in f test) (entry f a (at + count f test + 1) to e) (entry f b (at + count f test + 1 + size f a) to e) in
          All-append IsGood (guarded (tests_in f test) at node) (nodes f a (at + count f test + 1) to e ++ nodes f b (at + count f test + 1 + size f a) to e)
          (guarded_good (tests_in f test) at node (all_tests test) (pass_own test, tt))
          (All-append IsGood (nodes f a (at + count f test + 1) to e) (nodes f b (at + count f test + 1 + size f a) to e)
          (nodes_good a ta (at + count f test + 1) to e) (nodes_good b tb (at + count f test + 1 + size f a) to e))
      nodes_good _ (typed.repeat index Before test t step inner has ts ti) at to e =
          let start = at + count f test + 3 in
          let again = step_entry f step inner start (At at) to e in
          let begin = entry f inner start again (exits to again) in
          let node = Cond (truth_in f test) (At (at + count f test + 2)) to in
          All-cons IsGood (Basic [] (At (at + 1))) _ (none, tt)
          (All-append IsGood (guarded (tests_in f test) (at + 1) node) _ (guarded_good (tests_in f test) (at + 1) node (all_tests test) (pass_own test, tt))
          (All-cons IsGood (Basic [] begin) _ (none, tt)
          (All-append IsGood (nodes f inner start again (exits to again)) (nodes f step (start + size f inner) (At at) (exits to e.continues))
          (nodes_good inner ti start again (exits to again)) (nodes_good step ts (start + size f inner) (At at) (exits to e.continues)))))
      nodes_good _ (typed.repeat index After test t step inner has ts ti) at to e =
          let next = At (at + 1 + size f inner) in
          let node = Cond (truth_in f test) (At at) to in
          All-cons IsGood (Basic [] (entry f inner (at + 1) next (exits to next))) _ (none, tt)
          (All-append IsGood (nodes f inner (at + 1) next (exits to next)) _ (nodes_good inner ti (at + 1) next (exits to next))
          (All-cons IsGood (Basic [] (At (at + size f inner + 2))) _ (none, tt)
          (guarded_good (tests_in f test) (at + size f inner + 2) node (all_tests test) (pass_own test, tt))))
      nodes_good _ (typed.leave jump) at to e = All-nil IsGood
      nodes_good _ (typed.switch test t list has ts) at to e =
          let begin = at + count f test + case_count list in
          let other = otherwise f list begin to e in
          let cases = cases_of f list begin to e in
          All-append IsGood (chain (tests_in f test) at (first (case_count list) (at + count f test) other)) _
          (chain_good (tests_in f test) at (first (case_count list) (at + count f test) other) (all_tests test))
          (All-append IsGood (selection (type_of test) (value_in f test) cases (at + count f test) other) (groups_nodes f list begin to e)
          (selection_good (type_of test) (value_in f test) (word_own test) cases (at + count f test) other) (groups_good t list ts begin to e))
      nodes_good _ (typed.give_back None is) at to e = All-nil IsGood
      nodes_good _ (typed.give_back (Some x) is) at to e =
          guarded_good (tests_in f x) at (Basic (binding (result (type_of x)) (value_in f x) ∷ []) Ret) (all_tests x)
          (All-cons (IsKindBinding is_first) (binding (result (type_of x)) (value_in f x)) [] (refl, word_own x) none, tt)
      nodes_good _ (typed.missing_return offset) at to e = one_node (Cond (truth false) Err Err) (truth_own is_first false, tt)

      groups_good : (t : Scalar) (list : Groups) → AreTyped (scope_of unit body) t list → (at : ℕ) (to : Next) (e : Exits) → All IsGood (groups_nodes f list at to e)
      groups_good _ _ (typed.last_group t) at to e = All-nil IsGood
      groups_good _ _ (typed.one_group t values inner rest are ti ts) at to e =
          All-append IsGood (nodes f inner at to (exits to e.continues)) (groups_nodes f rest (at + size f inner) to e)
          (nodes_good inner ti at to (exits to e.continues)) (groups_good t rest ts (at + size f inner) to e)

-- ---- graphs

graph_good : (unit : Typed) (p : Place) (body : Body) → IsTypedBody unit body → All (IsGood unit (setting_of unit p body)) (graph_of unit p body).nodes
unfolding graph_of
graph_good unit p body is =
    let f = setting_of unit p body in
    All-cons (IsGood unit f) (Basic [] (entry f body.action 1 Ret (exits Ret Ret))) (nodes f body.action 1 Ret (exits Ret Ret)) (none, tt)
    (nodes_good unit f body body.action is.typed 1 Ret (exits Ret Ret))

pub source_call_shape : (unit : Typed) (p : Place) (body : Body) → IsTypedBody unit body → All (HasCallShape unit (setting_of unit p body)) (graph_of unit p body).nodes
source_call_shape unit p body is k d below = (graph_good unit p body is k d below).1

each_first : (unit : Typed) (p : Place) (bodies : List Body) → All (λ (b : Body). IsTypedBody unit b) bodies → All IsFirstGraph (map (graph_of unit p) bodies)
each_first unit p [] are = All-nil IsFirstGraph
each_first unit p (body ∷ bodies) are =
    All-cons IsFirstGraph (graph_of unit p body) (map (graph_of unit p) bodies)
    (λ k d below. (graph_good unit p body (All-head (λ (b : Body). IsTypedBody unit b) body bodies are) k d below).0)
    (each_first unit p bodies (All-tail (λ (b : Body). IsTypedBody unit b) body bodies are))

-- none of their variables is of an inlined call
pub source_is_first : (unit : Typed) (p : Place) → All (λ (b : Body). IsTypedBody unit b) unit.bodies → All IsFirstGraph (graphs_of unit p)
source_is_first unit p are = each_first unit p unit.bodies are

first_spoken : (v : Variable) → is_first v ≡ true → is_spoken v ≡ true
first_spoken v first = (and_parts (is_spoken v) (v.instance == 0) first).0

bindings_spoken : (bindings : List Binding) → AreFirstBindings bindings → AreSpokenBindings bindings
bindings_spoken bindings all =
    All-weaker (IsKindBinding is_first) IsSpokenBinding (λ b h. (first_spoken b.variable h.0, λ v o. first_spoken v (h.1 v o))) bindings all

node_spoken : (node : Node) → IsKindNode is_first node → IsSpokenNode node
node_spoken (Basic bindings next) h = bindings_spoken bindings h
node_spoken (Cond test on_true on_false) h = λ v o. first_spoken v (h v o)
node_spoken (graph.Call callee ins outs lands) h = (bindings_spoken ins h.0, bindings_spoken outs h.1)

pub source_is_spoken : (unit : Typed) (p : Place) → All (λ (b : Body). IsTypedBody unit b) unit.bodies → All IsSpokenGraph (graphs_of unit p)
source_is_spoken unit p are =
    All-weaker IsFirstGraph IsSpokenGraph (λ g h. All-weaker (IsKindNode is_first) IsSpokenNode node_spoken g.nodes h) (graphs_of unit p) (source_is_first unit p are)

pub source_is_own : (unit : Typed) (p : Place) → All (λ (b : Body). IsTypedBody unit b) unit.bodies → All (IsOwnGraph is_source) (graphs_of unit p)
source_is_own unit p are =
    All-weaker IsSpokenGraph (IsOwnGraph is_source) (λ g h. All-weaker IsSpokenNode (IsOwnNode is_source) node_of_source g.nodes h) (graphs_of unit p) (source_is_spoken unit p are)

-- ---- names and numbers of functions

-- a function with the number of a body has its name
pub same_name : (bodies : List Body) (function name : List ℕ) (body : Body) → body_named bodies name ≡ Some body → body_number function bodies ≡ body_number name bodies → function ≡ body.name
unfolding body_number
same_name [] function name body e same = absurd (cc)
same_name (one ∷ rest) function name body e same = by (bytes_eq one.name function) (bytes_eq one.name name) refl refl e same (λ later again. same_name rest function name body later again)
  where
    by : (a b : Bool) → bytes_eq one.name function ≡ a → bytes_eq one.name name ≡ b → cond b (Some one) (body_named rest name) ≡ Some body
        → (if a then 0 else body_number function rest + 1) ≡ (if b then 0 else body_number name rest + 1)
        → (body_named rest name ≡ Some body → body_number function rest ≡ body_number name rest → function ≡ body.name) → function ≡ body.name
    by true true ea eb e same later =
        let is_one : one ≡ body = cc in
        sym ((bytes_eq-Decides one.name function).0 ea) ∙ ap (λ (x : Body). x.name) is_one
    by true false ea eb e same later = absurd (omega arith)
    by false true ea eb e same later = absurd (omega arith)
    by false false ea eb e same later = later e (omega arith)
