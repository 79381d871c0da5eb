-- A graph with a call inlined is valid.
use Rattle.std.proofs.Common.{◌≡◌, ◌≢◌, ◌↔◌, ◌∙◌, ℕ, ◌+◌, ◌≤◌, suc, Bool, true, false, if◌then◌else◌, refl, sym, ap, subst, arith, List, [], ◌∷◌, ◌++◌, map, length, get_or, filter, All, Option, Some, None}
use Rattle.std.specs.Prelude.{slice_get, slice_set}
use Rattle.std.proofs.lemmas.List.{length-set, length-append}
use Rattle.std.proofs.lemmas.List.Elements.{All-head, All-tail, All-weaker, All-map, All-filter, All-append, All-set, All-cons, All-nil}
use Rattle.std.proofs.lemmas.Option.{none-some, same_Some, slice_get_within, get_or_from_slice_get}
use Rattle.term_core_spec.specs.declared.Width.TheVariants.{W8, W16, W32, W64}
use Rattle.term_core_spec.specs.declared.Sort.{Sort}
use Rattle.term_core_spec.specs.declared.Sort.TheVariants as sort
use Rattle.term_core_spec.specs.declared.Variable.{Variable}
use Rattle.term_core_spec.specs.Sort.{sort_of, sort_of_atom}
use Rattle.term_core_spec.specs.Term.{Term, open_term}
use Rattle.term_core_spec.specs.Same.{same_variable}
use Rattle.term_core_spec.specs.Substitution.{at_instance}
use Rattle.term_core_spec.proofs.Same.{variable-same}
use Rattle.term_core_spec.proofs.Substitution.{renamed-is, sort-substituted}
use Rattle.graph_core_spec.specs.declared.Next.{Next}
use Rattle.graph_core_spec.specs.declared.Next.TheVariants as next
use Rattle.graph_core_spec.specs.Graph.{Binding, IsBinding, AreBindings, Node, Basic, Cond, Call, Graph, IsNext, IsNode, IsValid}
use Rattle.graph_core_spec.specs.Run.{is_shared}
use Rattle.graph_inline_spec.specs.Naming.{inlined_variable, inlined_term, inlined_binding, with_inlined_term, with_inlined_variable}
use Rattle.graph_inline_spec.specs.Inlined.{unset_term, start_term, start_binding, start_bindings, inlined_next, inlined_node, inlined_nodes, inlined_at, inlined, inlined_size}
use Rattle.graph_inline_spec.specs.Inlining.{CanInline}

-- ---- how many nodes there are

lengths : {X Y : Type 0} (f : X → Y) (xs : List X) → length (map f xs) ≡ length xs
lengths f [] = refl
lengths f (x ∷ xs) = ap suc (lengths f xs)

pub whole_length : {X : Type 0} (xs : List X) (n : ℕ) (x : X) (f : X → X) (ys : List X) (z : X) → length (slice_set xs n x ++ (map f ys ++ z ∷ [])) ≡ length xs + length ys + 1
whole_length xs n x f ys z =
    omega (arith, length-append (slice_set xs n x) (map f ys ++ z ∷ []), length-set xs n x, length-append (map f ys) (z ∷ []), lengths f ys)

-- ---- sorts

name_sort : (instance : ℕ) (v : Variable) → (inlined_variable instance v).sort ≡ v.sort
name_sort instance v = by (is_shared v)
  where
    by : (c : Bool) → (if c then v else at_instance instance v).sort ≡ v.sort
    by true = refl
    by false = refl

named_sort : (instance : ℕ) (v : Variable) → sort_of (open_term (inlined_variable instance v)) ≡ Some v.sort
unfolding sort_of sort_of_atom
named_sort instance v = ap (λ (s : Sort). Some s) (name_sort instance v)

term_sort : (instance : ℕ) (t : Term) → sort_of (inlined_term instance t) ≡ sort_of t
term_sort instance t =
    ap sort_of (renamed-is (inlined_variable instance) t)
    ∙ sort-substituted (λ v. open_term (inlined_variable instance v)) t (λ v o. named_sort instance v)

unset_sort : (v : Variable) (s : Sort) → v.sort ≡ s → sort_of (unset_term v s) ≡ Some s
unfolding sort_of sort_of_atom
unset_sort v sort.Truth e = refl
unset_sort v (sort.Word W8) e = refl
unset_sort v (sort.Word W16) e = refl
unset_sort v (sort.Word W32) e = refl
unset_sort v (sort.Word W64) e = refl
unset_sort v sort.Memory e = ap (λ (s : Sort). Some s) e

start_sort : (inputs : List Binding) (v : Variable) → AreBindings inputs → sort_of (start_term inputs v) ≡ Some v.sort
unfolding start_term
start_sort [] v are = unset_sort v v.sort refl
start_sort (b ∷ inputs) v are = by (same_variable v b.variable) refl (All-head IsBinding b inputs are) (start_sort inputs v (All-tail IsBinding b inputs are))
  where
    by : (c : Bool) → same_variable v b.variable ≡ c → IsBinding b → sort_of (start_term inputs v) ≡ Some v.sort → sort_of (if c then b.term else start_term inputs v) ≡ Some v.sort
    by true agree first later = first ∙ ap (λ (w : Variable). Some w.sort) (sym (variable-same v b.variable agree))
    by false disagree first later = later

-- ---- bindings

module _ (instance : ℕ) where
  whole_bindings : (bindings : List Binding) → AreBindings bindings → AreBindings (map (inlined_binding instance) bindings)
  whole_bindings bindings are =
      All-map IsBinding (inlined_binding instance) bindings
      (All-weaker IsBinding (λ b. IsBinding (inlined_binding instance b)) (λ b h. term_sort instance b.term ∙ h ∙ ap (λ (s : Sort). Some s) (sym (name_sort instance b.variable))) bindings are)

  term_bindings : (bindings : List Binding) → AreBindings bindings → AreBindings (map (with_inlined_term instance) bindings)
  term_bindings bindings are =
      All-map IsBinding (with_inlined_term instance) bindings
      (All-weaker IsBinding (λ b. IsBinding (with_inlined_term instance b)) (λ b h. term_sort instance b.term ∙ h) bindings are)

  variable_bindings : (bindings : List Binding) → AreBindings bindings → AreBindings (map (with_inlined_variable instance) bindings)
  variable_bindings bindings are =
      All-map IsBinding (with_inlined_variable instance) bindings
      (All-weaker IsBinding (λ b. IsBinding (with_inlined_variable instance b)) (λ b h. h ∙ ap (λ (s : Sort). Some s) (sym (name_sort instance b.variable))) bindings are)

  start_are : (own : List Variable) (inputs : List Binding) → AreBindings inputs → AreBindings (start_bindings own instance inputs)
  start_are own inputs are =
      All-append IsBinding (filter (λ (b : Binding). is_shared b.variable) inputs) (map (start_binding instance inputs) own)
      (All-filter (λ (b : Binding). is_shared b.variable) IsBinding inputs are)
      (All-map IsBinding (start_binding instance inputs) own
      (λ k d less. start_sort inputs _ are ∙ ap (λ (s : Sort). Some s) (sym (name_sort instance (get_or own k d)))))

-- ---- nodes

more_next : (few many : ℕ) (to : Next) → few ≤ many → IsNext few to → IsNext many to
more_next few many (next.At k) le within = omega (arith, le, within)
more_next few many next.Ret le within = tt
more_next few many next.Err le within = tt

more_node : (few many : ℕ) (node : Node) → few ≤ many → IsNode few node → IsNode many node
more_node few many (Basic bindings to) le is = (is.0, more_next few many to le is.1)
more_node few many (Cond test on_true on_false) le is = (is.0, more_next few many on_true le is.1, more_next few many on_false le is.2)
more_node few many (Call callee inputs outputs landing) le is = (is.0, is.1, omega (arith, le, is.2))

body_next : (first count : ℕ) (to : Next) → IsNext count to → IsNext (first + count + 1) (inlined_next first (first + count) to)
body_next first count (next.At k) within = omega (arith, within)
body_next first count next.Ret within = omega arith
body_next first count next.Err within = tt

body_node : (instance first count : ℕ) (node : Node) → IsNode count node → IsNode (first + count + 1) (inlined_node instance first (first + count) node)
body_node instance first count (Basic bindings to) is = (whole_bindings instance bindings is.0, body_next first count to is.1)
body_node instance first count (Cond test on_true on_false) is =
    (term_sort instance test ∙ is.0, body_next first count on_true is.1, body_next first count on_false is.2)
body_node instance first count (Call callee inputs outputs landing) is =
    (term_bindings instance inputs is.0, variable_bindings instance outputs is.1, omega (arith, is.2))

-- ---- the graph

module _ (caller : Graph) (n : ℕ) (callee : Graph) (own : List Variable) (instance : ℕ) (can : CanInline caller n callee own instance) where
  abbrev graph : Graph
  graph = record { nodes = inlined_nodes caller n callee own instance can.inputs can.outputs can.landing; entry = caller.entry }

  abbrev total : ℕ
  total = length caller.nodes + length callee.nodes + 1

  pub is_graph : inlined caller n callee own instance ≡ Some graph
  is_graph = ap (inlined_at caller n callee own instance) can.call

  abbrev start_node : Node
  start_node = Basic (start_bindings own instance can.inputs) (next.At (length caller.nodes + callee.entry))

  abbrev end_node : Node
  end_node = Basic (map (with_inlined_term instance) can.outputs) (next.At can.landing)

  abbrev change : Node → Node
  change = inlined_node instance (length caller.nodes) (length caller.nodes + length callee.nodes)

  graph_size : length graph.nodes ≡ total
  graph_size = whole_length caller.nodes n start_node change callee.nodes end_node

  call_valid : IsNode (length caller.nodes) (Call can.number can.inputs can.outputs can.landing)
  call_valid =
      subst (IsNode (length caller.nodes)) (get_or_from_slice_get caller.nodes n _ _ can.call)
      (can.valid_caller.nodes n (Call can.number can.inputs can.outputs can.landing) (slice_get_within caller.nodes n _ can.call))

  graph_nodes : All (IsNode total) graph.nodes
  graph_nodes =
      All-append (IsNode total) (slice_set caller.nodes n start_node) (map change callee.nodes ++ end_node ∷ [])
      (All-set (IsNode total) caller.nodes n start_node (start_are instance own can.inputs call_valid.0, omega (arith, can.valid_callee.entry))
      (All-weaker (IsNode (length caller.nodes)) (IsNode total) (λ node is. more_node (length caller.nodes) total node (omega arith) is) caller.nodes can.valid_caller.nodes))
      (All-append (IsNode total) (map change callee.nodes) (end_node ∷ [])
      (All-map (IsNode total) change callee.nodes
      (All-weaker (IsNode (length callee.nodes)) (λ node. IsNode total (change node)) (λ node is. body_node instance (length caller.nodes) (length callee.nodes) node is) callee.nodes can.valid_callee.nodes))
      (All-cons (IsNode total) end_node [] (term_bindings instance can.outputs call_valid.1, omega (arith, call_valid.2)) (All-nil (IsNode total))))

  graph_valid : IsValid graph
  graph_valid = record {
    entry = omega (arith, graph_size, can.valid_caller.entry);
    nodes = subst (λ (count : ℕ). All (IsNode count) graph.nodes) (sym graph_size) graph_nodes;
  }

  pub inlined_valid : (result : Graph) → inlined caller n callee own instance ≡ Some result → IsValid result
  inlined_valid result e = subst IsValid (same_Some graph result (sym is_graph ∙ e)) graph_valid

  pub there_is : (result : Graph) × (inlined caller n callee own instance ≡ Some result) × IsValid result
  there_is = (graph, is_graph, graph_valid)

-- ---- which nodes are inlined, and how many there are then

pub sizes : (caller : Graph) (n : ℕ) (callee : Graph) (own : List Variable) (instance : ℕ) (result : Graph)
    → inlined caller n callee own instance ≡ Some result → length result.nodes ≡ inlined_size caller callee
sizes caller n callee own instance result e = by (slice_get caller.nodes n) e
  where
    by : (node : Option Node) → inlined_at caller n callee own instance node ≡ Some result → length result.nodes ≡ inlined_size caller callee
    by None h = absurd (none-some result h)
    by (Some (Basic bindings to)) h = absurd (none-some result h)
    by (Some (Cond test on_true on_false)) h = absurd (none-some result h)
    by (Some (Call number inputs outputs landing)) h =
        ap (λ (g : Graph). length g.nodes) (sym (same_Some _ result h))
        ∙ whole_length caller.nodes n (Basic (start_bindings own instance inputs) (next.At (length caller.nodes + callee.entry)))
        (inlined_node instance (length caller.nodes) (length caller.nodes + length callee.nodes)) callee.nodes
        (Basic (map (with_inlined_term instance) outputs) (next.At landing))

pub calls_alone : (caller : Graph) (n : ℕ) (callee : Graph) (own : List Variable) (instance : ℕ)
    → (inlined caller n callee own instance ≡ None)
    ↔ ((number : ℕ) (inputs outputs : List Binding) (landing : ℕ) → slice_get caller.nodes n ≢ Some (Call number inputs outputs landing))
calls_alone caller n callee own instance =
    (λ none number inputs outputs landing call. none-some _ (sym none ∙ ap (inlined_at caller n callee own instance) call), none_there (slice_get caller.nodes n))
  where
    none_there : (node : Option Node) → ((number : ℕ) (inputs outputs : List Binding) (landing : ℕ) → node ≢ Some (Call number inputs outputs landing))
        → inlined_at caller n callee own instance node ≡ None
    none_there None no_call = refl
    none_there (Some (Basic bindings to)) no_call = refl
    none_there (Some (Cond test on_true on_false)) no_call = refl
    none_there (Some (Call number inputs outputs landing)) no_call = absurd (no_call number inputs outputs landing refl)
