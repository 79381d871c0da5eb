-- What the nodes of a function bind: locals, whether they are set, memory and its result, and no end of the zone.
use Rattle.std.proofs.Common.{◌≡◌, ℕ, zero, suc, ◌+◌, true, false, ℤ, refl, ap, subst, arith, List, [], ◌∷◌, ◌++◌, length, map, All, Option, Some, None}
use Rattle.std.specs.Prelude.{slice_get, option_and_then}
use Rattle.std.proofs.lemmas.List.Elements.{All-nil, All-cons, All-append}
use Rattle.term_core_spec.specs.declared.Variable.{Variable}
use Rattle.term_core_spec.specs.Term.{Term, truth, equal}
use Rattle.graph_core_spec.specs.declared.Next.{Next}
use Rattle.graph_core_spec.specs.declared.Next.TheVariants.{At, Ret, Err}
use Rattle.graph_core_spec.specs.Graph.{Binding, Node, Basic, Cond, Graph, node_at}
use Rattle.graph_core_spec.specs.Graph as graph
use Rattle.graph_core_spec.specs.Variables.{all_bindings}
use Rattle.graph_core_spec.specs.Run.{is_zone_end}
use Rattle.c_types_spec.specs.declared.Scalar.{Scalar}
use Rattle.c_types_spec.specs.declared.TestPlace.TheVariants.{Before, After}
use Rattle.c_types_spec.specs.Core.{Core, Body, Typed, Action, Skip, Sequence, Evaluate, Set, Unset, Store, Call, If, Loop, Leave, Switch, Return, MissingReturn, Groups, no_groups, groups, type_of}
use Rattle.c_graph_spec.specs.State.{local, is_set, memory, result, value_constant}
use Rattle.c_graph_spec.specs.Guards.{Place}
use Rattle.c_graph_spec.specs.Layout.{Setting, Exits, exits, value_in, truth_in, tests_in, count, first, chain, guarded, binding, set_local, store_tests, memory_stored, argument_tests, inputs, outputs, result_put, selection, case_count, size, entry, otherwise, cases_of, step_entry, nodes, groups_nodes}
use Rattle.c_graph_spec.specs.SourceGraph.{setting_of, graph_of, graphs_of}
use Rattle.c_graph_laws.proofs.Serving.{at_item}

-- an item of a list that is made from another
pub mapped_item : {X Y : Type 0} (make : X → Y) (xs : List X) (i : ℕ) (y : Y) → slice_get (map make xs) i ≡ Some y → (x : X) × (slice_get xs i ≡ Some x) × (make x ≡ y)
mapped_item make [] i y e = absurd (cc)
mapped_item make (x ∷ xs) zero y e = (x, refl, let same : make x ≡ y = cc in same)
mapped_item make (x ∷ xs) (suc i) y e = mapped_item make xs i y e

-- ---- bindings

abbrev Apart : Binding → Type 0
Apart b = is_zone_end b.variable ≡ false

abbrev IsApart : Node → Type 0
IsApart node = All Apart (all_bindings node)

set_apart : (number : ℕ) (type : Scalar) (x : Term) → All Apart (set_local number type x)
set_apart number type x =
    All-cons Apart (binding (local number type) x) (binding (is_set number) (truth true) ∷ []) refl
    (All-cons Apart (binding (is_set number) (truth true)) [] refl (All-nil Apart))

unset_apart : (number : ℕ) (x : Term) → All Apart (binding (is_set number) x ∷ [])
unset_apart number x = All-cons Apart (binding (is_set number) x) [] refl (All-nil Apart)

memory_apart : (x : Term) → All Apart (binding memory x ∷ [])
memory_apart x = All-cons Apart (binding memory x) [] refl (All-nil Apart)

result_apart : (type : Scalar) (x : Term) → All Apart (binding (result type) x ∷ [])
result_apart type x = All-cons Apart (binding (result type) x) [] refl (All-nil Apart)

inputs_apart : (f : Setting) (number : ℕ) (arguments : List Core) → All Apart (inputs f number arguments)
unfolding inputs
inputs_apart f number [] = All-nil Apart
inputs_apart f number (x ∷ rest) =
    All-append Apart (set_local number (type_of x) (value_in f x)) (inputs f (suc number) rest)
    (set_apart number (type_of x) (value_in f x)) (inputs_apart f (suc number) rest)

outputs_apart : (place : Option ℕ) (local_type : ℕ → Scalar) (type : Option Scalar) → All Apart (result_put place local_type type)
outputs_apart None local_type type = All-nil Apart
outputs_apart (Some number) local_type None = All-nil Apart
outputs_apart (Some number) local_type (Some type) = set_apart number (local_type number) _

-- ---- nodes

one_node : (node : Node) → IsApart node → All IsApart (node ∷ [])
one_node node apart = All-cons IsApart node [] apart (All-nil IsApart)

chain_apart : (tests : List Term) (at : ℕ) (to : Next) → All IsApart (chain tests at to)
unfolding chain
chain_apart [] at to = All-nil IsApart
chain_apart (test ∷ rest) at to =
    All-cons IsApart (Cond test (first (length rest) (suc at) to) Err) (chain rest (suc at) to) (All-nil Apart) (chain_apart rest (suc at) to)

guarded_apart : (tests : List Term) (at : ℕ) (node : Node) → IsApart node → All IsApart (guarded tests at node)
guarded_apart tests at node apart =
    All-append IsApart (chain tests at (At (at + length tests))) (node ∷ []) (chain_apart tests at (At (at + length tests))) (one_node node apart)

selection_apart : (type : Scalar) (x : Term) (entries : List (ℤ × Next)) (at : ℕ) (other : Next) → All IsApart (selection type x entries at other)
unfolding selection
selection_apart type x [] at other = All-nil IsApart
selection_apart type x (one ∷ entries) at other =
    All-cons IsApart (Cond (equal x (value_constant type one.0)) one.1 (first (length entries) (suc at) other)) (selection type x entries (suc at) other)
    (All-nil Apart) (selection_apart type x entries (suc at) other)

module _ (f : Setting) where
  mutual
    unfolding nodes groups_nodes

    nodes_apart : (a : Action) (at : ℕ) (to : Next) (e : Exits) → All IsApart (nodes f a at to e)
    nodes_apart Skip at to e = All-nil IsApart
    nodes_apart (Sequence a b) at to e =
        All-append IsApart (nodes f a at (entry f b (at + size f a) to e) e) (nodes f b (at + size f a) to e)
        (nodes_apart a at (entry f b (at + size f a) to e) e) (nodes_apart b (at + size f a) to e)
    nodes_apart (Evaluate x) at to e = chain_apart (tests_in f x) at to
    nodes_apart (Set number x) at to e =
        guarded_apart (tests_in f x) at (Basic (set_local number (type_of x) (value_in f x)) to) (set_apart number (type_of x) (value_in f x))
    nodes_apart (Unset number) at to e = one_node (Basic (binding (is_set number) (truth false) ∷ []) to) (unset_apart number (truth false))
    nodes_apart (Store type address displacement value offset) at to e =
        guarded_apart (store_tests f type address displacement value) at
        (Basic (binding memory (memory_stored f type address displacement value) ∷ []) to) (memory_apart (memory_stored f type address displacement value))
    nodes_apart (Call number function arguments place) at to e =
        let node = graph.Call (f.graph_number function) (inputs f 0 arguments) (outputs f function place) (at + length (argument_tests f arguments) + 1) in
        All-append IsApart (guarded (argument_tests f arguments) at node) (Basic [] to ∷ [])
        (guarded_apart (argument_tests f arguments) at node
        (All-append Apart (inputs f 0 arguments) (outputs f function place) (inputs_apart f 0 arguments)
        (outputs_apart place f.local_type (f.function_type function).result)))
        (one_node (Basic [] to) (All-nil Apart))
    nodes_apart (If test a b) at to e =
        let node = Cond (truth_in f test) (entry f a (at + count f test + 1) to e) (entry f b (at + count f test + 1 + size f a) to e) in
        All-append IsApart (guarded (tests_in f test) at node) (nodes f a (at + count f test + 1) to e ++ nodes f b (at + count f test + 1 + size f a) to e)
        (guarded_apart (tests_in f test) at node (All-nil Apart))
        (All-append IsApart (nodes f a (at + count f test + 1) to e) (nodes f b (at + count f test + 1 + size f a) to e)
        (nodes_apart a (at + count f test + 1) to e) (nodes_apart b (at + count f test + 1 + size f a) to e))
    nodes_apart (Loop number Before test step body) at to e =
        let start = at + count f test + 3 in
        let again = step_entry f step body start (At at) to e in
        let begin = entry f body start again (exits to again) in
        let node = Cond (truth_in f test) (At (at + count f test + 2)) to in
        All-cons IsApart (Basic [] (At (at + 1))) _ (All-nil Apart)
        (All-append IsApart (guarded (tests_in f test) (at + 1) node) _ (guarded_apart (tests_in f test) (at + 1) node (All-nil Apart))
        (All-cons IsApart (Basic [] begin) _ (All-nil Apart)
        (All-append IsApart (nodes f body start again (exits to again)) (nodes f step (start + size f body) (At at) (exits to e.continues))
        (nodes_apart body start again (exits to again)) (nodes_apart step (start + size f body) (At at) (exits to e.continues)))))
    nodes_apart (Loop number After test step body) at to e =
        let next = At (at + 1 + size f body) in
        let node = Cond (truth_in f test) (At at) to in
        All-cons IsApart (Basic [] (entry f body (at + 1) next (exits to next))) _ (All-nil Apart)
        (All-append IsApart (nodes f body (at + 1) next (exits to next)) _ (nodes_apart body (at + 1) next (exits to next))
        (All-cons IsApart (Basic [] (At (at + size f body + 2))) _ (All-nil Apart)
        (guarded_apart (tests_in f test) (at + size f body + 2) node (All-nil Apart))))
    nodes_apart (Leave jump) at to e = All-nil IsApart
    nodes_apart (Switch test list) at to e =
        let begin = at + count f test + case_count list in
        let other = otherwise f list begin to e in
        let cases = cases_of f list begin to e in
        All-append IsApart (chain (tests_in f test) at (first (case_count list) (at + count f test) other)) _
        (chain_apart (tests_in f test) at (first (case_count list) (at + count f test) other))
        (All-append IsApart (selection (type_of test) (value_in f test) cases (at + count f test) other) (groups_nodes f list begin to e)
        (selection_apart (type_of test) (value_in f test) cases (at + count f test) other) (groups_apart list begin to e))
    nodes_apart (Return None) at to e = All-nil IsApart
    nodes_apart (Return (Some x)) at to e =
        guarded_apart (tests_in f x) at (Basic (binding (result (type_of x)) (value_in f x) ∷ []) Ret) (result_apart (type_of x) (value_in f x))
    nodes_apart (MissingReturn offset) at to e = one_node (Cond (truth false) Err Err) (All-nil Apart)

    groups_apart : (list : Groups) (at : ℕ) (to : Next) (e : Exits) → All IsApart (groups_nodes f list at to e)
    groups_apart no_groups at to e = All-nil IsApart
    groups_apart (groups values body rest) at to e =
        All-append IsApart (nodes f body at to (exits to e.continues)) (groups_nodes f rest (at + size f body) to e)
        (nodes_apart body at to (exits to e.continues)) (groups_apart rest (at + size f body) to e)

graph_apart : (unit : Typed) (p : Place) (body : Body) → All IsApart (graph_of unit p body).nodes
unfolding graph_of
graph_apart unit p body =
    let f = setting_of unit p body in
    All-cons IsApart (Basic [] (entry f body.action 1 Ret (exits Ret Ret))) (nodes f body.action 1 Ret (exits Ret Ret))
    (All-nil Apart) (nodes_apart f body.action 1 Ret (exits Ret Ret))

pub no_zone : (unit : Typed) (p : Place) (g n : ℕ) (node : Node) → node_at (graphs_of unit p) g n ≡ Some node → All Apart (all_bindings node)
no_zone unit p g n node e = by (slice_get (graphs_of unit p) g) refl e
  where
    by : (o : Option Graph) → slice_get (graphs_of unit p) g ≡ o → option_and_then (λ (graph : Graph). slice_get graph.nodes n) o ≡ Some node → All Apart (all_bindings node)
    by None is e = absurd (cc)
    by (Some there) is e =
        let made = mapped_item (graph_of unit p) unit.bodies g there is in
        at_item IsApart there.nodes n node (subst (λ (graph : Graph). All IsApart graph.nodes) made.2 (graph_apart unit p made.0)) e
