-- How many nodes the graph of a C function has.
use Rattle.std.proofs.Common.{◌≡◌, ◌∙◌, ℕ, suc, ◌+◌, ℤ, refl, ap, arith, List, [], ◌∷◌, ◌++◌, length, length-append, Option, Some, None}
use Rattle.term_core_spec.specs.Term.{Term}
use Rattle.graph_core_spec.specs.declared.Next.{Next}
use Rattle.graph_core_spec.specs.declared.Next.TheVariants.{At, Ret}
use Rattle.graph_core_spec.specs.Graph.{Node, Basic, Cond}
use Rattle.graph_core_spec.specs.Graph as graph
use Rattle.c_types_spec.specs.declared.Scalar.{Scalar}
use Rattle.c_types_spec.specs.declared.TestPlace.TheVariants.{Before, After}
use Rattle.c_types_spec.specs.Core.{Action, Skip, Sequence, Evaluate, Set, Unset, Store, Call, If, Loop, Leave, Switch, Return, MissingReturn, Groups, no_groups, groups, type_of, Body, Typed}
use Rattle.c_graph_spec.specs.Guards.{Place}
use Rattle.c_graph_spec.specs.Layout.{Setting, Exits, exits, value_in, truth_in, tests_in, count, first, chain, guarded, store_tests, argument_tests, inputs, outputs, cases_to, selection, case_count, size, groups_size, entry, otherwise, cases_of, step_entry, nodes, groups_nodes}
use Rattle.c_graph_spec.specs.SourceGraph.{graph_of, setting_of}

pub chain_long : (tests : List Term) (at : ℕ) (to : Next) → length (chain tests at to) ≡ length tests
unfolding chain
chain_long [] at to = refl
chain_long (test ∷ rest) at to = ap suc (chain_long rest (suc at) to)

pub guarded_long : (tests : List Term) (at : ℕ) (node : Node) → length (guarded tests at node) ≡ length tests + 1
guarded_long tests at node = omega (arith, length-append (chain tests at (At (at + length tests))) (node ∷ []), chain_long tests at (At (at + length tests)))

cases_long : (values : List (Option ℤ)) (to other : Next) → length (cases_to values to) ≡ length (cases_to values other)
unfolding cases_to
cases_long [] to other = refl
cases_long (None ∷ values) to other = cases_long values to other
cases_long (Some value ∷ values) to other = ap suc (cases_long values to other)

pub selection_long : (type : Scalar) (x : Term) (entries : List (ℤ × Next)) (at : ℕ) (otherwise : Next) → length (selection type x entries at otherwise) ≡ length entries
unfolding selection
selection_long type x [] at otherwise = refl
selection_long type x (one ∷ entries) at otherwise = ap suc (selection_long type x entries (suc at) otherwise)

module _ (f : Setting) where
  pub all_cases_long : (list : Groups) (at : ℕ) (to : Next) (e : Exits) → length (cases_of f list at to e) ≡ case_count list
  unfolding cases_of case_count
  all_cases_long no_groups at to e = refl
  all_cases_long (groups values body rest) at to e =
      omega (
        arith,
        length-append (cases_to values (entry f body at to (exits to e.continues))) (cases_of f rest (at + size f body) to e),
        cases_long values (entry f body at to (exits to e.continues)) Ret,
        all_cases_long rest (at + size f body) to e,
      )

  mutual
    unfolding nodes size groups_nodes groups_size

    pub nodes_long : (a : Action) (at : ℕ) (to : Next) (e : Exits) → length (nodes f a at to e) ≡ size f a
    nodes_long Skip at to e = refl
    nodes_long (Sequence a b) at to e =
        length-append (nodes f a at (entry f b (at + size f a) to e) e) (nodes f b (at + size f a) to e)
        ∙ ap (λ n. n + length (nodes f b (at + size f a) to e)) (nodes_long a at (entry f b (at + size f a) to e) e)
        ∙ ap (λ n. size f a + n) (nodes_long b (at + size f a) to e)
    nodes_long (Evaluate x) at to e = chain_long (tests_in f x) at to
    nodes_long (Set number x) at to e = guarded_long (tests_in f x) at _
    nodes_long (Unset number) at to e = refl
    nodes_long (Store type address displacement value offset) at to e = guarded_long (store_tests f type address displacement value) at _
    nodes_long (Call number function arguments place) at to e =
        let node = graph.Call (f.graph_number function) (inputs f 0 arguments) (outputs f function place) (at + length (argument_tests f arguments) + 1) in
        length-append (guarded (argument_tests f arguments) at node) (Basic [] to ∷ [])
        ∙ ap (λ n. n + 1) (guarded_long (argument_tests f arguments) at node) ∙ omega arith
    nodes_long (If test a b) at to e =
        let on_true = entry f a (at + count f test + 1) to e in
        let on_false = entry f b (at + count f test + 1 + size f a) to e in
        let first_nodes = nodes f a (at + count f test + 1) to e in
        let second_nodes = nodes f b (at + count f test + 1 + size f a) to e in
        length-append (guarded (tests_in f test) at (Cond (truth_in f test) on_true on_false)) (first_nodes ++ second_nodes)
        ∙ ap (λ n. n + length (first_nodes ++ second_nodes)) (guarded_long (tests_in f test) at (Cond (truth_in f test) on_true on_false))
        ∙ ap (λ n. count f test + 1 + n) (length-append first_nodes second_nodes)
        ∙ ap (λ n. count f test + 1 + (n + length second_nodes)) (nodes_long a (at + count f test + 1) to e)
        ∙ ap (λ n. count f test + 1 + (size f a + n)) (nodes_long b (at + count f test + 1 + size f a) to e)
        ∙ omega arith
    nodes_long (Loop number Before test step body) at to e =
        let node = Cond (truth_in f test) (At (at + count f test + 2)) to in
        let begin = at + count f test + 3 in
        let again = step_entry f step body begin (At at) to e in
        let body_nodes = nodes f body begin again (exits to again) in
        let step_nodes = nodes f step (begin + size f body) (At at) (exits to e.continues) in
        let inner = Basic [] (entry f body begin again (exits to again)) ∷ (body_nodes ++ step_nodes) in
        ap suc (length-append (guarded (tests_in f test) (at + 1) node) inner ∙ ap (λ n. n + length inner) (guarded_long (tests_in f test) (at + 1) node)
        ∙ ap (λ n. count f test + 1 + suc n) (length-append body_nodes step_nodes)
        ∙ ap (λ n. count f test + 1 + suc (n + length step_nodes)) (nodes_long body begin again (exits to again))
        ∙ ap (λ n. count f test + 1 + suc (size f body + n)) (nodes_long step (begin + size f body) (At at) (exits to e.continues)))
        ∙ omega arith
    nodes_long (Loop number After test step body) at to e =
        let next = At (at + 1 + size f body) in
        let node = Cond (truth_in f test) (At at) to in
        ap suc (length-append (nodes f body (at + 1) next (exits to next)) (Basic [] (At (at + size f body + 2)) ∷ guarded (tests_in f test) (at + size f body + 2) node)
        ∙ ap (λ n. n + suc (length (guarded (tests_in f test) (at + size f body + 2) node))) (nodes_long body (at + 1) next (exits to next))
        ∙ ap (λ n. size f body + suc n) (guarded_long (tests_in f test) (at + size f body + 2) node))
        ∙ omega arith
    nodes_long (Leave jump) at to e = refl
    nodes_long (Switch test list) at to e =
        let begin = at + count f test + case_count list in
        let other = otherwise f list begin to e in
        let tested = chain (tests_in f test) at (first (case_count list) (at + count f test) other) in
        let cases = cases_of f list begin to e in
        let chosen = selection (type_of test) (value_in f test) cases (at + count f test) other in
        let bodies = groups_nodes f list begin to e in
        length-append tested (chosen ++ bodies) ∙ ap (λ n. n + length (chosen ++ bodies)) (chain_long (tests_in f test) at (first (case_count list) (at + count f test) other))
        ∙ ap (λ n. count f test + n) (length-append chosen bodies)
        ∙ ap (λ n. count f test + (n + length bodies)) (selection_long (type_of test) (value_in f test) cases (at + count f test) other ∙ all_cases_long list begin to e)
        ∙ ap (λ n. count f test + (case_count list + n)) (groups_long list begin to e)
        ∙ omega arith
    nodes_long (Return None) at to e = refl
    nodes_long (Return (Some x)) at to e = guarded_long (tests_in f x) at _
    nodes_long (MissingReturn offset) at to e = refl

    groups_long : (list : Groups) (at : ℕ) (to : Next) (e : Exits) → length (groups_nodes f list at to e) ≡ groups_size f list
    groups_long no_groups at to e = refl
    groups_long (groups values body rest) at to e =
        length-append (nodes f body at to (exits to e.continues)) (groups_nodes f rest (at + size f body) to e)
        ∙ ap (λ n. n + length (groups_nodes f rest (at + size f body) to e)) (nodes_long body at to (exits to e.continues))
        ∙ ap (λ n. size f body + n) (groups_long rest (at + size f body) to e)

-- ---- a body

pub graph_long : (unit : Typed) (where_it_is : Place) (body : Body) → length (graph_of unit where_it_is body).nodes ≡ suc (size (setting_of unit where_it_is body) body.action)
unfolding graph_of
graph_long unit where_it_is body = ap suc (nodes_long (setting_of unit where_it_is body) body.action 1 Ret (exits Ret Ret))
