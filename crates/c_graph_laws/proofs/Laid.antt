-- The nodes of a statement are where the layout puts them.
use Rattle.std.proofs.Common.{◌≡◌, ◌∙◌, ℕ, zero, suc, ◌+◌, ℤ, if◌then◌else◌, refl, ap, subst, arith, List, [], ◌∷◌, ◌++◌, length, Some, None}
use Rattle.std.specs.Prelude.{slice_get}
use Rattle.term_core_spec.specs.Term.{Term}
use Rattle.graph_core_spec.specs.declared.Next.{Next}
use Rattle.graph_core_spec.specs.declared.Next.TheVariants.{At}
use Rattle.graph_core_spec.specs.Graph.{Node, Basic, Cond, Graphs, node_at}
use Rattle.graph_core_spec.specs.Graph as graph
use Rattle.c_types_spec.specs.declared.Scalar.{Scalar}
use Rattle.c_types_spec.specs.declared.TestPlace.TheVariants.{Before, After}
use Rattle.c_types_spec.specs.declared.Jump.TheVariants.{Break, Continue}
use Rattle.c_types_spec.specs.Core.{Core, Action, Skip, Sequence, Evaluate, Set, Unset, Store, Call, If, Loop, Leave, Switch, Return, MissingReturn, Groups, no_groups, groups, type_of}
use Rattle.c_graph_spec.specs.Layout.{Setting, Exits, exits, value_in, truth_in, tests_in, count, first, chain, guarded, store_tests, argument_tests, inputs, outputs, has_default, cases_to, selection, case_count, size, entry, otherwise, cases_of, step_entry, nodes, groups_nodes}
use Rattle.c_graph_laws.proofs.Lengths.{chain_long, guarded_long, selection_long, all_cases_long, nodes_long}
use Rattle.c_graph_laws.proofs.Occurs.{Comes, Tests, cases_at, default_at, Selects, Occurs, GroupsOccur}

-- ---- a list of nodes that is in a graph

pub record Holds (graphs : Graphs) (g : ℕ) (list : List Node) (at : ℕ) : Type 0 where
  pub each : (i : ℕ) (node : Node) → slice_get list i ≡ Some node → node_at graphs g (at + i) ≡ Some node

get_left : (a b : List Node) (i : ℕ) (node : Node) → slice_get a i ≡ Some node → slice_get (a ++ b) i ≡ Some node
get_left [] b i node e = absurd (cc)
get_left (x ∷ a) b zero node e = e
get_left (x ∷ a) b (suc i) node e = get_left a b i node e

get_right : (a b : List Node) (i : ℕ) → slice_get (a ++ b) (length a + i) ≡ slice_get b i
get_right [] b i = ap (slice_get b) {x = 0 + i} (omega arith)
get_right (x ∷ a) b i = ap (slice_get (x ∷ (a ++ b))) {x = suc (length a) + i} {y = suc (length a + i)} (omega arith) ∙ get_right a b i

module _ (graphs : Graphs) (g : ℕ) where
  in_head : (node : Node) (list : List Node) (at : ℕ) → Holds graphs g (node ∷ list) at → node_at graphs g at ≡ Some node
  in_head node list at h = subst (λ n. node_at graphs g n ≡ Some node) {x = at + 0} {y = at} (omega arith) (h.each 0 node refl)

  in_tail : (node : Node) (list : List Node) (at to : ℕ) → at + 1 ≡ to → Holds graphs g (node ∷ list) at → Holds graphs g list to
  in_tail node list at to is h = record { each = λ i other e. subst (λ n. node_at graphs g n ≡ Some other) {x = at + suc i} {y = to + i} (omega arith) (h.each (suc i) other e) }

  in_left : (a b : List Node) (at : ℕ) → Holds graphs g (a ++ b) at → Holds graphs g a at
  in_left a b at h = record { each = λ i node e. h.each i node (get_left a b i node e) }

  in_right : (a b : List Node) (at to : ℕ) → at + length a ≡ to → Holds graphs g (a ++ b) at → Holds graphs g b to
  in_right a b at to is h = record { each = λ i node e. subst (λ n. node_at graphs g n ≡ Some node) {x = at + (length a + i)} {y = to + i} (omega arith) (h.each (length a + i) node (get_right a b i ∙ e)) }

  comes : (node : Node) (list : List Node) (at : ℕ) → Holds graphs g (node ∷ list) at → Comes graphs g (At at) node
  comes node list at h = record { number = at; from_is = refl; here = in_head node list at h }

  tests_laid : (tests : List Term) (at : ℕ) (to : Next) → Holds graphs g (chain tests at to) at → Tests graphs g tests (first (length tests) at to) to
  unfolding chain
  tests_laid [] at to h = refl
  tests_laid (test ∷ rest) at to h =
      (first (length rest) (suc at) to, comes _ _ at h, tests_laid rest (suc at) to (in_tail _ _ at (suc at) (omega arith) h))

  begins : (n at : ℕ) → first n at (At (at + n)) ≡ At at
  begins zero at = ap At {x = at + 0} (omega arith)
  begins (suc n) at = refl

  -- tests, and then a node
  Guarded : List Term → (from : Next) → Node → Type 0
  Guarded tests from node = (last : Next) × Tests graphs g tests from last × Comes graphs g last node

  guarded_laid : (tests : List Term) (at : ℕ) (node : Node) → Holds graphs g (guarded tests at node) at → Guarded tests (At at) node
  unfolding Guarded
  guarded_laid tests at node h = (
    At (at + length tests),
    subst (λ n. Tests graphs g tests n (At (at + length tests))) (begins (length tests) at) (tests_laid tests at (At (at + length tests)) (in_left _ (node ∷ []) at h)),
    comes node [] (at + length tests) (in_right (chain tests at (At (at + length tests))) (node ∷ []) at (at + length tests) (ap (λ n. at + n) (chain_long tests at (At (at + length tests)))) h),
  )

  -- one after the other, as one
  joined : (m n all at : ℕ) (to : Next) → m + n ≡ all → first m at (first n (at + m) to) ≡ first all at to
  joined zero zero zero at to is = refl
  joined zero zero (suc all) at to is = absurd (omega arith)
  joined zero (suc n) zero at to is = absurd (omega arith)
  joined zero (suc n) (suc all) at to is = ap At {x = at + 0} (omega arith)
  joined (suc m) n zero at to is = absurd (omega arith)
  joined (suc m) n (suc all) at to is = refl

  selects_laid : (type : Scalar) (x : Term) (entries : List (ℤ × Next)) (at : ℕ) (otherwise : Next) → Holds graphs g (selection type x entries at otherwise) at
      → Selects graphs g type x entries (first (length entries) at otherwise) otherwise
  unfolding selection
  selects_laid type x [] at otherwise h = refl
  selects_laid type x (one ∷ entries) at otherwise h =
      (first (length entries) (suc at) otherwise, comes _ _ at h, selects_laid type x entries (suc at) otherwise (in_tail _ _ at (suc at) (omega arith) h))

  module _ (f : Setting) where
    -- the first nodes of groups
    group_entries : Groups → (at : ℕ) (to : Next) (e : Exits) → List Next
    group_entries no_groups at to e = []
    group_entries (groups values body rest) at to e = entry f body at to (exits to e.continues) ∷ group_entries rest (at + size f body) to e

    cases_are : (list : Groups) (at : ℕ) (to : Next) (e : Exits) → cases_of f list at to e ≡ cases_at list (group_entries list at to e)
    unfolding cases_of group_entries
    cases_are no_groups at to e = refl
    cases_are (groups values body rest) at to e =
        ap (λ (c : List (ℤ × Next)). cases_to values (entry f body at to (exits to e.continues)) ++ c) (cases_are rest (at + size f body) to e)

    default_is : (list : Groups) (at : ℕ) (to : Next) (e : Exits) → otherwise f list at to e ≡ default_at list (group_entries list at to e) to
    unfolding otherwise group_entries
    default_is no_groups at to e = refl
    default_is (groups values body rest) at to e =
        ap (λ (c : Next). if has_default values then entry f body at to (exits to e.continues) else c) (default_is rest (at + size f body) to e)

    switch_laid : (test : Core) (list : Groups) (at begin : ℕ) (to : Next) (e : Exits) → at + count f test + case_count list ≡ begin
        → (h : Holds graphs g (chain (tests_in f test) at (first (case_count list) (at + count f test) (otherwise f list begin to e))
        ++ (selection (type_of test) (value_in f test) (cases_of f list begin to e) (at + count f test) (otherwise f list begin to e)
        ++ groups_nodes f list begin to e)) at)
        → (chosen : Next)
        × Tests graphs g (tests_in f test) (first (count f test) at (first (case_count list) (at + count f test) (otherwise f list begin to e))) chosen
        × Selects graphs g (type_of test) (value_in f test) (cases_at list (group_entries list begin to e)) chosen (default_at list (group_entries list begin to e) to)
        × Holds graphs g (groups_nodes f list begin to e) begin
    switch_laid test list at begin to e is h =
        let other = otherwise f list begin to e in
        let cases = cases_of f list begin to e in
        let chosen = first (case_count list) (at + count f test) other in
        let tested = chain (tests_in f test) at chosen in
        let selected = selection (type_of test) (value_in f test) cases (at + count f test) other in
        let long : at + length tested ≡ at + count f test = ap (λ n. at + n) (chain_long (tests_in f test) at chosen) in
        let after_tests = in_right tested (selected ++ groups_nodes f list begin to e) at (at + count f test) long h in
        let select = selects_laid (type_of test) (value_in f test) cases (at + count f test) other (in_left selected (groups_nodes f list begin to e) (at + count f test) after_tests) in
        let counted : length cases ≡ case_count list = all_cases_long f list begin to e in
        let selected_long : at + count f test + length selected ≡ begin = ap (λ n. at + count f test + n) (selection_long (type_of test) (value_in f test) cases (at + count f test) other ∙ counted) ∙ is in (
          chosen,
          tests_laid (tests_in f test) at chosen (in_left tested (selected ++ groups_nodes f list begin to e) at h),
          subst (λ (c : List (ℤ × Next)). Selects graphs g (type_of test) (value_in f test) c chosen (default_at list (group_entries list begin to e) to)) (cases_are list begin to e)
              (subst (λ (d : Next). Selects graphs g (type_of test) (value_in f test) cases chosen d) (default_is list begin to e)
              (subst (λ (n : ℕ). Selects graphs g (type_of test) (value_in f test) cases (first n (at + count f test) other) other) counted select)),
          in_right selected (groups_nodes f list begin to e) (at + count f test) begin selected_long after_tests,
        )

    mutual
      unfolding nodes entry Guarded groups_nodes group_entries

      pub laid : (a : Action) (at : ℕ) (to : Next) (e : Exits) → Holds graphs g (nodes f a at to e) at → Occurs graphs g f a (entry f a at to e) to e
      laid Skip at to e h = refl
      laid (Sequence a b) at to e h =
          let middle = entry f b (at + size f a) to e in (
            middle,
            laid a at middle e (in_left (nodes f a at middle e) (nodes f b (at + size f a) to e) at h),
            laid b (at + size f a) to e (in_right (nodes f a at middle e) (nodes f b (at + size f a) to e) at (at + size f a) (ap (λ n. at + n) (nodes_long f a at middle e)) h),
          )
      laid (Evaluate x) at to e h = tests_laid (tests_in f x) at to h
      laid (Set number x) at to e h = guarded_laid (tests_in f x) at _ h
      laid (Unset number) at to e h = comes _ [] at h
      laid (Store type address displacement value offset) at to e h = guarded_laid (store_tests f type address displacement value) at _ h
      laid (Call number function arguments place) at to e h =
          let node = graph.Call (f.graph_number function) (inputs f 0 arguments) (outputs f function place) (at + length (argument_tests f arguments) + 1) in
          let before = guarded_laid (argument_tests f arguments) at node (in_left (guarded (argument_tests f arguments) at node) (Basic [] to ∷ []) at h) in (
            before.0,
            at + length (argument_tests f arguments) + 1,
            before.1,
            before.2,
            comes (Basic [] to) [] (at + length (argument_tests f arguments) + 1)
                (in_right (guarded (argument_tests f arguments) at node) (Basic [] to ∷ []) at _ (ap (λ n. at + n) (guarded_long (argument_tests f arguments) at node) ∙ omega arith) h),
          )
      laid (If test a b) at to e h =
          let on_true = entry f a (at + count f test + 1) to e in
          let on_false = entry f b (at + count f test + 1 + size f a) to e in
          let first_nodes = nodes f a (at + count f test + 1) to e in
          let second_nodes = nodes f b (at + count f test + 1 + size f a) to e in
          let node = Cond (truth_in f test) on_true on_false in
          let before = guarded_laid (tests_in f test) at node (in_left (guarded (tests_in f test) at node) (first_nodes ++ second_nodes) at h) in
          let arms = in_right (guarded (tests_in f test) at node) (first_nodes ++ second_nodes) at (at + count f test + 1)
          (ap (λ n. at + n) (guarded_long (tests_in f test) at node) ∙ omega arith) h in (
            before.0,
            on_true,
            on_false,
            before.1,
            before.2,
            laid a (at + count f test + 1) to e (in_left first_nodes second_nodes (at + count f test + 1) arms),
            laid b (at + count f test + 1 + size f a) to e
                (in_right first_nodes second_nodes (at + count f test + 1) (at + count f test + 1 + size f a) (ap (λ n. at + count f test + 1 + n) (nodes_long f a (at + count f test + 1) to e)) arms),
          )
      laid (Loop number Before test step body) at to e h =
          let inside = at + count f test + 2 in
          let start = at + count f test + 3 in
          let again = step_entry f step body start (At at) to e in
          let begin = entry f body start again (exits to again) in
          let node = Cond (truth_in f test) (At inside) to in
          let body_nodes = nodes f body start again (exits to again) in
          let step_nodes = nodes f step (start + size f body) (At at) (exits to e.continues) in
          let inner = Basic [] begin ∷ (body_nodes ++ step_nodes) in
          let rest = in_tail (Basic [] (At (at + 1))) (guarded (tests_in f test) (at + 1) node ++ inner) at (at + 1) refl h in
          let before = guarded_laid (tests_in f test) (at + 1) node (in_left (guarded (tests_in f test) (at + 1) node) inner (at + 1) rest) in
          let in_loop = in_right (guarded (tests_in f test) (at + 1) node) inner (at + 1) inside (ap (λ n. at + 1 + n) (guarded_long (tests_in f test) (at + 1) node) ∙ omega arith) rest in
          let parts = in_tail (Basic [] begin) (body_nodes ++ step_nodes) inside start (omega arith) in_loop in (
            At (at + 1),
            before.0,
            At inside,
            begin,
            again,
            comes (Basic [] (At (at + 1))) (guarded (tests_in f test) (at + 1) node ++ inner) at h,
            before.1,
            before.2,
            comes (Basic [] begin) (body_nodes ++ step_nodes) inside in_loop,
            laid body start again (exits to again) (in_left body_nodes step_nodes start parts),
            laid step (start + size f body) (At at) (exits to e.continues)
                (in_right body_nodes step_nodes start (start + size f body) (ap (λ n. start + n) (nodes_long f body start again (exits to again))) parts),
          )
      laid (Loop number After test step body) at to e h =
          let again = at + 1 + size f body in
          let begin = entry f body (at + 1) (At again) (exits to (At again)) in
          let node = Cond (truth_in f test) (At at) to in
          let body_nodes = nodes f body (at + 1) (At again) (exits to (At again)) in
          let tail = Basic [] (At (at + size f body + 2)) ∷ guarded (tests_in f test) (at + size f body + 2) node in
          let rest = in_tail (Basic [] begin) (body_nodes ++ tail) at (at + 1) refl h in
          let test_nodes = in_right body_nodes tail (at + 1) again (ap (λ n. at + 1 + n) (nodes_long f body (at + 1) (At again) (exits to (At again)))) rest in
          let tested = in_tail (Basic [] (At (at + size f body + 2))) (guarded (tests_in f test) (at + size f body + 2) node) again (at + size f body + 2) (omega arith) test_nodes in
          let before = guarded_laid (tests_in f test) (at + size f body + 2) node tested in (
            begin,
            At again,
            At (at + size f body + 2),
            before.0,
            comes (Basic [] begin) (body_nodes ++ tail) at h,
            laid body (at + 1) (At again) (exits to (At again)) (in_left body_nodes tail (at + 1) rest),
            comes (Basic [] (At (at + size f body + 2))) (guarded (tests_in f test) (at + size f body + 2) node) again test_nodes,
            before.1,
            before.2,
          )
      laid (Leave Break) at to e h = refl
      laid (Leave Continue) at to e h = refl
      laid (Switch test list) at to e h =
          let begin = at + count f test + case_count list in
          let parts = switch_laid test list at begin to e refl h in (
            parts.0,
            group_entries list begin to e,
            subst (λ (n : Next). Tests graphs g (tests_in f test) n parts.0) (joined (count f test) (case_count list) (count f test + case_count list) at (otherwise f list begin to e) refl) parts.1,
            parts.2,
            groups_laid list begin to e parts.3,
          )
      laid (Return None) at to e h = refl
      laid (Return (Some x)) at to e h = guarded_laid (tests_in f x) at _ h
      laid (MissingReturn offset) at to e h = comes _ [] at h

      groups_laid : (list : Groups) (at : ℕ) (to : Next) (e : Exits) → Holds graphs g (groups_nodes f list at to e) at → GroupsOccur graphs g f list (group_entries list at to e) to e.continues
      groups_laid no_groups at to e h = refl
      groups_laid (groups values body rest) at to e h = (
        laid body at to (exits to e.continues) (in_left (nodes f body at to (exits to e.continues)) (groups_nodes f rest (at + size f body) to e) at h),
        groups_laid rest (at + size f body) to e
            (in_right (nodes f body at to (exits to e.continues)) (groups_nodes f rest (at + size f body) to e) at (at + size f body) (ap (λ n. at + n) (nodes_long f body at to (exits to e.continues))) h),
      )
