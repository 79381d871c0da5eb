-- Nodes over a bank, and the tests before them.
use Rattle.std.proofs.Common.{◌≡◌, ◌∙◌, ℕ, zero, suc, ◌+◌, ◌<◌, ◌≤◌, List, [], ◌∷◌, ◌++◌, length, map, drop, take, get_or, refl, sym, ap, ap₂, subst, arith, append_assoc, append-nil}
use Rattle.std.specs.Prelude.{Vec, ℤ}
use Rattle.std.specs.declared.alloc.Global.{Global}
use Rattle.std.specs.declared.boxed.Box.{Box}
use Rattle.std.proofs.lemmas.List.{drop_all, map-append}
use Rattle.memory_spec.specs.Runs.{Run}
use Rattle.term_core_spec.specs.Term.{Term, equal}
use Rattle.term_bank.specs.Nodes.{tree_at}
use Rattle.graph_core_spec.specs.declared.Next.{Next}
use Rattle.graph_core_spec.specs.Graph as graph
use Rattle.graph_core_spec.specs.Graph.{Binding, with_nodes}
use Rattle.graph_core.specs.declared.shared.SharedBinding.{SharedBinding}
use Rattle.graph_core.specs.declared.shared.SharedNode.{SharedNode}
use Rattle.graph_core.specs.declared.shared.SharedNode.TheVariants as shared
use Rattle.graph_core.specs.Shared.{shared_binding_of, shared_node_of, IsSharedNode}
use Rattle.graph_core.specs.Graphs.{AreShared}
use Rattle.graph_core.proofs.Growing.{shared_later}
use Rattle.c_types_spec.specs.declared.Scalar.{Scalar}
use Rattle.c_types_spec.specs.Core.{type_of}
use Rattle.c_types_spec.specs.Core as tree
use Rattle.c_types_core.specs.Expressions.{core_of}
use Rattle.c_types_core.specs.declared.expression.Core.{Core}
use Rattle.c_graph_spec.specs.State.{value_constant}
use Rattle.c_graph_spec.specs.Values as spec
use Rattle.c_graph_spec.specs.Values.{Globals, Terms, no_object, terms}
use Rattle.c_graph_spec.specs.Guards.{tests}
use Rattle.c_graph_spec.specs.Layout.{Setting, set_local, value_in, tests_in, inputs, argument_tests, guarded, chain}
use Rattle.c_graph_layout.specs.Lists.{cores_of}
use Rattle.c_graph_layout.proofs.Blocks.{item}
use Rattle.c_graph_terms.specs.declared.values.ValueIds.{ValueIds}
use Rattle.c_graph_terms.specs.declared.values.Object.{Object}
use Rattle.c_graph_terms.specs.Tables.{AreWithin}
use Rattle.c_graph_terms.specs.Built.{IsGrown, IsBuilt}
use Rattle.c_graph_terms.specs.Tests.{AreIdsOf, IsTested, IsEvaluated}
use Rattle.c_graph_terms.specs.Accesses.{IsStored}
use Rattle.c_graph_terms.specs.Scenes.{IsObject, object_at, stored_term, stored_tests}
use Rattle.c_graph_terms.proofs.Banks.{grown_itself, kept}
use Rattle.c_graph_terms.proofs.Lists.{ids_within, ids_trees, tested_itself, tested_then, tested_more, tested_after, tested_one}
use Rattle.c_graph.specs.declared.cases.Case.{Case}
use Rattle.c_graph.specs.Bound.{AreAdded, Compares, IsDrafted, Passes}
use Rattle.c_graph.specs.Seen.{case_of, cases_in, case_tests}
use Rattle.c_graph.proofs.Ids.{map_more}
use Rattle.c_graph.proofs.Added.{all_shared, both_bound, bound_after, nothing_added, one_input, no_inputs, nothing_shared}

-- ---- values, which are in no assignment to an object

pub value_made : (a b c : List Term) (i j : List ℕ) (x : Object) (ids : ValueIds) (g : Globals) (core : tree.Core) → IsObject a b x no_object
    → IsEvaluated b c i j ids (terms g (object_at b x) core) (tests g (object_at b x) core) → IsEvaluated a c i j ids (terms g no_object core) (tests g no_object core)
value_made a b c i j x ids g core h p =
    let q : IsEvaluated b c i j ids (terms g no_object core) (tests g no_object core) = subst (λ (o : spec.Object). IsEvaluated b c i j ids (terms g o core) (tests g o core)) h.is p in
    record { tested = tested_after a b c i j (tests g no_object core) h.is_grown q.tested; are = q.are }

pub store_made : (a b c : List Term) (i j : List ℕ) (x : Object) (id : ℕ) (g : Globals) (runs : List Run) (type : Scalar) (address : tree.Core) (displacement : ℕ) (value : tree.Core) → IsObject a b x no_object
    → IsStored b c i j id (stored_term g (object_at b x) type address displacement value) (stored_tests g (object_at b x) runs type address displacement value)
    → IsStored a c i j id (stored_term g no_object type address displacement value) (stored_tests g no_object runs type address displacement value)
store_made a b c i j x id g runs type address displacement value h p =
    let q : IsStored b c i j id (stored_term g no_object type address displacement value) (stored_tests g no_object runs type address displacement value) =
    subst (λ (o : spec.Object). IsStored b c i j id (stored_term g o type address displacement value) (stored_tests g o runs type address displacement value)) h.is p in
    record { tested = tested_after a b c i j _ h.is_grown q.tested; within = q.within; tree = q.tree }

-- ---- nodes

pub drafted_basic : (a b c : List Term) (i j : List ℕ) (made_tests : List Term) (before : List SharedBinding) (v : Vec SharedBinding Global) (made : List Binding) (to : Next)
    → IsTested a b i j made_tests → before ≡ [] → AreAdded b c before v.items made → IsDrafted a c i j (shared.Basic v to) made_tests (graph.Basic made to)
drafted_basic a b c i j made_tests before v made to t e h =
    let s : AreShared c made v.items = all_shared b c before v.items made e h in
    record {
      tested = tested_more a b c i j made_tests t h.is_grown;
      within = s.within;
      is = ap (λ (l : List Binding). graph.Basic l to) s.are;
    }

pub drafted_test : (a b : List Term) (i j : List ℕ) (ids : ValueIds) (t : Terms) (made_tests : List Term) (on_true on_false : Next) → IsEvaluated a b i j ids t made_tests
    → IsDrafted a b i j (shared.Cond ids.truth on_true on_false) made_tests (graph.Cond t.truth on_true on_false)
drafted_test a b i j ids t made_tests on_true on_false h =
    record {
      tested = h.tested;
      within = h.are.truth_within;
      is = ap (λ (x : Term). graph.Cond x on_true on_false) h.are.truth_is;
    }

pub drafted_call : (a b c : List Term) (i j : List ℕ) (before : List SharedBinding) (ins outs : Vec SharedBinding Global) (made_tests : List Term) (ins_made outs_made : List Binding) (callee number landing : ℕ)
    → before ≡ [] → Passes a b i j before ins.items made_tests ins_made → AreAdded b c [] outs.items outs_made → callee ≡ number
    → IsDrafted a c i j (shared.Call callee ins outs landing) made_tests (graph.Call number ins_made outs_made landing)
drafted_call a b c i j before ins outs made_tests ins_made outs_made callee number landing e p o same =
    let given : AreShared c ins_made ins.items = shared_later b c o.is_grown.extends ins_made ins.items (all_shared a b before ins.items ins_made e p.bound) in
    let taken : AreShared c outs_made outs.items = all_shared b c [] outs.items outs_made refl o in
    record {
      tested = tested_more a b c i j made_tests p.tested o.is_grown;
      within = (given.within, taken.within);
      is = ap (λ (n : ℕ). graph.Call n (map (shared_binding_of c) ins.items) (map (shared_binding_of c) outs.items) landing) same ∙ ap₂ (λ (x y : List Binding). graph.Call number x y landing) given.are taken.are;
    }

-- ---- from a new bank to the graph

pub fresh_tests : (old bank : List Term) (before found : List ℕ) (made : List Term) → before ≡ [] → IsTested old bank before found made → AreIdsOf bank found made
fresh_tests old bank before found made e h = h.added [] (subst (λ (l : List ℕ). AreIdsOf old l []) (sym e) refl)

pub fresh_within : (old bank : List Term) (before found list : List ℕ) (made : List Term) → before ≡ [] → list ≡ found → IsTested old bank before found made → AreWithin (length bank) list
fresh_within old bank before found list made e same h = subst (AreWithin (length bank)) (sym same) (ids_within bank found made (fresh_tests old bank before found made e h))

pub fresh_trees : (old bank : List Term) (before found list : List ℕ) (made : List Term) → before ≡ [] → list ≡ found → IsTested old bank before found made → map (tree_at bank) list ≡ made
fresh_trees old bank before found list made e same h = ap (map (tree_at bank)) same ∙ ids_trees bank found made (fresh_tests old bank before found made e h)

pub emitted_tests : (g h : graph.Graph) (old bank : List Term) (before found list : List ℕ) (made : List Term) (at : ℕ) (to : Next) → before ≡ [] → list ≡ found → IsTested old bank before found made
    → h ≡ with_nodes g (chain (map (tree_at bank) list) at to) → h ≡ with_nodes g (chain made at to)
emitted_tests g h old bank before found list made at to e same t p =
    p ∙ ap (λ (l : List Term). with_nodes g (chain l at to)) (fresh_trees old bank before found list made e same t)

pub emitted : (g h : graph.Graph) (old bank : List Term) (before found list : List ℕ) (node : SharedNode) (made : List Term) (last : graph.Node) (at : ℕ) → before ≡ [] → list ≡ found
    → IsDrafted old bank before found node made last → h ≡ with_nodes g (guarded (map (tree_at bank) list) at (shared_node_of bank node)) → h ≡ with_nodes g (guarded made at last)
emitted g h old bank before found list node made last at e same d p =
    p ∙ ap₂ (λ (l : List Term) (n : graph.Node). with_nodes g (guarded l at n)) (fresh_trees old bank before found list made e same d.tested) d.is

-- ---- arguments, one after the other

pub passes_none : (a : List Term) (i : List ℕ) (p : List SharedBinding) → Passes a a i i p p [] []
passes_none a i p = record { tested = tested_itself a a i (grown_itself a); bound = nothing_added a p p refl }

pub passes_then : (a b c : List Term) (i j k : List ℕ) (p q r : List SharedBinding) (first more : List Term) (made others : List Binding) → Passes a b i j p q first made → Passes b c j k q r more others
    → Passes a c i k p r (first ++ more) (made ++ others)
passes_then a b c i j k p q r first more made others h l =
    record {
      tested = tested_then a b c i j k first more h.tested l.tested;
      bound = both_bound a b c p q r made others h.bound l.bound;
    }

-- a value, and then its binding
pub passes_one : (a b c : List Term) (i j : List ℕ) (p q : List SharedBinding) (ids : ValueIds) (t : Terms) (made_tests : List Term) (number : ℕ) (type : Scalar) → IsEvaluated a b i j ids t made_tests
    → AreAdded b c p q (set_local number type (tree_at b ids.word)) → Passes a c i j p q made_tests (set_local number type t.word)
passes_one a b c i j p q ids t made_tests number type h k =
    let bound : AreAdded b c p q (set_local number type t.word) = subst (λ (x : Term). AreAdded b c p q (set_local number type x)) h.are.word_is k in
    record {
      tested = tested_more a b c i j made_tests h.tested bound.is_grown;
      bound = bound_after a b c p q (set_local number type t.word) h.tested.is_grown bound;
    }

argument_first : (f : Setting) (x : tree.Core) (rest : List tree.Core) → argument_tests f (x ∷ rest) ≡ tests_in f x ++ argument_tests f rest
unfolding argument_tests
argument_first f x rest = refl

no_arguments : (f : Setting) → argument_tests f [] ≡ []
unfolding argument_tests
no_arguments f = refl

-- the arguments before a place are passed
pub record Passing (f : Setting) (xs : List (Box Core Global)) (number : ℕ) (a b : List Term) (i j : List ℕ) (p q : List SharedBinding) : Type 0 where
  pub made_tests : List Term
  pub made : List Binding
  pub passes : Passes a b i j p q made_tests made
  pub tests_are : made_tests ++ argument_tests f (cores_of (drop number xs)) ≡ argument_tests f (cores_of xs)
  pub made_are : made ++ inputs f number (cores_of (drop number xs)) ≡ inputs f 0 (cores_of xs)

pub passing_none : (f : Setting) (xs : List (Box Core Global)) (a : List Term) (i : List ℕ) (p : List SharedBinding) → Passing f xs 0 a a i i p p
passing_none f xs a i p = record { made_tests = []; made = []; passes = passes_none a i p; tests_are = refl; made_are = refl }

pub passing_more : (f : Setting) (xs : List (Box Core Global)) (number : ℕ) (x : Box Core Global) (a b c : List Term) (i j k : List ℕ) (p q r : List SharedBinding) → number < length xs → x ≡ get_or xs number x
    → Passing f xs number a b i j p q → Passes b c j k q r (tests_in f (core_of x.value)) (set_local number (type_of (core_of x.value)) (value_in f (core_of x.value)))
    → Passing f xs (number + 1) a c i k p r
passing_more f xs number x a b c i j k p q r below is h one =
    let y : tree.Core = core_of x.value in
    let here : cores_of (drop number xs) ≡ y ∷ cores_of (drop (number + 1) xs) = ap cores_of (item xs number x below is) in
    let rest : List tree.Core = cores_of (drop (number + 1) xs) in
    record {
      made_tests = h.made_tests ++ tests_in f y;
      made = h.made ++ set_local number (type_of y) (value_in f y);
      passes = passes_then a b c i j k p q r h.made_tests (tests_in f y) h.made (set_local number (type_of y) (value_in f y)) h.passes one;
      tests_are = append_assoc h.made_tests (tests_in f y) (argument_tests f rest)
          ∙ ap (λ (l : List Term). h.made_tests ++ l) (sym (ap (argument_tests f) here ∙ argument_first f y rest)) ∙ h.tests_are;
      made_are = append_assoc h.made (set_local number (type_of y) (value_in f y)) (inputs f (number + 1) rest)
          ∙ ap (λ (l : List Binding). h.made ++ l) (sym (one_input f number (number + 1) y rest (cores_of (drop number xs)) here refl)) ∙ h.made_are;
    }

pub passing_all : (f : Setting) (xs : List (Box Core Global)) (number : ℕ) (a b : List Term) (i j : List ℕ) (p q : List SharedBinding) → length xs ≤ number → Passing f xs number a b i j p q
    → Passes a b i j p q (argument_tests f (cores_of xs)) (inputs f 0 (cores_of xs))
passing_all f xs number a b i j p q past h =
    let none : drop number xs ≡ [] = drop_all number xs past in
    let all_tests : h.made_tests ≡ argument_tests f (cores_of xs) =
    sym (append-nil h.made_tests) ∙ ap (λ (l : List Term). h.made_tests ++ l) (sym (ap (λ (l : List (Box Core Global)). argument_tests f (cores_of l)) none ∙ no_arguments f)) ∙ h.tests_are in
    let all_made : h.made ≡ inputs f 0 (cores_of xs) =
    sym (append-nil h.made) ∙ ap (λ (l : List Binding). h.made ++ l) (sym (ap (λ (l : List (Box Core Global)). inputs f number (cores_of l)) none ∙ no_inputs f number)) ∙ h.made_are in
    subst (λ (l : List Term). Passes a b i j p q l (inputs f 0 (cores_of xs))) all_tests (subst (λ (l : List Binding). Passes a b i j p q h.made_tests l) all_made h.passes)

-- ---- cases, one after the other

pub compared_none : (a : List Term) (i : List ℕ) (type : Scalar) (x : Term) (cases : List Case) → IsTested a a i i (case_tests type x (cases_in (take 0 cases)))
compared_none a i type x cases = tested_itself a a i (grown_itself a)

pub compared_more : (a b c : List Term) (i j k : List ℕ) (type : Scalar) (word : ℕ) (cases : List Case) (n : ℕ) (one : Case) (id : ℕ) → word < length a
    → IsTested a b i j (case_tests type (tree_at a word) (cases_in (take n cases))) → n < length cases → one ≡ get_or cases n one
    → IsBuilt b c id (equal (tree_at b word) (value_constant type one.value)) → k ≡ j ++ id ∷ []
    → IsTested a c i k (case_tests type (tree_at a word) (cases_in (take (n + 1) cases)))
compared_more a b c i j k type word cases n one id within h below is built e =
    let x : Term = tree_at a word in
    let same : IsBuilt b c id (equal x (value_constant type one.value)) =
    subst (λ (t : Term). IsBuilt b c id (equal t (value_constant type one.value))) (kept a b word h.is_grown within) built in
    let more : case_tests type x (cases_in (take (n + 1) cases)) ≡ case_tests type x (cases_in (take n cases)) ++ equal x (value_constant type one.value) ∷ [] =
    ap (case_tests type x) (map_more case_of cases n one below is) ∙ map-append (λ (p : ℤ × Next). equal x (value_constant type p.0)) (cases_in (take n cases)) (case_of one ∷ []) in
    subst (IsTested a c i k) (sym more)
    (tested_then a b c i j k (case_tests type x (cases_in (take n cases))) (equal x (value_constant type one.value) ∷ []) h (tested_one b c j k id (equal x (value_constant type one.value)) same e))

pub compared_all : (a b d : List Term) (i j k l : List ℕ) (ids : ValueIds) (t : Terms) (made_tests : List Term) (type of : Scalar) (cases : List Case) → IsEvaluated a b i j ids t made_tests → type ≡ of
    → IsTested b d k l (case_tests type (tree_at b ids.word) (cases_in cases)) → Compares a d i j k l made_tests (case_tests of t.word (cases_in cases))
compared_all a b d i j k l ids t made_tests type of cases h e p =
    let same : case_tests type (tree_at b ids.word) (cases_in cases) ≡ case_tests of t.word (cases_in cases) = ap₂ (λ (s : Scalar) (x : Term). case_tests s x (cases_in cases)) e h.are.word_is in
    record {
      tested = tested_more a b d i j made_tests h.tested p.is_grown;
      compared = tested_after a b d k l (case_tests of t.word (cases_in cases)) h.tested.is_grown (subst (IsTested b d k l) same p);
    }
