-- The graphs of a typed unit are valid.
use Rattle.std.proofs.Common.{◌≡◌, ◌∙◌, ℕ, zero, suc, ◌+◌, ◌-◌, ◌≤◌, ◌<◌, ◌^◌, Bool, true, false, cond, if◌then◌else◌, ℤ, refl, sym, ap, subst, arith, List, [], ◌∷◌, ◌++◌, length, Option, Some, None, All, map, bytes_eq, find, option_map}
use Rattle.std.specs.Option.{option_map_or}
use Rattle.std.proofs.lemmas.List.Elements.{All-nil, All-cons, All-append, All-head, All-tail}
use Rattle.memory_spec.specs.Runs.{Run}
use Rattle.term_core_spec.specs.declared.Width.TheVariants.{W32}
use Rattle.term_core_spec.specs.declared.Sort.TheVariants as sort
use Rattle.term_core_spec.specs.declared.Variable.{Variable}
use Rattle.term_core_spec.specs.Term.{Term, truth, open_term, equal, less}
use Rattle.term_core_spec.specs.Sort.{sort_of, sort_of_atom}
use Rattle.graph_core_spec.specs.declared.Next.{Next}
use Rattle.graph_core_spec.specs.declared.Next.TheVariants.{At, Ret, Err}
use Rattle.graph_core_spec.specs.Graph.{Binding, Node, Basic, Cond, Graph, IsBinding, AreBindings, IsNext, IsNode, IsValid}
use Rattle.graph_core_spec.specs.Graph as graph
use Rattle.c_token_spec.specs.Words.{entry_of}
use Rattle.c_types_spec.specs.declared.Scalar.{Scalar}
use Rattle.c_types_spec.specs.declared.TestPlace.TheVariants.{Before, After}
use Rattle.c_types_spec.specs.declared.Jump.TheVariants.{Break, Continue}
use Rattle.c_types_spec.specs.Types.{int, word}
use Rattle.c_types_spec.specs.Core.{Core, FunctionType, Body, Typed, Action, Skip, Sequence, Evaluate, Set, Unset, Store, Call, If, Loop, Leave, Switch, Return, MissingReturn, Groups, no_groups, groups, type_of}
use Rattle.c_types_spec.specs.HasType as typed
use Rattle.c_types_spec.specs.HasType.{HasType, HaveTypes, IsTyped, AreTyped, IsTypedBody, IsTypedUnit, Receives, scope_of}
use Rattle.c_graph_spec.specs.State.{width_of, local, is_set, memory, zone_low, zone_high, result, number, value_constant}
use Rattle.c_graph_spec.specs.Values.{Object, object, no_object, address_of, at_width, terms, value_term}
use Rattle.c_graph_spec.specs.Guards.{Place, tests, read_tests, write_tests, avoids_run, avoids_fixed, last_byte}
use Rattle.c_graph_spec.specs.Sizes.{UnitSizes}
use Rattle.c_graph_laws.proofs.Extents.{unit_extents, IsPlain, byte, half, full, HasExtents, AllExtents, ActionExtents, GroupExtents, BodyExtents, ResultExtent, UnitExtents}
use Rattle.c_graph_spec.specs.Layout.{Setting, Exits, exits, value_in, truth_in, tests_in, count, first, chain, guarded, binding, set_local, store_tests, memory_stored, argument_tests, inputs, outputs, result_put, has_default, cases_to, selection, case_count, size, groups_size, entry, otherwise, cases_of, step_entry, nodes, groups_nodes}
use Rattle.c_graph_spec.specs.SourceGraph.{setting_of, void_function, graph_of, graphs_of}
use Rattle.c_graph_laws.specs.Together.{IsPlace}
use Rattle.c_graph_laws.proofs.Lengths.{nodes_long, all_cases_long}
use Rattle.c_graph_laws.proofs.Conjunctions.{conjunction_all}
use Rattle.c_graph_laws.proofs.Sorted.{IsTest, IsOf, Is32, one, and_sorted, or_sorted, less_sorted, equal_sorted, words_sorted, number_sorted, at_width_sorted, address_sorted, read_tests_sorted, stored_sorted}
use Rattle.c_graph_laws.proofs.ExpressionSorts.{type_is, plain_is, sorted, AreSorted, constant_value_sorted}
use Rattle.c_graph_laws.proofs.Expressions.{global_small}
use Rattle.c_graph_laws.proofs.Serving.{at_item}

-- ---- where control goes

either : (total : ℕ) (b : Bool) (x y : Next) → IsNext total x → IsNext total y → IsNext total (if b then x else y)
either total true x y first second = first
either total false x y first second = second

module _ (total : ℕ) where
  first_valid : (n at : ℕ) (to : Next) → at + n ≤ total → IsNext total to → IsNext total (first n at to)
  first_valid zero at to within valid = valid
  first_valid (suc n) at to within valid = omega arith

  record AreExits (e : Exits) : Type 0 where
    breaks : IsNext total e.breaks
    continues : IsNext total e.continues

  module _ (f : Setting) where
    mutual
      unfolding entry otherwise size groups_size

      entry_valid : (a : Action) (at : ℕ) (to : Next) (e : Exits) → at + size f a ≤ total → IsNext total to → AreExits e → IsNext total (entry f a at to e)
      entry_valid Skip at to e within valid leaves = valid
      entry_valid (Sequence a b) at to e within valid leaves =
          entry_valid a at (entry f b (at + size f a) to e) e (omega arith) (entry_valid b (at + size f a) to e (omega arith) valid leaves) leaves
      entry_valid (Evaluate x) at to e within valid leaves = first_valid (count f x) at to within valid
      entry_valid (Set index x) at to e within valid leaves = omega arith
      entry_valid (Unset index) at to e within valid leaves = omega arith
      entry_valid (Store t address displacement x offset) at to e within valid leaves = omega arith
      entry_valid (Call index function arguments place) at to e within valid leaves = omega arith
      entry_valid (If test a b) at to e within valid leaves = omega arith
      entry_valid (Loop index Before test step body) at to e within valid leaves = omega arith
      entry_valid (Loop index After test step body) at to e within valid leaves = omega arith
      entry_valid (Leave Break) at to e within valid leaves = leaves.breaks
      entry_valid (Leave Continue) at to e within valid leaves = leaves.continues
      entry_valid (Switch test list) at to e within valid leaves =
          first_valid (count f test + case_count list) at _ (omega arith) (otherwise_valid list (at + count f test + case_count list) to e (omega arith) valid leaves)
      entry_valid (Return None) at to e within valid leaves = tt
      entry_valid (Return (Some x)) at to e within valid leaves = omega arith
      entry_valid (MissingReturn offset) at to e within valid leaves = omega arith

      otherwise_valid : (list : Groups) (at : ℕ) (to : Next) (e : Exits) → at + groups_size f list ≤ total → IsNext total to → AreExits e → IsNext total (otherwise f list at to e)
      otherwise_valid no_groups at to e within valid leaves = valid
      otherwise_valid (groups values body rest) at to e within valid leaves =
          either total (has_default values) (entry f body at to (exits to e.continues)) (otherwise f rest (at + size f body) to e)
          (entry_valid body at to (exits to e.continues) (omega arith) valid (record { breaks = valid; continues = leaves.continues }))
          (otherwise_valid rest (at + size f body) to e (omega arith) valid leaves)

  -- the nodes of cases
  cases_valid : (values : List (Option ℤ)) (to : Next) → IsNext total to → All (λ (one : ℤ × Next). IsNext total one.1) (cases_to values to)
  unfolding cases_to
  cases_valid [] to valid = All-nil (λ (one : ℤ × Next). IsNext total one.1)
  cases_valid (None ∷ values) to valid = cases_valid values to valid
  cases_valid (Some v ∷ values) to valid = All-cons (λ (one : ℤ × Next). IsNext total one.1) (v, to) (cases_to values to) valid (cases_valid values to valid)

  -- ---- nodes

  chain_valid : (list : List Term) (at : ℕ) (to : Next) → All IsTest list → at + length list ≤ total → IsNext total to → All (IsNode total) (chain list at to)
  unfolding chain
  chain_valid [] at to are within valid = All-nil (IsNode total)
  chain_valid (test ∷ rest) at to are within valid =
      All-cons (IsNode total) (Cond test (first (length rest) (suc at) to) Err) (chain rest (suc at) to)
      (All-head IsTest test rest are, first_valid (length rest) (suc at) to (omega arith) valid, tt)
      (chain_valid rest (suc at) to (All-tail IsTest test rest are) (omega arith) valid)

  one_node : (node : Node) → IsNode total node → All (IsNode total) (node ∷ [])
  one_node node valid = All-cons (IsNode total) node [] valid (All-nil (IsNode total))

  guarded_valid : (list : List Term) (at : ℕ) (node : Node) → All IsTest list → at + length list < total → IsNode total node → All (IsNode total) (guarded list at node)
  guarded_valid list at node are within valid =
      All-append (IsNode total) (chain list at (At (at + length list))) (node ∷ []) (chain_valid list at (At (at + length list)) are (omega arith) within) (one_node node valid)

  selection_valid : (t : Scalar) → IsPlain t → (x : Term) → IsOf x t → (entries : List (ℤ × Next)) (at : ℕ) (other : Next) → All (λ (one : ℤ × Next). IsNext total one.1) entries
      → at + length entries ≤ total → IsNext total other → All (IsNode total) (selection t x entries at other)
  unfolding selection
  selection_valid t plain x e [] at other are within valid = All-nil (IsNode total)
  selection_valid t plain x e (one ∷ entries) at other are within valid =
      All-cons (IsNode total) (Cond (equal x (value_constant t one.0)) one.1 (first (length entries) (suc at) other)) (selection t x entries (suc at) other) (
        equal_sorted (width_of t) x (value_constant t one.0) e (constant_value_sorted t plain one.0),
        All-head (λ (one : ℤ × Next). IsNext total one.1) one entries are,
        first_valid (length entries) (suc at) other (omega arith) valid,
      )
      (selection_valid t plain x e entries (suc at) other (All-tail (λ (one : ℤ × Next). IsNext total one.1) one entries are) (omega arith) valid)

-- ---- the terms of a body

truth_sorted : (b : Bool) → IsTest (truth b)
unfolding sort_of sort_of_atom
truth_sorted b = refl

open_sorted : (v : Variable) → sort_of (open_term v) ≡ Some v.sort
unfolding sort_of sort_of_atom
open_sorted v = refl

result_of : (functions : List (List ℕ × FunctionType)) (function : List ℕ) (type : FunctionType) → All (λ (entry : List ℕ × FunctionType). ResultExtent entry.1.result) functions
    → entry_of functions function ≡ Some type → ResultExtent type.result
result_of [] function type all e = absurd (cc)
result_of (one_entry ∷ rest) function type all e = at (bytes_eq one_entry.0 function) e (λ later. result_of rest function type (All-tail (λ (entry : List ℕ × FunctionType). ResultExtent entry.1.result) one_entry rest all) later)
  where
    at : (b : Bool) → option_map (λ (entry : List ℕ × FunctionType). entry.1) (cond b (Some one_entry) (find (λ (entry : List ℕ × FunctionType). bytes_eq entry.0 function) rest)) ≡ Some type
        → (entry_of rest function ≡ Some type → ResultExtent type.result) → ResultExtent type.result
    at true e later =
        let same : one_entry.1 ≡ type = cc in
        subst (λ (t : FunctionType). ResultExtent t.result) same (All-head (λ (entry : List ℕ × FunctionType). ResultExtent entry.1.result) one_entry rest all)
    at false e later = later e

module _ (unit : Typed) (p : Place) (placed : IsPlace p) (extents : UnitExtents unit) (body : Body) (body_extents : BodyExtents body) (total : ℕ) where
  abbrev f : Setting
  f = setting_of unit p body

  terms_sorted : (x : Core) (t : Scalar) → HasType (scope_of unit body) None x t → HasExtents x → AreSorted (tests_in f x) (terms p.globals no_object x) t
  terms_sorted x t has h = sorted p.globals (global_small p placed) no_object (number_sorted 0 (omega arith)) (omega arith) (scope_of unit body) None x t has h

  typed_word : (x : Core) (t : Scalar) → HasType (scope_of unit body) None x t → HasExtents x → IsOf (value_in f x) (type_of x)
  typed_word x t has h = subst (λ (u : Scalar). IsOf (value_in f x) u) (sym (type_is (scope_of unit body) None x t has)) (terms_sorted x t has h).word

  set_bindings : (index : ℕ) (t : Scalar) (x : Term) → IsOf x t → AreBindings (set_local index t x)
  set_bindings index t x e =
      All-cons IsBinding (binding (local index t) x) (binding (is_set index) (truth true) ∷ []) e (All-cons IsBinding (binding (is_set index) (truth true)) [] (truth_sorted true) (All-nil IsBinding))

  one_binding : (v : Variable) (x : Term) → sort_of x ≡ Some v.sort → AreBindings (binding v x ∷ [])
  one_binding v x e = All-cons IsBinding (binding v x) [] e (All-nil IsBinding)

  -- ---- calls

  arguments_sorted : (arguments : List Core) (types : List Scalar) → HaveTypes (scope_of unit body) arguments types → AllExtents arguments → All IsTest (argument_tests f arguments)
  unfolding argument_tests
  arguments_sorted _ _ typed.no_arguments h = All-nil IsTest
  arguments_sorted _ _ (typed.some_argument x t arguments types has haves) h =
      All-append IsTest (tests_in f x) (argument_tests f arguments) (terms_sorted x t has h.0).tests (arguments_sorted arguments types haves h.1)

  inputs_sorted : (index : ℕ) (arguments : List Core) (types : List Scalar) → HaveTypes (scope_of unit body) arguments types → AllExtents arguments → AreBindings (inputs f index arguments)
  unfolding inputs
  inputs_sorted index _ _ typed.no_arguments h = All-nil IsBinding
  inputs_sorted index _ _ (typed.some_argument x t arguments types has haves) h =
      All-append IsBinding (set_local index (type_of x) (value_in f x)) (inputs f (suc index) arguments) (set_bindings index (type_of x) (value_in f x) (typed_word x t has h.0)) (inputs_sorted (suc index) arguments types haves h.1)

  outputs_sorted : (function : List ℕ) (type : FunctionType) (place : Option ℕ) → entry_of unit.functions function ≡ Some type → Receives (scope_of unit body) type place → AreBindings (outputs f function place)
  outputs_sorted function type None named receives = All-nil IsBinding
  outputs_sorted function type (Some index) named receives =
      subst AreBindings (sym same) (set_bindings index receives.0 (at_width receives.1 (width_of receives.0) (open_term (result receives.1)))
      (at_width_sorted receives.1 receives.0 (subst ResultExtent receives.3 (result_of unit.functions function type extents.results named))
      (at_item IsPlain body.locals index receives.0 body_extents.locals receives.2) (open_term (result receives.1)) (open_sorted (result receives.1))))
    where
      same : outputs f function (Some index) ≡ set_local index receives.0 (at_width receives.1 (width_of receives.0) (open_term (result receives.1)))
      same =
          ap (λ (o : Option FunctionType). result_put (Some index) f.local_type (option_map_or (λ (type : FunctionType). type) o void_function).result) named
          ∙ ap (λ (o : Option Scalar). result_put (Some index) f.local_type o) receives.3
          ∙ ap (λ (o : Option Scalar). set_local index (option_map_or (λ (t : Scalar). t) o int) (at_width receives.1 (width_of (option_map_or (λ (t : Scalar). t) o int)) (open_term (result receives.1)))) receives.2

  -- ---- stores

  last_sorted : (t : Scalar) → IsPlain t → (o : Object) → Is32 o.base → o.displacement < 2 ^ 32 → Is32 (last_byte t o)
  last_sorted _ (byte s) o e below = words_sorted _ W32 (address_of o) (number 0) (address_sorted o e below) (number_sorted 0 (omega arith))
  last_sorted _ (half s) o e below = words_sorted _ W32 (address_of o) (number 1) (address_sorted o e below) (number_sorted 1 (omega arith))
  last_sorted _ (full s) o e below = words_sorted _ W32 (address_of o) (number 3) (address_sorted o e below) (number_sorted 3 (omega arith))

  abbrev IsRun : Run → Type 0
  IsRun r = (0 < length r.bytes) × (r.start + length r.bytes ≤ 2 ^ 32)

  run_sorted : (x y : Term) → Is32 x → Is32 y → (run : Run) → IsRun run → IsTest (avoids_run x y run)
  run_sorted x y ex ey run is =
      or_sorted (less (number (run.start + length run.bytes - 1)) x) (less y (number run.start))
      (less_sorted W32 (number (run.start + length run.bytes - 1)) x (number_sorted (run.start + length run.bytes - 1) (omega (arith, is.0, is.1))) ex)
      (less_sorted W32 y (number run.start) ey (number_sorted run.start (omega (arith, is.0, is.1))))

  runs_sorted : (x y : Term) → Is32 x → Is32 y → (runs : List Run) → All IsRun runs → All IsTest (map (avoids_run x y) runs)
  runs_sorted x y ex ey [] are = All-nil IsTest
  runs_sorted x y ex ey (run ∷ rest) are =
      All-cons IsTest (avoids_run x y run) (map (avoids_run x y) rest) (run_sorted x y ex ey run (All-head IsRun run rest are))
      (runs_sorted x y ex ey rest (All-tail IsRun run rest are))

  fixed_sorted : (x y : Term) → Is32 x → Is32 y → (runs : List Run) → All IsRun runs → IsTest (avoids_fixed x y runs)
  fixed_sorted x y ex ey runs are = conjunction_all IsTest (truth_sorted true) and_sorted (map (avoids_run x y) runs) (runs_sorted x y ex ey runs are)

  store_sorted : (t : Scalar) (address : Core) (displacement : ℕ) (x : Core) (offset : ℕ) → HasType (scope_of unit body) None address word → HasType (scope_of unit body) (Some t) x t
      → ActionExtents (Store t address displacement x offset) → All IsTest (store_tests f t address displacement x) × (sort_of (memory_stored f t address displacement x) ≡ Some sort.Memory)
  store_sorted t address displacement x offset ha hx h =
      let base = terms_sorted address word ha h.2 in
      let at : Object = object (value_in f address) displacement in
      let below : displacement < 2 ^ 32 = omega (arith, h.1) in
      let inner = sorted p.globals (global_small p placed) at base.word below (scope_of unit body) (Some t) x t hx h.3 in (
        All-append IsTest (tests_in f address) (tests p.globals at x ++ write_tests p.runs t at) base.tests
            (All-append IsTest (tests p.globals at x) (write_tests p.runs t at) inner.tests
            (All-append IsTest (read_tests t at) (avoids_fixed (address_of at) (last_byte t at) p.runs ∷ []) (read_tests_sorted t h.0 at base.word below)
            (one (avoids_fixed (address_of at) (last_byte t at) p.runs) (fixed_sorted (address_of at) (last_byte t at) (address_sorted at base.word below) (last_sorted t h.0 at base.word below) p.runs placed.run)))),
        stored_sorted t h.0 at (value_term p.globals at x) base.word below inner.word,
      )

  -- ---- the nodes of a statement

  all_cases_valid : (list : Groups) (at : ℕ) (to : Next) (e : Exits) → at + groups_size f list ≤ total → IsNext total to → AreExits total e → All (λ (one : ℤ × Next). IsNext total one.1) (cases_of f list at to e)
  unfolding cases_of groups_size
  all_cases_valid no_groups at to e within valid leaves = All-nil (λ (one : ℤ × Next). IsNext total one.1)
  all_cases_valid (groups values inner rest) at to e within valid leaves =
      All-append (λ (one : ℤ × Next). IsNext total one.1) (cases_to values (entry f inner at to (exits to e.continues))) (cases_of f rest (at + size f inner) to e)
      (cases_valid total values (entry f inner at to (exits to e.continues)) (entry_valid total f inner at to (exits to e.continues) (omega arith) valid (record { breaks = valid; continues = leaves.continues })))
      (all_cases_valid rest (at + size f inner) to e (omega arith) valid leaves)

  mutual
    unfolding nodes groups_nodes size groups_size

    nodes_valid : (a : Action) → IsTyped (scope_of unit body) a → ActionExtents a → (at : ℕ) (to : Next) (e : Exits) → at + size f a ≤ total → IsNext total to → AreExits total e
        → All (IsNode total) (nodes f a at to e)
    nodes_valid _ typed.skip h at to e within valid leaves = All-nil (IsNode total)
    nodes_valid _ (typed.sequence a b ta tb) h at to e within valid leaves =
        let middle = entry f b (at + size f a) to e in
        All-append (IsNode total) (nodes f a at middle e) (nodes f b (at + size f a) to e)
        (nodes_valid a ta h.0 at middle e (omega arith) (entry_valid total f b (at + size f a) to e (omega arith) valid leaves) leaves)
        (nodes_valid b tb h.1 (at + size f a) to e (omega arith) valid leaves)
    nodes_valid _ (typed.evaluate x t has) h at to e within valid leaves = chain_valid total (tests_in f x) at to (terms_sorted x t has h).tests within valid
    nodes_valid _ (typed.set index x t is has) h at to e within valid leaves =
        guarded_valid total (tests_in f x) at (Basic (set_local index (type_of x) (value_in f x)) to) (terms_sorted x t has h).tests (omega arith) (set_bindings index (type_of x) (value_in f x) (typed_word x t has h), valid)
    nodes_valid _ (typed.unset index t is) h at to e within valid leaves = one_node total _ (one_binding (is_set index) (truth false) (truth_sorted false), valid)
    nodes_valid _ (typed.store t address displacement x offset ha hx) h at to e within valid leaves =
        let are = store_sorted t address displacement x offset ha hx h in
        guarded_valid total (store_tests f t address displacement x) at (Basic (binding memory (memory_stored f t address displacement x) ∷ []) to) are.0 (omega arith) (one_binding memory (memory_stored f t address displacement x) are.1, valid)
    nodes_valid _ (typed.call index function arguments place type named haves receives) h at to e within valid leaves =
        let node = graph.Call (f.graph_number function) (inputs f 0 arguments) (outputs f function place) (at + length (argument_tests f arguments) + 1) in
        All-append (IsNode total) (guarded (argument_tests f arguments) at node) (Basic [] to ∷ [])
        (guarded_valid total (argument_tests f arguments) at node (arguments_sorted arguments type.parameters haves h) (omega arith)
        (inputs_sorted 0 arguments type.parameters haves h, outputs_sorted function type place named receives, omega arith))
        (one_node total (Basic [] to) (All-nil IsBinding, valid))
    nodes_valid _ (typed.choice test t a b has ta tb) h at to e within valid leaves =
        let on_true = entry f a (at + count f test + 1) to e in
        let on_false = entry f b (at + count f test + 1 + size f a) to e in
        let are = terms_sorted test t has h.0 in
        All-append (IsNode total) (guarded (tests_in f test) at (Cond (truth_in f test) on_true on_false)) (nodes f a (at + count f test + 1) to e ++ nodes f b (at + count f test + 1 + size f a) to e)
        (guarded_valid total (tests_in f test) at (Cond (truth_in f test) on_true on_false) are.tests (omega arith)
        (are.truth, entry_valid total f a (at + count f test + 1) to e (omega arith) valid leaves, entry_valid total f b (at + count f test + 1 + size f a) to e (omega arith) valid leaves))
        (All-append (IsNode total) (nodes f a (at + count f test + 1) to e) (nodes f b (at + count f test + 1 + size f a) to e)
        (nodes_valid a ta h.1 (at + count f test + 1) to e (omega arith) valid leaves) (nodes_valid b tb h.2 (at + count f test + 1 + size f a) to e (omega arith) valid leaves))
    nodes_valid _ (typed.repeat index Before test t step inner has ts ti) h at to e within valid leaves =
        let start = at + count f test + 3 in
        let again = step_entry f step inner start (At at) to e in
        let begin = entry f inner start again (exits to again) in
        let node = Cond (truth_in f test) (At (at + count f test + 2)) to in
        let are = terms_sorted test t has h.0 in
        let head_valid : at < total = omega arith in
        let outer : AreExits total (exits to e.continues) = record { breaks = valid; continues = leaves.continues } in
        let again_valid = entry_valid total f step (start + size f inner) (At at) (exits to e.continues) (omega arith) head_valid outer in
        let own : AreExits total (exits to again) = record { breaks = valid; continues = again_valid } in
        All-cons (IsNode total) (Basic [] (At (at + 1))) _ (All-nil IsBinding, omega arith)
        (All-append (IsNode total) (guarded (tests_in f test) (at + 1) node) _
        (guarded_valid total (tests_in f test) (at + 1) node are.tests (omega arith) (are.truth, omega arith, valid))
        (All-cons (IsNode total) (Basic [] begin) _ (All-nil IsBinding, entry_valid total f inner start again (exits to again) (omega arith) again_valid own)
        (All-append (IsNode total) (nodes f inner start again (exits to again)) (nodes f step (start + size f inner) (At at) (exits to e.continues))
        (nodes_valid inner ti h.2 start again (exits to again) (omega arith) again_valid own)
        (nodes_valid step ts h.1 (start + size f inner) (At at) (exits to e.continues) (omega arith) head_valid outer))))
    nodes_valid _ (typed.repeat index After test t step inner has ts ti) h at to e within valid leaves =
        let next = At (at + 1 + size f inner) in
        let node = Cond (truth_in f test) (At at) to in
        let are = terms_sorted test t has h.0 in
        let head_valid : at < total = omega arith in
        let next_valid : at + 1 + size f inner < total = omega arith in
        let own : AreExits total (exits to next) = record { breaks = valid; continues = next_valid } in
        All-cons (IsNode total) (Basic [] (entry f inner (at + 1) next (exits to next))) _ (All-nil IsBinding, entry_valid total f inner (at + 1) next (exits to next) (omega arith) next_valid own)
        (All-append (IsNode total) (nodes f inner (at + 1) next (exits to next)) _
        (nodes_valid inner ti h.2 (at + 1) next (exits to next) (omega arith) next_valid own)
        (All-cons (IsNode total) (Basic [] (At (at + size f inner + 2))) _ (All-nil IsBinding, omega arith)
        (guarded_valid total (tests_in f test) (at + size f inner + 2) node are.tests (omega arith) (are.truth, head_valid, valid))))
    nodes_valid _ (typed.leave jump) h at to e within valid leaves = All-nil (IsNode total)
    nodes_valid _ (typed.switch test t list has ts) h at to e within valid leaves =
        let begin = at + count f test + case_count list in
        let other = otherwise f list begin to e in
        let cases = cases_of f list begin to e in
        let are = terms_sorted test t has h.0 in
        let other_valid = otherwise_valid total f list begin to e (omega arith) valid leaves in
        let counted = all_cases_long f list begin to e in
        All-append (IsNode total) (chain (tests_in f test) at (first (case_count list) (at + count f test) other)) _
        (chain_valid total (tests_in f test) at (first (case_count list) (at + count f test) other) are.tests (omega arith) (first_valid total (case_count list) (at + count f test) other (omega arith) other_valid))
        (All-append (IsNode total) (selection (type_of test) (value_in f test) cases (at + count f test) other) (groups_nodes f list begin to e)
        (selection_valid total (type_of test) (plain_is test h.0) (value_in f test) (typed_word test t has h.0) cases (at + count f test) other (all_cases_valid list begin to e (omega arith) valid leaves) (omega arith) other_valid)
        (groups_valid t list ts h.1 begin to e (omega arith) valid leaves))
    nodes_valid _ (typed.give_back None is) h at to e within valid leaves = All-nil (IsNode total)
    nodes_valid _ (typed.give_back (Some x) is) h at to e within valid leaves =
        guarded_valid total (tests_in f x) at (Basic (binding (result (type_of x)) (value_in f x) ∷ []) Ret) (terms_sorted x is.0 is.2 h).tests (omega arith)
        (one_binding (result (type_of x)) (value_in f x) (typed_word x is.0 is.2 h), tt)
    nodes_valid _ (typed.missing_return offset) h at to e within valid leaves = one_node total (Cond (truth false) Err Err) (truth_sorted false, tt, tt)

    groups_valid : (t : Scalar) (list : Groups) → AreTyped (scope_of unit body) t list → GroupExtents list → (at : ℕ) (to : Next) (e : Exits) → at + groups_size f list ≤ total → IsNext total to → AreExits total e
        → All (IsNode total) (groups_nodes f list at to e)
    groups_valid _ _ (typed.last_group t) h at to e within valid leaves = All-nil (IsNode total)
    groups_valid _ _ (typed.one_group t values inner rest are ti ts) h at to e within valid leaves =
        All-append (IsNode total) (nodes f inner at to (exits to e.continues)) (groups_nodes f rest (at + size f inner) to e)
        (nodes_valid inner ti h.0 at to (exits to e.continues) (omega arith) valid (record { breaks = valid; continues = leaves.continues }))
        (groups_valid t rest ts h.1 (at + size f inner) to e (omega arith) valid leaves)

-- ---- graphs

graph_valid : (unit : Typed) (p : Place) → IsPlace p → UnitExtents unit → (body : Body) → BodyExtents body → IsTypedBody unit body → IsValid (graph_of unit p body)
unfolding graph_of
graph_valid unit p placed extents body sized is =
    let f = setting_of unit p body in
    let begin = entry f body.action 1 Ret (exits Ret Ret) in
    let list = nodes f body.action 1 Ret (exits Ret Ret) in
    let long : suc (size f body.action) ≡ suc (length list) = ap suc (sym (nodes_long f body.action 1 Ret (exits Ret Ret))) in
    let leaves : AreExits (suc (size f body.action)) (exits Ret Ret) = record { breaks = tt; continues = tt } in
    record {
      entry = omega arith;
      nodes = subst (λ (n : ℕ). All (IsNode n) (Basic [] begin ∷ list)) long
          (All-cons (IsNode (suc (size f body.action))) (Basic [] begin) list
          (All-nil IsBinding, entry_valid (suc (size f body.action)) f body.action 1 Ret (exits Ret Ret) (omega arith) tt leaves)
          (nodes_valid unit p placed extents body sized (suc (size f body.action)) body.action is.typed sized.action 1 Ret (exits Ret Ret) (omega arith) tt leaves));
    }

each_valid : (unit : Typed) (p : Place) → IsPlace p → UnitExtents unit → (bodies : List Body) → All BodyExtents bodies → All (λ (b : Body). IsTypedBody unit b) bodies → All IsValid (map (graph_of unit p) bodies)
each_valid unit p placed extents [] sized are = All-nil IsValid
each_valid unit p placed extents (body ∷ rest) sized are =
    All-cons IsValid (graph_of unit p body) (map (graph_of unit p) rest)
    (graph_valid unit p placed extents body (All-head BodyExtents body rest sized) (All-head (λ (b : Body). IsTypedBody unit b) body rest are))
    (each_valid unit p placed extents rest (All-tail BodyExtents body rest sized) (All-tail (λ (b : Body). IsTypedBody unit b) body rest are))

pub all_valid : (unit : Typed) (p : Place) → IsPlace p → IsTypedUnit unit → UnitSizes unit → All IsValid (graphs_of unit p)
all_valid unit p placed is_typed sizes =
    let extents = unit_extents unit is_typed sizes in
    each_valid unit p placed extents unit.bodies extents.bodies is_typed.bodies_typed
