-- Runs of the graphs of C keep, at every step, the bytes that no store may change.
use Rattle.std.proofs.Common.{◌≡◌, ◌≢◌, ◌∙◌, ◌⊎◌, inl, inr, ℕ, zero, suc, ◌+◌, ◌^◌, ◌<◌, ◌≤◌, ◌==◌, Bool, true, false, ◌&&◌, if◌then◌else◌, ℤ, refl, sym, ap, subst, arith, List, [], ◌∷◌, ◌++◌, length, All, Option, Some, None, is_some}
use Rattle.std.specs.Prelude.{slice_get, option_and_then}
use Rattle.std.proofs.lemmas.Bool.{and_parts, cases_lt}
use Rattle.std.proofs.lemmas.List.Elements.{All-nil, All-cons, All-append, All-head, All-tail}
use Rattle.memory_spec.specs.Runs.{fixed_byte}
use Rattle.term_core_spec.specs.declared.Width.TheVariants.{W32}
use Rattle.term_core_spec.specs.declared.Sort.TheVariants as sort
use Rattle.term_core_spec.specs.declared.Variable.{Variable}
use Rattle.term_core_spec.specs.Term.{Term, truth, open_term}
use Rattle.term_core_spec.specs.Value.{Bytes, Assignment, IsAssignment, value}
use Rattle.term_core_spec.proofs.Sorts.{as_word, as_memory}
use Rattle.term_core_spec.proofs.Soundness.{value-sort}
use Rattle.graph_core_spec.specs.TransitionSystem.{TransitionSystem, after}
use Rattle.graph_core_spec.specs.declared.Next.{Next}
use Rattle.graph_core_spec.specs.declared.Next.TheVariants.{At, Ret, Err}
use Rattle.graph_core_spec.specs.Graph.{Binding, AreBindings, Node, Basic, Cond, IsNode, Graph, Graphs, IsValid, node_at}
use Rattle.graph_core_spec.specs.Graph as graph
use Rattle.graph_core_spec.specs.Run.{Waiting, State, Running, Returned, Failed, step, go, act, leave, enter, bound, entered, resumed, is_shared, unset, is_truth, system_of}
use Rattle.graph_core_spec.specs.Fixed.{has_byte, holds_byte, AlwaysHoldsFixed}
use Rattle.graph_core_spec.proofs.Sorts.{bound_sorted, entered_sorted, resumed_sorted}
use Rattle.c_types_spec.specs.declared.Scalar.{Scalar}
use Rattle.c_types_spec.specs.declared.TestPlace.TheVariants.{Before, After}
use Rattle.c_types_spec.specs.declared.Jump.TheVariants.{Break, Continue}
use Rattle.c_types_spec.specs.Types.{word}
use Rattle.c_types_spec.specs.Core.{Core, Body, Typed, Action, Store, Call, Loop, Groups, no_groups, groups, type_of}
use Rattle.c_types_spec.specs.HasType as typed
use Rattle.c_types_spec.specs.HasType.{HasType, IsTyped, AreTyped, IsTypedBody, IsTypedUnit, scope_of}
use Rattle.c_run_spec.specs.Accesses.{some_byte, size_of}
use Rattle.c_graph_spec.specs.State.{width_of, local, is_set, memory, zone_low, zone_high, result}
use Rattle.c_graph_spec.specs.Values.{Object, object, no_object, value_term}
use Rattle.c_graph_spec.specs.Guards.{Place, tests, write_tests}
use Rattle.c_graph_spec.specs.Sizes.{UnitSizes}
use Rattle.c_graph_spec.specs.Layout.{Setting, Exits, exits, value_in, truth_in, tests_in, binding, set_local, store_tests, memory_stored, argument_tests, inputs, outputs, result_put, has_default, cases_to, entry, nodes}
use Rattle.c_graph_spec.specs.SourceGraph.{body_number, setting_of, graph_of, graphs_of}
use Rattle.c_graph_laws.specs.Together.{IsPlace}
use Rattle.c_graph_laws.specs.Keeps.{AreKept}
use Rattle.c_graph_laws.proofs.Occurs.{Comes, Tests, cases_at, default_at, Selects, Occurs, GroupsOccur}
use Rattle.c_graph_laws.proofs.Laid.{Holds, laid}
use Rattle.c_graph_laws.proofs.Steps as steps
use Rattle.c_graph_laws.proofs.Steps.{all_hold, at_node}
use Rattle.c_graph_laws.proofs.Changes.{bound_here}
use Rattle.c_graph_laws.proofs.Extents.{ActionExtents, GroupExtents, BodyExtents, UnitExtents, unit_extents}
use Rattle.c_graph_laws.proofs.Sorted.{number_sorted}
use Rattle.c_graph_laws.proofs.ExpressionSorts.{sorted}
use Rattle.c_graph_laws.proofs.Expressions.{global_small}
use Rattle.c_graph_laws.proofs.Conjunctions.{all_append}
use Rattle.c_graph_laws.proofs.Accesses.{is_fixed}
use Rattle.c_graph_laws.proofs.Serving.{at_item}
use Rattle.c_graph_laws.proofs.ValidGraphs.{all_valid}
use Rattle.c_graph_laws.proofs.OwnBindings.{mapped_item}
use Rattle.c_graph_laws.proofs.Spared.{Spares, spared}
use Rattle.c_graph_laws.proofs.StoreBytes.{none_of, stored_leaves, may_write}

-- ---- which bindings leave memory as it is

set_spares : (number : ℕ) (type : Scalar) (x : Term) → Spares memory (set_local number type x)
set_spares number type x =
    All-cons (λ (b : Binding). b.variable ≢ memory) (binding (local number type) x) (binding (is_set number) (truth true) ∷ [])
    (λ e. let f = ap (λ (v : Variable). v.family) e in cc)
    (All-cons (λ (b : Binding). b.variable ≢ memory) (binding (is_set number) (truth true)) []
    (λ e. let f = ap (λ (v : Variable). v.family) e in cc) (All-nil (λ (b : Binding). b.variable ≢ memory)))

unset_spares : (number : ℕ) (x : Term) → Spares memory (binding (is_set number) x ∷ [])
unset_spares number x =
    All-cons (λ (b : Binding). b.variable ≢ memory) (binding (is_set number) x) []
    (λ e. let f = ap (λ (v : Variable). v.family) e in cc) (All-nil (λ (b : Binding). b.variable ≢ memory))

result_spares : (type : Scalar) (x : Term) → Spares memory (binding (result type) x ∷ [])
result_spares type x =
    All-cons (λ (b : Binding). b.variable ≢ memory) (binding (result type) x) []
    (λ e. let f = ap (λ (v : Variable). v.family) e in cc) (All-nil (λ (b : Binding). b.variable ≢ memory))

outputs_spare : (place : Option ℕ) (local_type : ℕ → Scalar) (type : Option Scalar) → Spares memory (result_put place local_type type)
outputs_spare None local_type type = All-nil (λ (b : Binding). b.variable ≢ memory)
outputs_spare (Some number) local_type None = All-nil (λ (b : Binding). b.variable ≢ memory)
outputs_spare (Some number) local_type (Some type) = set_spares number (local_type number) _

pub inputs_spare : (f : Setting) (number : ℕ) (arguments : List Core) → Spares memory (inputs f number arguments)
unfolding inputs
inputs_spare f number [] = All-nil (λ (b : Binding). b.variable ≢ memory)
inputs_spare f number (argument ∷ rest) =
    All-append (λ (b : Binding). b.variable ≢ memory) (set_local number (type_of argument) (value_in f argument)) (inputs f (suc number) rest)
    (set_spares number (type_of argument) (value_in f argument)) (inputs_spare f (suc number) rest)

-- ---- nodes that are valid

pub node_valid : (graphs : Graphs) → All IsValid graphs → (g n : ℕ) (node : Node) → node_at graphs g n ≡ Some node → (count : ℕ) × IsNode count node
node_valid graphs valid g n node e = by (slice_get graphs g) refl e
  where
    by : (o : Option Graph) → slice_get graphs g ≡ o → option_and_then (λ (there : Graph). slice_get there.nodes n) o ≡ Some node → (count : ℕ) × IsNode count node
    by None is e = absurd (cc)
    by (Some there) is e = (length there.nodes, at_item (IsNode (length there.nodes)) there.nodes n node (at_item IsValid graphs g there valid is).nodes e)

module _ (unit : Typed) (p : Place) (placed : IsPlace p) (outermost : ℕ) (is_typed : All (λ (b : Body). IsTypedBody unit b) unit.bodies) (extents : UnitExtents unit)
    (valid : All IsValid (graphs_of unit p)) (kept : ℕ → Option ℕ) (apart : AreKept p kept) where
  abbrev graphs : Graphs
  graphs = graphs_of unit p

  abbrev w : TransitionSystem State
  w = system_of graphs outermost

  -- values of their sorts, with the bytes
  record Fit (s : Assignment) : Type 0 where
    ranged : IsAssignment s
    there : (at : ℕ) → has_byte (s memory) at (kept at) ≡ true

  -- the state has the bytes for so many steps
  abbrev Keeps : ℕ → State → Type 0
  Keeps k x = (j : ℕ) → j ≤ k → (at : ℕ) → holds_byte kept memory at (after w j x) ≡ true

  fewer : (m k : ℕ) (x : State) → m ≤ k → Keeps k x → Keeps m x
  fewer m k x less keeps = λ j few at. keeps j (omega arith) at

  -- ---- ends

  failed_stays : (j : ℕ) → after w j Failed ≡ Failed
  unfolding after step
  failed_stays zero = refl
  failed_stays (suc j) = failed_stays j

  failed_keeps : (k : ℕ) → Keeps k Failed
  failed_keeps k = λ j few at. ap (λ (x : State). holds_byte kept memory at x) (failed_stays j)

  returned_stays : (j : ℕ) (s : Assignment) → after w j (Returned s) ≡ Returned s
  unfolding after step
  returned_stays zero s = refl
  returned_stays (suc j) s = returned_stays j s

  returned_keeps : (k : ℕ) (s : Assignment) → Fit s → Keeps k (Returned s)
  returned_keeps k s fit = λ j few at. ap (λ (x : State). holds_byte kept memory at x) (returned_stays j s) ∙ fit.there at

  -- ---- values

  same_memory : (s t : Assignment) → IsAssignment t → t memory ≡ s memory → Fit s → Fit t
  same_memory s t ranged e fit = record { ranged = ranged; there = λ at. ap (λ v. has_byte v at (kept at)) e ∙ fit.there at }

  -- bytes that are as they were but where none is kept
  left_there : (bytes left : ℕ → ℕ) (size a : ℕ) → a + size ≤ 2 ^ 32 → some_byte (is_fixed p.runs) size a ≡ false
      → ((q : ℕ) → (q < a) ⊎ (a + size ≤ q) → left q ≡ bytes q) → (at : ℕ) → has_byte (Bytes bytes) at (kept at) ≡ true → has_byte (Bytes left) at (kept at) ≡ true
  left_there bytes left size a within none same at h = elim (cases_lt at a) [
    | inl before ↦ by (kept at) (same at (inl before)) h
    | inr from ↦ elim (cases_lt at (a + size)) [
      | inl inside ↦ none_kept (kept at) refl from inside
      | inr past ↦ by (kept at) (same at (inr past)) h
    ]
  ]
    where
      by : (o : Option ℕ) → left at ≡ bytes at → has_byte (Bytes bytes) at o ≡ true → has_byte (Bytes left) at o ≡ true
      by None e h = refl
      by (Some byte) e h = ap (λ (n : ℕ). n == byte) e ∙ h

      none_kept : (o : Option ℕ) → kept at ≡ o → a ≤ at → at < a + size → has_byte (Bytes left) at o ≡ true
      none_kept None e from inside = refl
      none_kept (Some byte) e from inside =
          let here : is_some (fixed_byte p.runs at) ≡ true = apart at (omega arith) (ap is_some e) in
          let not_here : is_some (fixed_byte p.runs at) ≡ false = none_of (is_fixed p.runs) size a at none from inside in
          absurd (let bad : true ≡ false = sym here ∙ not_here in cc)

  -- ---- the nodes of a function, above these that wait

  module _ (g : ℕ) (below : List Waiting) where
    abbrev Good : ℕ → Next → Type 0
    Good k to = (s : Assignment) → Fit s → Keeps k (go g to s below)

    few_good : (m k : ℕ) (to : Next) → m ≤ k → Good k to → Good m to
    few_good m k to less good = λ s fit. fewer m k (go g to s below) less (good s fit)

    error_good : (k : ℕ) → Good k Err
    error_good k = λ s fit. failed_keeps k

    here : (from : Next) (node : Node) (s : Assignment) → Comes graphs g from node → Fit s → (at : ℕ) → holds_byte kept memory at (go g from s below) ≡ true
    here from node s c fit at = ap (λ (x : State). holds_byte kept memory at x) (at_node graphs outermost g from node s below c) ∙ fit.there at

    now : (from : Next) (node : Node) (s : Assignment) → Comes graphs g from node → Fit s → Keeps 0 (go g from s below)
    unfolding after
    now from node s c fit zero few at = here from node s c fit at
    now from node s c fit (suc j) few at = absurd (omega arith)

    -- at a node, and then after its step
    stepped : (k : ℕ) (from : Next) (node : Node) (s : Assignment) (c : Comes graphs g from node) → Fit s
        → Keeps k (act graphs g c.number s below (Some node)) → Keeps (suc k) (go g from s below)
    unfolding after
    stepped k from node s c fit later zero few at = here from node s c fit at
    stepped k from node s c fit later (suc j) few at =
        ap (λ (x : State). holds_byte kept memory at (after w j x)) (steps.acts graphs outermost g from node s below c) ∙ later j (omega arith) at

    step_of : (k : ℕ) (from : Next) (node : Node) (s : Assignment) (c : Comes graphs g from node) → Fit s
        → Keeps k (act graphs g c.number s below (Some node)) → Keeps k (go g from s below)
    step_of k from node s c fit later = fewer k (suc k) (go g from s below) (omega arith) (stepped k from node s c fit later)

    bound_fit : (from to : Next) (bindings : List Binding) (s : Assignment) → Comes graphs g from (Basic bindings to) → Spares memory bindings → Fit s → Fit (bound bindings s s)
    bound_fit from to bindings s c spares fit =
        same_memory s (bound bindings s s)
        (bound_sorted bindings s s (node_valid graphs valid g c.number (Basic bindings to) c.here).1.0 fit.ranged fit.ranged) (spared memory bindings spares s s) fit

    calm : (k : ℕ) (from to : Next) (bindings : List Binding) → Comes graphs g from (Basic bindings to) → Spares memory bindings → Good k to → Good k from
    calm k from to bindings c spares good = λ s fit.
        step_of k from (Basic bindings to) s c fit (good (bound bindings s s) (bound_fit from to bindings s c spares fit))

    empty : (k : ℕ) (from to : Next) → Comes graphs g from (Basic [] to) → Good k to → Good k from
    empty k from to c good = calm k from to [] c (All-nil (λ (b : Binding). b.variable ≢ memory)) good

    chosen : (k : ℕ) (from on_true on_false : Next) (test : Term) → Comes graphs g from (Cond test on_true on_false) → Good k on_true → Good k on_false → Good k from
    chosen k from on_true on_false test c good other = λ s fit. step_of k from (Cond test on_true on_false) s c fit (by s fit (is_truth (value s test)))
      where
        by : (s : Assignment) → Fit s → (b : Bool) → Keeps k (go g (if b then on_true else on_false) s below)
        by s fit true = good s fit
        by s fit false = other s fit

    tested : (k : ℕ) (s : Assignment) → Fit s → (list : List Term) (from to : Next) → Tests graphs g list from to
        → (all_hold s list ≡ true → Keeps k (go g to s below)) → Keeps k (go g from s below)
    tested k s fit [] from to t later = subst (λ (n : Next). Keeps k (go g n s below)) (sym t) (later refl)
    tested k s fit (test ∷ rest) from to t later = by (is_truth (value s test)) refl (tested k s fit rest t.0 to t.2)
      where
        by : (b : Bool) → is_truth (value s test) ≡ b → ((all_hold s rest ≡ true → Keeps k (go g to s below)) → Keeps k (go g t.0 s below)) → Keeps k (go g from s below)
        by true e on =
            step_of k from (Cond test t.0 Err) s t.1 fit
            (subst (λ (b : Bool). Keeps k (go g (if b then t.0 else Err) s below)) (sym e) (on (λ all. later (ap (λ (b : Bool). b && all_hold s rest) e ∙ all))))
        by false e on =
            step_of k from (Cond test t.0 Err) s t.1 fit (subst (λ (b : Bool). Keeps k (go g (if b then t.0 else Err) s below)) (sym e) (failed_keeps k))

    all_tests : (k : ℕ) (list : List Term) (from to : Next) → Tests graphs g list from to → Good k to → Good k from
    all_tests k list from to t good = λ s fit. tested k s fit list from to t (λ all. good s fit)

    selected : (k : ℕ) (type : Scalar) (x : Term) (entries : List (ℤ × Next)) (from other : Next) → Selects graphs g type x entries from other
        → All (λ (one : ℤ × Next). Good k one.1) entries → Good k other → Good k from
    selected k type x [] from other t all good = subst (λ (n : Next). Good k n) (sym t) good
    selected k type x (one ∷ entries) from other t all good =
        chosen k from one.1 t.0 _ t.1 (All-head (λ (one : ℤ × Next). Good k one.1) one entries all)
        (selected k type x entries t.0 other t.2 (All-tail (λ (one : ℤ × Next). Good k one.1) one entries all) good)

    -- where the groups of a `switch` are good, its cases are
    group_cases : (k : ℕ) (values : List (Option ℤ)) (to : Next) → Good k to → All (λ (one : ℤ × Next). Good k one.1) (cases_to values to)
    unfolding cases_to
    group_cases k [] to good = All-nil (λ (one : ℤ × Next). Good k one.1)
    group_cases k (None ∷ values) to good = group_cases k values to good
    group_cases k (Some v ∷ values) to good = All-cons (λ (one : ℤ × Next). Good k one.1) (v, to) (cases_to values to) good (group_cases k values to good)

    all_cases : (k : ℕ) (list : Groups) (entries : List Next) → All (λ (n : Next). Good k n) entries → All (λ (one : ℤ × Next). Good k one.1) (cases_at list entries)
    all_cases k no_groups entries all = All-nil (λ (one : ℤ × Next). Good k one.1)
    all_cases k (groups values body rest) [] all = All-nil (λ (one : ℤ × Next). Good k one.1)
    all_cases k (groups values body rest) (first ∷ entries) all =
        All-append (λ (one : ℤ × Next). Good k one.1) (cases_to values first) (cases_at rest entries)
        (group_cases k values first (All-head (λ (n : Next). Good k n) first entries all))
        (all_cases k rest entries (All-tail (λ (n : Next). Good k n) first entries all))

    default_good : (k : ℕ) (list : Groups) (entries : List Next) (to : Next) → All (λ (n : Next). Good k n) entries → Good k to → Good k (default_at list entries to)
    default_good k no_groups entries to all good = good
    default_good k (groups values body rest) [] to all good = good
    default_good k (groups values body rest) (first ∷ entries) to all good =
        by (has_default values) (default_good k rest entries to (All-tail (λ (n : Next). Good k n) first entries all) good)
      where
        by : (b : Bool) → Good k (default_at rest entries to) → Good k (if b then first else default_at rest entries to)
        by true later = All-head (λ (n : Next). Good k n) first entries all
        by false later = later

  -- a function whose graph is there is good, where what waits for it is
  abbrev Serves : ℕ → Type 0
  Serves m = (callee : ℕ) (there : Graph) (below : List Waiting) → slice_get graphs callee ≡ Some there → ((s : Assignment) → Fit s → Keeps m (leave s below))
      → (s : Assignment) → Fit s → Keeps m (Running callee there.entry s below)

  module _ (g : ℕ) (body : Body) (below : List Waiting) (most : ℕ) (serve : (m : ℕ) → m < most → Serves m) where
    abbrev f : Setting
    f = setting_of unit p body

    -- where it goes on well, and leaves well, a statement goes on well
    abbrev Acts : Action → Type 0
    Acts a = (k : ℕ) → k ≤ most → (from to : Next) (e : Exits) → Occurs graphs g f a from to e
        → Good g below k to → Good g below k e.breaks → Good g below k e.continues → Good g below k Ret → Good g below k from

    abbrev GroupsAct : Groups → Type 0
    GroupsAct list = (k : ℕ) → k ≤ most → (entries : List Next) (to continues : Next) → GroupsOccur graphs g f list entries to continues
        → Good g below k to → Good g below k continues → Good g below k Ret → All (λ (n : Next). Good g below k n) entries

    -- ---- a store

    store_fit : (t : Scalar) (address : Core) (displacement : ℕ) (x : Core) (offset : ℕ) → HasType (scope_of unit body) None address word
        → HasType (scope_of unit body) (Some t) x t → ActionExtents (Store t address displacement x offset) → (s : Assignment) → Fit s
        → AreBindings (binding memory (memory_stored f t address displacement x) ∷ []) → all_hold s (store_tests f t address displacement x) ≡ true
        → Fit (bound (binding memory (memory_stored f t address displacement x) ∷ []) s s)
    unfolding value
    store_fit t address displacement x offset ha hx h s fit are all =
        let base = sorted p.globals (global_small p placed) no_object (number_sorted 0 (omega arith)) (omega arith) (scope_of unit body) None address word ha h.2 in
        let o : Object = object (value_in f address) displacement in
        let small : displacement < 2 ^ 32 = omega (arith, h.1) in
        let inner = sorted p.globals (global_small p placed) o base.word small (scope_of unit body) (Some t) x t hx h.3 in
        let at = as_word W32 (value s (value_in f address)) (value-sort s fit.ranged (value_in f address) (sort.Word W32) base.word) in
        let what = as_word (width_of t) (value s (value_term p.globals o x)) (value-sort s fit.ranged (value_term p.globals o x) (sort.Word (width_of t)) inner.word) in
        let old = as_memory (s memory) (fit.ranged memory) in
        let one = and_parts (all_hold s (tests_in f address)) (all_hold s (tests p.globals o x ++ write_tests p.runs t o))
        (sym (all_append s (tests_in f address) (tests p.globals o x ++ write_tests p.runs t o)) ∙ all) in
        let two = and_parts (all_hold s (tests p.globals o x)) (all_hold s (write_tests p.runs t o))
        (sym (all_append s (tests p.globals o x) (write_tests p.runs t o)) ∙ one.1) in
        let may = may_write s fit.ranged o at.0 at.2 small at.1 unit p placed t h.0 two.1 in
        let left = stored_leaves s o at.0 at.2 small at.1 old.0 old.1 t h.0 (value_term p.globals o x) what.0 what.1 may.0 in
        record {
          ranged = bound_sorted (binding memory (memory_stored f t address displacement x) ∷ []) s s are fit.ranged fit.ranged;
          there = λ q. ap (λ v. has_byte v q (kept q)) (bound_here s memory (memory_stored f t address displacement x) [] s ∙ left.1)
              ∙ left_there old.0 left.0 (size_of t) (at.0 + displacement) may.0 may.1 left.2 q (sym (ap (λ v. has_byte v q (kept q)) old.1) ∙ fit.there q);
        }

    store_acts : (t : Scalar) (address : Core) (displacement : ℕ) (x : Core) (offset : ℕ) → HasType (scope_of unit body) None address word
        → HasType (scope_of unit body) (Some t) x t → ActionExtents (Store t address displacement x offset) → Acts (Store t address displacement x offset)
    store_acts t address displacement x offset ha hx h k few from to e occurs good breaks continues ret = λ s fit.
        let bindings : List Binding = binding memory (memory_stored f t address displacement x) ∷ [] in
        tested g below k s fit (store_tests f t address displacement x) from occurs.0 occurs.1 (λ all.
        step_of g below k occurs.0 (Basic bindings to) s occurs.2 fit (good (bound bindings s s)
        (store_fit t address displacement x offset ha hx h s fit (node_valid graphs valid g occurs.2.number (Basic bindings to) occurs.2.here).1.0 all)))

    -- ---- a call

    call_acts : (number : ℕ) (function : List ℕ) (arguments : List Core) (place : Option ℕ) → Acts (Call number function arguments place)
    call_acts number function arguments place k few from to e occurs good breaks continues ret = λ s fit.
        tested g below k s fit (argument_tests f arguments) from occurs.0 occurs.2 (λ all. calls s fit k few good)
      where
        node : Node
        node = graph.Call (f.graph_number function) (inputs f 0 arguments) (outputs f function place) occurs.1

        frame : Assignment → Waiting
        frame s = record { graph = g; call = occurs.3.number; landing = occurs.1; outputs = outputs f function place; values = s }

        binds : AreBindings (inputs f 0 arguments) × AreBindings (outputs f function place)
        binds = let is = (node_valid graphs valid g occurs.3.number (graph.Call (f.graph_number function) (inputs f 0 arguments) (outputs f function place) occurs.1) occurs.3.here).1 in
            (is.0, is.1)

        entered_fit : (s : Assignment) → Fit s → Fit (entered (inputs f 0 arguments) s)
        entered_fit s fit =
            same_memory s (entered (inputs f 0 arguments) s) (entered_sorted (inputs f 0 arguments) s binds.0 fit.ranged)
            (spared memory (inputs f 0 arguments) (inputs_spare f 0 arguments) s (λ v. if is_shared v then s v else unset v.sort)) fit

        back : (s : Assignment) → Fit s → (m : ℕ) → Good g below m to → (r : Assignment) → Fit r → Keeps m (leave r (frame s ∷ below))
        back s fit m later r left =
            empty g below m (At occurs.1) to occurs.4 later (resumed (outputs f function place) r s)
            (same_memory r (resumed (outputs f function place) r s) (resumed_sorted (outputs f function place) r s binds.1 left.ranged fit.ranged)
            (spared memory (outputs f function place) (outputs_spare place f.local_type (f.function_type function).result) r (λ v. if is_shared v then r v else s v)) left)

        begins : (s : Assignment) → Fit s → (m : ℕ) → m < most → Good g below m to → (o : Option Graph) → slice_get graphs (f.graph_number function) ≡ o
            → Keeps m (enter (f.graph_number function) o (entered (inputs f 0 arguments) s) (frame s ∷ below))
        begins s fit m less later None is = failed_keeps m
        begins s fit m less later (Some there) is =
            serve m less (f.graph_number function) there (frame s ∷ below) is (back s fit m later) (entered (inputs f 0 arguments) s) (entered_fit s fit)

        calls : (s : Assignment) → Fit s → (k : ℕ) → k ≤ most → Good g below k to → Keeps k (go g occurs.0 s below)
        calls s fit zero few later = now g below occurs.0 _ s occurs.3 fit
        calls s fit (suc m) few later =
            stepped g below m occurs.0 _ s occurs.3 fit
            (begins s fit m (omega arith) (few_good g below m (suc m) to (omega arith) later) (slice_get graphs (f.graph_number function)) refl)

    -- ---- loops

    before_acts : (number : ℕ) (test : Core) (step inner : Action) → Acts step → Acts inner → Acts (Loop number Before test step inner)
    before_acts number test step inner step_acts inner_acts k few from to e occurs good breaks continues ret = rounds k few good continues ret
      where
        rounds : (k : ℕ) → k ≤ most → Good g below k to → Good g below k e.continues → Good g below k Ret → Good g below k from
        rounds zero few good continues ret = λ s fit. now g below from (Basic [] occurs.0) s occurs.5 fit
        rounds (suc m) few good continues ret = λ s fit.
            let less : m ≤ suc m = omega arith in
            let good_m = few_good g below m (suc m) to less good in
            let continues_m = few_good g below m (suc m) e.continues less continues in
            let ret_m = few_good g below m (suc m) Ret less ret in
            let again = step_acts m (omega arith) occurs.4 from (exits to e.continues) occurs.10 (rounds m (omega arith) good_m continues_m ret_m) good_m continues_m ret_m in
            let inside = inner_acts m (omega arith) occurs.3 occurs.4 (exits to occurs.4) occurs.9 again good_m again ret_m in
            stepped g below m from (Basic [] occurs.0) s occurs.5 fit
            (all_tests g below m (tests_in f test) occurs.0 occurs.1 occurs.6
            (chosen g below m occurs.1 occurs.2 to (truth_in f test) occurs.7 (empty g below m occurs.2 occurs.3 occurs.8 inside) good_m)
            (bound [] s s) (bound_fit g below from occurs.0 [] s occurs.5 (All-nil (λ (b : Binding). b.variable ≢ memory)) fit))

    after_acts : (number : ℕ) (test : Core) (step inner : Action) → Acts inner → Acts (Loop number After test step inner)
    after_acts number test step inner inner_acts k few from to e occurs good breaks continues ret = rounds k few good ret
      where
        rounds : (k : ℕ) → k ≤ most → Good g below k to → Good g below k Ret → Good g below k from
        rounds zero few good ret = λ s fit. now g below from (Basic [] occurs.0) s occurs.4 fit
        rounds (suc m) few good ret = λ s fit.
            let less : m ≤ suc m = omega arith in
            let good_m = few_good g below m (suc m) to less good in
            let ret_m = few_good g below m (suc m) Ret less ret in
            let again = empty g below m occurs.1 occurs.2 occurs.6 (all_tests g below m (tests_in f test) occurs.2 occurs.3 occurs.7
            (chosen g below m occurs.3 from to (truth_in f test) occurs.8 (rounds m (omega arith) good_m ret_m) good_m)) in
            stepped g below m from (Basic [] occurs.0) s occurs.4 fit
            (inner_acts m (omega arith) occurs.0 occurs.1 (exits to occurs.1) occurs.5 again good_m again ret_m
            (bound [] s s) (bound_fit g below from occurs.0 [] s occurs.4 (All-nil (λ (b : Binding). b.variable ≢ memory)) fit))

    -- ---- statements

    mutual
      acts : (a : Action) → IsTyped (scope_of unit body) a → ActionExtents a → Acts a
      acts _ typed.skip x k few from to e h good breaks continues ret = subst (λ (n : Next). Good g below k n) (sym h) good
      acts _ (typed.sequence a b ta tb) x k few from to e h good breaks continues ret =
          acts a ta x.0 k few from h.0 e h.1 (acts b tb x.1 k few h.0 to e h.2 good breaks continues ret) breaks continues ret
      acts _ (typed.evaluate v t tv) x k few from to e h good breaks continues ret = all_tests g below k (tests_in f v) from to h good
      acts _ (typed.set number v t is tv) x k few from to e h good breaks continues ret =
          all_tests g below k (tests_in f v) from h.0 h.1 (calm g below k h.0 to _ h.2 (set_spares number (type_of v) (value_in f v)) good)
      acts _ (typed.unset number t is) x k few from to e h good breaks continues ret = calm g below k from to _ h (unset_spares number (truth false)) good
      acts _ (typed.store t address displacement v offset ta tv) x k few from to e h good breaks continues ret =
          store_acts t address displacement v offset ta tv x k few from to e h good breaks continues ret
      acts _ (typed.call number function arguments place t named ts receives) x k few from to e h good breaks continues ret =
          call_acts number function arguments place k few from to e h good breaks continues ret
      acts _ (typed.choice test t a b has ta tb) x k few from to e h good breaks continues ret =
          all_tests g below k (tests_in f test) from h.0 h.3 (chosen g below k h.0 h.1 h.2 (truth_in f test) h.4
          (acts a ta x.1 k few h.1 to e h.5 good breaks continues ret) (acts b tb x.2 k few h.2 to e h.6 good breaks continues ret))
      acts _ (typed.repeat number Before test t step inner has ts ti) x k few from to e h good breaks continues ret =
          before_acts number test step inner
          (λ k few from to e h good breaks continues ret. acts step ts x.1 k few from to e h good breaks continues ret)
          (λ k few from to e h good breaks continues ret. acts inner ti x.2 k few from to e h good breaks continues ret)
          k few from to e h good breaks continues ret
      acts _ (typed.repeat number After test t step inner has ts ti) x k few from to e h good breaks continues ret =
          after_acts number test step inner
          (λ k few from to e h good breaks continues ret. acts inner ti x.2 k few from to e h good breaks continues ret)
          k few from to e h good breaks continues ret
      acts _ (typed.leave Break) x k few from to e h good breaks continues ret = subst (λ (n : Next). Good g below k n) (sym h) breaks
      acts _ (typed.leave Continue) x k few from to e h good breaks continues ret = subst (λ (n : Next). Good g below k n) (sym h) continues
      acts _ (typed.switch test t list has ts) x k few from to e h good breaks continues ret =
          let entries = groups_act t list ts x.1 k few h.1 to e.continues h.4 good continues ret in
          all_tests g below k (tests_in f test) from h.0 h.2
          (selected g below k (type_of test) (value_in f test) (cases_at list h.1) h.0 (default_at list h.1 to) h.3
          (all_cases g below k list h.1 entries) (default_good g below k list h.1 to entries good))
      acts _ (typed.give_back None is) x k few from to e h good breaks continues ret = subst (λ (n : Next). Good g below k n) (sym h) ret
      acts _ (typed.give_back (Some v) is) x k few from to e h good breaks continues ret =
          all_tests g below k (tests_in f v) from h.0 h.1 (calm g below k h.0 Ret _ h.2 (result_spares (type_of v) (value_in f v)) ret)
      acts _ (typed.missing_return offset) x k few from to e h good breaks continues ret =
          chosen g below k from Err Err (truth false) h (error_good g below k) (error_good g below k)

      groups_act : (type : Scalar) (list : Groups) → AreTyped (scope_of unit body) type list → GroupExtents list → GroupsAct list
      groups_act _ _ (typed.last_group type) x k few entries to continues h good continue ret =
          subst (λ (list : List Next). All (λ (n : Next). Good g below k n) list) (sym h) (All-nil (λ (n : Next). Good g below k n))
      groups_act _ _ (typed.one_group type values inner rest are ti ts) x k few [] to continues h good continue ret = absurd h
      groups_act _ _ (typed.one_group type values inner rest are ti ts) x k few (first ∷ entries) to continues h good continue ret =
          All-cons (λ (n : Next). Good g below k n) first entries
          (acts inner ti x.0 k few first to (exits to continues) h.0 good good continue ret)
          (groups_act type rest ts x.1 k few entries to continues h.1 good continue ret)

  -- ---- functions

  module _ (g : ℕ) (body : Body) (there : slice_get graphs g ≡ Some (graph_of unit p body)) where
    nodes_there : (i : ℕ) → node_at graphs g i ≡ slice_get (graph_of unit p body).nodes i
    nodes_there i = ap (λ (o : Option Graph). option_and_then (λ (one : Graph). slice_get one.nodes i) o) there

    begin : Next
    begin = entry (setting_of unit p body) body.action 1 Ret (exits Ret Ret)

    first_node : Comes graphs g (At 0) (Basic [] begin)
    unfolding graph_of begin
    first_node = record { number = 0; from_is = refl; here = nodes_there 0 }

    body_nodes : Holds graphs g (nodes (setting_of unit p body) body.action 1 Ret (exits Ret Ret)) 1
    unfolding graph_of
    body_nodes = record {
      each = λ i node is. subst (λ (n : ℕ). node_at graphs g n ≡ Some node) {x = suc i} {y = 1 + i} (omega arith) (nodes_there (suc i) ∙ is);
    }

    begins_good : (typed_body : IsTypedBody unit body) (sized : BodyExtents body) (m : ℕ) → ((i : ℕ) → i < m → Serves i) → (below : List Waiting)
        → Good g below m Ret → Good g below m (At 0)
    unfolding begin
    begins_good typed_body sized m serve below ret =
        empty g below m (At 0) begin first_node
        (acts g body below m serve body.action typed_body.typed sized.action m (omega arith) begin Ret (exits Ret Ret)
        (laid graphs g (setting_of unit p body) body.action 1 Ret (exits Ret Ret) body_nodes) ret ret ret ret)

  serves_now : (m : ℕ) → ((i : ℕ) → i < m → Serves i) → Serves m
  unfolding graph_of
  serves_now m serve callee there below is back s fit =
      let made = mapped_item (graph_of unit p) unit.bodies callee there is in
      subst (λ (one : Graph). Keeps m (Running callee one.entry s below)) made.2
      (begins_good callee made.0 (is ∙ ap (λ (one : Graph). Some one) (sym made.2))
      (at_item (λ (b : Body). IsTypedBody unit b) unit.bodies callee made.0 is_typed made.1)
      (at_item BodyExtents unit.bodies callee made.0 extents.bodies made.1) m serve below back s fit)

  serves : (most m : ℕ) → m < most → Serves m
  serves zero m less = absurd (omega arith)
  serves (suc most) m less = serves_now m (λ i fewer_steps. serves most i (omega arith))

  -- ---- runs

  from_entry : (g : ℕ) (s : Assignment) → Fit s → (k : ℕ) → Keeps k (Running g 0 s [])
  unfolding graph_of after step
  from_entry g s fit k = by (slice_get graphs g) refl
    where
      by : (o : Option Graph) → slice_get graphs g ≡ o → Keeps k (Running g 0 s [])
      by (Some there) is =
          let made = mapped_item (graph_of unit p) unit.bodies g there is in
          let zero_first : there.entry ≡ 0 = ap (λ (one : Graph). one.entry) (sym made.2) in
          subst (λ (n : ℕ). Keeps k (Running g n s [])) zero_first (serves (suc k) k (omega arith) g there [] is (λ r left. returned_keeps k r left) s fit)
      by None is = none
        where
          none : Keeps k (Running g 0 s [])
          none zero few at = fit.there at
          none (suc j) few at =
              ap (λ (o : Option Graph). holds_byte kept memory at (after w j (act graphs g 0 s [] (option_and_then (λ (one : Graph). slice_get one.nodes 0) o)))) is
              ∙ ap (λ (x : State). holds_byte kept memory at x) (failed_stays j)

  pub kept_always : (g : ℕ) (s : Assignment) → IsAssignment s → ((at : ℕ) → has_byte (s memory) at (kept at) ≡ true)
      → AlwaysHoldsFixed graphs outermost kept memory (Running g 0 s [])
  kept_always g s ranged there = λ k at. from_entry g s (record { ranged = ranged; there = there }) k k (omega arith) at

pub always_kept : (unit : Typed) (p : Place) (name : List ℕ) (kept : ℕ → Option ℕ) (values : Assignment) → IsTypedUnit unit → UnitSizes unit
    → IsPlace p → AreKept p kept → IsAssignment values → ((at : ℕ) → has_byte (values memory) at (kept at) ≡ true)
    → AlwaysHoldsFixed (graphs_of unit p) (body_number name unit.bodies) kept memory (Running (body_number name unit.bodies) 0 values [])
always_kept unit p name kept values is_typed sizes placed apart ranged there =
    kept_always unit p placed (body_number name unit.bodies) is_typed.bodies_typed (unit_extents unit is_typed sizes) (all_valid unit p placed is_typed sizes) kept apart
    (body_number name unit.bodies) values ranged there
