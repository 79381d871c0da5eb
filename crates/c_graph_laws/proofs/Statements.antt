-- The run of the nodes of each simple statement goes where the statement does.
use Rattle.std.proofs.Common.{◌≡◌, ◌∙◌, inl, inr, ℕ, ◌+◌, ◌≤◌, ◌<◌, ◌^◌, ◌==◌, Bool, true, false, not, ℤ, pos, refl, sym, ap, subst, arith, List, [], ◌∷◌, ◌++◌, Option, Some, None, eq-eqb, ne_eqb}
use Rattle.std.specs.Prelude.{slice_get, IsTrue, All, length}
use Rattle.std.proofs.lemmas.Bool.{cases_eq}
use Rattle.std.proofs.lemmas.List.Elements.{All-cons, All-nil, All-weaker}
use Rattle.memory_spec.specs.Memory.{Memory, byte_at}
use Rattle.memory_spec.specs.Zones.{Zone}
use Rattle.memory_spec.specs.Runs.{Run}
use Rattle.term_core_spec.specs.declared.Width.TheVariants.{W32}
use Rattle.term_core_spec.specs.declared.Sort.TheVariants as sort
use Rattle.term_core_spec.specs.declared.Variable.{Variable}
use Rattle.term_core_spec.specs.Term.{Term, truth, equal}
use Rattle.term_core_spec.specs.Sort.{sort_of}
use Rattle.term_core_spec.specs.Value.{Truth, Number, Bytes, Assignment, value}
use Rattle.graph_core_spec.specs.declared.Next.{Next}
use Rattle.graph_core_spec.specs.declared.Next.TheVariants.{Ret}
use Rattle.graph_core_spec.specs.Graph.{Graphs, IsBinding, Basic}
use Rattle.graph_core_spec.specs.Run.{Waiting, State, go, bound, is_truth, system_of}
use Rattle.graph_core_spec.proofs.Sorts.{bound_sorted}
use Rattle.graph_core_spec.specs.TransitionSystem.{TransitionSystem, after}
use Rattle.c_types_spec.specs.declared.Scalar.{Scalar}
use Rattle.c_types_spec.specs.Types.{word}
use Rattle.c_types_spec.specs.Values.{bits_of, of_bits, same_value, is_of}
use Rattle.c_types_spec.specs.Core.{Core, Set, Unset, Store, Return, Body, Typed}
use Rattle.c_types_spec.specs.HasType.{HasType, IsReturned, scope_of}
use Rattle.c_run_spec.specs.declared.Guard.{Guard}
use Rattle.c_run_spec.specs.Setting.{Setting as MeaningSetting}
use Rattle.c_run_spec.specs.Accesses as access
use Rattle.c_run_spec.specs.Accesses.{size_of, with_bytes, write_guard}
use Rattle.c_run_spec.specs.Execution as c
use Rattle.c_run_spec.specs.Execution.{Flow, Went, Gave, Calls, does, on_ok}
use Rattle.c_run_spec.specs.Evaluation as evaluation
use Rattle.c_run_spec.specs.Evaluation.{Locals}
use Rattle.c_graph_spec.specs.State.{width_of, is_set, memory, result, number, value_constant, zone_low, zone_high}
use Rattle.c_graph_spec.specs.Values.{Object, object, no_object, stored, value_term, truth_term}
use Rattle.c_graph_spec.specs.Guards.{Place, tests, write_tests}
use Rattle.c_graph_laws.proofs.Extents.{IsPlain, HasExtents, ActionExtents}
use Rattle.c_graph_spec.specs.Layout.{Setting, Exits, value_in, truth_in, tests_in, binding, set_local, memory_stored}
use Rattle.c_graph_spec.specs.SourceGraph.{setting_of, graphs_of}
use Rattle.c_graph_laws.specs.Together.{Alike, IsPlace, Gives, gives_none, gives_some, setting_at}
use Rattle.c_graph_laws.proofs.Occurs.{Comes, Tests, Occurs}
use Rattle.c_graph_laws.proofs.Steps.{pass, stop, basic}
use Rattle.c_graph_laws.proofs.Means.{Means}
use Rattle.c_graph_laws.proofs.Changes.{bound_here, bound_there, bound_none, alike_set, alike_unset, alike_stored}
use Rattle.c_graph_laws.proofs.Flows.{Follows, broke, went, gave, later, Left}
use Rattle.c_graph_laws.proofs.Parts.{evaluated, tests_split}
use Rattle.c_graph_laws.proofs.Evaluates.{constant_is, equal_is}
use Rattle.c_graph_laws.proofs.Bits.{bits_back, bits_below, value_back}
use Rattle.c_graph_laws.proofs.Compared.{same_is}
use Rattle.c_graph_laws.proofs.Objects.{Granted, denied, granted, write_granted, stored_is}
use Rattle.c_graph_laws.proofs.Sorted.{IsOf, number_sorted, stored_sorted}
use Rattle.c_graph_laws.proofs.ExpressionSorts.{type_is, sorted}
use Rattle.c_graph_laws.proofs.Expressions.{meant, ranged, global_small, memory_value, open_is}

-- ---- cases of a `switch`

turned : (a b : ℕ) → (a == b) ≡ (b == a)
turned a b = elim (cases_eq a b) [ inl e ↦ eq-eqb a b e ∙ sym (eq-eqb b a (sym e)) | inr other ↦ ne_eqb a b other ∙ sym (ne_eqb b a (λ e. other (sym e))) ]

-- the test of a case holds where the value is the case's
pub case_tests : (s : Assignment) (t : Scalar) → IsPlain t → (x : Term) (v : ℤ) (n : ℕ) → n < 2 ^ t.width → v ≡ of_bits t n → value s x ≡ Number (width_of t) n
    → (u : ℤ) → IsTrue (is_of t u) → is_truth (value s (equal x (value_constant t u))) ≡ same_value u v
case_tests s t plain x v n small is e u of_type =
    ap is_truth (equal_is s (width_of t) x (value_constant t u) n (bits_of t.width u) e (constant_is s (width_of t) (bits_of t.width u)))
    ∙ turned n (bits_of t.width u) ∙ sym (same_is t plain (bits_of t.width u) n (bits_below t.width u) small)
    ∙ ap (λ z. same_value z (of_bits t n)) (sym (value_back t u of_type)) ∙ ap (λ z. same_value u z) (sym is)

module _ (unit : Typed) (p : Place) (placed : IsPlace p) (zone : Zone) where
  -- the terms of an expression outside of an assignment to an object
  pub expression_means : (body : Body) (locals : Locals) (bytes : Memory) (s : Assignment) → Alike body.locals locals bytes zone s → (x : Core) (t : Scalar) → HasType (scope_of unit body) None x t
      → HasExtents x → Means s (tests p.globals no_object x) (value_term p.globals no_object x) (truth_term p.globals no_object x) t (evaluation.value (setting_at unit p zone) locals bytes 0 x)
  expression_means body locals bytes s alike x t has h =
      meant unit p placed zone (scope_of unit body) locals bytes s alike no_object 0 (omega arith) (omega arith) (constant_is s W32 0) (number_sorted 0 (omega arith)) None x t has h

  pub word_sorted : (body : Body) (x : Core) (t : Scalar) → HasType (scope_of unit body) None x t → HasExtents x → sort_of (value_term p.globals no_object x) ≡ Some (sort.Word (width_of t))
  word_sorted body x t has h = (sorted p.globals (global_small p placed) no_object (number_sorted 0 (omega arith)) (omega arith) (scope_of unit body) None x t has h).word

  module _ (outermost g : ℕ) (body : Body) (below : List Waiting) (most : ℕ) where
    abbrev graphs : Graphs
    graphs = graphs_of unit p

    abbrev f : Setting
    f = setting_of unit p body

    abbrev w : TransitionSystem State
    w = system_of graphs outermost

    abbrev Flowing : (n : ℕ) (x : State) (to : Next) (e : Exits) (in_loop in_switch ended : Bool) → Flow → Type 0
    Flowing n x to e in_loop in_switch ended flow = Follows graphs outermost g body.locals zone body.signature.result below most n x to e in_loop in_switch ended flow

    -- an expression, and then something
    pub evaluates : (x : Core) (t : Scalar) → HasType (scope_of unit body) None x t → HasExtents x → (from last to : Next) (e : Exits) (in_loop in_switch ended : Bool) (next : ℤ → Flow)
        → Tests graphs g (tests_in f x) from last → (st : c.State) (n : ℕ) (s : Assignment) → Alike body.locals st.locals st.memory zone s
        → ((v : ℤ) (k : ℕ) → k < 2 ^ t.width → v ≡ of_bits t k → value s (value_in f x) ≡ Number (width_of t) k → value s (truth_in f x) ≡ Truth (not (same_value v (pos 0)))
        → Flowing n (go g last s below) to e in_loop in_switch ended (next v))
        → Flowing n (go g from s below) to e in_loop in_switch ended (on_ok (evaluation.value (setting_at unit p zone) st.locals st.memory 0 x) next)
    evaluates x t has h from last to e in_loop in_switch ended next tested st n s alike on =
        evaluated graphs outermost g body.locals zone body.signature.result below most n (tests_in f x) (value_in f x) (truth_in f x) t
        (evaluation.value (setting_at unit p zone) st.locals st.memory 0 x) s from last to e in_loop in_switch ended next tested (expression_means body st.locals st.memory s alike x t has h) on

    pub set_follows : (calls : Calls) (number : ℕ) (x : Core) (t : Scalar) → slice_get body.locals number ≡ Some t → HasType (scope_of unit body) None x t → HasExtents x
        → (from to : Next) (e : Exits) (in_loop in_switch : Bool) → Occurs graphs g f (Set number x) from to e → (st : c.State) (n : ℕ) (s : Assignment) → Alike body.locals st.locals st.memory zone s
        → Flowing n (go g from s below) to e in_loop in_switch false (does (setting_at unit p zone) calls body.locals most (Set number x) st n)
    unfolding does
    set_follows calls number x t is has h from to e in_loop in_switch occurs st n s alike =
        evaluates x t has h from occurs.0 to e in_loop in_switch false (λ v. Went (c.with_local st number (Some v)) n) occurs.1 st n s alike (λ v k small vi word tr.
        went (c.with_local st number (Some v)) n 1 (bound (set_local number t (value_in f x)) s s) (omega arith) refl
        (alike_set body.locals st.locals st.memory zone s alike s alike.sorted number t (value_in f x) v k is (word_sorted body x t has h) small word vi)
        (basic graphs outermost g occurs.0 to (set_local number t (value_in f x)) s below
        (subst (λ (u : Scalar). Comes graphs g occurs.0 (Basic (set_local number u (value_in f x)) to)) (type_is (scope_of unit body) None x t has) occurs.2)))

    pub unset_follows : (calls : Calls) (number : ℕ) (t : Scalar) → slice_get body.locals number ≡ Some t
        → (from to : Next) (e : Exits) (in_loop in_switch : Bool) → Occurs graphs g f (Unset number) from to e → (st : c.State) (n : ℕ) (s : Assignment) → Alike body.locals st.locals st.memory zone s
        → Flowing n (go g from s below) to e in_loop in_switch false (does (setting_at unit p zone) calls body.locals most (Unset number) st n)
    unfolding does
    unset_follows calls number t is from to e in_loop in_switch occurs st n s alike =
        went (c.with_local st number None) n 1 (bound (binding (is_set number) (truth false) ∷ []) s s) (omega arith) refl
        (alike_unset body.locals st.locals st.memory zone s alike number t is) (basic graphs outermost g from to (binding (is_set number) (truth false) ∷ []) s below occurs)

    -- ---- `return`

    returned_value : (t : Scalar) (x : Term) (v : ℤ) (k : ℕ) (st : c.State) (s : Assignment) → Alike body.locals st.locals st.memory zone s → body.signature.result ≡ Some t → IsOf x t
        → k < 2 ^ t.width → v ≡ of_bits t k → value s x ≡ Number (width_of t) k → Left body.signature.result (Some v) st.memory zone (bound (binding (result t) x ∷ []) s s)
    returned_value t x v k st s alike is sorted_x small vi word_is = record {
      gives = subst (λ (o : Option Scalar). Gives (bound (binding (result t) x ∷ []) s s) o (Some v)) (sym is)
          (gives_some t v (record { bits = k; below = small; word = bound_here s (result t) x [] s ∙ word_is; value_is = vi }));
      sorted = bound_sorted (binding (result t) x ∷ []) s s (All-cons IsBinding (binding (result t) x) [] sorted_x (All-nil IsBinding)) alike.sorted alike.sorted;
      memory_is = bound_there s memory (result t) x [] s (λ e. let q = ap (λ (y : Variable). y.family) e in cc) ∙ bound_none s memory s ∙ alike.memory_is;
      low_is = bound_there s zone_low (result t) x [] s (λ e. let i : 0 ≡ 2 = ap (λ (y : Variable). y.index) e in omega arith) ∙ bound_none s zone_low s ∙ alike.low_is;
      high_is = bound_there s zone_high (result t) x [] s (λ e. let i : 1 ≡ 2 = ap (λ (y : Variable). y.index) e in omega arith) ∙ bound_none s zone_high s ∙ alike.high_is;
    }

    pub return_follows : (calls : Calls) (v : Option Core) → IsReturned (scope_of unit body) v → ActionExtents (Return v)
        → (from to : Next) (e : Exits) (in_loop in_switch : Bool) → Occurs graphs g f (Return v) from to e → (st : c.State) (n : ℕ) (s : Assignment) → Alike body.locals st.locals st.memory zone s
        → Flowing n (go g from s below) to e in_loop in_switch true (does (setting_at unit p zone) calls body.locals most (Return v) st n)
    unfolding does after
    return_follows calls None is h from to e in_loop in_switch occurs st n s alike =
        gave None st.memory n 0 s (omega arith) (record { gives = subst (λ (o : Option Scalar). Gives s o None) (sym is) gives_none; sorted = alike.sorted; memory_is = alike.memory_is; low_is = alike.low_is; high_is = alike.high_is })
        (ap (λ (next : Next). go g next s below) occurs)
    return_follows calls (Some x) is h from to e in_loop in_switch occurs st n s alike =
        evaluates x is.0 is.2 h from occurs.0 to e in_loop in_switch true (λ v. Gave (Some v) st.memory n) occurs.1 st n s alike (λ v k small vi word tr.
        gave (Some v) st.memory n 1 (bound (binding (result is.0) (value_in f x) ∷ []) s s) (omega arith)
        (returned_value is.0 (value_in f x) v k st s alike is.1 (word_sorted body x is.0 is.2 h) small vi word)
        (basic graphs outermost g occurs.0 Ret (binding (result is.0) (value_in f x) ∷ []) s below
        (subst (λ (u : Scalar). Comes graphs g occurs.0 (Basic (binding (result u) (value_in f x) ∷ []) Ret)) (type_is (scope_of unit body) None x is.0 is.2) occurs.2)))

    -- ---- stores

    some_run : (runs : List Run) → All (λ (r : Run). (0 < length r.bytes) × (r.start + length r.bytes ≤ 2 ^ 32)) runs → All (λ (r : Run). 0 < length r.bytes) runs
    some_run runs all = All-weaker (λ (r : Run). (0 < length r.bytes) × (r.start + length r.bytes ≤ 2 ^ 32)) (λ (r : Run). 0 < length r.bytes) (λ r h. h.0) runs all

    pub store_follows : (calls : Calls) (t : Scalar) (address : Core) (displacement : ℕ) (x : Core) (offset : ℕ) → HasType (scope_of unit body) None address word → HasType (scope_of unit body) (Some t) x t
        → ActionExtents (Store t address displacement x offset)
        → (from to : Next) (e : Exits) (in_loop in_switch : Bool) → Occurs graphs g f (Store t address displacement x offset) from to e
        → (st : c.State) (n : ℕ) (s : Assignment) → Alike body.locals st.locals st.memory zone s
        → Flowing n (go g from s below) to e in_loop in_switch false (does (setting_at unit p zone) calls body.locals most (Store t address displacement x offset) st n)
    unfolding does access.stored
    store_follows calls t address displacement x offset ha hx h from to e in_loop in_switch occurs st n s alike =
        let base = value_in f address in
        let at : Object = object base displacement in
        let split = tests_split graphs g (tests_in f address) (tests p.globals at x ++ write_tests p.runs t at) from occurs.0 occurs.1 in
        let again = tests_split graphs g (tests p.globals at x) (write_tests p.runs t at) split.0 occurs.0 split.2 in
        evaluates address word ha h.2 from split.0 to e in_loop in_switch false _ split.1 st n s alike (λ v k small vi ex tx.
        subst (λ (z : ℤ). Flowing n (go g split.0 s below) to e in_loop in_switch false
        (on_ok (evaluation.value (setting_at unit p zone) st.locals st.memory (access.address_of z + displacement) x)
        (λ u. on_ok (access.stored (setting_at unit p zone) st.memory t (access.address_of z + displacement) u offset) (λ bytes. Went (c.with_memory st bytes) n)))) (sym vi)
        (evaluated graphs outermost g body.locals zone body.signature.result below most n (tests p.globals at x) (value_term p.globals at x) (truth_term p.globals at x) t _ s split.0 again.0 to e in_loop in_switch false _
        again.1 (meant unit p placed zone (scope_of unit body) st.locals st.memory s alike at k small (omega (arith, h.1)) ex (word_sorted body address word ha h.2) (Some t) x t hx h.3)
        (λ u m small_m ui eu tu. finished k small ex u m small_m ui eu again.0 again.2)))
      where
        finished : (k : ℕ) → k < 2 ^ 32 → value s (value_in f address) ≡ Number W32 k → (u : ℤ) (m : ℕ) → m < 2 ^ t.width → u ≡ of_bits t m
            → value s (value_term p.globals (object (value_in f address) displacement) x) ≡ Number (width_of t) m
            → (middle : Next) → Tests graphs g (write_tests p.runs t (object (value_in f address) displacement)) middle occurs.0
            → Flowing n (go g middle s below) to e in_loop in_switch false
            (on_ok (access.unless (write_guard (setting_at unit p zone) (size_of t) (k + displacement)) offset (with_bytes st.memory (size_of t) (k + displacement) (bits_of t.width u))) (λ bytes. Went (c.with_memory st bytes) n))
        finished k small ex u m small_m ui eu middle tested =
            at (write_guard setting (size_of t) (k + displacement))
            (write_granted s place k small (omega (arith, h.1)) ex setting t h.0 (open_is unit p placed zone (scope_of unit body) st.locals st.memory s alike zone_low ∙ alike.low_is)
            (open_is unit p placed zone (scope_of unit body) st.locals st.memory s alike zone_high ∙ alike.high_is) p.runs (some_run p.runs placed.run) (λ q. refl))
          where
            place : Object
            place = object (value_in f address) displacement

            setting : MeaningSetting
            setting = setting_at unit p zone

            new : Memory
            new = with_bytes st.memory (size_of t) (k + displacement) (bits_of t.width u)

            left : k + displacement + size_of t ≤ 2 ^ 32 → (value s (stored t place (value_term p.globals place x)) ≡ Bytes (byte_at new))
            left within =
                stored_is s place k small (omega (arith, h.1)) ex st.memory (memory_value unit p placed zone (scope_of unit body) st.locals st.memory s alike)
                (ranged unit p placed zone (scope_of unit body) st.locals st.memory s alike) t h.0 (value_term p.globals place x) m eu within
                ∙ ap (λ b. Bytes (byte_at (with_bytes st.memory (size_of t) (k + displacement) b))) (sym (ap (bits_of t.width) ui ∙ bits_back t h.0 m small_m))

            at : (r : Option Guard) → Granted s (write_tests p.runs t place) (size_of t) (k + displacement) r
                → Flowing n (go g middle s below) to e in_loop in_switch false (on_ok (access.unless r offset new) (λ bytes. Went (c.with_memory st bytes) n))
            at _ (denied guard fails) = let stopped = stop graphs outermost g (write_tests p.runs t place) middle occurs.0 s below tested fails in broke guard offset stopped.0 stopped.1
            at _ (granted holds within) =
                let passed = pass graphs outermost g (write_tests p.runs t place) middle occurs.0 s below tested holds in
                later graphs outermost g body.locals zone body.signature.result below most n most n passed.0 (go g middle s below) (go g occurs.0 s below) to e in_loop in_switch false _ passed.1 (omega arith) (omega arith)
                (went (c.with_memory st new) n 1 (bound (binding memory (memory_stored f t address displacement x) ∷ []) s s) (omega arith) refl
                (alike_stored body.locals st.locals st.memory zone s alike (memory_stored f t address displacement x) new
                (stored_sorted t h.0 place (value_term p.globals place x) (word_sorted body address word ha h.2) (omega (arith, h.1))
                (sorted p.globals (global_small p placed) place (word_sorted body address word ha h.2) (omega (arith, h.1)) (scope_of unit body) (Some t) x t hx h.3).word)
                (left within))
                (basic graphs outermost g occurs.0 to (binding memory (memory_stored f t address displacement x) ∷ []) s below occurs.2))
