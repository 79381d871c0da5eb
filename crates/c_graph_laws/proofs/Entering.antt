-- A callee starts with the values of its arguments, and the caller goes on with its result.
use Rattle.std.proofs.Common.{◌≡◌, ◌∙◌, ◌≢◌, ℕ, zero, suc, ◌+◌, ◌<◌, ◌^◌, true, false, ℤ, refl, sym, ap, subst, arith, List, [], ◌∷◌, ◌++◌, Option, Some, None, Result, Ok, Err}
use Rattle.std.specs.Prelude.{slice_get, ◌&&◌}
use Rattle.std.proofs.lemmas.List.Elements.{All-cons, All-nil}
use Rattle.memory_spec.specs.Memory.{Memory}
use Rattle.memory_spec.specs.Zones.{Zone}
use Rattle.term_core_spec.specs.declared.Sort.TheVariants as sort
use Rattle.term_core_spec.specs.declared.Variable.{Variable}
use Rattle.term_core_spec.specs.Term.{truth}
use Rattle.term_core_spec.specs.Sort.{sort_of, sort_of_atom}
use Rattle.term_core_spec.specs.Value.{Truth, Number, Assignment, value}
use Rattle.graph_core_spec.specs.Graph.{IsBinding, AreBindings}
use Rattle.graph_core_spec.specs.Run.{bound, entered}
use Rattle.graph_core_spec.proofs.Sorts.{entered_sorted}
use Rattle.c_types_spec.specs.declared.Scalar.{Scalar}
use Rattle.c_types_spec.specs.Values.{of_bits}
use Rattle.c_types_spec.specs.Core.{Core, Body, Typed, type_of}
use Rattle.c_types_spec.specs.HasType as typed
use Rattle.c_types_spec.specs.HasType.{HaveTypes, scope_of}
use Rattle.c_run_spec.specs.Setting.{Broken}
use Rattle.c_run_spec.specs.Evaluation as evaluation
use Rattle.c_run_spec.specs.Evaluation.{Locals, on_result, values}
use Rattle.c_run_spec.specs.Calls.{locals_at_entry}
use Rattle.c_graph_spec.specs.State.{width_of, local, is_set, memory, zone_low, zone_high}
use Rattle.c_graph_spec.specs.Guards.{Place}
use Rattle.c_graph_laws.proofs.Extents.{AllExtents}
use Rattle.c_graph_spec.specs.Layout.{Setting, value_in, truth_in, tests_in, binding, argument_tests, inputs}
use Rattle.c_graph_spec.specs.SourceGraph.{setting_of}
use Rattle.c_graph_laws.specs.Together.{HasValue, HasLocal, Alike, IsPlace, setting_at}
use Rattle.c_graph_laws.specs.Together as alike
use Rattle.c_graph_laws.proofs.Steps.{all_hold}
use Rattle.c_graph_laws.proofs.Means.{Means, breaks, means}
use Rattle.c_graph_laws.proofs.Conjunctions.{all_append}
use Rattle.c_graph_laws.proofs.Changes.{bound_here, bound_there, bound_none, apart_local, apart_set, local_no_set, set_no_local, local_kept, truth_is}
use Rattle.c_graph_laws.proofs.ExpressionSorts.{type_is}
use Rattle.c_graph_laws.proofs.Statements.{expression_means, word_sorted}

module _ (unit : Typed) (p : Place) (placed : IsPlace p) (zone : Zone) (body : Body) (locals : Locals) (bytes : Memory) (s : Assignment) (same : Alike body.locals locals bytes zone s) where
  abbrev f : Setting
  f = setting_of unit p body

  -- ---- arguments

  -- each argument evaluates to the word of its value
  abbrev pub Passed : List Scalar → List Core → List ℤ → Type 0
  Passed [] [] [] = Unit {0}
  Passed (t ∷ types) (x ∷ arguments) (v ∷ vs) =
      (k : ℕ) × (k < 2 ^ t.width) × (v ≡ of_bits t k) × (value s (value_in f x) ≡ Number (width_of t) k) × (type_of x ≡ t)
      × (sort_of (value_in f x) ≡ Some (sort.Word (width_of t))) × Passed types arguments vs
  Passed types arguments vs = ⊥

  pub data Arguments (types : List Scalar) (arguments : List Core) : Result (List ℤ) Broken → Type 0 where
    argument_breaks : (broken : Broken) → all_hold s (argument_tests f arguments) ≡ false → Arguments types arguments (Err broken)
    arguments_mean : (vs : List ℤ) → all_hold s (argument_tests f arguments) ≡ true → Passed types arguments vs → Arguments types arguments (Ok vs)

  pub arguments_are : (arguments : List Core) (types : List Scalar) → HaveTypes (scope_of unit body) arguments types → AllExtents arguments
      → Arguments types arguments (values (setting_at unit p zone) locals bytes arguments)
  unfolding values argument_tests
  arguments_are _ _ typed.no_arguments h = arguments_mean [] refl tt
  arguments_are _ _ (typed.some_argument x t arguments types has haves) h =
      first (evaluation.value (setting_at unit p zone) locals bytes 0 x) (values (setting_at unit p zone) locals bytes arguments)
      (expression_means unit p placed zone body locals bytes s same x t has h.0) (arguments_are arguments types haves h.1)
    where
      all : all_hold s (argument_tests f (x ∷ arguments)) ≡ (all_hold s (tests_in f x) && all_hold s (argument_tests f arguments))
      all = all_append s (tests_in f x) (argument_tests f arguments)

      first : (q : evaluation.Evaluated) (r : Result (List ℤ) Broken) → Means s (tests_in f x) (value_in f x) (truth_in f x) t q → Arguments types arguments r
          → Arguments (t ∷ types) (x ∷ arguments) (on_result q (λ v. on_result r (λ vs. Ok (v ∷ vs))))
      first _ r (breaks broken fails) rest = argument_breaks broken (all ∙ ap (λ b. b && all_hold s (argument_tests f arguments)) fails)
      first _ _ (means v n small is holds word true_is) (argument_breaks broken fails) = argument_breaks broken (all ∙ ap (λ b. b && all_hold s (argument_tests f arguments)) holds ∙ fails)
      first _ _ (means v n small is holds word true_is) (arguments_mean vs hold passed) =
          arguments_mean (v ∷ vs) (all ∙ ap (λ b. b && all_hold s (argument_tests f arguments)) holds ∙ hold)
          (n, small, is, word, type_is (scope_of unit body) None x t has, word_sorted unit p placed zone body x t has h.0, passed)

  -- ---- the start of a callee

  inputs_sorted : (number : ℕ) (types : List Scalar) (arguments : List Core) (vs : List ℤ) → Passed types arguments vs → AreBindings (inputs f number arguments)
  unfolding inputs sort_of sort_of_atom
  inputs_sorted number [] [] [] passed = All-nil IsBinding
  inputs_sorted number [] [] (v ∷ vs) passed = absurd passed
  inputs_sorted number [] (x ∷ arguments) vs passed = absurd passed
  inputs_sorted number (t ∷ types) [] vs passed = absurd passed
  inputs_sorted number (t ∷ types) (x ∷ arguments) [] passed = absurd passed
  inputs_sorted number (t ∷ types) (x ∷ arguments) (v ∷ vs) passed =
      All-cons IsBinding (binding (local number (type_of x)) (value_in f x)) (binding (is_set number) (truth true) ∷ inputs f (suc number) arguments) (subst (λ (u : Scalar). sort_of (value_in f x) ≡ Some (sort.Word (width_of u))) (sym passed.4) passed.5)
      (All-cons IsBinding (binding (is_set number) (truth true)) (inputs f (suc number) arguments) refl (inputs_sorted (suc number) types arguments vs passed.6))

  -- what no argument binds
  skipped : (y : Variable) → ((n : ℕ) (t : Scalar) → y ≢ local n t) → ((n : ℕ) → y ≢ is_set n) → (number : ℕ) (arguments : List Core) (rest : Assignment)
      → bound (inputs f number arguments) s rest y ≡ rest y
  unfolding inputs
  skipped y a b number [] rest = bound_none s y rest
  skipped y a b number (x ∷ arguments) rest =
      bound_there s y (local number (type_of x)) (value_in f x) (binding (is_set number) (truth true) ∷ inputs f (suc number) arguments) rest (a number (type_of x))
      ∙ bound_there s y (is_set number) (truth true) (inputs f (suc number) arguments) rest (b number) ∙ skipped y a b (suc number) arguments rest

  none_at : (types : List Scalar) (i : ℕ) (v : Option ℤ) → slice_get (locals_at_entry types []) i ≡ Some v → None ≡ v
  none_at [] i v e = absurd (cc)
  none_at (t ∷ types) zero v e = cc
  none_at (t ∷ types) (suc i) v e = none_at types i v e

  entered_local : (number : ℕ) (types others : List Scalar) (arguments : List Core) (vs : List ℤ) (rest : Assignment) → ((n : ℕ) → rest (is_set n) ≡ Truth false) → Passed types arguments vs
      → (i : ℕ) (t : Scalar) (v : Option ℤ) → slice_get (types ++ others) i ≡ Some t → slice_get (locals_at_entry (types ++ others) vs) i ≡ Some v
      → HasLocal (bound (inputs f number arguments) s rest) (number + i) t v
  unfolding inputs
  entered_local number [] others [] [] rest clear passed i t v et ev =
      subst (λ (o : Option ℤ). HasLocal (bound (inputs f number []) s rest) (number + i) t o) (none_at others i v ev)
      (alike.unset (bound_none s (is_set (number + i)) rest ∙ clear (number + i)))
  entered_local number [] others [] (w ∷ vs) rest clear passed i t v et ev = absurd passed
  entered_local number [] others (x ∷ arguments) vs rest clear passed i t v et ev = absurd passed
  entered_local number (u ∷ types) others [] vs rest clear passed i t v et ev = absurd passed
  entered_local number (u ∷ types) others (x ∷ arguments) [] rest clear passed i t v et ev = absurd passed
  entered_local number (u ∷ types) others (x ∷ arguments) (w ∷ vs) rest clear passed zero t v et ev =
      let here : HasLocal (bound (inputs f number (x ∷ arguments)) s rest) number u (Some w) = alike.set w
      (bound_there s (is_set number) (local number (type_of x)) (value_in f x) (binding (is_set number) (truth true) ∷ inputs f (suc number) arguments) rest (set_no_local number number (type_of x))
      ∙ bound_here s (is_set number) (truth true) (inputs f (suc number) arguments) rest ∙ truth_is s true)
      (record {
        bits = passed.0;
        below = passed.1;
        word = subst (λ (q : Scalar). bound (inputs f number (x ∷ arguments)) s rest (local number q) ≡ Number (width_of u) passed.0) passed.4
            (bound_here s (local number (type_of x)) (value_in f x) (binding (is_set number) (truth true) ∷ inputs f (suc number) arguments) rest ∙ passed.3);
        value_is = passed.2;
      }) in
      let type_same : u ≡ t = cc in
      let value_same : Some w ≡ v = cc in
      let zero_more : number ≡ number + 0 = omega arith in
      subst (λ (n : ℕ). HasLocal (bound (inputs f number (x ∷ arguments)) s rest) n t v) zero_more
      (subst (λ (q : Scalar). HasLocal (bound (inputs f number (x ∷ arguments)) s rest) number q v) type_same
      (subst (λ (o : Option ℤ). HasLocal (bound (inputs f number (x ∷ arguments)) s rest) number u o) value_same here))
  entered_local number (u ∷ types) others (x ∷ arguments) (w ∷ vs) rest clear passed (suc i) t v et ev =
      let more : suc number + i ≡ number + suc i = omega arith in
      let other : number + suc i ≢ number = (λ e. absurd (omega arith)) in
      local_kept (bound (inputs f (suc number) arguments) s rest) (bound (inputs f number (x ∷ arguments)) s rest) (number + suc i) t v
      (bound_there s (is_set (number + suc i)) (local number (type_of x)) (value_in f x) (binding (is_set number) (truth true) ∷ inputs f (suc number) arguments) rest (set_no_local (number + suc i) number (type_of x))
      ∙ bound_there s (is_set (number + suc i)) (is_set number) (truth true) (inputs f (suc number) arguments) rest (apart_set (number + suc i) number other))
      (bound_there s (local (number + suc i) t) (local number (type_of x)) (value_in f x) (binding (is_set number) (truth true) ∷ inputs f (suc number) arguments) rest (apart_local (number + suc i) number t (type_of x) other)
      ∙ bound_there s (local (number + suc i) t) (is_set number) (truth true) (inputs f (suc number) arguments) rest (local_no_set (number + suc i) number t))
      (subst (λ (n : ℕ). HasLocal (bound (inputs f (suc number) arguments) s rest) n t v) more (entered_local (suc number) types others arguments vs rest clear passed.6 i t v et ev))

  some_local : (types : List Scalar) (vs : List ℤ) (i : ℕ) (t : Scalar) → slice_get types i ≡ Some t → (v : Option ℤ) × (slice_get (locals_at_entry types vs) i ≡ Some v)
  some_local [] vs i t e = absurd (cc)
  some_local (u ∷ types) [] zero t e = (None, refl)
  some_local (u ∷ types) [] (suc i) t e = some_local types [] i t e
  some_local (u ∷ types) (w ∷ vs) zero t e = (Some w, refl)
  some_local (u ∷ types) (w ∷ vs) (suc i) t e = some_local types vs i t e

  pub alike_entered : (types others : List Scalar) (arguments : List Core) (vs : List ℤ) → Passed types arguments vs
      → Alike (types ++ others) (locals_at_entry (types ++ others) vs) bytes zone (entered (inputs f 0 arguments) s)
  alike_entered types others arguments vs passed = record {
    sorted = entered_sorted (inputs f 0 arguments) s (inputs_sorted 0 types arguments vs passed) same.sorted;
    local_is = λ number t v et ev. subst (λ (n : ℕ). HasLocal (entered (inputs f 0 arguments) s) n t v) {x = 0 + number} {y = number} (omega arith)
        (entered_local 0 types others arguments vs _ (λ n. refl) passed number t v et ev);
    local_there = λ number t et. some_local (types ++ others) vs number t et;
    memory_is = skipped memory (λ n t e. let q = ap (λ (y : Variable). y.family) e in cc) (λ n e. let q = ap (λ (y : Variable). y.family) e in cc) 0 arguments _ ∙ same.memory_is;
    low_is = skipped zone_low (λ n t e. let q = ap (λ (y : Variable). y.family) e in cc) (λ n e. let q = ap (λ (y : Variable). y.family) e in cc) 0 arguments _ ∙ same.low_is;
    high_is = skipped zone_high (λ n t e. let q = ap (λ (y : Variable). y.family) e in cc) (λ n e. let q = ap (λ (y : Variable). y.family) e in cc) 0 arguments _ ∙ same.high_is;
  }
