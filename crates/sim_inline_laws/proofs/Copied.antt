-- The run of a graph of a set, and the run of the same graph in the set with a further one beside it, where it may have
-- another number. Where the run in the set calls a function that has no graph, and fails, the other fails a step later.
use Rattle.std.proofs.Common.{◌≡◌, ◌∙◌, ◌⊎◌, inl, inr, ℕ, ◌<◌, ◌≤◌, zero, suc, Bool, ◌||◌, true, false, if◌then◌else◌, refl, sym, ap, ap₂, subst, arith, List, [], ◌∷◌, length, All, Option, Some, None, option_and_then}
use Rattle.std.specs.Prelude.{⊤, slice_get}
use Rattle.std.proofs.lemmas.Bool.{cases_lt, or_left}
use Rattle.std.proofs.lemmas.List.Elements.{All-weaker}
use Rattle.std.proofs.lemmas.Option.{slice_get-get_or, slice_get_within}
use Rattle.term_core_spec.specs.declared.Variable.{Variable}
use Rattle.term_core_spec.specs.Same.{same_variable}
use Rattle.term_core_spec.specs.Sort.{is_memory}
use Rattle.term_core_spec.specs.Value.{Value, Assignment, value}
use Rattle.graph_core_spec.specs.declared.Next.{Next}
use Rattle.graph_core_spec.specs.declared.Next.TheVariants as next
use Rattle.graph_core_spec.specs.TransitionSystem.{after}
use Rattle.graph_core_spec.specs.Graph.{Binding, Node, Basic, Cond, Call, Graph, Graphs, node_at}
use Rattle.graph_core_spec.specs.Run.{Waiting, State, Running, Returned, Failed, leave, go, enter, act, step, bound, entered, is_shared, is_register, is_zone_end, is_truth, system_of, has_returned, has_failed, unset}
use Rattle.graph_core_spec.specs.Fixed.{has_byte, holds_byte, AlwaysHoldsFixed}
use Rattle.graph_core_spec.proofs.Runs.{after-suc, still}
use Rattle.graph_inline_spec.proofs.Naming.{clash, differ}
use Rattle.graph_inline_spec.proofs.Bindings.{bound_apart}
use Rattle.sim_rules_spec.proofs.Start.{all_at}
use Rattle.graph_inline_spec.specs.Beside.{failing, beside}
use Rattle.sim_inline_laws.specs.Unfolding.{BindsNoMemory, IsPlainCall, CallsPlainly, IsPlainGraph, Functions}
use Rattle.sim_inline_laws.specs.Runs.{EndAlike}
use Rattle.sim_inline_laws.proofs.Beside.{in_set, at_failing, node_found}

-- ---- memories

-- a function starts with the memory that its caller had, where no input binds one
entered_memory : (inputs : List Binding) (values : Assignment) → BindsNoMemory inputs → (memory : Variable) → is_memory memory.sort ≡ true → entered inputs values memory ≡ values memory
entered_memory inputs values none memory is =
    bound_apart inputs values (λ v. if is_shared v then values v else unset v.sort) memory
    (All-weaker (λ (b : Binding). is_memory b.variable.sort ≡ false) (λ (b : Binding). same_variable memory b.variable ≡ false)
    (λ b no. differ memory b.variable (λ e. clash (ap (λ (u : Variable). is_memory u.sort) (sym e) ∙ is) no)) inputs none)
    ∙ ap (λ (shared : Bool). if shared then values memory else unset memory.sort) (or_left (is_memory memory.sort) (is_register memory.family || is_zone_end memory) is)

module _ (graphs : Graphs) (g : ℕ) (own : Graph) (outer : ℕ) (here : slice_get (beside graphs own) outer ≡ slice_get graphs g) (functions : Functions) (calls : All (IsPlainGraph (length graphs) functions) graphs) where
  abbrev all : Graphs
  all = beside graphs own

  -- ---- states

  -- the number under which a graph runs while these wait
  abbrev number_of : ℕ → List Waiting → ℕ
  number_of h [] = outer
  number_of h (f ∷ below) = h

  abbrev moved_frames : List Waiting → List Waiting
  moved_frames [] = []
  moved_frames (f ∷ below) = record f { graph = number_of f.graph below } ∷ moved_frames below

  abbrev pub moved : State → State
  moved (Running h m values below) = Running (number_of h below) m values (moved_frames below)
  moved (Returned values) = Returned values
  moved Failed = Failed

  -- the outermost function is the graph, and the others are of the set
  abbrev IsThere : ℕ → List Waiting → Type 0
  IsThere h [] = h ≡ g
  IsThere h (f ∷ below) = h < length graphs

  abbrev AreThere : List Waiting → Type 0
  AreThere [] = ⊤
  AreThere (f ∷ below) = IsThere f.graph below × AreThere below

  abbrev pub IsFrom : State → Type 0
  IsFrom (Running h m values below) = IsThere h below × AreThere below
  IsFrom (Returned values) = ⊤
  IsFrom Failed = ⊤

  -- ---- nodes

  node_there : (h m : ℕ) (below : List Waiting) → IsThere h below → node_at all (number_of h below) m ≡ node_at graphs h m
  node_there h m [] is = ap (option_and_then (λ (x : Graph). slice_get x.nodes m)) (here ∙ ap (slice_get graphs) (sym is))
  node_there h m (f ∷ below) is = ap (option_and_then (λ (x : Graph). slice_get x.nodes m)) (in_set graphs own h is)

  plain_at : (h m : ℕ) (node : Node) → node_at graphs h m ≡ Some node → CallsPlainly (length graphs) functions node
  plain_at h m node e =
      let (x, there, is) = node_found graphs h m node e in
      all_at (CallsPlainly (length graphs) functions) x.nodes m node (all_at (IsPlainGraph (length graphs) functions) graphs h x calls there) is

  -- ---- steps

  -- what a step from these values comes to on both: the same; or the one in the set has called a function without a graph,
  -- with the memory that there was
  data Stepped (values : Assignment) : State → State → Type 0 where
    went_on : (x : State) → IsFrom x → Stepped values x (moved x)
    called_none : (start : Assignment) (below : List Waiting) → ((memory : Variable) → is_memory memory.sort ≡ true → start memory ≡ values memory)
        → Stepped values Failed (Running (length graphs) 0 start below)

  went : (values : Assignment) (x y : State) → (y ≡ moved x) × IsFrom x → Stepped values x y
  went values x y is = subst (Stepped values x) (sym is.0) (went_on x is.1)

  left : (values : Assignment) (below : List Waiting) → AreThere below → (leave values (moved_frames below) ≡ moved (leave values below)) × IsFrom (leave values below)
  left values [] are = (refl, tt)
  left values (f ∷ below) are = (refl, are)

  gone : (h : ℕ) (to : Next) (values : Assignment) (below : List Waiting) → IsThere h below → AreThere below
      → (go (number_of h below) to values (moved_frames below) ≡ moved (go h to values below)) × IsFrom (go h to values below)
  gone h (next.At n) values below is are = (refl, (is, are))
  gone h next.Ret values below is are = left values below are
  gone h next.Err values below is are = (refl, tt)

  none_there : (d : ℕ) → slice_get graphs d ≡ None → d ≤ length graphs → d ≡ length graphs
  none_there d none within = elim (cases_lt d (length graphs)) [
    | inl less ↦ absurd (let there = slice_get-get_or graphs d failing less in cc)
    | inr more ↦ omega (arith, within, more)
  ]

  begun : (d : ℕ) (found : Option Graph) → slice_get graphs d ≡ found → d ≤ length graphs → (values start : Assignment)
      → ((memory : Variable) → is_memory memory.sort ≡ true → start memory ≡ values memory) → (f : Waiting) (below : List Waiting) → IsThere f.graph below → AreThere below
      → Stepped values (enter d found start (f ∷ below)) (enter d (slice_get all d) start (record f { graph = number_of f.graph below } ∷ moved_frames below))
  begun d None e within values start kept f below is are =
      let last : d ≡ length graphs = none_there d e within in
      subst (λ (n : ℕ). Stepped values Failed (enter n (slice_get all n) start (record f { graph = number_of f.graph below } ∷ moved_frames below))) (sym last)
      (subst (λ (o : Option Graph). Stepped values Failed (enter (length graphs) o start (record f { graph = number_of f.graph below } ∷ moved_frames below))) (sym (at_failing graphs own))
      (called_none start (record f { graph = number_of f.graph below } ∷ moved_frames below) kept))
  begun d (Some callee) e within values start kept f below is are =
      let less : d < length graphs = slice_get_within graphs d callee e in
      subst (λ (o : Option Graph). Stepped values (Running d callee.entry start (f ∷ below)) (enter d o start (record f { graph = number_of f.graph below } ∷ moved_frames below)))
      (sym (in_set graphs own d less ∙ e)) (went_on (Running d callee.entry start (f ∷ below)) (less, (is, are)))

  acted : (h m : ℕ) (values : Assignment) (below : List Waiting) (node : Option Node) → node_at graphs h m ≡ node → IsThere h below → AreThere below
      → Stepped values (act graphs h m values below node) (act all (number_of h below) m values (moved_frames below) node)
  acted h m values below None e is are = went_on Failed tt
  acted h m values below (Some (Basic bindings to)) e is are = went values _ _ (gone h to (bound bindings values values) below is are)
  acted h m values below (Some (Cond test on_true on_false)) e is are = went values _ _ (gone h (if is_truth (value values test) then on_true else on_false) values below is are)
  acted h m values below (Some (Call d inputs outputs landing)) e is are =
      let plain : IsPlainCall (length graphs) functions d inputs outputs = plain_at h m (Call d inputs outputs landing) e in
      begun d (slice_get graphs d) refl plain.within values (entered inputs values) (λ memory is_memory_too. entered_memory inputs values plain.passes memory is_memory_too)
      (record { graph = h; call = m; landing = landing; outputs = outputs; values = values }) below is are

  step_moved : (h m : ℕ) (values : Assignment) (below : List Waiting) → IsThere h below → AreThere below
      → Stepped values (step graphs (Running h m values below)) (step all (Running (number_of h below) m values (moved_frames below)))
  unfolding step
  step_moved h m values below is are =
      subst (λ (node : Option Node). Stepped values (act graphs h m values below (node_at graphs h m)) (act all (number_of h below) m values (moved_frames below) node))
      (sym (node_there h m below is)) (acted h m values below (node_at graphs h m) refl is are)

  -- ---- runs

  pub data Together : State → State → Type 0 where
    is_moved : (x : State) → IsFrom x → Together x (moved x)
    has_no_graph : (start : Assignment) (below : List Waiting) → Together Failed (Running (length graphs) 0 start below)

  forgotten : (values : Assignment) (x y : State) → Stepped values x y → Together x y
  forgotten values _ _ (went_on x is) = is_moved x is
  forgotten values _ _ (called_none start below kept) = has_no_graph start below

  fails_next : (start : Assignment) (below : List Waiting) → step all (Running (length graphs) 0 start below) ≡ Failed
  unfolding step
  fails_next start below = ap (act all (length graphs) 0 start below) (ap (option_and_then (λ (x : Graph). slice_get x.nodes 0)) (at_failing graphs own))

  step_together : (x y : State) → Together x y → Together (step graphs x) (step all y)
  unfolding step
  step_together _ _ (is_moved (Running h m values below) is) = forgotten values _ _ (step_moved h m values below is.0 is.1)
  step_together _ _ (is_moved (Returned values) is) = is_moved (Returned values) tt
  step_together _ _ (is_moved Failed is) = is_moved Failed tt
  step_together _ _ (has_no_graph start below) = subst (Together Failed) (sym (fails_next start below)) (is_moved Failed tt)

  abbrev old_after : ℕ → State → State
  old_after k x = after (system_of graphs g) k x

  abbrev new_after : ℕ → State → State
  new_after k y = after (system_of all outer) k y

  after_together : (k : ℕ) (x y : State) → Together x y → Together (old_after k x) (new_after k y)
  unfolding after
  after_together zero x y t = t
  after_together (suc k) x y t = after_together k (step graphs x) (step all y) (step_together x y t)

  -- ---- ends

  returned_too : (x y : State) (values : Assignment) → Together x y → x ≡ Returned values → y ≡ Returned values
  returned_too _ _ values (is_moved x is) e = ap moved e
  returned_too _ _ values (has_no_graph start below) e = let bad : false ≡ true = ap has_returned e in cc

  returned_before : (x y : State) (values : Assignment) → Together x y → y ≡ Returned values → x ≡ Returned values
  returned_before _ _ values (is_moved (Running h m v below) is) e = let bad : false ≡ true = ap has_returned e in cc
  returned_before _ _ values (is_moved (Returned v) is) e = e
  returned_before _ _ values (is_moved Failed is) e = let bad : false ≡ true = ap has_returned e in cc
  returned_before _ _ values (has_no_graph start below) e = let bad : false ≡ true = ap has_returned e in cc

  failed_before : (x y : State) → Together x y → y ≡ Failed → x ≡ Failed
  failed_before _ _ (is_moved (Running h m v below) is) e = let bad : false ≡ true = ap has_failed e in cc
  failed_before _ _ (is_moved (Returned v) is) e = let bad : false ≡ true = ap has_failed e in cc
  failed_before _ _ (is_moved Failed is) e = refl
  failed_before _ _ (has_no_graph start below) e = refl

  -- at the latest one step later
  failed_after : (x y : State) → Together x y → x ≡ Failed → step all y ≡ Failed
  unfolding step
  failed_after _ _ (is_moved x is) e = ap (λ (s : State). step all (moved s)) e
  failed_after _ _ (has_no_graph start below) e = fails_next start below

  module _ (x y : State) (begin : Together x y) where
    fails_too : (k : ℕ) → old_after k x ≡ Failed → (j : ℕ) × (new_after j y ≡ Failed)
    fails_too k e = (suc k, after-suc (system_of all outer) k y ∙ failed_after (old_after k x) (new_after k y) (after_together k x y begin) e)

    pub copy_ends : EndAlike (record { graphs = graphs; outermost = g }) (record { graphs = all; outermost = outer }) x y
    copy_ends = record {
      returns = λ k values e. (k, values, returned_too (old_after k x) (new_after k y) values (after_together k x y begin) e, λ v is. refl);
      returns_only = λ j result e. (j, result, returned_before (old_after j x) (new_after j y) result (after_together j x y begin) e, λ v is. refl);
      fails = fails_too;
      fails_only = λ j e. (j, failed_before (old_after j x) (new_after j y) (after_together j x y begin) e);
    }

  -- ---- the same number

  module _ (same : outer ≡ g) where
    number_same : (h : ℕ) (below : List Waiting) → IsThere h below → number_of h below ≡ h
    number_same h [] is = same ∙ sym is
    number_same h (f ∷ below) is = refl

    frames_same : (below : List Waiting) → AreThere below → moved_frames below ≡ below
    frames_same [] are = refl
    frames_same (f ∷ below) are =
        ap₂ (λ (h : ℕ) (rest : List Waiting). record f { graph = h } ∷ rest) (number_same f.graph below are.0) (frames_same below are.1)

    moved_same : (x : State) → IsFrom x → moved x ≡ x
    moved_same (Running h m values below) is =
        ap₂ (λ (i : ℕ) (rest : List Waiting). Running i m values rest) (number_same h below is.0) (frames_same below is.1)
    moved_same (Returned values) is = refl
    moved_same Failed is = refl

    one_state : (x y : State) → Together x y → (y ≡ x) ⊎ ((x ≡ Failed) × (step all y ≡ Failed))
    one_state _ _ (is_moved x is) = inl (moved_same x is)
    one_state _ _ (has_no_graph start below) = inr (refl, fails_next start below)

    pub runs_on : (x : State) → Together x x → (k : ℕ) → (new_after k x ≡ old_after k x) ⊎ ((old_after k x ≡ Failed) × (new_after (suc k) x ≡ Failed))
    runs_on x begin k = elim (one_state (old_after k x) (new_after k x) (after_together k x x begin)) [
      | inl is ↦ inl is
      | inr fails ↦ inr (fails.0, after-suc (system_of all outer) k x ∙ fails.1)
    ]

    pub begins_same : (m : ℕ) (values : Assignment) → Together (Running g m values []) (Running g m values [])
    begins_same m values =
        subst (Together (Running g m values [])) (moved_same (Running g m values []) (refl, tt)) (is_moved (Running g m values []) (refl, tt))

  -- ---- fixed bytes

  module _ (fixed : ℕ → Option ℕ) (memory : Variable) (is_memory_too : is_memory memory.sort ≡ true) (at : ℕ) where
    abbrev Holds : State → Type 0
    Holds s = holds_byte fixed memory at s ≡ true

    moved_holds : (x : State) → Holds x → Holds (moved x)
    moved_holds (Running h m values below) holds = holds
    moved_holds (Returned values) holds = holds
    moved_holds Failed holds = holds

    stays_failed : (j : ℕ) → new_after j Failed ≡ Failed
    unfolding step
    stays_failed j = still (system_of all outer) Failed refl j

    none_holds : (values start : Assignment) (below : List Waiting) → start memory ≡ values memory → has_byte (values memory) at (fixed at) ≡ true → (j : ℕ)
        → Holds (new_after j (Running (length graphs) 0 start below))
    unfolding after
    none_holds values start below kept holds zero = ap (λ (u : Value). has_byte u at (fixed at)) kept ∙ holds
    none_holds values start below kept holds (suc j) = ap (λ (s : State). holds_byte fixed memory at (new_after j s)) (fails_next start below) ∙ ap (holds_byte fixed memory at) (stays_failed j)

    stepped_holds : (values : Assignment) (x y : State) → Stepped values x y → has_byte (values memory) at (fixed at) ≡ true → (j : ℕ)
        → ((z : State) → IsFrom z → ((k : ℕ) → Holds (old_after k z)) → Holds (new_after j (moved z))) → ((k : ℕ) → Holds (old_after k x)) → Holds (new_after j y)
    stepped_holds values _ _ (went_on x is) holds j follow always = follow x is always
    stepped_holds values _ _ (called_none start below kept) holds j follow always = none_holds values start below (kept memory is_memory_too) holds j

    always_moved : (j : ℕ) (x : State) → IsFrom x → ((k : ℕ) → Holds (old_after k x)) → Holds (new_after j (moved x))
    unfolding after step
    always_moved zero x is always = moved_holds x (always 0)
    always_moved (suc j) (Running h m values below) is always =
        stepped_holds values (step graphs (Running h m values below)) (step all (Running (number_of h below) m values (moved_frames below))) (step_moved h m values below is.0 is.1)
        (always 0) j (λ z from later. always_moved j z from later) (λ k. always (suc k))
    always_moved (suc j) (Returned values) is always = always_moved j (Returned values) tt (λ k. always (suc k))
    always_moved (suc j) Failed is always = always_moved j Failed tt (λ k. always (suc k))

  pub copy_holds : (fixed : ℕ → Option ℕ) (memory : Variable) → is_memory memory.sort ≡ true → (x : State) → IsFrom x → AlwaysHoldsFixed graphs g fixed memory x
      → AlwaysHoldsFixed all outer fixed memory (moved x)
  copy_holds fixed memory is_memory_too x is always = λ j at. always_moved fixed memory is_memory_too at j x is (λ k. always k at)
