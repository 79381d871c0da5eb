-- What a function had in a variable of its own, which it never binds, when it began stays so until it has returned or failed.
use Rattle.std.proofs.Common.{◌≡◌, ◌∙◌, ℕ, zero, suc, Bool, false, if◌then◌else◌, List, [], ◌∷◌, Option, Some, None, slice_get, refl, sym, ap}
use Rattle.term_core_spec.specs.declared.Variable.{Variable}
use Rattle.term_core_spec.specs.Value.{Value, Assignment, value}
use Rattle.graph_core_spec.specs.TransitionSystem.{after}
use Rattle.graph_core_spec.specs.declared.Next.{Next}
use Rattle.graph_core_spec.specs.declared.Next.TheVariants as next
use Rattle.graph_core_spec.specs.Graph.{Binding, Node, Basic, Cond, Call, Graph, Graphs, node_at}
use Rattle.graph_core_spec.specs.Variables.{own_bindings}
use Rattle.c_graph_laws.proofs.Spared.{Spares, spared}
use Rattle.graph_core_spec.specs.Run.{Waiting, State, Running, Returned, Failed, bound, is_shared, step, act, go, leave, enter, entered, is_truth, system_of}

-- none of these binds it
abbrev pub Never : Variable → List Binding → Type 0
Never u bindings = Spares u bindings

module _ (u : Variable) (own : is_shared u ≡ false) (x : Value) (graphs : Graphs) (outermost : ℕ)
    (never : (n : ℕ) (node : Node) → node_at graphs outermost n ≡ Some node → Never u (own_bindings node)) where
  -- the last function that waits is the outermost
  abbrev pub Below : Waiting → List Waiting → Type 0
  Below f [] = (f.graph ≡ outermost) × (f.values u ≡ x) × Never u f.outputs
  Below f (h ∷ below) = Below h below

  abbrev pub Kept : ℕ → Assignment → List Waiting → Type 0
  Kept g values [] = (g ≡ outermost) × (values u ≡ x)
  Kept g values (f ∷ below) = Below f below

  -- in the outermost function the variable has this value
  abbrev pub EntryIs : State → Type 0
  EntryIs (Running g n values below) = Kept g values below
  EntryIs (Returned values) = values u ≡ x
  EntryIs Failed = Unit {0}

  left : (g : ℕ) (values : Assignment) (below : List Waiting) → Kept g values below → EntryIs (leave values below)
  left g values [] h = h.1
  left g values (f ∷ []) h = (
    h.0,
    spared u f.outputs h.2 values (λ v. if is_shared v then values v else f.values v)
        ∙ ap (λ (shared : Bool). if shared then values u else f.values u) own ∙ h.1,
  )
  left g values (f ∷ k ∷ below) h = h

  gone : (g : ℕ) (to : Next) (values : Assignment) (below : List Waiting) → Kept g values below → EntryIs (go g to values below)
  gone g (next.At n) values below h = h
  gone g next.Ret values below h = left g values below h
  gone g next.Err values below h = tt

  put : (g : ℕ) (bindings : List Binding) (values : Assignment) (below : List Waiting) → (g ≡ outermost → Never u bindings) → Kept g values below
      → Kept g (bound bindings values values) below
  put g bindings values [] apart h = (h.0, spared u bindings (apart h.0) values values ∙ h.1)
  put g bindings values (f ∷ below) apart h = h

  entering : (callee : ℕ) (graph : Option Graph) (values : Assignment) (f : Waiting) (below : List Waiting) → Below f below → EntryIs (enter callee graph values (f ∷ below))
  entering callee None values f below h = tt
  entering callee (Some graph) values f below h = h

  waits : (g n landing : ℕ) (outputs : List Binding) (values : Assignment) (below : List Waiting) → (g ≡ outermost → Never u outputs) → Kept g values below
      → Below (record { graph = g; call = n; landing = landing; outputs = outputs; values = values }) below
  waits g n landing outputs values [] apart h = (h.0, h.1, apart h.0)
  waits g n landing outputs values (f ∷ below) apart h = h

  acted : (g n : ℕ) (values : Assignment) (below : List Waiting) (node : Option Node) → node_at graphs g n ≡ node → Kept g values below
      → EntryIs (act graphs g n values below node)
  acted g n values below None e h = tt
  acted g n values below (Some (Basic bindings to)) e h =
      gone g to (bound bindings values values) below
      (put g bindings values below (λ is. never n (Basic bindings to) (ap (λ (i : ℕ). node_at graphs i n) (sym is) ∙ e)) h)
  acted g n values below (Some (Cond test on_true on_false)) e h = gone g (if is_truth (value values test) then on_true else on_false) values below h
  acted g n values below (Some (Call callee inputs outputs landing)) e h =
      entering callee (slice_get graphs callee) (entered inputs values) (record { graph = g; call = n; landing = landing; outputs = outputs; values = values }) below
      (waits g n landing outputs values below (λ is. never n (Call callee inputs outputs landing) (ap (λ (i : ℕ). node_at graphs i n) (sym is) ∙ e)) h)

  stepped : (s : State) → EntryIs s → EntryIs (step graphs s)
  unfolding step
  stepped (Running g n values below) h = acted g n values below (node_at graphs g n) refl h
  stepped (Returned values) h = h
  stepped Failed h = h

  pub entry_stays : (k : ℕ) (s : State) → EntryIs s → EntryIs (after (system_of graphs outermost) k s)
  unfolding after
  entry_stays zero s h = h
  entry_stays (suc k) s h = entry_stays k (step graphs s) (stepped s h)
