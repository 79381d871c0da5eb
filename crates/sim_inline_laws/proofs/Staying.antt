-- A variable of the outermost function's own that it never binds keeps its value until the function has returned or failed.
use Rattle.std.proofs.Common.{◌≡◌, ◌≢◌, ◌∙◌, ℕ, zero, suc, Bool, true, false, if◌then◌else◌, refl, sym, ap, List, [], ◌∷◌, All, Option, Some, None}
use Rattle.std.specs.Prelude.{slice_get}
use Rattle.std.proofs.lemmas.List.Elements.{All-weaker}
use Rattle.term_core_spec.specs.declared.Variable.{Variable}
use Rattle.term_core_spec.specs.Same.{same_variable}
use Rattle.term_core_spec.specs.Value.{Value, Assignment, value}
use Rattle.graph_core_spec.specs.TransitionSystem.{after}
use Rattle.graph_core_spec.specs.declared.Next.{Next}
use Rattle.graph_core_spec.specs.declared.Next.TheVariants as next
use Rattle.graph_core_spec.specs.Graph.{Binding, Node, Basic, Cond, Call, Graph, Graphs, node_at}
use Rattle.graph_core_spec.specs.Variables.{own_bindings}
use Rattle.graph_core_spec.specs.Run.{Waiting, State, Running, Returned, Failed, bound, is_shared, step, act, go, leave, enter, entered, is_truth, system_of, has_failed}
use Rattle.graph_inline_spec.specs.Kept.{NeverBindsIt}
use Rattle.graph_inline_spec.proofs.Naming.{differ}
use Rattle.graph_inline_spec.proofs.Bindings.{bound_apart}
use Rattle.sim_rules_spec.specs.Points.{values_in, outermost_values}
use Rattle.sim_rules_spec.proofs.Start.{all_at}
use Rattle.sim_inline_laws.proofs.Beside.{node_in}

module _ (u : Variable) (own : is_shared u ≡ false) (x : Value) (graphs : Graphs) (outermost : ℕ) (graph : Graph) (there : slice_get graphs outermost ≡ Some graph) (never : NeverBindsIt graph u) where
  abbrev Leaves : List Binding → Type 0
  Leaves bindings = All (λ (b : Binding). b.variable ≢ u) bindings

  left_alone : (bindings : List Binding) (values rest : Assignment) → Leaves bindings → bound bindings values rest u ≡ rest u
  left_alone bindings values rest leaves =
      bound_apart bindings values rest u
      (All-weaker (λ (b : Binding). b.variable ≢ u) (λ (b : Binding). same_variable u b.variable ≡ false) (λ b other. differ u b.variable (λ e. other (sym e))) bindings leaves)

  node_leaves : (n : ℕ) (node : Node) → node_at graphs outermost n ≡ Some node → Leaves (own_bindings node)
  node_leaves n node e = all_at (λ (k : Node). Leaves (own_bindings k)) graph.nodes n node never (sym (node_in graphs outermost graph n there) ∙ e)

  -- the last function that waits is the outermost
  abbrev Below : Waiting → List Waiting → Type 0
  Below f [] = (f.graph ≡ outermost) × (f.values u ≡ x) × Leaves f.outputs
  Below f (h ∷ below) = Below h below

  abbrev Kept : ℕ → Assignment → List Waiting → Type 0
  Kept g values [] = (g ≡ outermost) × (values u ≡ x)
  Kept g values (f ∷ below) = Below f below

  -- in the outermost function the variable has this value
  abbrev HasIt : State → Type 0
  HasIt (Running g n values below) = Kept g values below
  HasIt (Returned values) = values u ≡ x
  HasIt Failed = Unit {0}

  left : (g : ℕ) (values : Assignment) (below : List Waiting) → Kept g values below → HasIt (leave values below)
  left g values [] h = h.1
  left g values (f ∷ []) h = (
    h.0,
    left_alone f.outputs values (λ v. if is_shared v then values v else f.values v) h.2 ∙ ap (λ (shared : Bool). if shared then values u else f.values u) own ∙ h.1,
  )
  left g values (f ∷ k ∷ below) h = h

  gone : (g : ℕ) (to : Next) (values : Assignment) (below : List Waiting) → Kept g values below → HasIt (go g to values below)
  gone g (next.At n) values below h = h
  gone g next.Ret values below h = left g values below h
  gone g next.Err values below h = tt

  put : (g : ℕ) (bindings : List Binding) (values : Assignment) (below : List Waiting) → (g ≡ outermost → Leaves bindings) → Kept g values below
      → Kept g (bound bindings values values) below
  put g bindings values [] apart h = (h.0, left_alone bindings values values (apart h.0) ∙ h.1)
  put g bindings values (f ∷ below) apart h = h

  entering : (callee : ℕ) (found : Option Graph) (values : Assignment) (f : Waiting) (below : List Waiting) → Below f below → HasIt (enter callee found values (f ∷ below))
  entering callee None values f below h = tt
  entering callee (Some found) values f below h = h

  waits : (g n landing : ℕ) (outputs : List Binding) (values : Assignment) (below : List Waiting) → (g ≡ outermost → Leaves outputs) → Kept g values below
      → Below (record { graph = g; call = n; landing = landing; outputs = outputs; values = values }) below
  waits g n landing outputs values [] apart h = (h.0, h.1, apart h.0)
  waits g n landing outputs values (f ∷ below) apart h = h

  acted : (g n : ℕ) (values : Assignment) (below : List Waiting) (node : Option Node) → node_at graphs g n ≡ node → Kept g values below
      → HasIt (act graphs g n values below node)
  acted g n values below None e h = tt
  acted g n values below (Some (Basic bindings to)) e h =
      gone g to (bound bindings values values) below
      (put g bindings values below (λ is. node_leaves n (Basic bindings to) (ap (λ (i : ℕ). node_at graphs i n) (sym is) ∙ e)) h)
  acted g n values below (Some (Cond test on_true on_false)) e h = gone g (if is_truth (value values test) then on_true else on_false) values below h
  acted g n values below (Some (Call callee inputs outputs landing)) e h =
      entering callee (slice_get graphs callee) (entered inputs values) (record { graph = g; call = n; landing = landing; outputs = outputs; values = values }) below
      (waits g n landing outputs values below (λ is. node_leaves n (Call callee inputs outputs landing) (ap (λ (i : ℕ). node_at graphs i n) (sym is) ∙ e)) h)

  stepped : (s : State) → HasIt s → HasIt (step graphs s)
  unfolding step
  stepped (Running g n values below) h = acted g n values below (node_at graphs g n) refl h
  stepped (Returned values) h = h
  stepped Failed h = h

  after_has : (k : ℕ) (s : State) → HasIt s → HasIt (after (system_of graphs outermost) k s)
  unfolding after
  after_has zero s h = h
  after_has (suc k) s h = after_has k (step graphs s) (stepped s h)

  deeper : (f : Waiting) (below : List Waiting) → Below f below → outermost_values f.values below u ≡ x
  deeper f [] h = h.1
  deeper f (k ∷ below) h = ap (λ (shared : Bool). if shared then f.values u else outermost_values k.values below u) own ∙ deeper k below h

  value_there : (s : State) → HasIt s → has_failed s ≡ false → values_in s u ≡ x
  value_there (Running g n values []) h live = h.1
  value_there (Running g n values (f ∷ below)) h live =
      ap (λ (shared : Bool). if shared then values u else outermost_values f.values below u) own ∙ deeper f below h
  value_there (Returned values) h live = h
  value_there Failed h live = absurd (let bad : true ≡ false = live in cc)

  pub stays : (k m : ℕ) (values : Assignment) → values u ≡ x → has_failed (after (system_of graphs outermost) k (Running outermost m values [])) ≡ false
      → values_in (after (system_of graphs outermost) k (Running outermost m values [])) u ≡ x
  stays k m values begins live =
      value_there (after (system_of graphs outermost) k (Running outermost m values [])) (after_has k (Running outermost m values []) (refl, begins)) live
