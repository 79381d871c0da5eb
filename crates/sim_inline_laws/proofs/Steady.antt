-- A variable that callers and callees share, and that no node of any graph binds, keeps its value until the outermost
-- function has returned or failed.
use Rattle.std.proofs.Common.{◌≡◌, ◌≢◌, ◌∙◌, ℕ, zero, suc, Bool, true, false, if◌then◌else◌, refl, sym, ap, List, [], ◌∷◌, All, Option, Some, None}
use Rattle.std.specs.Prelude.{slice_get}
use Rattle.std.proofs.lemmas.List.Elements.{All-nil, All-cons, All-head, All-tail, All-weaker}
use Rattle.term_core_spec.specs.declared.Variable.{Variable}
use Rattle.term_core_spec.specs.Same.{same_variable}
use Rattle.term_core_spec.specs.Value.{Value, Assignment, value}
use Rattle.graph_core_spec.specs.TransitionSystem.{after}
use Rattle.graph_core_spec.specs.declared.Next.{Next}
use Rattle.graph_core_spec.specs.declared.Next.TheVariants as next
use Rattle.graph_core_spec.specs.Graph.{Binding, Node, Basic, Cond, Call, Graph, Graphs, node_at}
use Rattle.graph_core_spec.specs.Run.{Waiting, State, Running, Returned, Failed, bound, is_shared, unset, step, act, go, leave, enter, entered, is_truth, system_of, has_failed}
use Rattle.graph_inline_spec.proofs.Naming.{differ}
use Rattle.graph_inline_spec.proofs.Bindings.{bound_apart}
use Rattle.sim_rules_spec.specs.Points.{values_in, outermost_values}
use Rattle.sim_rules_spec.proofs.Truths.{all_left, all_right}
use Rattle.sim_rules_spec.proofs.Start.{all_at}
use Rattle.sim_inline_laws.specs.Frames.{SparesIt, IsNeverBound}
use Rattle.sim_inline_laws.proofs.Beside.{node_found}

module _ (graphs : Graphs) (u : Variable) (never : IsNeverBound graphs u) (x : Value) where
  abbrev Other : Binding → Type 0
  Other b = b.variable ≢ u

  left_alone : (bindings : List Binding) (values rest : Assignment) → All Other bindings → bound bindings values rest u ≡ rest u
  left_alone bindings values rest others =
      bound_apart bindings values rest u
      (All-weaker Other (λ (b : Binding). same_variable u b.variable ≡ false) (λ b other. differ u b.variable (λ e. other (sym e))) bindings others)

  node_spares : (g n : ℕ) (node : Node) → node_at graphs g n ≡ Some node → SparesIt u node
  node_spares g n node e =
      let (graph, there, at) = node_found graphs g n node e in
      all_at (SparesIt u) graph.nodes n node (all_at (λ (h : Graph). All (SparesIt u) h.nodes) graphs g graph never.unbound there) at

  -- what is bound where one that waits goes on
  abbrev Waits : Waiting → Type 0
  Waits f = All Other f.outputs

  abbrev HasIt : State → Type 0
  HasIt (Running g n values below) = (values u ≡ x) × All Waits below
  HasIt (Returned values) = values u ≡ x
  HasIt Failed = Unit {0}

  left : (values : Assignment) (below : List Waiting) → values u ≡ x → All Waits below → HasIt (leave values below)
  left values [] h all = h
  left values (f ∷ below) h all = (
    left_alone f.outputs values (λ v. if is_shared v then values v else f.values v) (All-head Waits f below all) ∙ (ap (λ (b : Bool). if b then values u else f.values u) never.shared ∙ h),
    All-tail Waits f below all,
  )

  gone : (g : ℕ) (to : Next) (values : Assignment) (below : List Waiting) → values u ≡ x → All Waits below → HasIt (go g to values below)
  gone g (next.At n) values below h all = (h, all)
  gone g next.Ret values below h all = left values below h all
  gone g next.Err values below h all = tt

  entering : (callee : ℕ) (found : Option Graph) (values : Assignment) (below : List Waiting) → values u ≡ x → All Waits below → HasIt (enter callee found values below)
  entering callee None values below h all = tt
  entering callee (Some found) values below h all = (h, all)

  begun : (inputs : List Binding) (values : Assignment) → All Other inputs → values u ≡ x → entered inputs values u ≡ x
  begun inputs values others h =
      left_alone inputs values (λ v. if is_shared v then values v else unset v.sort) others ∙ (ap (λ (b : Bool). if b then values u else unset u.sort) never.shared ∙ h)

  acted : (g n : ℕ) (values : Assignment) (below : List Waiting) (node : Option Node) → node_at graphs g n ≡ node → values u ≡ x → All Waits below
      → HasIt (act graphs g n values below node)
  acted g n values below None e h all = tt
  acted g n values below (Some (Basic bindings to)) e h all =
      gone g to (bound bindings values values) below (left_alone bindings values values (node_spares g n (Basic bindings to) e) ∙ h) all
  acted g n values below (Some (Cond test on_true on_false)) e h all = gone g (if is_truth (value values test) then on_true else on_false) values below h all
  acted g n values below (Some (Call callee inputs outputs landing)) e h all =
      let spares : SparesIt u (Call callee inputs outputs landing) = node_spares g n (Call callee inputs outputs landing) e in
      let f : Waiting = record { graph = g; call = n; landing = landing; outputs = outputs; values = values } in
      entering callee (slice_get graphs callee) (entered inputs values) (f ∷ below) (begun inputs values (all_left Other inputs outputs spares) h)
      (All-cons Waits f below (all_right Other inputs outputs spares) all)

  stepped : (s : State) → HasIt s → HasIt (step graphs s)
  unfolding step
  stepped (Running g n values below) h = acted g n values below (node_at graphs g n) refl h.0 h.1
  stepped (Returned values) h = h
  stepped Failed h = h

  after_has : (outermost k : ℕ) (s : State) → HasIt s → HasIt (after (system_of graphs outermost) k s)
  unfolding after
  after_has outermost zero s h = h
  after_has outermost (suc k) s h = after_has outermost k (step graphs s) (stepped s h)

  value_there : (s : State) → HasIt s → has_failed s ≡ false → values_in s u ≡ x
  value_there (Running g n values []) h live = h.0
  value_there (Running g n values (f ∷ below)) h live = ap (λ (b : Bool). if b then values u else outermost_values f.values below u) never.shared ∙ h.0
  value_there (Returned values) h live = h
  value_there Failed h live = absurd (let bad : true ≡ false = live in cc)

  pub stays_so : (outermost k m : ℕ) (values : Assignment) → values u ≡ x → has_failed (after (system_of graphs outermost) k (Running outermost m values [])) ≡ false
      → values_in (after (system_of graphs outermost) k (Running outermost m values [])) u ≡ x
  stays_so outermost k m values begins live =
      value_there (after (system_of graphs outermost) k (Running outermost m values [])) (after_has outermost k (Running outermost m values []) (begins, All-nil Waits)) live
