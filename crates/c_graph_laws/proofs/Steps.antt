-- Steps of the graphs' run, from node to node.
use Rattle.std.proofs.Common.{◌≡◌, ◌∙◌, ℕ, ◌+◌, Bool, true, false, ◌&&◌, if◌then◌else◌, refl, ap, List, [], ◌∷◌, Some}
use Rattle.std.specs.List.{list_all}
use Rattle.std.proofs.lemmas.Bool.{and_parts}
use Rattle.term_core_spec.specs.Term.{Term}
use Rattle.term_core_spec.specs.Value.{Assignment, value}
use Rattle.graph_core_spec.specs.declared.Next.{Next}
use Rattle.graph_core_spec.specs.declared.Next.TheVariants.{Err}
use Rattle.graph_core_spec.specs.Graph.{Binding, Node, Basic, Cond, Graphs}
use Rattle.graph_core_spec.specs.Run.{Waiting, State, Running, Failed, step, go, act, bound, is_truth, system_of}
use Rattle.graph_core_spec.specs.TransitionSystem.{TransitionSystem, after}
use Rattle.graph_core_spec.proofs.Runs.{after-add}
use Rattle.c_graph_laws.proofs.Occurs.{Comes, Tests}

-- all of the tests hold
abbrev pub all_hold : Assignment → List Term → Bool
all_hold s tests = list_all (λ t. is_truth (value s t)) tests

module _ (graphs : Graphs) (outermost g : ℕ) where
  abbrev pub w : TransitionSystem State
  w = system_of graphs outermost

  -- ---- one node

  pub at_node : (from : Next) (node : Node) (s : Assignment) (below : List Waiting) (c : Comes graphs g from node) → go g from s below ≡ Running g c.number s below
  at_node from node s below c = ap (λ (n : Next). go g n s below) c.from_is

  pub acts : (from : Next) (node : Node) (s : Assignment) (below : List Waiting) (c : Comes graphs g from node)
      → step graphs (go g from s below) ≡ act graphs g c.number s below (Some node)
  unfolding step
  acts from node s below c = ap (step graphs) (at_node from node s below c) ∙ ap (act graphs g c.number s below) c.here

  pub basic : (from to : Next) (bindings : List Binding) (s : Assignment) (below : List Waiting) → Comes graphs g from (Basic bindings to)
      → after w 1 (go g from s below) ≡ go g to (bound bindings s s) below
  unfolding after
  basic from to bindings s below c = acts from (Basic bindings to) s below c

  -- a node that binds nothing
  pub empty : (from to : Next) (s : Assignment) (below : List Waiting) → Comes graphs g from (Basic [] to) → after w 1 (go g from s below) ≡ go g to s below
  unfolding bound
  empty from to s below c = basic from to [] s below c

  pub conditional : (from on_true on_false : Next) (test : Term) (holds : Bool) (s : Assignment) (below : List Waiting) → Comes graphs g from (Cond test on_true on_false)
      → is_truth (value s test) ≡ holds → after w 1 (go g from s below) ≡ go g (if holds then on_true else on_false) s below
  unfolding after
  conditional from on_true on_false test holds s below c e =
      acts from (Cond test on_true on_false) s below c ∙ ap (λ (b : Bool). go g (if b then on_true else on_false) s below) e

  -- ---- runs one after the other

  pub joins : (j k : ℕ) (x y z : State) → after w j x ≡ y → after w k y ≡ z → after w (j + k) x ≡ z
  joins j k x y z e d = after-add w j k x ∙ ap (after w k) e ∙ d

  -- ---- tests

  pub pass : (tests : List Term) (from to : Next) (s : Assignment) (below : List Waiting) → Tests graphs g tests from to → all_hold s tests ≡ true
      → (k : ℕ) × (after w k (go g from s below) ≡ go g to s below)
  unfolding after
  pass [] from to s below t holds = (0, ap (λ (n : Next). go g n s below) t)
  pass (test ∷ rest) from to s below t holds =
      let parts = and_parts (is_truth (value s test)) (all_hold s rest) holds in
      let on = pass rest t.0 to s below t.2 parts.1 in
      (1 + on.0, joins 1 on.0 (go g from s below) (go g t.0 s below) (go g to s below) (conditional from t.0 Err test true s below t.1 parts.0) on.1)

  pub stop : (tests : List Term) (from to : Next) (s : Assignment) (below : List Waiting) → Tests graphs g tests from to → all_hold s tests ≡ false
      → (k : ℕ) × (after w k (go g from s below) ≡ Failed)
  unfolding after
  stop [] from to s below t fails = absurd (cc)
  stop (test ∷ rest) from to s below t fails = at (is_truth (value s test)) refl fails (λ later. stop rest t.0 to s below t.2 later)
    where
      at : (b : Bool) → is_truth (value s test) ≡ b → (b && all_hold s rest) ≡ false
          → (all_hold s rest ≡ false → (k : ℕ) × (after w k (go g t.0 s below) ≡ Failed)) → (k : ℕ) × (after w k (go g from s below) ≡ Failed)
      at true e fails later =
          let on = later fails in
          (1 + on.0, joins 1 on.0 (go g from s below) (go g t.0 s below) Failed (conditional from t.0 Err test true s below t.1 e) on.1)
      at false e fails later = (1, conditional from t.0 Err test false s below t.1 e)
