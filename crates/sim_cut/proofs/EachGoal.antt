-- What holds of each goal of a frame, on both sides.
use Rattle.std.proofs.Common.{◌≡◌, ◌≢◌, ◌∙◌, ℕ, ◌+◌, ◌<◌, ◌≤◌, Bool, true, List, map, length, get_or, sym, ap, subst, inl, inr, arith, ◌↔◌}
use Rattle.std.specs.Prelude.{All}
use Rattle.std.proofs.Math.ListN.{get_or-map}
use Rattle.std.proofs.lemmas.List.{length-map, get_or_default}
use Rattle.std.proofs.lemmas.List.Elements.{All-map}
use Rattle.std.proofs.lemmas.Bool.{cases_lt}
use Rattle.graph_core_spec.specs.declared.Mark.{Mark}
use Rattle.graph_core_spec.specs.Graph.{Graphs}
use Rattle.graph_core_spec.specs.Run.{IsPath}
use Rattle.proof_tree_spec.specs.declared.Nodes.{Nodes}
use Rattle.proof_tree_spec.specs.Cuts.{Passes}
use Rattle.proof_tree_spec.specs.Frames as spec
use Rattle.proof_tree.specs.Ahead.{AreAhead}
use Rattle.proof_tree.specs.declared.frame.Goal.{Goal}
use Rattle.proof_tree.specs.declared.frame.Frame.{Frame}
use Rattle.proof_tree.specs.Frames.{HasPaths, KnowsPaths, frame_of, goal_of, stop_of}

-- ---- lists seen by two functions

module _ {X Y Z : Type 0} (P : Z → Type 0) (f : X → Y) (g : Y → Z) (xs : List X) where
  pub each_holds : (i : ℕ) → length xs ≤ i → ((k : ℕ) (d : X) → k < i → P (g (f (get_or xs k d)))) → All P (map g (map f xs))
  each_holds i all h = All-map P g (map f xs) (All-map (λ (y : Y). P (g y)) f xs (λ k d less. h k d (omega arith)))

  pub one_fails : (i : ℕ) (x : X) → i < length xs → x ≡ get_or xs i x → (P (g (f x)) → ⊥) → All P (map g (map f xs)) → ⊥
  one_fails i x within is fails all =
      let inner : length (map f xs) ≡ length xs = length-map xs f in
      let outer : length (map g (map f xs)) ≡ length (map f xs) = length-map (map f xs) g in
      fails (subst P (get_or-map g (map f xs) i (f x) ∙ ap g (get_or-map f xs i x ∙ ap f (sym is))) (all i (g (f x)) (omega arith)))

-- ---- goals of a frame

module _ (f : Frame) (paths : HasPaths f) (cut : Nodes) where
  abbrev PassesBinary : Mark → Type 0
  PassesBinary = Passes (IsPath (frame_of f).binary.graphs (frame_of f).binary.outermost) (frame_of f).start.nodes.binary cut.binary

  abbrev PassesSource : Mark → Type 0
  PassesSource = Passes (IsPath (frame_of f).source.graphs (frame_of f).source.outermost) (frame_of f).start.nodes.source cut.source

  pub record PassBoth (g : Goal) : Type 0 where
    pub binary : PassesBinary (stop_of g.binary)
    pub source : PassesSource (stop_of g.source)

  pub all_pass : (i : ℕ) → length f.goals.items ≤ i → ((k : ℕ) (d : Goal) → k < i → PassBoth (get_or f.goals.items k d)) → spec.LetsPass (frame_of f) cut
  all_pass i all h = record {
    binary = each_holds PassesBinary goal_of (λ (g : spec.Goal). g.binary) f.goals.items i all (λ k d less. (h k d less).binary);
    source = each_holds PassesSource goal_of (λ (g : spec.Goal). g.source) f.goals.items i all (λ k d less. (h k d less).source);
  }

  pub one_stops : (i : ℕ) (g : Goal) → i < length f.goals.items → g ≡ get_or f.goals.items i g → (PassBoth g → ⊥) → spec.LetsPass (frame_of f) cut → ⊥
  one_stops i g within is fails pass =
      one_fails PassesBinary goal_of (λ (x : spec.Goal). x.binary) f.goals.items i g within is
      (λ b. one_fails PassesSource goal_of (λ (x : spec.Goal). x.source) f.goals.items i g within is (λ s. fails (record { binary = b; source = s })) pass.source) pass.binary

-- what the test of one goal says, where the frame knows its paths
pub tested : (f : Frame) (cut : Nodes) (i : ℕ) (g : Goal) (result : Bool) → i < length f.goals.items → g ≡ get_or f.goals.items i g
    → ((a c : Graphs) (k l : ℕ) → AreAhead a k f.start.binary.from f.start.binary.nodes.keys → AreAhead c l f.start.source.from f.start.source.nodes.keys
    → AreAhead a k g.binary.at.from g.binary.at.nodes.keys → AreAhead c l g.source.at.from g.source.at.nodes.keys
    → (result ≡ true) ↔ (Passes (IsPath a k) f.start.binary.from cut.binary (stop_of g.binary) × Passes (IsPath c l) f.start.source.from cut.source (stop_of g.source)))
    → (paths : HasPaths f) → (result ≡ true) ↔ PassBoth f paths cut g
tested f cut i g result within is says paths =
    let known_binary = subst (λ (x : Goal). KnowsPaths f.binary x.binary.at) (sym is) (paths.goals_binary i g within) in
    let known_source = subst (λ (x : Goal). KnowsPaths f.source x.source.at) (sym is) (paths.goals_source i g within) in
    let test = says (frame_of f).binary.graphs (frame_of f).source.graphs (frame_of f).binary.outermost (frame_of f).source.outermost paths.binary paths.source known_binary known_source in
    ((λ yes_it_does. let pair = test.0 yes_it_does in record { binary = pair.0; source = pair.1 }), (λ pass. test.1 (pass.binary, pass.source)))

-- one more goal of those so far
pub pass_more : (f : Frame) (paths : HasPaths f) (cut : Nodes) (i : ℕ) (g : Goal) → i < length f.goals.items → g ≡ get_or f.goals.items i g
    → ((k : ℕ) (d : Goal) → k < i → PassBoth f paths cut (get_or f.goals.items k d)) → PassBoth f paths cut g
    → (k : ℕ) (d : Goal) → k < i + 1 → PassBoth f paths cut (get_or f.goals.items k d)
pass_more f paths cut i g within is before here k d less = elim (cases_lt k i) [
  | inl earlier ↦ before k d earlier
  | inr last ↦
      let e : i ≡ k = omega arith in
      subst (λ (j : ℕ). PassBoth f paths cut (get_or f.goals.items j d)) e
      (subst (λ (x : Goal). PassBoth f paths cut x) (is ∙ get_or_default f.goals.items i g d within) here)
]

module _ (f : Frame) (nodes : Nodes) where
  pub record Apart (g : Goal) : Type 0 where
    pub binary : g.binary.at.from ≢ nodes.binary
    pub source : g.source.at.from ≢ nodes.source

  pub all_clear : (i : ℕ) → length f.goals.items ≤ i → ((k : ℕ) (d : Goal) → k < i → Apart (get_or f.goals.items k d)) → spec.IsClear (frame_of f) nodes
  all_clear i all h = record {
    binary = each_holds (λ (m : Mark). m.node ≢ nodes.binary) goal_of (λ (g : spec.Goal). g.binary) f.goals.items i all (λ k d less. (h k d less).binary);
    source = each_holds (λ (m : Mark). m.node ≢ nodes.source) goal_of (λ (g : spec.Goal). g.source) f.goals.items i all (λ k d less. (h k d less).source);
  }

  pub one_there : (i : ℕ) (g : Goal) → i < length f.goals.items → g ≡ get_or f.goals.items i g → (Apart g → ⊥) → spec.IsClear (frame_of f) nodes → ⊥
  one_there i g within is fails clear =
      one_fails (λ (m : Mark). m.node ≢ nodes.binary) goal_of (λ (x : spec.Goal). x.binary) f.goals.items i g within is
      (λ b. one_fails (λ (m : Mark). m.node ≢ nodes.source) goal_of (λ (x : spec.Goal). x.source) f.goals.items i g within is (λ s. fails (record { binary = b; source = s })) clear.source) clear.binary
