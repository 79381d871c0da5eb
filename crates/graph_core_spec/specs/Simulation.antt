-- When two transition systems, a binary one and a source one, agree up to their stops. A relation of states is a
-- family of tests that all have to hold: the index is an address, at which memories are compared.
use Rattle.std.specs.Prelude.{◌≡◌, ◌⊎◌, ℕ, ◌<◌, ◌≤◌, Bool, true, false, List, map, Contains}
use Rattle.graph_core_spec.specs.TransitionSystem.{TransitionSystem, AreCounted, after, stopped, StopsAt, IsSafe, KeepsBounds}
use Rattle.graph_core_spec.specs.declared.Mark.{Mark}

module _ (A C : Type 0) where
  -- a stop on each side, and the relation of the states there
  pub record Goal : Type 0 where
    pub binary : Mark
    pub source : Mark
    pub relation : ℕ → A → C → Bool

  -- a node on each side, and a relation that the states may have there; it is no stop
  pub record Hold : Type 0 where
    pub binary : ℕ
    pub source : ℕ
    pub relation : ℕ → A → C → Bool

  -- two systems; the node at which each starts, and which states they start from; the relation of the states where
  -- both return; the goals, the bounds and the holds
  pub record Frame : Type 0 where
    pub binary : TransitionSystem A
    pub source : TransitionSystem C
    pub binary_start : ℕ
    pub source_start : ℕ
    pub premise : ℕ → A → C → Bool
    pub returns : ℕ → A → C → Bool
    pub goals : List Goal
    pub binary_bounds : List Mark
    pub source_bounds : List Mark
    pub holds : List Hold

module _ {A C : Type 0} where
  abbrev pub IsRelated : (ℕ → A → C → Bool) → A → C → Type 0
  IsRelated relation x y = (address : ℕ) → relation address x y ≡ true

  abbrev pub binary_marks : Frame A C → List Mark
  binary_marks f = map (λ g. g.binary) f.goals

  abbrev pub source_marks : Frame A C → List Mark
  source_marks f = map (λ g. g.source) f.goals

  -- each goal counts at least one arrival on each side
  pub record HasCountedGoals (f : Frame A C) : Type 0 where
    pub binary : AreCounted (binary_marks f)
    pub source : AreCounted (source_marks f)

  -- both have returned, or both are at the nodes of one goal
  pub data EndsAlike (f : Frame A C) (x : A) (y : C) : Type 0 where
    both_return : f.binary.returned x ≡ true → f.source.returned y ≡ true → IsRelated f.returns x y → EndsAlike f x y
    both_arrive : (g : Goal A C) → Contains f.goals g → f.binary.at g.binary.node x ≡ true → f.source.at g.source.node y ≡ true
        → IsRelated g.relation x y → EndsAlike f x y

  -- within n steps of either side: the binary side is safe, and where one side stops the other stops too, and
  -- they end alike
  pub record Agree (f : Frame A C) (n : ℕ) (x : A) (y : C) : Type 0 where
    pub safe : IsSafe f.binary (binary_marks f) n x
    pub forth : (t : ℕ) → t ≤ n → StopsAt f.binary (binary_marks f) t x
        → (u : ℕ) × StopsAt f.source (source_marks f) u y × EndsAlike f (after f.binary t x) (after f.source u y)
    pub back : (u : ℕ) → u ≤ n → StopsAt f.source (source_marks f) u y
        → (t : ℕ) × StopsAt f.binary (binary_marks f) t x × EndsAlike f (after f.binary t x) (after f.source u y)

  -- some hold is met: by the binary side after at least one step, by the source side after none or more, and
  -- neither past its stop
  pub data IsHeld (f : Frame A C) (x : A) (y : C) : Type 0 where
    held : (h : Hold A C) → Contains f.holds h → (t u : ℕ) → 0 < t
        → ((k : ℕ) → k < t → stopped f.binary (binary_marks f) k x ≡ false)
        → ((k : ℕ) → k < u → stopped f.source (source_marks f) k y ≡ false)
        → f.binary.at h.binary (after f.binary t x) ≡ true → f.source.at h.source (after f.source u y) ≡ true
        → IsRelated h.relation (after f.binary t x) (after f.source u y) → IsHeld f x y

  -- the states of which a simulation speaks. Each is at its start node; the premise holds, and each side's own
  -- property, which its steps keep; both runs keep the bounds, and the source's does not fail before its stop
  pub record IsStart (f : Frame A C) (fine_binary : A → Type 0) (fine_source : C → Type 0) (x : A) (y : C) : Type 0 where
    pub binary_at : f.binary.at f.binary_start x ≡ true
    pub source_at : f.source.at f.source_start y ≡ true
    pub premise : IsRelated f.premise x y
    pub binary_fine : fine_binary x
    pub source_fine : fine_source y
    pub binary_kept : (n : ℕ) → KeepsBounds f.binary (binary_marks f) f.binary_bounds n x
    pub source_kept : (n : ℕ) → KeepsBounds f.source (source_marks f) f.source_bounds n y
    pub source_safe : (n : ℕ) → IsSafe f.source (source_marks f) n y

  -- from each such start the systems agree within every number of steps, or a hold is met
  abbrev pub Simulates : Frame A C → (A → Type 0) → (C → Type 0) → Type 0
  Simulates f fine_binary fine_source = (x : A) (y : C) → IsStart f fine_binary fine_source x y → (n : ℕ) → Agree f n x y ⊎ IsHeld f x y
