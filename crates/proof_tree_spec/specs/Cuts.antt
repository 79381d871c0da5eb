-- The rules of a proof that cut its runs in two: the frames of their sub-proofs, and what each rule asks. A cut is a node
-- on each side and a relation of the states there, as a hold is.
use Rattle.std.specs.Prelude.{◌≡◌, ◌≢◌, ◌⊎◌, ℕ, ◌<◌, ◌≤◌, ◌&&◌, Bool, true, false, [], ◌∷◌, ◌++◌, All, Contains}
use Rattle.graph_core_spec.specs.TransitionSystem.{TransitionSystem, Always, after, stopped}
use Rattle.graph_core_spec.specs.declared.Mark.{Mark}
use Rattle.proof_tree_spec.specs.declared.Counts.{Counts}
use Rattle.graph_core_spec.specs.Simulation.{Frame, Goal, Hold, IsRelated, binary_marks, source_marks, HasCountedGoals, IsStart, Simulates}

-- one arrival counts on each side
abbrev pub once : Counts
once = record { binary = 1; source = 1 }

-- each side counts an arrival at least
pub record AreCounts (counts : Counts) : Type 0 where
  pub binary : 1 ≤ counts.binary
  pub source : 1 ≤ counts.source

-- ---- what a cut asks of the goals that are there already. `leads m n` says that a run may come from node m, in one step
-- or more, to node n; what is reached after a call is reached from the call

-- on one side: the goal is not at the cut's node; and where it counts more than one arrival, no walk goes from the start
-- to it and from there on to the cut. So no arrival at it is passed on the way to the cut
pub record Passes (leads : ℕ → ℕ → Type 0) (start cut : ℕ) (goal : Mark) : Type 0 where
  pub apart : goal.node ≢ cut
  pub ahead : (goal.count ≤ 1) ⊎ (leads start goal.node → leads goal.node cut → ⊥)

module _ {A C : Type 0} where
  -- every goal of the frame lets the cut pass, on both sides
  pub record IsAllowed (f : Frame A C) (binary_leads source_leads : ℕ → ℕ → Type 0) (cut : Hold A C) : Type 0 where
    pub binary : All (Passes binary_leads f.binary_start cut.binary) (binary_marks f)
    pub source : All (Passes source_leads f.source_start cut.source) (source_marks f)

  -- no goal is at the cut's nodes
  pub record IsClear (f : Frame A C) (cut : Hold A C) : Type 0 where
    pub binary : All (λ (m : Mark). m.node ≢ cut.binary) (binary_marks f)
    pub source : All (λ (m : Mark). m.node ≢ cut.source) (source_marks f)

  -- ---- the frames of sub-proofs

  -- the cut as a goal that is reached at so many arrivals
  abbrev pub goal_at : Hold A C → Counts → Goal A C
  goal_at cut counts = record {
    binary = record { node = cut.binary; count = counts.binary };
    source = record { node = cut.source; count = counts.source };
    relation = cut.relation;
  }

  -- two relations hold
  abbrev pub both : (p q : ℕ → A → C → Bool) → ℕ → A → C → Bool
  both p q address x y = p address x y && q address x y

  -- the frame with a further goal, or a further hold
  abbrev pub with_goal : Frame A C → Goal A C → Frame A C
  with_goal f g = record f { goals = f.goals ++ g ∷ [] }

  abbrev pub with_hold : Frame A C → Hold A C → Frame A C
  with_hold f hold = record f { holds = f.holds ++ hold ∷ [] }

  -- the frame from the cut on: its premise is the cut's relation beside the entry premises, its goals and holds are the
  -- same, and it has no bounds
  abbrev pub from_cut : Frame A C → (entry : ℕ → A → C → Bool) → Hold A C → Frame A C
  from_cut f entry cut = record f {
    binary_start = cut.binary;
    source_start = cut.source;
    premise = both entry cut.relation;
    binary_bounds = [];
    source_bounds = [];
  }

  -- from a call on each side to the landing nodes after them, and nowhere else
  abbrev pub across : Frame A C → (entry : ℕ → A → C → Bool) → (call landing : Hold A C) → Frame A C
  across f entry call landing = record (from_cut f entry call) {
    returns = λ address x y. false;
    goals = goal_at landing once ∷ [];
    holds = [];
  }

module _ {A C : Type 0} (f : Frame A C) (fine_binary : A → Type 0) (fine_source : C → Type 0) where
  -- an open hold where the source side starts: from each start the binary side alone comes to the hold, in one step or
  -- more and before its stop, and the relation holds there with the state in which the source starts
  pub record Waits (hold : Hold A C) : Type 0 where
    pub is_open : Contains f.holds hold
    pub source_there : hold.source ≡ f.source_start
    pub comes : (x : A) (y : C) → IsStart f fine_binary fine_source x y → (t : ℕ) × (0 < t)
        × ((k : ℕ) → k < t → stopped f.binary (binary_marks f) k x ≡ false)
        × (f.binary.at hold.binary (after f.binary t x) ≡ true) × IsRelated hold.relation (after f.binary t x) y

module _ {A C : Type 0} (f : Frame A C) (fine_binary : A → Type 0) (fine_source : C → Type 0) (entry : ℕ → A → C → Bool) where
  -- the entry premises hold where the frame starts, and steps of either side keep them
  pub record IsKept : Type 0 where
    pub start : (x : A) (y : C) → IsRelated f.premise x y → IsRelated entry x y
    pub binary : (x : A) (y : C) → fine_binary x → fine_source y → IsRelated entry x y → IsRelated entry (f.binary.step x) y
    pub source : (x : A) (y : C) → fine_binary x → fine_source y → IsRelated entry x y → IsRelated entry x (f.source.step y)

  -- ---- what the sub-proofs of each rule give

  -- from the start, the cut is one more goal at its enter counts; from the cut, it is one at its step counts
  pub record Splits (cut : Hold A C) (enter step : Counts) : Type 0 where
    pub enters : Simulates (with_goal f (goal_at cut enter)) fine_binary fine_source
    pub steps : Simulates (with_goal (from_cut f entry cut) (goal_at cut step)) fine_binary fine_source

  -- from the start, the calls are one more goal; the callees agree from there to the landing nodes; and from these on
  -- the goals are the same
  pub record Calls (call landing : Hold A C) : Type 0 where
    pub before : Simulates (with_goal f (goal_at call once)) fine_binary fine_source
    pub inner : Simulates (across f entry call landing) fine_binary fine_source
    pub later : Simulates (from_cut f entry landing) fine_binary fine_source

  -- from the start, the cut is one more hold; from the cut, it is a goal at its step counts, and no longer a hold
  pub record Holds (cut : Hold A C) (step : Counts) : Type 0 where
    pub starts : Simulates (with_hold f cut) fine_binary fine_source
    pub steps : Simulates (with_goal (from_cut f entry cut) (goal_at cut step)) fine_binary fine_source

-- ---- frames over two given systems

-- the frame is of these two systems, and each of its goals counts an arrival at least
pub record IsOver {A C : Type 0} (f : Frame A C) (binary : TransitionSystem A) (source : TransitionSystem C) : Type 0 where
  pub of_binary : f.binary ≡ binary
  pub of_source : f.source ≡ source
  pub counted : HasCountedGoals f

-- a property that steps keep, and tests that hold now and after every number of steps
pub record IsFine {S : Type 0} (w : TransitionSystem S) (fine : S → Type 0) (always : ℕ → S → Bool) (state : S) : Type 0 where
  pub kept : fine state
  pub held : Always w always state
