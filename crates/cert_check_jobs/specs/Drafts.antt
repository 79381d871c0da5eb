-- Cuts whose lines are read, and what they leave.
use Rattle.std.specs.Prelude.{◌≡◌, ℕ, suc, zero, true, Box, Vec, List, [], ◌∷◌, ◌++◌, map}
use Rattle.std.specs.Global.{Global}
use Rattle.proof_tree_spec.specs.declared.Counts.{Counts}
use Rattle.proof_tree_spec.specs.declared.Nodes.{Nodes}
use Rattle.cert_check_frames.specs.declared.jobs.Branch.{Branch}
use Rattle.cert_check_jobs.specs.declared.drafts.Draft.{Draft}
use Rattle.cert_check_jobs.specs.declared.extra.Extra.{Extra}
use Rattle.cert_check_jobs.specs.declared.jobs.Job.{Job}
use Rattle.cert_check_jobs.specs.declared.jobs.Job.TheVariants.{Prove, Relate}
use Rattle.cert_check_jobs.specs.Cuts.{GoalSeen, IsCutFrom, IsWithGoal, Site}

-- the line holds
abbrev pub line_holds : ℕ → Branch
line_holds line = record { test = line; holds = true }

abbrev pub holding : List ℕ → List Branch
holding lines = map line_holds lines

-- the cut as a goal, where these lines hold, and as a start
abbrev pub draft_goal : Draft → Counts → List ℕ → GoalSeen
draft_goal d counts lines = record { nodes = d.nodes; counts = counts; lines = lines }

abbrev pub draft_site : Draft → Site
draft_site d = record { nodes = d.nodes; path = d.path.items }

-- of this frame, and at these nodes
pub record IsNewDraft (x : Box Extra Global) (nodes : Nodes) (path : List ℕ) (enter step : Counts) (d : Draft) : Type 0 where
  pub extra_is : d.extra ≡ x
  pub nodes_are : d.nodes ≡ nodes
  pub path_is : d.path.items ≡ path
  pub enter_is : d.enter ≡ enter
  pub step_is : d.step ≡ step

-- the frame that is cut, with the cut as one goal more
pub record IsBefore (d : Draft) (lines : List ℕ) (new : Extra) : Type 0 where
  pub cuts : IsWithGoal d.extra.value.cuts.value (draft_goal d d.enter lines) new.cuts.value
  pub premises : new.premises.items ≡ d.extra.value.premises.items
  pub binary : new.binary_bounds.items ≡ d.extra.value.binary_bounds.items
  pub source : new.source_bounds.items ≡ d.extra.value.source_bounds.items

-- from the cut on: its lines hold, no bounds are in force, and the cut is one goal more
pub record IsAfter (d : Draft) (lines : List ℕ) (new : Extra) : Type 0 where
  pub cuts : IsCutFrom d.extra.value.cuts.value (draft_site d) (draft_goal d d.step lines) new.cuts.value
  pub premises : new.premises.items ≡ holding lines
  pub binary : new.binary_bounds.items ≡ []
  pub source : new.source_bounds.items ≡ []

-- the two proofs, first the one from the frame's start
pub record AreFinished (d : Draft) (lines : List ℕ) (old new : List Job) : Type 0 where
  pub later : Box Extra Global
  pub first : Box Extra Global
  pub later_is : IsAfter d lines later.value
  pub first_is : IsBefore d lines first.value
  pub now : new ≡ (old ++ Prove later ∷ []) ++ Prove first ∷ []

-- after these lines, where so many are still to be read: the next comes first, or the two proofs do
abbrev pub AreReading : Box Draft Global → (lines : Vec ℕ Global) → (left : ℕ) → (old new : List Job) → Type 0
AreReading d lines zero old new = AreFinished d.value lines.items old new
AreReading d lines (suc left) old new = new ≡ old ++ Relate (record { draft = d; lines = lines; left = left }) ∷ []
