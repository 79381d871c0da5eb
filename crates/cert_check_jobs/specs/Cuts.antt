-- Where frames start at cuts, and the goals of cuts, in a bank.
use Rattle.std.specs.Prelude.{◌≡◌, ℕ, ◌<◌, List, [], ◌∷◌, ◌++◌, map, All, Option, Some, None}
use Rattle.term_core_spec.specs.Term.{Term}
use Rattle.term_bank.specs.Nodes.{tree_at}
use Rattle.proof_tree_spec.specs.declared.Counts.{Counts}
use Rattle.proof_tree_spec.specs.declared.Nodes.{Nodes}
use Rattle.proof_tree_spec.specs.Frames.{Goal, goal_at}
use Rattle.cert_check_jobs.specs.declared.cuts.CutStart.{CutStart}
use Rattle.cert_check_jobs.specs.declared.cuts.CutGoal.{CutGoal}
use Rattle.cert_check_jobs.specs.declared.cuts.Cuts.{Cuts}

-- a node on each side, and the path of the source body there
pub record Site : Type 0 where
  pub nodes : Nodes
  pub path : List ℕ

abbrev pub at_of : CutStart → Site
at_of s = record { nodes = s.nodes; path = s.path.items }

abbrev pub start_seen : Option CutStart → Option Site
start_seen None = None
start_seen (Some start) = Some (at_of start)

-- a goal by the ids of its lines
pub record GoalSeen : Type 0 where
  pub nodes : Nodes
  pub counts : Counts
  pub lines : List ℕ

abbrev pub goal_seen : CutGoal → GoalSeen
goal_seen g = record { nodes = g.nodes; counts = g.counts; lines = g.lines.items }

abbrev pub goals_seen : List CutGoal → List GoalSeen
goals_seen goals = map goal_seen goals

-- where a frame starts, if at a cut, and its goals
pub record Seen : Type 0 where
  pub start : Option Site
  pub goals : List GoalSeen

abbrev pub seen : Cuts → Seen
seen cuts = record { start = start_seen cuts.start; goals = goals_seen cuts.goals.items }

abbrev pub no_cut : Seen
no_cut = record { start = None; goals = [] }

-- ---- as they are made

-- the same with one goal more
abbrev pub IsWithGoal : (old : Cuts) → GoalSeen → (new : Cuts) → Type 0
IsWithGoal old goal new = seen new ≡ record { start = start_seen old.start; goals = goals_seen old.goals.items ++ goal ∷ [] }

-- from a cut on, with one goal more
abbrev pub IsCutFrom : (old : Cuts) → Site → GoalSeen → (new : Cuts) → Type 0
IsCutFrom old at goal new = seen new ≡ record { start = Some at; goals = goals_seen old.goals.items ++ goal ∷ [] }

-- ---- in a bank

abbrev pub lines_at : List Term → List ℕ → List Term
lines_at trees ids = map (tree_at trees) ids

abbrev pub goal_in : List Term → GoalSeen → Goal
goal_in trees g = goal_at g.nodes g.counts (lines_at trees g.lines)

abbrev pub goals_in : List Term → List GoalSeen → List Goal
goals_in trees goals = map (goal_in trees) goals

-- the ids are of a bank of so many terms
abbrev pub AreIds : ℕ → List ℕ → Type 0
AreIds n ids = All (λ (id : ℕ). id < n) ids

abbrev pub AreGoalsBelow : ℕ → List GoalSeen → Type 0
AreGoalsBelow n goals = All (λ (g : GoalSeen). AreIds n g.lines) goals
