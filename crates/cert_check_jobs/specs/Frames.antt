-- Frames inside a part, as they are made.
use Rattle.std.specs.Prelude.{◌≡◌, ℕ, List, [], ◌++◌, map, All}
use Rattle.term_core_spec.specs.Term.{Term}
use Rattle.graph_core.specs.Graphs.{boxed_term}
use Rattle.graph_core.specs.declared.run.GraphRun.{GraphRun}
use Rattle.proof_tree_spec.specs.Frames as spec
use Rattle.proof_tree_spec.specs.Frames.{Start, goal_at}
use Rattle.proof_tree.specs.declared.frame.Goal.{Goal}
use Rattle.proof_tree.specs.declared.frame.Start.{Start as CodeStart}
use Rattle.proof_tree.specs.declared.frame.Stop.{Stop}
use Rattle.proof_tree.specs.Frames.{KnowsPaths, goal_of, terms_of}
use Rattle.cert_check_frames.specs.Jobs.{premises_with, tests_at}
use Rattle.cert_check_frames.specs.declared.listed.Listed.{Listed}
use Rattle.cert_check_frames.specs.Listed.{frame_at}
use Rattle.cert_check_jobs.specs.declared.extra.Extra.{Extra}
use Rattle.cert_check_jobs.specs.declared.frames.GoalTrees.{GoalTrees}
use Rattle.cert_check_jobs.specs.declared.frames.Trees.{Trees}
use Rattle.cert_check_jobs.specs.Cuts.{goals_in, goals_seen, start_seen}
use Rattle.cert_check_jobs.specs.Extras.{start_added, started}

-- ---- trees

abbrev pub goal_given : GoalTrees → spec.Goal
goal_given g = goal_at g.nodes g.counts (terms_of g.lines.items)

-- these are the trees of the tests, and the goals
pub record AreTrees (bank : List Term) (x : Extra) (trees : Trees) : Type 0 where
  pub tests : map boxed_term trees.tests.items ≡ tests_at bank x.premises.items
  pub goals : map goal_given trees.goals.items ≡ goals_in bank (goals_seen x.cuts.value.goals.items)

-- ---- starts

-- where the frame starts, where the tests are given
abbrev pub start_given : Listed → Extra → (tests : List Term) → Start
start_given code x tests = start_added (started (frame_at code) (start_seen x.cuts.value.start)) (record {
  start = start_seen x.cuts.value.start;
  premises = premises_with x.premises.items tests;
  binary = x.binary_bounds.items;
  source = x.source_bounds.items;
  goals = [];
})

-- what is listed as ahead of both starts is what they lead to
pub record KnowsStarts (code : Listed) (start : CodeStart) : Type 0 where
  pub binary : KnowsPaths code.binary start.binary
  pub source : KnowsPaths code.source start.source

-- ---- goals

pub record IsStopAt (run : GraphRun) (node count : ℕ) (s : Stop) : Type 0 where
  pub node_is : s.at.from ≡ node
  pub count_is : s.count ≡ count
  pub paths : KnowsPaths run s.at

-- the goal, and what its stops lead to
pub record IsFrameGoal (code : Listed) (given : GoalTrees) (made : Goal) : Type 0 where
  pub is : goal_of made ≡ goal_given given
  pub binary : KnowsPaths code.binary made.binary.at
  pub source : KnowsPaths code.source made.source.at

pub record AreFrameGoals (code : Listed) (given : List GoalTrees) (made : List Goal) : Type 0 where
  pub are : map goal_of made ≡ map goal_given given
  pub binary : All (λ (g : Goal). KnowsPaths code.binary g.binary.at) made
  pub source : All (λ (g : Goal). KnowsPaths code.source g.source.at) made
