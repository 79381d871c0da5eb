-- What is expected inside a part.
use Rattle.std.specs.Prelude.{ℕ, zero, suc, List, [], ◌∷◌, ◌++◌, map, take, drop}
use Rattle.term_core_spec.specs.Term.{Term}
use Rattle.clause_check_spec.specs.Clause.{Clause}
use Rattle.proof_tree_spec.specs.declared.Counts.{Counts}
use Rattle.proof_tree_spec.specs.declared.Nodes.{Nodes}
use Rattle.proof_tree_spec.specs.Cuts.{once}
use Rattle.proof_tree_spec.specs.Frames.{Frame, with_goal, goal_at, from_cut}
use Rattle.sim_rules_spec.specs.Calls.{CallPair, Callee, call_terms}
use Rattle.sim_rules_spec.specs.Rules.{Opening, at_cut}
use Rattle.cert_check_lines_spec.specs.Sites.{Part, Calling}

-- where a frame starts: at the entry of the function, or at a cut
pub data Origin : Type 0 where
  AtEntry : Origin
  AtCut : Origin

abbrev pub opening : Part → Origin → Opening
opening p AtEntry = p.entry
opening p AtCut = at_cut p.convention

-- a rule whose lines are read: a cut, in the source body of the path, with the counts at which the sub-proofs arrive there;
-- or calls, the nodes after them, and how many of the lines are of the relation before them
pub data Draft : Type 0 where
  OfSplit : (nodes : Nodes) → (path : List ℕ) → (enter step : Counts) → Draft
  OfCall : (call landing : Nodes) → (path : List ℕ) → (pair : CallPair) → (callee : Callee) → (before : ℕ) → Draft

abbrev pub path_of : Draft → List ℕ
path_of (OfSplit nodes path enter step) = path
path_of (OfCall call landing path pair callee before) = path

-- a proof of a frame; a line of a rule's relations, after these, and so many after it; the log of an obligation; or a step
-- of the log whose line began at the offset, after these clauses, the last of which has no literal or has one, and so many
-- steps after it
pub data Job : Type 0 where
  Prove : Origin → Frame → Job
  Relate : Origin → Frame → Draft → (lines : List Term) → (left : ℕ) → Job
  Close : Term → Job
  InLog : (offset variables : ℕ) → (clauses : List Clause) → (left : ℕ) → Job

-- what a rule leaves once its lines are read
abbrev pub finished : Part → Origin → Frame → Draft → List Term → List Job
finished p origin f (OfSplit nodes path enter step) lines =
    Prove origin (with_goal f (goal_at nodes enter lines)) ∷ Prove AtCut (with_goal (from_cut f nodes path lines) (goal_at nodes step lines)) ∷ []
finished p origin f (OfCall call landing path pair callee before) lines =
    map Close (call_terms p.convention f pair callee (take before lines) (drop before lines))
    ++ (Prove origin (with_goal f (goal_at call once (take before lines))) ∷ Prove AtCut (from_cut f landing path (drop before lines)) ∷ [])

-- after these lines, where so many are still to be read
abbrev pub reading : Part → Origin → Frame → Draft → (lines : List Term) → (left : ℕ) → List Job
reading p origin f draft lines zero = finished p origin f draft lines
reading p origin f draft lines (suc left) = Relate origin f draft lines left ∷ []

-- what calls bind, and where they land
abbrev pub pair_of : (binary source : Calling) → CallPair
pair_of binary source = record { binary_inputs = binary.inputs; source_inputs = source.inputs; source_outputs = source.outputs }

abbrev pub landing_of : (binary source : Calling) → Nodes
landing_of binary source = record { binary = binary.landing; source = source.landing }
