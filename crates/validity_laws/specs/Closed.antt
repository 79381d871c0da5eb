-- A tree of Leaf and Case at the frame of a function, each of whose obligations is closed by a log.
use Rattle.std.specs.Prelude.{◌≡◌, List, All}
use Rattle.memory_spec.specs.Runs.{Run}
use Rattle.term_core_spec.specs.Term.{Term, not_term}
use Rattle.proof_tree_spec.specs.Frames.{Frame}
use Rattle.proof_tree_spec.specs.Scope.{IsLine}
use Rattle.sim_rules_spec.specs.Obligations.{AreObligations}
use Rattle.sim_rules_spec.specs.Obligations as rule
use Rattle.clause_check_spec.specs.Log.{Step}
use Rattle.discharge_spec.specs.Closing.{Closes, closing}
use Rattle.cert_check_spec.specs.Verdict.{Listed}
use Rattle.cert_check_lines_spec.specs.LineRules.{with_test}

-- a log closes the goal
abbrev pub IsClosedGoal : List Run → Term → Type 0
IsClosedGoal runs goal = (log : List Step) × (closing runs goal log ≡ Closes)

-- the frame has a proof by Leaf and Case in the part of the function
pub data IsClosed (f : Listed) : Frame → Type 0 where
  leaf : (frame : Frame) (terms : List Term) → AreObligations f.convention f.opening frame rule.Leaf terms → All (IsClosedGoal f.runs) terms → IsClosed f frame
  case : (frame : Frame) (test : Term) → IsLine frame.setting frame.start.path test → IsClosed f (with_test frame test) → IsClosed f (with_test frame (not_term test))
      → IsClosed f frame
