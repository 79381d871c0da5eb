-- What lines show that pass: a tree of rules at a frame, each of whose obligations is closed by a log.
use Rattle.std.specs.Prelude.{◌≡◌, ℕ, ◌+◌, ◌≤◌, List, [], ◌∷◌, length, map, All}
use Rattle.term_core_spec.specs.Term.{Term, not_term}
use Rattle.clause_check_spec.specs.Log.{Step}
use Rattle.discharge_spec.specs.Closing.{Closes, closing}
use Rattle.proof_tree_spec.specs.declared.Counts.{Counts}
use Rattle.proof_tree_spec.specs.declared.Nodes.{Nodes}
use Rattle.proof_tree_spec.specs.declared.Cut.TheVariants.{Calls}
use Rattle.proof_tree_spec.specs.Cuts.{AreCounts, once}
use Rattle.proof_tree_spec.specs.Frames.{Frame, with_goal, goal_at, from_cut, LetsPass, IsAllowed}
use Rattle.proof_tree_spec.specs.Proofs.{Points}
use Rattle.proof_tree_spec.specs.Scope.{IsLine}
use Rattle.sim_rules_spec.specs.Obligations.{AreObligations}
use Rattle.sim_rules_spec.specs.Obligations as rule
use Rattle.sim_rules_spec.specs.Calls.{Callee, call_terms}
use Rattle.cert_text_spec.specs.Lines as line
use Rattle.cert_text_spec.specs.Lines.{Line, line_text}
use Rattle.cert_check_lines_spec.specs.Sites.{Part, Calling, ArePaired}
use Rattle.cert_check_lines_spec.specs.Jobs.{Origin, AtCut, opening, Job, Prove, Close, pair_of, landing_of}
use Rattle.cert_check_lines_spec.specs.LineRules.{Passes, HasPart, with_test, binary_bounded, source_bounded, mark}

-- ---- trees of rules

-- a log closes the goal
abbrev pub IsClosed : Part → Term → Type 0
IsClosed p goal = (log : List Step) × (closing p.runs goal log ≡ Closes)

abbrev pub AreClosed : Part → List Term → Type 0
AreClosed p terms = All (IsClosed p) terms

-- lines over the variables in scope in the source body of the path
abbrev pub AreLines : Frame → (path : List ℕ) → List Term → Type 0
AreLines f path lines = All (IsLine f.setting path) lines

-- the frame, which starts there, has a proof each of whose obligations is closed
pub data IsShown (p : Part) : Origin → Frame → Type 0 where
  leaf : (origin : Origin) (f : Frame) (terms : List Term) → AreObligations p.convention (opening p origin) f rule.Leaf terms → AreClosed p terms → IsShown p origin f
  case : (origin : Origin) (f : Frame) (test : Term) → IsLine f.setting f.start.path test → IsShown p origin (with_test f test)
      → IsShown p origin (with_test f (not_term test)) → IsShown p origin f
  restrict_binary : (origin : Origin) (f : Frame) (node count : ℕ) (terms : List Term) → 1 ≤ count
      → AreObligations p.convention (opening p origin) f (rule.RestrictBinary (mark node count)) terms → AreClosed p terms
      → IsShown p origin (binary_bounded f (mark node count)) → IsShown p origin f
  restrict_source : (origin : Origin) (f : Frame) (node count : ℕ) (terms : List Term) → 1 ≤ count
      → AreObligations p.convention (opening p origin) f (rule.RestrictSource (mark node count)) terms → AreClosed p terms
      → IsShown p origin (source_bounded f (mark node count)) → IsShown p origin f
  split : (origin : Origin) (f : Frame) (nodes : Nodes) (path : List ℕ) (enter step : Counts) (lines : List Term) → AreCounts enter → AreCounts step → LetsPass f nodes
      → AreLines f path lines → IsShown p origin (with_goal f (goal_at nodes enter lines))
      → IsShown p AtCut (with_goal (from_cut f nodes path lines) (goal_at nodes step lines)) → IsShown p origin f
  call : (origin : Origin) (f : Frame) (points : Points) (call : Nodes) (binary source : Calling) (path : List ℕ) (callee : Callee) (before later : List Term)
      → ArePaired p f points call binary source → HasPart p source callee → IsAllowed f (Calls call (landing_of binary source)) → AreLines f path before → AreLines f path later
      → AreClosed p (call_terms p.convention f (pair_of binary source) callee before later) → IsShown p origin (with_goal f (goal_at call once before))
      → IsShown p AtCut (from_cut f (landing_of binary source) path later) → IsShown p origin f

-- ---- runs of lines

-- the lines, the first of which begins at the offset, pass one after the other
pub data Pass (p : Part) : (at : ℕ) → List Job → List Line → List Job → Type 0 where
  none : (at : ℕ) (jobs : List Job) → Pass p at jobs [] jobs
  some : (at : ℕ) (jobs next last : List Job) (line : Line) (lines : List Line) → Passes p at jobs line next → Pass p (at + length (line_text line)) next lines last
      → Pass p at jobs (line ∷ lines) last

-- the lines of a part, which end with nothing left to show, show its frame
abbrev pub PassedIsShown : Type 0
PassedIsShown = (p : Part) (at : ℕ) (origin : Origin) (f : Frame) (lines : List Line) → Pass p at (Prove origin f ∷ []) lines [] → IsShown p origin f

-- the lines of a log that closes its goal pass, and leave what was expected after it
abbrev pub ClosingPasses : Type 0
ClosingPasses = (p : Part) (at : ℕ) (goal : Term) (jobs : List Job) (log : List Step) → closing p.runs goal log ≡ Closes
    → Pass p at (Close goal ∷ jobs) (line.Log (length log) ∷ map line.LogStep log) jobs
