-- A line inside a part: where it passes, what it leaves; and else the first rule that it breaks, or the limit that comes
-- before it. No line depends on those after it.
use Rattle.std.specs.Prelude.{◌≡◌, ◌≢◌, ℕ, suc, ◌+◌, ◌<◌, ◌≤◌, true, false, List, [], ◌∷◌, ◌++◌, length, map, Contains}
use Rattle.term_core_spec.specs.Term.{Term, not_term}
use Rattle.term_core_spec.specs.Subterms.{subterm_count}
use Rattle.term_norm_spec.specs.Normal.{normal}
use Rattle.clause_check_spec.specs.Clause.{Clause}
use Rattle.clause_check_spec.specs.Log.{Step}
use Rattle.clause_check_spec.specs.Step.{Follows, Refused, outcome}
use Rattle.bit_blast_spec.specs.Goal.{cnf_of}
use Rattle.discharge_spec.specs.Closing.{is_empty, is_truth}
use Rattle.graph_core_spec.specs.declared.Mark.{Mark}
use Rattle.proof_tree_spec.specs.declared.Counts.{Counts}
use Rattle.proof_tree_spec.specs.declared.Nodes.{Nodes}
use Rattle.proof_tree_spec.specs.declared.Cut.TheVariants.{Calls}
use Rattle.proof_tree_spec.specs.Cuts.{AreCounts, once}
use Rattle.proof_tree_spec.specs.Frames.{Frame, with_premise, with_binary_bound, with_source_bound, LetsPass, IsAllowed}
use Rattle.proof_tree_spec.specs.Proofs.{BinaryPoint, SourcePoint, Points}
use Rattle.proof_tree_spec.specs.Scope.{IsLine}
use Rattle.sim_rules_spec.specs.Obligations.{Rule, AreObligations, IsCyclicRule, IsLargeRule}
use Rattle.sim_rules_spec.specs.Obligations as rule
use Rattle.sim_rules_spec.specs.Calls.{Callee}
use Rattle.cert_text_spec.specs.declared.Symbol.{Symbol}
use Rattle.cert_text_spec.specs.Lines as line
use Rattle.cert_text_spec.specs.Lines.{Line}
use Rattle.cert_check_spec.specs.Terms.{IsTermOf}
use Rattle.tv_limits.specs.declared.Quantity.{Quantity}
use Rattle.tv_limits.specs.declared.Quantity.TheVariants as quantity
use Rattle.tv_limits.specs.declared.TheConstants.{MAX_VISITS, MAX_TERMS, MAX_VARIABLES}
use Rattle.cert_check_spec.specs.declared.RuleWord.{RuleWord}
use Rattle.cert_check_spec.specs.declared.RuleWord.TheVariants as fault
use Rattle.cert_check_lines_spec.specs.Sites.{Part, IsBinaryPoint, IsSourcePoint, ArePoints, Calling, ArePaired}
use Rattle.cert_check_lines_spec.specs.Jobs.{Origin, opening, Draft, OfSplit, OfCall, path_of, Job, Prove, Relate, Close, InLog, reading, pair_of, landing_of}

-- what is wrong at a line
pub data Fault : Type 0 where
  Breaks : RuleWord → Fault
  Above : Quantity → Fault

-- ---- the parts of lines

-- the symbols are the term, a line over the variables in scope in the source body of the path
pub record IsRead (f : Frame) (path : List ℕ) (symbols : List Symbol) (t : Term) : Type 0 where
  pub spelled : IsTermOf f.setting symbols t
  pub line : IsLine f.setting path t

-- the rule's walks end and have no more visits than the maximum, and these are its obligations
pub record Leaves (p : Part) (origin : Origin) (f : Frame) (r : Rule) (terms : List Term) : Type 0 where
  pub acyclic : (node : ℕ) → IsCyclicRule (opening p origin) f r node → ⊥
  pub small : (count : ℕ) → IsLargeRule (opening p origin) f MAX_VISITS r count → ⊥
  pub obligations : AreObligations p.convention (opening p origin) f r terms

abbrev pub with_test : Frame → Term → Frame
with_test f test = record f { start = with_premise f.start test }

abbrev pub binary_bounded : Frame → Mark → Frame
binary_bounded f bound = record f { start = with_binary_bound f.start bound }

abbrev pub source_bounded : Frame → Mark → Frame
source_bounded f bound = record f { start = with_source_bound f.start bound }

abbrev pub mark : (node count : ℕ) → Mark
mark node count = record { node = node; count = count }

-- an earlier part is of the function that is called
abbrev pub HasPart : Part → Calling → Callee → Type 0
HasPart p source callee = Contains p.earlier (source.callee, callee)

-- the calls of the points can be crossed: they are paired, an arrival on each side counts, their function has a part, and
-- each goal lets the cut pass
pub record Crosses (p : Part) (f : Frame) (points : Points) (counts : Counts) (call : Nodes) (binary source : Calling) (callee : Callee) : Type 0 where
  pub paired : ArePaired p f points call binary source
  pub counted : counts ≡ once
  pub shown : HasPart p source callee
  pub allowed : IsAllowed f (Calls call (landing_of binary source))

-- ---- lines that pass

-- the line, which begins at the offset, breaks no rule and no limit, and leaves these jobs
pub data Passes (p : Part) (at : ℕ) : List Job → Line → List Job → Type 0 where
  leaf : (origin : Origin) (f : Frame) (jobs : List Job) (terms : List Term) → Leaves p origin f rule.Leaf terms
      → Passes p at (Prove origin f ∷ jobs) (line.Leaf (length terms)) (map Close terms ++ jobs)
  case : (origin : Origin) (f : Frame) (jobs : List Job) (symbols : List Symbol) (test : Term) → IsRead f f.start.path symbols test
      → Passes p at (Prove origin f ∷ jobs) (line.Case symbols) (Prove origin (with_test f test) ∷ Prove origin (with_test f (not_term test)) ∷ jobs)
  restrict_binary : (origin : Origin) (f : Frame) (jobs : List Job) (point : BinaryPoint) (node count : ℕ) (terms : List Term) → IsBinaryPoint p f point node → 1 ≤ count
      → Leaves p origin f (rule.RestrictBinary (mark node count)) terms
      → Passes p at (Prove origin f ∷ jobs) (line.RestrictBinary point count) (map Close terms ++ Prove origin (binary_bounded f (mark node count)) ∷ jobs)
  restrict_source : (origin : Origin) (f : Frame) (jobs : List Job) (point : SourcePoint) (node count : ℕ) (terms : List Term) → IsSourcePoint p f point node → 1 ≤ count
      → Leaves p origin f (rule.RestrictSource (mark node count)) terms
      → Passes p at (Prove origin f ∷ jobs) (line.RestrictSource point count) (map Close terms ++ Prove origin (source_bounded f (mark node count)) ∷ jobs)
  split : (origin : Origin) (f : Frame) (jobs : List Job) (points : Points) (nodes : Nodes) (enter step : Counts) (relations : ℕ) → ArePoints p f points nodes
      → AreCounts enter → AreCounts step → LetsPass f nodes
      → Passes p at (Prove origin f ∷ jobs) (line.Split points enter step relations) (reading p origin f (OfSplit nodes points.source.path enter step) [] relations ++ jobs)
  call : (origin : Origin) (f : Frame) (jobs : List Job) (points : Points) (counts : Counts) (before later : ℕ) (call : Nodes) (binary source : Calling) (callee : Callee)
      → Crosses p f points counts call binary source callee
      → Passes p at (Prove origin f ∷ jobs) (line.Call points counts before later)
      (reading p origin f (OfCall call (landing_of binary source) points.source.path (pair_of binary source) callee before) [] (before + later) ++ jobs)
  relation : (origin : Origin) (f : Frame) (draft : Draft) (lines : List Term) (left : ℕ) (jobs : List Job) (symbols : List Symbol) (t : Term)
      → IsRead f (path_of draft) symbols t → Passes p at (Relate origin f draft lines left ∷ jobs) (line.Relation symbols) (reading p origin f draft (lines ++ t ∷ []) left ++ jobs)
  no_log : (goal : Term) (jobs : List Job) → subterm_count goal ≤ MAX_TERMS → is_truth (normal p.runs goal) ≡ true → Passes p at (Close goal ∷ jobs) (line.Log 0) jobs
  log : (goal : Term) (jobs : List Job) (left : ℕ) → subterm_count goal ≤ MAX_TERMS → (cnf_of (normal p.runs goal)).variables ≤ MAX_VARIABLES
      → Passes p at (Close goal ∷ jobs) (line.Log (suc left)) (InLog at (cnf_of (normal p.runs goal)).variables (cnf_of (normal p.runs goal)).clauses left ∷ jobs)
  step : (offset variables : ℕ) (clauses : List Clause) (left : ℕ) (jobs : List Job) (one : Step) → outcome variables clauses one.literals one.hints ≡ Follows
      → Passes p at (InLog offset variables clauses (suc left) ∷ jobs) (line.LogStep one) (InLog offset variables (clauses ++ one.literals ∷ []) left ∷ jobs)
  last_step : (offset variables : ℕ) (clauses : List Clause) (jobs : List Job) (one : Step) → outcome variables clauses one.literals one.hints ≡ Follows
      → is_empty one.literals ≡ true → Passes p at (InLog offset variables clauses 0 ∷ jobs) (line.LogStep one) jobs

-- ---- lines that fail

-- the first rule that the line breaks, or the limit that comes before it, and the offset of the line that is at fault: this
-- one, or that of the log whose last step it is
pub data Fails (p : Part) (at : ℕ) : List Job → Line → (offset : ℕ) → Fault → Type 0 where
  leaf_cyclic : (origin : Origin) (f : Frame) (jobs : List Job) (logs node : ℕ) → IsCyclicRule (opening p origin) f rule.Leaf node
      → Fails p at (Prove origin f ∷ jobs) (line.Leaf logs) at (Breaks fault.Cyclic)
  leaf_visits : (origin : Origin) (f : Frame) (jobs : List Job) (logs count : ℕ) → ((node : ℕ) → IsCyclicRule (opening p origin) f rule.Leaf node → ⊥)
      → IsLargeRule (opening p origin) f MAX_VISITS rule.Leaf count → Fails p at (Prove origin f ∷ jobs) (line.Leaf logs) at (Above quantity.Visits)
  leaf_logs : (origin : Origin) (f : Frame) (jobs : List Job) (logs : ℕ) (terms : List Term) → Leaves p origin f rule.Leaf terms → logs ≢ length terms
      → Fails p at (Prove origin f ∷ jobs) (line.Leaf logs) at (Breaks fault.Logs)
  case_sort : (origin : Origin) (f : Frame) (jobs : List Job) (symbols : List Symbol) → ((test : Term) → IsRead f f.start.path symbols test → ⊥)
      → Fails p at (Prove origin f ∷ jobs) (line.Case symbols) at (Breaks fault.Sort)
  binary_point : (origin : Origin) (f : Frame) (jobs : List Job) (point : BinaryPoint) (count : ℕ) → ((node : ℕ) → IsBinaryPoint p f point node → ⊥)
      → Fails p at (Prove origin f ∷ jobs) (line.RestrictBinary point count) at (Breaks fault.Point)
  binary_count : (origin : Origin) (f : Frame) (jobs : List Job) (point : BinaryPoint) (node : ℕ) → IsBinaryPoint p f point node
      → Fails p at (Prove origin f ∷ jobs) (line.RestrictBinary point 0) at (Breaks fault.Count)
  binary_cyclic : (origin : Origin) (f : Frame) (jobs : List Job) (point : BinaryPoint) (node count other : ℕ) → IsBinaryPoint p f point node → 1 ≤ count
      → IsCyclicRule (opening p origin) f (rule.RestrictBinary (mark node count)) other → Fails p at (Prove origin f ∷ jobs) (line.RestrictBinary point count) at (Breaks fault.Cyclic)
  binary_visits : (origin : Origin) (f : Frame) (jobs : List Job) (point : BinaryPoint) (node count visits : ℕ) → IsBinaryPoint p f point node → 1 ≤ count
      → ((other : ℕ) → IsCyclicRule (opening p origin) f (rule.RestrictBinary (mark node count)) other → ⊥)
      → IsLargeRule (opening p origin) f MAX_VISITS (rule.RestrictBinary (mark node count)) visits
      → Fails p at (Prove origin f ∷ jobs) (line.RestrictBinary point count) at (Above quantity.Visits)
  source_point : (origin : Origin) (f : Frame) (jobs : List Job) (point : SourcePoint) (count : ℕ) → ((node : ℕ) → IsSourcePoint p f point node → ⊥)
      → Fails p at (Prove origin f ∷ jobs) (line.RestrictSource point count) at (Breaks fault.Point)
  source_count : (origin : Origin) (f : Frame) (jobs : List Job) (point : SourcePoint) (node : ℕ) → IsSourcePoint p f point node
      → Fails p at (Prove origin f ∷ jobs) (line.RestrictSource point 0) at (Breaks fault.Count)
  source_cyclic : (origin : Origin) (f : Frame) (jobs : List Job) (point : SourcePoint) (node count other : ℕ) → IsSourcePoint p f point node → 1 ≤ count
      → IsCyclicRule (opening p origin) f (rule.RestrictSource (mark node count)) other → Fails p at (Prove origin f ∷ jobs) (line.RestrictSource point count) at (Breaks fault.Cyclic)
  source_visits : (origin : Origin) (f : Frame) (jobs : List Job) (point : SourcePoint) (node count visits : ℕ) → IsSourcePoint p f point node → 1 ≤ count
      → ((other : ℕ) → IsCyclicRule (opening p origin) f (rule.RestrictSource (mark node count)) other → ⊥)
      → IsLargeRule (opening p origin) f MAX_VISITS (rule.RestrictSource (mark node count)) visits
      → Fails p at (Prove origin f ∷ jobs) (line.RestrictSource point count) at (Above quantity.Visits)
  split_point : (origin : Origin) (f : Frame) (jobs : List Job) (points : Points) (enter step : Counts) (relations : ℕ) → ((nodes : Nodes) → ArePoints p f points nodes → ⊥)
      → Fails p at (Prove origin f ∷ jobs) (line.Split points enter step relations) at (Breaks fault.Point)
  split_count : (origin : Origin) (f : Frame) (jobs : List Job) (points : Points) (nodes : Nodes) (enter step : Counts) (relations : ℕ) → ArePoints p f points nodes
      → (AreCounts enter → AreCounts step → ⊥) → Fails p at (Prove origin f ∷ jobs) (line.Split points enter step relations) at (Breaks fault.Count)
  split_passed : (origin : Origin) (f : Frame) (jobs : List Job) (points : Points) (nodes : Nodes) (enter step : Counts) (relations : ℕ) → ArePoints p f points nodes
      → AreCounts enter → AreCounts step → (LetsPass f nodes → ⊥) → Fails p at (Prove origin f ∷ jobs) (line.Split points enter step relations) at (Breaks fault.Passed)
  call_point : (origin : Origin) (f : Frame) (jobs : List Job) (points : Points) (counts : Counts) (before later : ℕ)
      → ((call : Nodes) (binary source : Calling) → ArePaired p f points call binary source → ⊥)
      → Fails p at (Prove origin f ∷ jobs) (line.Call points counts before later) at (Breaks fault.Point)
  call_count : (origin : Origin) (f : Frame) (jobs : List Job) (points : Points) (counts : Counts) (before later : ℕ) (call : Nodes) (binary source : Calling)
      → ArePaired p f points call binary source → counts ≢ once → Fails p at (Prove origin f ∷ jobs) (line.Call points counts before later) at (Breaks fault.Count)
  call_callee : (origin : Origin) (f : Frame) (jobs : List Job) (points : Points) (before later : ℕ) (call : Nodes) (binary source : Calling)
      → ArePaired p f points call binary source → ((callee : Callee) → HasPart p source callee → ⊥)
      → Fails p at (Prove origin f ∷ jobs) (line.Call points once before later) at (Breaks fault.Callee)
  call_passed : (origin : Origin) (f : Frame) (jobs : List Job) (points : Points) (before later : ℕ) (call : Nodes) (binary source : Calling) (callee : Callee)
      → ArePaired p f points call binary source → HasPart p source callee → (IsAllowed f (Calls call (landing_of binary source)) → ⊥)
      → Fails p at (Prove origin f ∷ jobs) (line.Call points once before later) at (Breaks fault.Passed)
  relation_sort : (origin : Origin) (f : Frame) (draft : Draft) (lines : List Term) (left : ℕ) (jobs : List Job) (symbols : List Symbol)
      → ((t : Term) → IsRead f (path_of draft) symbols t → ⊥) → Fails p at (Relate origin f draft lines left ∷ jobs) (line.Relation symbols) at (Breaks fault.Sort)
  terms : (goal : Term) (jobs : List Job) (count : ℕ) → MAX_TERMS < subterm_count goal → Fails p at (Close goal ∷ jobs) (line.Log count) at (Above quantity.Terms)
  variables : (goal : Term) (jobs : List Job) (count : ℕ) → subterm_count goal ≤ MAX_TERMS → (is_truth (normal p.runs goal) ≡ true → count ≢ 0)
      → MAX_VARIABLES < (cnf_of (normal p.runs goal)).variables → Fails p at (Close goal ∷ jobs) (line.Log count) at (Above quantity.Variables)
  no_step : (goal : Term) (jobs : List Job) → subterm_count goal ≤ MAX_TERMS → is_truth (normal p.runs goal) ≡ false
      → (cnf_of (normal p.runs goal)).variables ≤ MAX_VARIABLES → Fails p at (Close goal ∷ jobs) (line.Log 0) at (Breaks fault.Unclosed)
  refused : (offset variables : ℕ) (clauses : List Clause) (left : ℕ) (jobs : List Job) (one : Step) (hint : ℕ) (kind : _)
      → outcome variables clauses one.literals one.hints ≡ Refused hint kind
      → Fails p at (InLog offset variables clauses left ∷ jobs) (line.LogStep one) at (Breaks fault.Step)
  unclosed : (offset variables : ℕ) (clauses : List Clause) (jobs : List Job) (one : Step) → outcome variables clauses one.literals one.hints ≡ Follows
      → is_empty one.literals ≡ false → Fails p at (InLog offset variables clauses 0 ∷ jobs) (line.LogStep one) offset (Breaks fault.Unclosed)
