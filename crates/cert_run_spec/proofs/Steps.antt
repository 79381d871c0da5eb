-- What a line inside a part comes to, by the kind of the line.
use Rattle.std.proofs.Common.{◌≡◌, ◌≢◌, ◌∙◌, ℕ, zero, suc, ◌+◌, ◌<◌, ◌≤◌, Bool, true, false, List, [], ◌∷◌, ◌++◌, length, map, refl, sym, ap, nat_le}
use Rattle.std.proofs.lemmas.Bool.{le-leb, lt-leb}
use Rattle.memory_spec.specs.Runs.{Run}
use Rattle.term_core_spec.specs.Term.{Term, not_term}
use Rattle.term_core_spec.specs.Subterms.{subterm_count}
use Rattle.term_norm_spec.specs.Normal.{normal}
use Rattle.proof_tree_spec.specs.declared.Counts.{Counts}
use Rattle.proof_tree_spec.specs.declared.Nodes.{Nodes}
use Rattle.proof_tree_spec.specs.declared.Cut.TheVariants.{Calls}
use Rattle.proof_tree_spec.specs.Cuts.{AreCounts, once}
use Rattle.proof_tree_spec.specs.Proofs.{Points}
use Rattle.proof_tree_spec.specs.Frames.{Frame, LetsPass, IsAllowed}
use Rattle.sim_rules_spec.specs.Obligations.{Rule, IsCyclicRule, IsLargeRule}
use Rattle.sim_rules_spec.specs.Obligations as rule
use Rattle.sim_rules_spec.specs.Calls.{Callee}
use Rattle.tv_limits.specs.declared.TheConstants.{MAX_TERMS, MAX_VARIABLES, MAX_VISITS}
use Rattle.tv_limits.specs.declared.Quantity.TheVariants as quantity
use Rattle.clause_check_spec.specs.Clause.{Clause, Cnf}
use Rattle.clause_check_spec.specs.Log.{Step as Given}
use Rattle.clause_check_spec.specs.Step.{Outcome, Follows, Refused, outcome}
use Rattle.bit_blast_spec.specs.Goal.{cnf_of}
use Rattle.discharge_spec.specs.Closing.{is_empty, is_truth}
use Rattle.cert_text_spec.specs.declared.Symbol.{Symbol}
use Rattle.cert_text_spec.specs.Lines.{Line, Leaf, Case, RestrictBinary, RestrictSource, Split, Call, Relation, Log, LogStep}
use Rattle.cert_check_spec.specs.declared.RuleWord.TheVariants as fault
use Rattle.cert_check_lines_spec.specs.Sites.{Part, IsBinaryPoint, IsSourcePoint, ArePoints, Calling, ArePaired}
use Rattle.cert_check_lines_spec.specs.Jobs.{Origin, opening, Draft, OfSplit, OfCall, path_of, Job, Prove, Relate, Close, InLog, reading, pair_of, landing_of}
use Rattle.cert_check_lines_spec.specs.LineRules as rules
use Rattle.cert_check_lines_spec.specs.LineRules.{Fault, Breaks, Above, IsRead, Leaves, with_test, binary_bounded, source_bounded, mark, HasPart, Crosses, Passes, Fails}
use Rattle.cert_check_lines_spec.specs.Known.{is_known}

-- a line passes and leaves jobs, or fails, at the line at an offset
pub data Step : Type 0 where
  Goes : List Job → Step
  Stops : (offset : ℕ) → Fault → Step

-- ---- rules

-- `leaf N`
pub data LeafStep (p : Part) (at : ℕ) (origin : Origin) (frame : Frame) (below : List Job) (logs : ℕ) : Step → Type 0 where
  leaves : (terms : List Term) → Leaves p origin frame rule.Leaf terms → logs ≡ length terms → LeafStep p at origin frame below logs (Goes (map Close terms ++ below))
  goes_round : (node : ℕ) → IsCyclicRule (opening p origin) frame rule.Leaf node → LeafStep p at origin frame below logs (Stops at (Breaks fault.Cyclic))
  too_many : (count : ℕ) → ((node : ℕ) → IsCyclicRule (opening p origin) frame rule.Leaf node → ⊥) → IsLargeRule (opening p origin) frame MAX_VISITS rule.Leaf count
      → LeafStep p at origin frame below logs (Stops at (Above quantity.Visits))
  other_logs : (terms : List Term) → Leaves p origin frame rule.Leaf terms → logs ≢ length terms → LeafStep p at origin frame below logs (Stops at (Breaks fault.Logs))

-- `case TERM`
pub data CaseStep (at : ℕ) (origin : Origin) (frame : Frame) (below : List Job) (symbols : List Symbol) : Step → Type 0 where
  cases : (test : Term) → IsRead frame frame.start.path symbols test
      → CaseStep at origin frame below symbols (Goes (Prove origin (with_test frame test) ∷ Prove origin (with_test frame (not_term test)) ∷ below))
  no_test : ((test : Term) → IsRead frame frame.start.path symbols test → ⊥) → CaseStep at origin frame below symbols (Stops at (Breaks fault.Sort))

-- `restrict`, at a point of a side: the rule there, and the frame that is left
pub data RestrictStep (p : Part) (at : ℕ) (origin : Origin) (frame : Frame) (below : List Job) (IsPoint : ℕ → Type 0) (r : ℕ → Rule) (bounded : ℕ → Frame) (count : ℕ) : Step → Type 0 where
  restricts : (node : ℕ) (terms : List Term) → IsPoint node → 1 ≤ count → Leaves p origin frame (r node) terms
      → RestrictStep p at origin frame below IsPoint r bounded count (Goes (map Close terms ++ Prove origin (bounded node) ∷ below))
  restricts_nowhere : ((node : ℕ) → IsPoint node → ⊥) → RestrictStep p at origin frame below IsPoint r bounded count (Stops at (Breaks fault.Point))
  restricts_nothing : (node : ℕ) → IsPoint node → count ≡ 0 → RestrictStep p at origin frame below IsPoint r bounded count (Stops at (Breaks fault.Count))
  restricts_cycle : (node other : ℕ) → IsPoint node → 1 ≤ count → IsCyclicRule (opening p origin) frame (r node) other
      → RestrictStep p at origin frame below IsPoint r bounded count (Stops at (Breaks fault.Cyclic))
  restricts_many : (node visits : ℕ) → IsPoint node → 1 ≤ count → ((other : ℕ) → IsCyclicRule (opening p origin) frame (r node) other → ⊥)
      → IsLargeRule (opening p origin) frame MAX_VISITS (r node) visits → RestrictStep p at origin frame below IsPoint r bounded count (Stops at (Above quantity.Visits))

-- `split`
pub data SplitStep (p : Part) (at : ℕ) (origin : Origin) (frame : Frame) (below : List Job) (points : Points) (enter step : Counts) (relations : ℕ) : Step → Type 0 where
  splits : (nodes : Nodes) → ArePoints p frame points nodes → AreCounts enter → AreCounts step → LetsPass frame nodes
      → SplitStep p at origin frame below points enter step relations (Goes (reading p origin frame (OfSplit nodes points.source.path enter step) [] relations ++ below))
  splits_nowhere : ((nodes : Nodes) → ArePoints p frame points nodes → ⊥) → SplitStep p at origin frame below points enter step relations (Stops at (Breaks fault.Point))
  splits_nothing : (nodes : Nodes) → ArePoints p frame points nodes → (AreCounts enter → AreCounts step → ⊥)
      → SplitStep p at origin frame below points enter step relations (Stops at (Breaks fault.Count))
  splits_passed : (nodes : Nodes) → ArePoints p frame points nodes → AreCounts enter → AreCounts step → (LetsPass frame nodes → ⊥)
      → SplitStep p at origin frame below points enter step relations (Stops at (Breaks fault.Passed))

-- `call`
pub data CallStep (p : Part) (at : ℕ) (origin : Origin) (frame : Frame) (below : List Job) (points : Points) (counts : Counts) (before later : ℕ) : Step → Type 0 where
  calls : (call : Nodes) (binary source : Calling) (callee : Callee) → Crosses p frame points counts call binary source callee
      → CallStep p at origin frame below points counts before later
      (Goes (reading p origin frame (OfCall call (landing_of binary source) points.source.path (pair_of binary source) callee before) [] (before + later) ++ below))
  calls_nowhere : ((call : Nodes) (binary source : Calling) → ArePaired p frame points call binary source → ⊥)
      → CallStep p at origin frame below points counts before later (Stops at (Breaks fault.Point))
  calls_often : (call : Nodes) (binary source : Calling) → ArePaired p frame points call binary source → counts ≢ once
      → CallStep p at origin frame below points counts before later (Stops at (Breaks fault.Count))
  calls_unknown : (call : Nodes) (binary source : Calling) → ArePaired p frame points call binary source → counts ≡ once → ((callee : Callee) → HasPart p source callee → ⊥)
      → CallStep p at origin frame below points counts before later (Stops at (Breaks fault.Callee))
  calls_passed : (call : Nodes) (binary source : Calling) (callee : Callee) → ArePaired p frame points call binary source → counts ≡ once → HasPart p source callee
      → (IsAllowed frame (Calls call (landing_of binary source)) → ⊥) → CallStep p at origin frame below points counts before later (Stops at (Breaks fault.Passed))

-- `rel TERM`
pub data RelationStep (p : Part) (at : ℕ) (origin : Origin) (frame : Frame) (draft : Draft) (lines : List Term) (left : ℕ) (below : List Job) (symbols : List Symbol) : Step → Type 0 where
  relates : (t : Term) → IsRead frame (path_of draft) symbols t
      → RelationStep p at origin frame draft lines left below symbols (Goes (reading p origin frame draft (lines ++ t ∷ []) left ++ below))
  no_line : ((t : Term) → IsRead frame (path_of draft) symbols t → ⊥) → RelationStep p at origin frame draft lines left below symbols (Stops at (Breaks fault.Sort))

-- where a proof of a frame is expected
pub record OnProof (P : Origin → Frame → List Job → Type 0) (jobs : List Job) : Type 0 where
  pub origin : Origin
  pub frame : Frame
  pub below : List Job
  pub top : jobs ≡ Prove origin frame ∷ below
  pub holds : P origin frame below

-- ---- logs

abbrev by_clauses : (at : ℕ) → (few : Bool) → Cnf → (below : List Job) → (count : ℕ) → Step
by_clauses at false cnf below count = Stops at (Above quantity.Variables)
by_clauses at true cnf below zero = Stops at (Breaks fault.Unclosed)
by_clauses at true cnf below (suc left) = Goes (InLog at cnf.variables cnf.clauses left ∷ below)

abbrev by_form : (at : ℕ) → (plain few : Bool) → Cnf → (below : List Job) → (count : ℕ) → Step
by_form at true few cnf below zero = Goes below
by_form at true few cnf below (suc left) = by_clauses at few cnf below (suc left)
by_form at false few cnf below count = by_clauses at few cnf below count

abbrev by_size : (at : ℕ) → (small plain few : Bool) → Cnf → (below : List Job) → (count : ℕ) → Step
by_size at false plain few cnf below count = Stops at (Above quantity.Terms)
by_size at true plain few cnf below count = by_form at plain few cnf below count

-- what the line of a log of so many steps comes to
abbrev pub log_comes : List Run → (at : ℕ) → (goal : Term) → (below : List Job) → (count : ℕ) → Step
log_comes runs at goal below count =
    by_size at (nat_le (subterm_count goal) MAX_TERMS) (is_truth (normal runs goal)) (nat_le (cnf_of (normal runs goal)).variables MAX_VARIABLES) (cnf_of (normal runs goal)) below count

abbrev by_last : (at offset : ℕ) → (empty : Bool) → (below : List Job) → Step
by_last at offset true below = Goes below
by_last at offset false below = Stops offset (Breaks fault.Unclosed)

abbrev by_outcome : (at offset variables : ℕ) → (clauses : List Clause) → (left : ℕ) → (below : List Job) → Given → Outcome → Step
by_outcome at offset variables clauses left below one (Refused hint kind) = Stops at (Breaks fault.Step)
by_outcome at offset variables clauses zero below one Follows = by_last at offset (is_empty one.literals) below
by_outcome at offset variables clauses (suc left) below one Follows = Goes (InLog offset variables (clauses ++ one.literals ∷ []) left ∷ below)

-- what a step comes to
abbrev pub step_comes : (at offset variables : ℕ) → (clauses : List Clause) → (left : ℕ) → (below : List Job) → Given → Step
step_comes at offset variables clauses left below one = by_outcome at offset variables clauses left below one (outcome variables clauses one.literals one.hints)

-- where the log of an obligation is expected
pub record OnGoal (p : Part) (at : ℕ) (jobs : List Job) (count : ℕ) (step : Step) : Type 0 where
  pub goal : Term
  pub below : List Job
  pub top : jobs ≡ Close goal ∷ below
  pub is : step ≡ log_comes p.runs at goal below count

-- where a step is
pub record OnLog (at : ℕ) (jobs : List Job) (one : Given) (step : Step) : Type 0 where
  pub offset : ℕ
  pub variables : ℕ
  pub so_far : List Clause
  pub left : ℕ
  pub below : List Job
  pub top : jobs ≡ InLog offset variables so_far left ∷ below
  pub is : step ≡ step_comes at offset variables so_far left below one

-- where a line of a relation is
abbrev pub OnRelation : Part → (at : ℕ) → List Symbol → Step → List Job → Type 0
OnRelation p at symbols step (Relate origin frame draft lines left ∷ below) = RelationStep p at origin frame draft lines left below symbols step
OnRelation p at symbols step jobs = ⊥

-- what a line of a rule that is checked comes to before these jobs
abbrev pub Means : Part → (at : ℕ) → List Job → Line → Step → Type 0
Means p at jobs (Leaf logs) step = OnProof (λ origin frame below. LeafStep p at origin frame below logs step) jobs
Means p at jobs (Case symbols) step = OnProof (λ origin frame below. CaseStep at origin frame below symbols step) jobs
Means p at jobs (Log steps) step = OnGoal p at jobs steps step
Means p at jobs (LogStep one) step = OnLog at jobs one step
Means p at jobs (RestrictBinary point count) step =
    OnProof (λ origin frame below.
    RestrictStep p at origin frame below (IsBinaryPoint p frame point) (λ node. rule.RestrictBinary (mark node count)) (λ node. binary_bounded frame (mark node count)) count step) jobs
Means p at jobs (RestrictSource point count) step =
    OnProof (λ origin frame below.
    RestrictStep p at origin frame below (IsSourcePoint p frame point) (λ node. rule.RestrictSource (mark node count)) (λ node. source_bounded frame (mark node count)) count step) jobs
Means p at jobs (Split points enter step relations) came = OnProof (λ origin frame below. SplitStep p at origin frame below points enter step relations came) jobs
Means p at jobs (Call points counts before later) step = OnProof (λ origin frame below. CallStep p at origin frame below points counts before later step) jobs
Means p at jobs (Relation t) step = OnRelation p at t step jobs
Means p at jobs other step = is_known other ≡ false

-- ---- from the rules

module _ (runs : List Run) (at : ℕ) (goal : Term) (below : List Job) where
  form : Term
  form = normal runs goal

  small_goal : (count : ℕ) → subterm_count goal ≤ MAX_TERMS
      → by_form at (is_truth (normal runs goal)) (nat_le (cnf_of (normal runs goal)).variables MAX_VARIABLES) (cnf_of (normal runs goal)) below count ≡ log_comes runs at goal below count
  small_goal count small =
      ap (λ (b : Bool). by_size at b (is_truth (normal runs goal)) (nat_le (cnf_of (normal runs goal)).variables MAX_VARIABLES) (cnf_of (normal runs goal)) below count)
      (sym (le-leb (subterm_count goal) MAX_TERMS small))

  closes_at : subterm_count goal ≤ MAX_TERMS → is_truth (normal runs goal) ≡ true → Goes below ≡ log_comes runs at goal below 0
  closes_at small plain =
      ap (λ (b : Bool). by_form at b (nat_le (cnf_of (normal runs goal)).variables MAX_VARIABLES) (cnf_of (normal runs goal)) below 0) (sym plain) ∙ small_goal 0 small

  opens_at : (left : ℕ) → subterm_count goal ≤ MAX_TERMS → (cnf_of (normal runs goal)).variables ≤ MAX_VARIABLES
      → Goes (InLog at (cnf_of (normal runs goal)).variables (cnf_of (normal runs goal)).clauses left ∷ below) ≡ log_comes runs at goal below (suc left)
  opens_at left small few =
      ap (λ (b : Bool). by_clauses at b (cnf_of (normal runs goal)) below (suc left)) (sym (le-leb (cnf_of (normal runs goal)).variables MAX_VARIABLES few))
      ∙ (either (is_truth (normal runs goal)) (nat_le (cnf_of (normal runs goal)).variables MAX_VARIABLES)
      ∙ small_goal (suc left) small)
    where
      either : (plain few : Bool) → by_clauses at few (cnf_of (normal runs goal)) below (suc left) ≡ by_form at plain few (cnf_of (normal runs goal)) below (suc left)
      either true few = refl
      either false few = refl

  many_terms : (count : ℕ) → MAX_TERMS < subterm_count goal → Stops at (Above quantity.Terms) ≡ log_comes runs at goal below count
  many_terms count more =
      ap (λ (b : Bool). by_size at b (is_truth (normal runs goal)) (nat_le (cnf_of (normal runs goal)).variables MAX_VARIABLES) (cnf_of (normal runs goal)) below count)
      (sym (lt-leb (subterm_count goal) MAX_TERMS more))

  many_variables : (count : ℕ) → subterm_count goal ≤ MAX_TERMS → (is_truth (normal runs goal) ≡ true → count ≢ 0) → MAX_VARIABLES < (cnf_of (normal runs goal)).variables
      → Stops at (Above quantity.Variables) ≡ log_comes runs at goal below count
  many_variables count small needed more =
      ap (λ (b : Bool). by_clauses at b (cnf_of (normal runs goal)) below count) (sym (lt-leb (cnf_of (normal runs goal)).variables MAX_VARIABLES more))
      ∙ (either count (is_truth (normal runs goal)) (nat_le (cnf_of (normal runs goal)).variables MAX_VARIABLES) needed
      ∙ small_goal count small)
    where
      either : (count : ℕ) (plain few : Bool) → (plain ≡ true → count ≢ 0)
          → by_clauses at few (cnf_of (normal runs goal)) below count ≡ by_form at plain few (cnf_of (normal runs goal)) below count
      either zero true few needed = absurd (needed refl refl)
      either (suc left) true few needed = refl
      either count false few needed = refl

  no_step_at : subterm_count goal ≤ MAX_TERMS → is_truth (normal runs goal) ≡ false → (cnf_of (normal runs goal)).variables ≤ MAX_VARIABLES
      → Stops at (Breaks fault.Unclosed) ≡ log_comes runs at goal below 0
  no_step_at small plain few =
      ap (λ (b : Bool). by_clauses at b (cnf_of (normal runs goal)) below 0) (sym (le-leb (cnf_of (normal runs goal)).variables MAX_VARIABLES few))
      ∙ (ap (λ (b : Bool). by_form at b (nat_le (cnf_of (normal runs goal)).variables MAX_VARIABLES) (cnf_of (normal runs goal)) below 0) (sym plain) ∙ small_goal 0 small)

module _ (p : Part) (at : ℕ) where
  pub passes_means : (jobs : List Job) (line : Line) (more : List Job) → is_known line ≡ true → Passes p at jobs line more → Means p at jobs line (Goes more)
  passes_means _ _ _ known (rules.leaf origin f jobs terms are) = record { origin = origin; frame = f; below = jobs; top = refl; holds = leaves terms are refl }
  passes_means _ _ _ known (rules.case origin f jobs symbols test is) = record { origin = origin; frame = f; below = jobs; top = refl; holds = cases test is }
  passes_means _ _ _ known (rules.restrict_binary origin f jobs point node count terms is some are) =
      record { origin = origin; frame = f; below = jobs; top = refl; holds = restricts node terms is some are }
  passes_means _ _ _ known (rules.restrict_source origin f jobs point node count terms is some are) =
      record { origin = origin; frame = f; below = jobs; top = refl; holds = restricts node terms is some are }
  passes_means _ _ _ known (rules.split origin f jobs points nodes enter step relations are enters steps lets) =
      record { origin = origin; frame = f; below = jobs; top = refl; holds = splits nodes are enters steps lets }
  passes_means _ _ _ known (rules.call origin f jobs points counts before later call binary source callee crosses) =
      record { origin = origin; frame = f; below = jobs; top = refl; holds = calls call binary source callee crosses }
  passes_means _ _ _ known (rules.relation origin f draft lines left jobs symbols t is) = relates t is
  passes_means _ _ _ known (rules.no_log goal jobs small plain) = record { goal = goal; below = jobs; top = refl; is = closes_at p.runs at goal jobs small plain }
  passes_means _ _ _ known (rules.log goal jobs left small few) = record { goal = goal; below = jobs; top = refl; is = opens_at p.runs at goal jobs left small few }
  passes_means _ _ _ known (rules.step offset variables clauses left jobs one follows) = record {
    offset = offset;
    variables = variables;
    so_far = clauses;
    left = suc left;
    below = jobs;
    top = refl;
    is = ap (by_outcome at offset variables clauses (suc left) jobs one) (sym follows);
  }
  passes_means _ _ _ known (rules.last_step offset variables clauses jobs one follows empty) = record {
    offset = offset;
    variables = variables;
    so_far = clauses;
    left = 0;
    below = jobs;
    top = refl;
    is = ap (λ (b : Bool). by_last at offset b jobs) (sym empty) ∙ ap (by_outcome at offset variables clauses 0 jobs one) (sym follows);
  }

  pub fails_means : (jobs : List Job) (line : Line) (offset : ℕ) (wrong : Fault) → is_known line ≡ true → Fails p at jobs line offset wrong → Means p at jobs line (Stops offset wrong)
  fails_means _ _ _ _ known (rules.leaf_cyclic origin f jobs logs node is) = record { origin = origin; frame = f; below = jobs; top = refl; holds = goes_round node is }
  fails_means _ _ _ _ known (rules.leaf_visits origin f jobs logs count acyclic large) =
      record { origin = origin; frame = f; below = jobs; top = refl; holds = too_many count acyclic large }
  fails_means _ _ _ _ known (rules.leaf_logs origin f jobs logs terms are apart) = record { origin = origin; frame = f; below = jobs; top = refl; holds = other_logs terms are apart }
  fails_means _ _ _ _ known (rules.case_sort origin f jobs symbols none) = record { origin = origin; frame = f; below = jobs; top = refl; holds = no_test none }
  fails_means _ _ _ _ known (rules.binary_point origin f jobs point count none) =
      record { origin = origin; frame = f; below = jobs; top = refl; holds = restricts_nowhere none }
  fails_means _ _ _ _ known (rules.binary_count origin f jobs point node is) =
      record { origin = origin; frame = f; below = jobs; top = refl; holds = restricts_nothing node is refl }
  fails_means _ _ _ _ known (rules.binary_cyclic origin f jobs point node count other is some cyclic) =
      record { origin = origin; frame = f; below = jobs; top = refl; holds = restricts_cycle node other is some cyclic }
  fails_means _ _ _ _ known (rules.binary_visits origin f jobs point node count visits is some acyclic large) =
      record { origin = origin; frame = f; below = jobs; top = refl; holds = restricts_many node visits is some acyclic large }
  fails_means _ _ _ _ known (rules.source_point origin f jobs point count none) =
      record { origin = origin; frame = f; below = jobs; top = refl; holds = restricts_nowhere none }
  fails_means _ _ _ _ known (rules.source_count origin f jobs point node is) =
      record { origin = origin; frame = f; below = jobs; top = refl; holds = restricts_nothing node is refl }
  fails_means _ _ _ _ known (rules.source_cyclic origin f jobs point node count other is some cyclic) =
      record { origin = origin; frame = f; below = jobs; top = refl; holds = restricts_cycle node other is some cyclic }
  fails_means _ _ _ _ known (rules.source_visits origin f jobs point node count visits is some acyclic large) =
      record { origin = origin; frame = f; below = jobs; top = refl; holds = restricts_many node visits is some acyclic large }
  fails_means _ _ _ _ known (rules.split_point origin f jobs points enter step relations none) =
      record { origin = origin; frame = f; below = jobs; top = refl; holds = splits_nowhere none }
  fails_means _ _ _ _ known (rules.split_count origin f jobs points nodes enter step relations are bad) =
      record { origin = origin; frame = f; below = jobs; top = refl; holds = splits_nothing nodes are bad }
  fails_means _ _ _ _ known (rules.split_passed origin f jobs points nodes enter step relations are enters steps bad) =
      record { origin = origin; frame = f; below = jobs; top = refl; holds = splits_passed nodes are enters steps bad }
  fails_means _ _ _ _ known (rules.call_point origin f jobs points counts before later none) =
      record { origin = origin; frame = f; below = jobs; top = refl; holds = calls_nowhere none }
  fails_means _ _ _ _ known (rules.call_count origin f jobs points counts before later call binary source paired bad) =
      record { origin = origin; frame = f; below = jobs; top = refl; holds = calls_often call binary source paired bad }
  fails_means _ _ _ _ known (rules.call_callee origin f jobs points before later call binary source paired none) =
      record { origin = origin; frame = f; below = jobs; top = refl; holds = calls_unknown call binary source paired refl none }
  fails_means _ _ _ _ known (rules.call_passed origin f jobs points before later call binary source callee paired has bad) =
      record { origin = origin; frame = f; below = jobs; top = refl; holds = calls_passed call binary source callee paired refl has bad }
  fails_means _ _ _ _ known (rules.relation_sort origin f draft lines left jobs symbols none) = no_line none
  fails_means _ _ _ _ known (rules.terms goal jobs count more) = record { goal = goal; below = jobs; top = refl; is = many_terms p.runs at goal jobs count more }
  fails_means _ _ _ _ known (rules.variables goal jobs count small needed more) =
      record { goal = goal; below = jobs; top = refl; is = many_variables p.runs at goal jobs count small needed more }
  fails_means _ _ _ _ known (rules.no_step goal jobs small plain few) = record { goal = goal; below = jobs; top = refl; is = no_step_at p.runs at goal jobs small plain few }
  fails_means _ _ _ _ known (rules.refused offset variables clauses left jobs one hint kind is) = record {
    offset = offset;
    variables = variables;
    so_far = clauses;
    left = left;
    below = jobs;
    top = refl;
    is = ap (by_outcome at offset variables clauses left jobs one) (sym is);
  }
  fails_means _ _ _ _ known (rules.unclosed offset variables clauses jobs one follows empty) = record {
    offset = offset;
    variables = variables;
    so_far = clauses;
    left = 0;
    below = jobs;
    top = refl;
    is = ap (λ (b : Bool). by_last at offset b jobs) (sym empty) ∙ ap (by_outcome at offset variables clauses 0 jobs one) (sym follows);
  }
