-- A certificate has one verdict at most.
use Rattle.std.proofs.Common.{◌≡◌, ◌≢◌, ◌∙◌, ◌+◌, ℕ, zero, suc, Bool, true, false, List, [], ◌∷◌, ◌++◌, length, map, take, drop, refl, sym, ap, subst, arith, append_assoc}
use Rattle.std.specs.Prelude.{All, Contains}
use Rattle.std.proofs.lemmas.List.Elements.{All-nil, All-cons, All-append, All-contains, All-map}
use Rattle.term_core_spec.specs.Term.{Term, not_term}
use Rattle.proof_tree_spec.specs.Cuts.{once}
use Rattle.proof_tree_spec.specs.Proofs.{BinaryPoint, SourcePoint}
use Rattle.sim_rules_spec.specs.Obligations as rule
use Rattle.sim_rules_spec.specs.Calls.{call_terms}
use Rattle.proof_tree_spec.specs.Scope.{Setting}
use Rattle.proof_tree_spec.specs.Frames.{Frame, with_goal, goal_at, from_cut}
use Rattle.clause_check_spec.specs.Clause.{Clause}
use Rattle.clause_check_spec.specs.Log.{Step as Given}
use Rattle.cert_text_spec.specs.declared.Symbol.{Symbol}
use Rattle.cert_text_spec.specs.Lines.{Line, Header, Function, InlineBinary, InlineSource, Leaf, Case, RestrictBinary, RestrictSource, Split, Call, Relation, Log, LogStep, End, line_text}
use Rattle.cert_text_spec.specs.Certificates.{IsCertificate}
use Rattle.cert_text_laws.specs.Lines.{read_certificate}
use Rattle.cert_text_laws.proofs.Certificates.{only, same_lines, one_fault}
use Rattle.cert_check_terms.specs.Variables.{AreApart}
use Rattle.cert_check_spec.specs.declared.RuleWord.{RuleWord}
use Rattle.cert_check_spec.specs.declared.RuleWord.TheVariants as fault
use Rattle.tv_limits.specs.declared.Quantity.{Quantity}
use Rattle.cert_check_spec.specs.Verdict.{Listed}
use Rattle.cert_check_lines_spec.specs.Sites.{Part, IsBinaryPoint, IsSourcePoint}
use Rattle.cert_check_lines_spec.specs.Jobs.{Origin, AtEntry, AtCut, opening, Draft, OfSplit, OfCall, Job, Prove, Relate, Close, InLog, reading, pair_of, landing_of}
use Rattle.cert_check_lines_spec.specs.LineRules as rules
use Rattle.cert_check_lines_spec.specs.LineRules.{Fault, Breaks, Above as AboveLimit, with_test, binary_bounded, source_bounded, mark, Passes, Fails}
use Rattle.cert_check_lines_spec.specs.Parts as walk
use Rattle.cert_check_lines_spec.specs.Parts.{Functions, Member, Unfolded, unfolded, part_of, State, Between, Unfolding, Inside, HasParts, at_start, at_close, IsFree, LacksPart, Accepts, Rejects}
use Rattle.cert_check_lines_spec.specs.Walk as walks
use Rattle.cert_check_lines_spec.specs.Walk.{Progress, Going, Stopped, before_all, IsInPart, before_proof, in_proof, Takes, TakesAll}
use Rattle.cert_check_lines_spec.specs.Members.{member_of, members_of}
use Rattle.cert_check_lines_spec.specs.Known.{is_known, IsProof, IsFault, IsLimit}
use Rattle.cert_check_lines_spec.proofs.Members.{no_functions}
use Rattle.validity_laws.proofs.Excluded.{one_leaf}
use Rattle.cert_run_spec.specs.Verdict.{Outcome, Unread, Broken, Above, IsOutcome, unread, broken, above, proof}
use Rattle.cert_run_spec.specs.Laws.{AreToldApart, HasOneVerdict}
use Rattle.cert_run_spec.proofs.Apart.{mapped_from}
use Rattle.cert_run_spec.proofs.RuleTerms.{one_binary_restrict, one_source_restrict}
use Rattle.cert_run_spec.proofs.OnePoint.{AreTold, one_binary_point, one_source_point, told_there}
use Rattle.cert_run_spec.proofs.RuleSteps.{one_read, restrict_step, split_step, call_step, relation_step}
use Rattle.cert_run_spec.proofs.Steps.{Step, Goes, Stops, LeafStep, leaves, goes_round, too_many, other_logs, CaseStep, cases, no_test, RestrictStep, SplitStep, CallStep, OnProof, OnGoal, OnLog, OnRelation, log_comes, step_comes, Means, passes_means, fails_means}

one_certificate : (bytes : List ℕ) (one two : List Line) → IsCertificate bytes one → IsCertificate bytes two → one ≡ two
one_certificate bytes one two x y = same_lines one two (read_certificate bytes) (only bytes one x) (only bytes two y)

-- ---- jobs

abbrev under_top : List Job → List Job
under_top [] = []
under_top (job ∷ jobs) = jobs

abbrev frame_in : Frame → List Job → Frame
frame_in other (Prove origin frame ∷ jobs) = frame
frame_in other jobs = other

abbrev origin_in : Origin → List Job → Origin
origin_in other (Prove origin frame ∷ jobs) = origin
origin_in other jobs = other

abbrev goal_in : Term → List Job → Term
goal_in other (Close goal ∷ jobs) = goal
goal_in other jobs = other

abbrev offset_in : List Job → ℕ
offset_in (InLog offset variables clauses left ∷ jobs) = offset
offset_in jobs = 0

abbrev variables_in : List Job → ℕ
variables_in (InLog offset variables clauses left ∷ jobs) = variables
variables_in jobs = 0

abbrev clauses_in : List Job → List Clause
clauses_in (InLog offset variables clauses left ∷ jobs) = clauses
clauses_in jobs = []

abbrev left_in : List Job → ℕ
left_in (InLog offset variables clauses left ∷ jobs) = left
left_in jobs = 0

-- ---- what is kept

-- proofs and relations are of frames with the function's variables
HaveSetting : Setting → List Job → Type 0
HaveSetting s [] = Unit {0}
HaveSetting s (Prove origin frame ∷ jobs) = (frame.setting ≡ s) × HaveSetting s jobs
HaveSetting s (Relate origin frame draft lines left ∷ jobs) = (frame.setting ≡ s) × HaveSetting s jobs
HaveSetting s (Close goal ∷ jobs) = HaveSetting s jobs
HaveSetting s (InLog offset variables clauses left ∷ jobs) = HaveSetting s jobs

logs_good : (s : Setting) (terms : List Term) (jobs : List Job) → HaveSetting s jobs → HaveSetting s (map Close terms ++ jobs)
unfolding HaveSetting
logs_good s [] jobs good = good
logs_good s (t ∷ terms) jobs good = logs_good s terms jobs good

-- what a rule leaves once its lines are read
reading_good : (p : Part) (s : Setting) (origin : Origin) (f : Frame) (draft : Draft) (lines : List Term) (left : ℕ) (jobs : List Job) → f.setting ≡ s → HaveSetting s jobs
    → HaveSetting s (reading p origin f draft lines left ++ jobs)
unfolding HaveSetting
reading_good p s origin f (OfSplit nodes path enter step) lines zero jobs is good = (is, (is, good))
reading_good p s origin f (OfCall call landing path pair callee before) lines zero jobs is good =
    let goals = call_terms p.convention f pair callee (take before lines) (drop before lines) in
    let proofs = Prove origin (with_goal f (goal_at call once (take before lines))) ∷ Prove AtCut (from_cut f landing path (drop before lines)) ∷ [] in
    subst (HaveSetting s) (sym (append_assoc (map Close goals) proofs jobs)) (logs_good s goals (proofs ++ jobs) (is, (is, good)))
reading_good p s origin f draft lines (suc left) jobs is good = (is, good)

passes_good : (p : Part) (at : ℕ) (s : Setting) (jobs : List Job) (line : Line) (more : List Job) → is_known line ≡ true → Passes p at jobs line more → HaveSetting s jobs → HaveSetting s more
unfolding HaveSetting
passes_good p at s _ _ _ known (rules.leaf origin f jobs terms are) good = logs_good s terms jobs good.1
passes_good p at s _ _ _ known (rules.case origin f jobs symbols test is) good = (good.0, (good.0, good.1))
passes_good p at s _ _ _ known (rules.restrict_binary origin f jobs point node count terms is some are) good =
    logs_good s terms (Prove origin (binary_bounded f (mark node count)) ∷ jobs) good
passes_good p at s _ _ _ known (rules.restrict_source origin f jobs point node count terms is some are) good =
    logs_good s terms (Prove origin (source_bounded f (mark node count)) ∷ jobs) good
passes_good p at s _ _ _ known (rules.split origin f jobs points nodes enter step relations are enters steps lets) good =
    reading_good p s origin f (OfSplit nodes points.source.path enter step) [] relations jobs good.0 good.1
passes_good p at s _ _ _ known (rules.call origin f jobs points counts before later call binary source callee crosses) good =
    reading_good p s origin f (OfCall call (landing_of binary source) points.source.path (pair_of binary source) callee before) [] (before + later) jobs good.0 good.1
passes_good p at s _ _ _ known (rules.relation origin f draft lines left jobs symbols t is) good =
    reading_good p s origin f draft (lines ++ t ∷ []) left jobs good.0 good.1
passes_good p at s _ _ _ known (rules.no_log goal jobs small plain) good = good
passes_good p at s _ _ _ known (rules.log goal jobs left small few) good = good
passes_good p at s _ _ _ known (rules.step offset variables clauses left jobs one follows) good = good
passes_good p at s _ _ _ known (rules.last_step offset variables clauses jobs one follows empty) good = good

-- ---- a line inside a part

leaf_step : (p : Part) (at : ℕ) (origin : Origin) (frame : Frame) (below : List Job) (logs : ℕ) (one two : Step) → LeafStep p at origin frame below logs one
    → LeafStep p at origin frame below logs two → one ≡ two
leaf_step p at origin frame below logs _ _ (leaves terms x e) (leaves others y h) =
    ap (λ (t : List Term). Goes (map Close t ++ below)) (one_leaf p.convention (opening p origin) frame terms others x.obligations y.obligations)
leaf_step p at origin frame below logs _ _ (leaves terms x e) (goes_round node is) = absurd (x.acyclic node is)
leaf_step p at origin frame below logs _ _ (leaves terms x e) (too_many count acyclic large) = absurd (x.small count large)
leaf_step p at origin frame below logs _ _ (leaves terms x e) (other_logs others y h) =
    absurd (h (e ∙ ap (λ (t : List Term). length t) (one_leaf p.convention (opening p origin) frame terms others x.obligations y.obligations)))
leaf_step p at origin frame below logs _ _ (goes_round node is) (leaves others y h) = absurd (y.acyclic node is)
leaf_step p at origin frame below logs _ _ (goes_round node is) (goes_round other is2) = refl
leaf_step p at origin frame below logs _ _ (goes_round node is) (too_many count acyclic large) = absurd (acyclic node is)
leaf_step p at origin frame below logs _ _ (goes_round node is) (other_logs others y h) = absurd (y.acyclic node is)
leaf_step p at origin frame below logs _ _ (too_many count acyclic large) (leaves others y h) = absurd (y.small count large)
leaf_step p at origin frame below logs _ _ (too_many count acyclic large) (goes_round node is) = absurd (acyclic node is)
leaf_step p at origin frame below logs _ _ (too_many count acyclic large) (too_many other acyclic2 large2) = refl
leaf_step p at origin frame below logs _ _ (too_many count acyclic large) (other_logs others y h) = absurd (y.small count large)
leaf_step p at origin frame below logs _ _ (other_logs terms x e) (leaves others y h) =
    absurd (e (h ∙ ap (λ (t : List Term). length t) (one_leaf p.convention (opening p origin) frame others terms y.obligations x.obligations)))
leaf_step p at origin frame below logs _ _ (other_logs terms x e) (goes_round node is) = absurd (x.acyclic node is)
leaf_step p at origin frame below logs _ _ (other_logs terms x e) (too_many count acyclic large) = absurd (x.small count large)
leaf_step p at origin frame below logs _ _ (other_logs terms x e) (other_logs others y h) = refl

case_step : (at : ℕ) (origin : Origin) (frame : Frame) (below : List Job) (symbols : List Symbol) (one two : Step) → AreApart frame.setting.bodies
    → CaseStep at origin frame below symbols one → CaseStep at origin frame below symbols two → one ≡ two
case_step at origin frame below symbols _ _ apart (cases test is) (cases other is2) =
    ap (λ (t : Term). Goes (Prove origin (with_test frame t) ∷ Prove origin (with_test frame (not_term t)) ∷ below)) (one_read frame frame.start.path symbols test other apart is is2)
case_step at origin frame below symbols _ _ apart (cases test is) (no_test none) = absurd (none test is)
case_step at origin frame below symbols _ _ apart (no_test none) (cases other is2) = absurd (none other is2)
case_step at origin frame below symbols _ _ apart (no_test none) (no_test again) = refl

-- the same frame is expected
on_proof : (P Q : Origin → Frame → List Job → Type 0) (jobs : List Job) {X : Type 0}
    → ((origin : Origin) (frame : Frame) (below : List Job) → jobs ≡ Prove origin frame ∷ below → P origin frame below → Q origin frame below → X) → OnProof P jobs → OnProof Q jobs → X
on_proof P Q jobs both x y =
    let same : Prove y.origin y.frame ∷ y.below ≡ Prove x.origin x.frame ∷ x.below = sym y.top ∙ x.top in
    let frame_is : y.frame ≡ x.frame = ap (frame_in x.frame) same in
    let origin_is : y.origin ≡ x.origin = ap (origin_in x.origin) same in
    let below_is : y.below ≡ x.below = ap under_top same in
    both x.origin x.frame x.below x.top x.holds
    (subst (λ (origin : Origin). Q origin x.frame x.below) origin_is
    (subst (λ (frame : Frame). Q y.origin frame x.below) frame_is (subst (λ (below : List Job). Q y.origin y.frame below) below_is y.holds)))

on_goal : (p : Part) (at : ℕ) (jobs : List Job) (count : ℕ) (one two : Step) → OnGoal p at jobs count one → OnGoal p at jobs count two → one ≡ two
on_goal p at jobs count one two x y =
    let same : Close x.goal ∷ x.below ≡ Close y.goal ∷ y.below = sym x.top ∙ y.top in
    let goal_is : x.goal ≡ y.goal = ap (goal_in y.goal) same in
    let below_is : x.below ≡ y.below = ap under_top same in
    x.is ∙ ((λ i. log_comes p.runs at (goal_is i) (below_is i) count) ∙ sym y.is)

on_log : (at : ℕ) (jobs : List Job) (l : Given) (one two : Step) → OnLog at jobs l one → OnLog at jobs l two → one ≡ two
on_log at jobs l one two x y =
    let same : InLog x.offset x.variables x.so_far x.left ∷ x.below ≡ InLog y.offset y.variables y.so_far y.left ∷ y.below = sym x.top ∙ y.top in
    x.is
    ∙ ((λ i. step_comes at (ap offset_in same i) (ap variables_in same i) (ap clauses_in same i) (ap left_in same i) (ap under_top same i) l)
    ∙ sym y.is)

top_setting : (s : Setting) (jobs below : List Job) (origin : Origin) (frame : Frame) → HaveSetting s jobs → jobs ≡ Prove origin frame ∷ below → frame.setting ≡ s
unfolding HaveSetting
top_setting s jobs below origin frame good is = (subst (HaveSetting s) is good).0

on_relation : (p : Part) (at : ℕ) (s : Setting) (symbols : List Symbol) (jobs : List Job) (one two : Step) → AreApart s.bodies → HaveSetting s jobs → OnRelation p at symbols one jobs
    → OnRelation p at symbols two jobs → one ≡ two
unfolding HaveSetting
on_relation p at s symbols (Relate origin frame draft lines left ∷ below) one two apart good x y =
    relation_step p at origin frame draft lines left below symbols (subst (λ (t : Setting). AreApart t.bodies) (sym good.0) apart) one two x y
on_relation p at s symbols [] one two apart good x y = absurd x
on_relation p at s symbols (Prove origin frame ∷ below) one two apart good x y = absurd x
on_relation p at s symbols (Close goal ∷ below) one two apart good x y = absurd x
on_relation p at s symbols (InLog offset variables clauses left ∷ below) one two apart good x y = absurd x

abbrev OfBinary : Part → (at : ℕ) → BinaryPoint → (count : ℕ) → Step → Origin → Frame → List Job → Type 0
OfBinary p at point count step origin frame below =
    RestrictStep p at origin frame below (IsBinaryPoint p frame point) (λ node. rule.RestrictBinary (mark node count)) (λ node. binary_bounded frame (mark node count)) count step

abbrev OfSource : Part → (at : ℕ) → SourcePoint → (count : ℕ) → Step → Origin → Frame → List Job → Type 0
OfSource p at point count step origin frame below =
    RestrictStep p at origin frame below (IsSourcePoint p frame point) (λ node. rule.RestrictSource (mark node count)) (λ node. source_bounded frame (mark node count)) count step

-- a line comes to one thing
one_step : (p : Part) (at : ℕ) (s : Setting) (jobs : List Job) (line : Line) (one two : Step) → AreTold p → AreApart s.bodies → HaveSetting s jobs → is_known line ≡ true
    → Means p at jobs line one → Means p at jobs line two → one ≡ two
one_step p at s jobs (Leaf logs) one two told apart good known x y =
    on_proof (λ origin frame below. LeafStep p at origin frame below logs one) (λ origin frame below. LeafStep p at origin frame below logs two) jobs
    (λ origin frame below top a b. leaf_step p at origin frame below logs one two a b) x y
one_step p at s jobs (Case symbols) one two told apart good known x y =
    on_proof (λ origin frame below. CaseStep at origin frame below symbols one) (λ origin frame below. CaseStep at origin frame below symbols two) jobs
    (λ origin frame below top a b.
    case_step at origin frame below symbols one two (subst (λ (t : Setting). AreApart t.bodies) (sym (top_setting s jobs below origin frame good top)) apart) a b) x y
one_step p at s jobs (Log steps) one two told apart good known x y = on_goal p at jobs steps one two x y
one_step p at s jobs (LogStep l) one two told apart good known x y = on_log at jobs l one two x y
one_step p at s jobs (Relation t) one two told apart good known x y = on_relation p at s t jobs one two apart good x y
one_step p at s jobs Header one two told apart good known x y = absurd (cc)
one_step p at s jobs (Function name stack) one two told apart good known x y = absurd (cc)
one_step p at s jobs (InlineBinary point) one two told apart good known x y = absurd (cc)
one_step p at s jobs (InlineSource point) one two told apart good known x y = absurd (cc)
one_step p at s jobs (RestrictBinary point count) one two told apart good known x y =
    on_proof (OfBinary p at point count one) (OfBinary p at point count two) jobs
    (λ origin frame below top a b.
    restrict_step p at origin frame below (IsBinaryPoint p frame point) (λ node. rule.RestrictBinary (mark node count)) (λ node. binary_bounded frame (mark node count)) count
    (one_binary_point p told frame point) (λ node. one_binary_restrict (opening p origin) frame (mark node count)) one two a b) x y
one_step p at s jobs (RestrictSource point count) one two told apart good known x y =
    on_proof (OfSource p at point count one) (OfSource p at point count two) jobs
    (λ origin frame below top a b.
    restrict_step p at origin frame below (IsSourcePoint p frame point) (λ node. rule.RestrictSource (mark node count)) (λ node. source_bounded frame (mark node count)) count
    (one_source_point p told frame point) (λ node. one_source_restrict (opening p origin) frame (mark node count)) one two a b) x y
one_step p at s jobs (Split points enter step relations) one two told apart good known x y =
    on_proof (λ origin frame below. SplitStep p at origin frame below points enter step relations one) (λ origin frame below. SplitStep p at origin frame below points enter step relations two) jobs
    (λ origin frame below top a b. split_step p told at origin frame below points enter step relations one two a b) x y
one_step p at s jobs (Call points counts before later) one two told apart good known x y =
    on_proof (λ origin frame below. CallStep p at origin frame below points counts before later one) (λ origin frame below. CallStep p at origin frame below points counts before later two) jobs
    (λ origin frame below top a b. call_step p told at origin frame below points counts before later one two a b) x y
one_step p at s jobs End one two told apart good known x y = absurd (cc)

-- ---- the functions of parts

one_parts : (s : State) (one two : List Member) → HasParts s one → HasParts s two → one ≡ two
one_parts _ _ _ (at_start parts) (at_start _) = refl
one_parts _ _ _ (at_close parts f u) (at_close _ _ _) = refl

-- ---- the first function that is missing

none_or : (parts : List Listed) (f g : Listed) → f ≡ g → All (λ (other : Listed). other.name ≢ f.name) parts
    → (All (λ (other : Listed). other.name ≢ g.name) parts → ⊥) → ⊥
none_or parts f g same none some = some (subst (λ (h : Listed). All (λ (other : Listed). other.name ≢ h.name) parts) same none)

first_missing : (parts before prior after later : List Listed) (f g : Listed) → before ++ f ∷ after ≡ prior ++ g ∷ later
    → All (λ (other : Listed). other.name ≢ f.name) parts → All (λ (other : Listed). other.name ≢ g.name) parts
    → All (λ (earlier : Listed). All (λ (other : Listed). other.name ≢ earlier.name) parts → ⊥) before
    → All (λ (earlier : Listed). All (λ (other : Listed). other.name ≢ earlier.name) parts → ⊥) prior → f ≡ g
first_missing parts [] [] after later f g e none also x y = cc
first_missing parts [] (b ∷ prior) after later f g e none also x y =
    let same : f ≡ b = cc in absurd (none_or parts f b same none (y 0 b (omega arith)))
first_missing parts (a ∷ before) [] after later f g e none also x y =
    let same : g ≡ a = cc in absurd (none_or parts g a same also (x 0 a (omega arith)))
first_missing parts (a ∷ before) (b ∷ prior) after later f g e none also x y =
    let tails : before ++ f ∷ after ≡ prior ++ g ∷ later = cc in
    first_missing parts before prior after later f g tails none also (λ k d inside. x (suc k) d (omega (arith, inside))) (λ k d inside. y (suc k) d (omega (arith, inside)))

-- ---- a line

-- what it leaves, or what is wrong
data Came : Type 0 where
  To : State → Came
  Wrong : (offset : ℕ) → (name : List ℕ) → Fault → Came

abbrev came_in : (parts : List Member) → Member → Unfolded → Step → Came
came_in parts f u (Goes jobs) = To (Inside parts f u jobs)
came_in parts f u (Stops offset wrong) = Wrong offset f.listed.name wrong

-- the state is inside a part, with these jobs
abbrev InOpen : (List Member → Member → Unfolded → List Job → Type 0) → State → Type 0
InOpen P (Between parts) = ⊥
InOpen P (Unfolding parts f u) = P parts f u (Prove AtEntry u.frame ∷ [])
InOpen P (Inside parts f u jobs) = P parts f u jobs

record InsideCame (fs : Functions) (at : ℕ) (parts : List Member) (f : Member) (u : Unfolded) (jobs : List Job) (line : Line) (came : Came) : Type 0 where
  step : Step
  means : Means (part_of parts f u) at jobs line step
  is : came ≡ came_in parts f u step

-- `function NAME stack N`
data FunctionCame (members : List Member) (at : ℕ) (s : State) (name : List ℕ) (stack : ℕ) : Came → Type 0 where
  begins : (parts : List Member) (f : Member) → HasParts s parts → IsFree members parts name f → stack ≡ f.listed.stack
      → FunctionCame members at s name stack (To (Unfolding parts f (unfolded f)))
  a_stranger : (parts : List Member) → HasParts s parts → ((f : Member) → IsFree members parts name f → ⊥) → FunctionCame members at s name stack (Wrong at name (Breaks fault.Stranger))
  another_stack : (parts : List Member) (f : Member) → HasParts s parts → IsFree members parts name f → stack ≢ f.listed.stack
      → FunctionCame members at s name stack (Wrong at name (Breaks fault.Stack))

-- `end`
data EndCame (members : List Member) (at : ℕ) (s : State) : Came → Type 0 where
  ends : (parts : List Member) → HasParts s parts → ((f : Listed) → LacksPart members parts f → ⊥) → EndCame members at s (To (Between parts))
  lacks : (parts : List Member) (f : Listed) → HasParts s parts → LacksPart members parts f → EndCame members at s (Wrong at f.name (Breaks fault.Missing))

-- what a line of a rule that is checked comes to
abbrev Comes : Functions → (members : List Member) → (at : ℕ) → State → Line → Came → Type 0
Comes fs members at s Header came = (s ≡ Between []) × (came ≡ To (Between []))
Comes fs members at s (Function name stack) came = FunctionCame members at s name stack came
Comes fs members at s End came = EndCame members at s came
Comes fs members at s line came = InOpen (λ parts f u jobs. InsideCame fs at parts f u jobs line came) s

-- a line inside a part
abbrev is_inside : Line → Bool
is_inside Header = false
is_inside (Function name stack) = false
is_inside End = false
is_inside line = true

inside_comes : (fs : Functions) (members : List Member) (at : ℕ) (s : State) (line : Line) (came : Came) → is_inside line ≡ true
    → InOpen (λ parts f u jobs. InsideCame fs at parts f u jobs line came) s → Comes fs members at s line came
inside_comes fs members at s Header came is x = absurd (cc)
inside_comes fs members at s (Function name stack) came is x = absurd (cc)
inside_comes fs members at s (InlineBinary point) came is x = x
inside_comes fs members at s (InlineSource point) came is x = x
inside_comes fs members at s (Leaf logs) came is x = x
inside_comes fs members at s (Case symbols) came is x = x
inside_comes fs members at s (RestrictBinary point count) came is x = x
inside_comes fs members at s (RestrictSource point count) came is x = x
inside_comes fs members at s (Split points enter step relations) came is x = x
inside_comes fs members at s (Call points counts before later) came is x = x
inside_comes fs members at s (Relation t) came is x = x
inside_comes fs members at s (Log steps) came is x = x
inside_comes fs members at s (LogStep l) came is x = x
inside_comes fs members at s End came is x = absurd (cc)

-- lines that pass or fail inside a part are none of the others
module _ (p : Part) (at : ℕ) where
  passes_inside : (jobs : List Job) (line : Line) (more : List Job) → Passes p at jobs line more → is_inside line ≡ true
  passes_inside _ _ _ (rules.leaf origin f jobs terms are) = refl
  passes_inside _ _ _ (rules.case origin f jobs symbols test is) = refl
  passes_inside _ _ _ (rules.restrict_binary origin f jobs point node count terms is some are) = refl
  passes_inside _ _ _ (rules.restrict_source origin f jobs point node count terms is some are) = refl
  passes_inside _ _ _ (rules.split origin f jobs points nodes enter step relations are enters steps lets) = refl
  passes_inside _ _ _ (rules.call origin f jobs points counts before later call binary source callee crosses) = refl
  passes_inside _ _ _ (rules.relation origin f draft lines left jobs symbols t is) = refl
  passes_inside _ _ _ (rules.no_log goal jobs small plain) = refl
  passes_inside _ _ _ (rules.log goal jobs left small few) = refl
  passes_inside _ _ _ (rules.step offset variables clauses left jobs one follows) = refl
  passes_inside _ _ _ (rules.last_step offset variables clauses jobs one follows empty) = refl

  fails_inside : (jobs : List Job) (line : Line) (offset : ℕ) (wrong : Fault) → Fails p at jobs line offset wrong → is_inside line ≡ true
  fails_inside _ _ _ _ (rules.leaf_cyclic origin f jobs logs node is) = refl
  fails_inside _ _ _ _ (rules.leaf_visits origin f jobs logs count acyclic large) = refl
  fails_inside _ _ _ _ (rules.leaf_logs origin f jobs logs terms are apart) = refl
  fails_inside _ _ _ _ (rules.case_sort origin f jobs symbols none) = refl
  fails_inside _ _ _ _ (rules.binary_point origin f jobs point count none) = refl
  fails_inside _ _ _ _ (rules.binary_count origin f jobs point node is) = refl
  fails_inside _ _ _ _ (rules.binary_cyclic origin f jobs point node count other is some cyclic) = refl
  fails_inside _ _ _ _ (rules.binary_visits origin f jobs point node count visits is some acyclic large) = refl
  fails_inside _ _ _ _ (rules.source_point origin f jobs point count none) = refl
  fails_inside _ _ _ _ (rules.source_count origin f jobs point node is) = refl
  fails_inside _ _ _ _ (rules.source_cyclic origin f jobs point node count other is some cyclic) = refl
  fails_inside _ _ _ _ (rules.source_visits origin f jobs point node count visits is some acyclic large) = refl
  fails_inside _ _ _ _ (rules.split_point origin f jobs points enter step relations none) = refl
  fails_inside _ _ _ _ (rules.split_count origin f jobs points nodes enter step relations are bad) = refl
  fails_inside _ _ _ _ (rules.split_passed origin f jobs points nodes enter step relations are enters steps bad) = refl
  fails_inside _ _ _ _ (rules.call_point origin f jobs points counts before later none) = refl
  fails_inside _ _ _ _ (rules.call_count origin f jobs points counts before later call binary source paired bad) = refl
  fails_inside _ _ _ _ (rules.call_callee origin f jobs points before later call binary source paired none) = refl
  fails_inside _ _ _ _ (rules.call_passed origin f jobs points before later call binary source callee paired has bad) = refl
  fails_inside _ _ _ _ (rules.relation_sort origin f draft lines left jobs symbols none) = refl
  fails_inside _ _ _ _ (rules.terms goal jobs count more) = refl
  fails_inside _ _ _ _ (rules.variables goal jobs count small needed more) = refl
  fails_inside _ _ _ _ (rules.no_step goal jobs small plain few) = refl
  fails_inside _ _ _ _ (rules.refused offset variables clauses left jobs one hint kind is) = refl
  fails_inside _ _ _ _ (rules.unclosed offset variables clauses jobs one follows empty) = refl

module _ (fs : Functions) (members : List Member) (at : ℕ) where
  accepts_comes : (s : State) (line : Line) (next : State) → is_known line ≡ true → Accepts fs members at s line next → Comes fs members at s line (To next)
  accepts_comes _ _ _ known walk.header = (refl, refl)
  accepts_comes _ _ _ known (walk.function s parts f has free) = begins parts f has free refl
  accepts_comes _ _ _ known (walk.inline_code parts f u point node callee new calls is small) = absurd (cc)
  accepts_comes _ _ _ known (walk.inline_source parts f u path call node callee new calls is small) = absurd (cc)
  accepts_comes _ _ _ known (walk.first parts f u one jobs passes) =
      inside_comes fs members at (Unfolding parts f u) one (To (Inside parts f u jobs)) (passes_inside (part_of parts f u) at (Prove AtEntry u.frame ∷ []) one jobs passes)
      (record { step = Goes jobs; means = passes_means (part_of parts f u) at (Prove AtEntry u.frame ∷ []) one jobs known passes; is = refl })
  accepts_comes _ _ _ known (walk.next parts f u jobs more one passes) =
      inside_comes fs members at (Inside parts f u jobs) one (To (Inside parts f u more)) (passes_inside (part_of parts f u) at jobs one more passes)
      (record { step = Goes more; means = passes_means (part_of parts f u) at jobs one more known passes; is = refl })
  accepts_comes _ _ _ known (walk.last s parts has none) = ends parts has none

  rejects_comes : (s : State) (line : Line) (offset : ℕ) (name : List ℕ) (wrong : Fault) → is_known line ≡ true → Rejects fs members at s line offset name wrong
      → Comes fs members at s line (Wrong offset name wrong)
  rejects_comes _ _ _ _ _ known (walk.unlisted s parts name stack has none) = a_stranger parts has none
  rejects_comes _ _ _ _ _ known (walk.other_stack s parts name stack f has free apart) = another_stack parts f has free apart
  rejects_comes _ _ _ _ _ known (walk.no_code_call parts f u point none) = absurd (cc)
  rejects_comes _ _ _ _ _ known (walk.code_nodes parts f u point node callee calls more) = absurd (cc)
  rejects_comes _ _ _ _ _ known (walk.no_source_call parts f u point none) = absurd (cc)
  rejects_comes _ _ _ _ _ known (walk.source_nodes parts f u path call node callee calls more) = absurd (cc)
  rejects_comes _ _ _ _ _ known (walk.first_wrong parts f u one offset wrong fails) =
      inside_comes fs members at (Unfolding parts f u) one (Wrong offset f.listed.name wrong) (fails_inside (part_of parts f u) at (Prove AtEntry u.frame ∷ []) one offset wrong fails)
      (record { step = Stops offset wrong; means = fails_means (part_of parts f u) at (Prove AtEntry u.frame ∷ []) one offset wrong known fails; is = refl })
  rejects_comes _ _ _ _ _ known (walk.next_wrong parts f u jobs one offset wrong fails) =
      inside_comes fs members at (Inside parts f u jobs) one (Wrong offset f.listed.name wrong) (fails_inside (part_of parts f u) at jobs one offset wrong fails)
      (record { step = Stops offset wrong; means = fails_means (part_of parts f u) at jobs one offset wrong known fails; is = refl })
  rejects_comes _ _ _ _ _ known (walk.lacking s parts f has is) = lacks parts f has is

-- ---- members that are told apart

record AreApartMembers (members : List Member) : Type 0 where
  by_name : (f g : Member) → Contains members f → Contains members g → f.listed.name ≡ g.listed.name → f ≡ g
  by_number : (f g : Member) → Contains members f → Contains members g → f.number ≡ g.number → f ≡ g
  bodies : All (λ (f : Member). AreApart f.listed.frame.setting.bodies) members

apart_members : (listed : List Listed) → AreToldApart listed → AreApartMembers (members_of listed)
apart_members listed apart = record {
  by_name = λ f g x y same.
      let a = mapped_from member_of listed f x in
      let b = mapped_from member_of listed g y in
      let names : a.0.name ≡ b.0.name = ap (λ (h : Member). h.listed.name) a.2 ∙ (same ∙ sym (ap (λ (h : Member). h.listed.name) b.2)) in
      sym a.2 ∙ (ap member_of (apart.by_name a.0 b.0 a.1 b.1 names) ∙ b.2);
  by_number = λ f g x y same.
      let a = mapped_from member_of listed f x in
      let b = mapped_from member_of listed g y in
      let numbers : a.0.frame.source.outermost ≡ b.0.frame.source.outermost = ap (λ (h : Member). h.number) a.2 ∙ (same ∙ sym (ap (λ (h : Member). h.number) b.2)) in
      sym a.2 ∙ (ap member_of (apart.by_number a.0 b.0 a.1 b.1 numbers) ∙ b.2);
  bodies = All-map (λ (f : Member). AreApart f.listed.frame.setting.bodies) member_of listed apart.bodies;
}

module _ (fs : Functions) (members : List Member) (apart : AreApartMembers members) where
  abbrev AreAmong : List Member → Type 0
  AreAmong parts = All (Contains members) parts

  abbrev IsGood : State → Type 0
  IsGood (Between parts) = AreAmong parts
  IsGood (Unfolding parts f u) = AreAmong parts × Contains members f × (u ≡ unfolded f)
  IsGood (Inside parts f u jobs) = AreAmong parts × Contains members f × (u ≡ unfolded f) × HaveSetting f.listed.frame.setting jobs

  -- the functions of parts are members
  among_parts : (s : State) (parts : List Member) → HasParts s parts → IsGood s → AreAmong parts
  among_parts _ _ (at_start parts) good = good
  among_parts _ _ (at_close parts f u) good =
      All-append (Contains members) parts (f ∷ []) good.0 (All-cons (Contains members) f [] good.1 (All-nil (Contains members)))

  told : (parts : List Member) (f : Member) (u : Unfolded) → AreAmong parts → u ≡ unfolded f → AreTold (part_of parts f u)
  told parts f u among is = subst (λ (w : Unfolded). AreTold (part_of parts f w)) (sym is) (told_there members parts f apart.by_number among)

  one_free : (parts : List Member) (name : List ℕ) (f g : Member) → IsFree members parts name f → IsFree members parts name g → f ≡ g
  one_free parts name f g x y = apart.by_name f g x.is_listed y.is_listed (x.named ∙ sym y.named)

  at_parts : (name : List ℕ) (s : State) (one two : List Member) (f : Member) → HasParts s one → HasParts s two → IsFree members two name f → IsFree members one name f
  at_parts name s one two f x y free = subst (λ (parts : List Member). IsFree members parts name f) (one_parts s two one y x) free

  functions_came : (at : ℕ) (s : State) (name : List ℕ) (stack : ℕ) (one two : Came) → FunctionCame members at s name stack one → FunctionCame members at s name stack two → one ≡ two
  functions_came at s name stack _ _ (begins parts f has x e) (begins others g has2 y h) =
      let f_is = one_free parts name f g x (at_parts name s parts others g has has2 y) in
      (λ i. To (Unfolding (one_parts s parts others has has2 i) (f_is i) (unfolded (f_is i))))
  functions_came at s name stack _ _ (begins parts f has x e) (a_stranger others has2 none) = absurd (none f (at_parts name s others parts f has2 has x))
  functions_came at s name stack _ _ (begins parts f has x e) (another_stack others g has2 y h) =
      absurd (h (e ∙ ap (λ (k : Member). k.listed.stack) (one_free parts name f g x (at_parts name s parts others g has has2 y))))
  functions_came at s name stack _ _ (a_stranger parts has none) (begins others g has2 y h) = absurd (none g (at_parts name s parts others g has has2 y))
  functions_came at s name stack _ _ (a_stranger parts has none) (a_stranger others has2 other) = refl
  functions_came at s name stack _ _ (a_stranger parts has none) (another_stack others g has2 y h) = absurd (none g (at_parts name s parts others g has has2 y))
  functions_came at s name stack _ _ (another_stack parts f has x e) (begins others g has2 y h) =
      absurd (e (h ∙ ap (λ (k : Member). k.listed.stack) (one_free parts name g f (at_parts name s parts others g has has2 y) x)))
  functions_came at s name stack _ _ (another_stack parts f has x e) (a_stranger others has2 none) = absurd (none f (at_parts name s others parts f has2 has x))
  functions_came at s name stack _ _ (another_stack parts f has x e) (another_stack others g has2 y h) = refl

  lacks_at : (s : State) (one two : List Member) (f : Listed) → HasParts s one → HasParts s two → LacksPart members two f → LacksPart members one f
  lacks_at s one two f x y is = subst (λ (parts : List Member). LacksPart members parts f) (one_parts s two one y x) is

  ends_came : (at : ℕ) (s : State) (one two : Came) → EndCame members at s one → EndCame members at s two → one ≡ two
  ends_came at s _ _ (ends parts has none) (ends others has2 again) = ap (λ (l : List Member). To (Between l)) (one_parts s parts others has has2)
  ends_came at s _ _ (ends parts has none) (lacks others f has2 is) = absurd (none f (lacks_at s parts others f has has2 is))
  ends_came at s _ _ (lacks parts f has is) (ends others has2 none) = absurd (none f (lacks_at s others parts f has2 has is))
  ends_came at s _ _ (lacks parts f has is) (lacks others g has2 other) =
      let there = lacks_at s parts others g has has2 other in
      ap (λ (h : Listed). Wrong at h.name (Breaks fault.Missing))
      (first_missing (map (λ (m : Member). m.listed) parts) is.before there.before is.after there.after f g (sym is.cut ∙ there.cut) is.none there.none is.others there.others)

  inside_came : (at : ℕ) (parts : List Member) (f : Member) (u : Unfolded) (jobs : List Job) (line : Line) (one two : Came) → AreTold (part_of parts f u) → Contains members f
      → HaveSetting f.listed.frame.setting jobs → is_known line ≡ true → InsideCame fs at parts f u jobs line one → InsideCame fs at parts f u jobs line two → one ≡ two
  inside_came at parts f u jobs line one two is_told among good known x y =
      x.is
      ∙ (ap (came_in parts f u)
      (one_step (part_of parts f u) at f.listed.frame.setting jobs line x.step y.step is_told
      (All-contains (λ (g : Member). AreApart g.listed.frame.setting.bodies) members f apart.bodies among) good known x.means y.means)
      ∙ sym y.is)

  in_open : (at : ℕ) (s : State) (line : Line) (one two : Came) → IsGood s → is_known line ≡ true → InOpen (λ parts f u jobs. InsideCame fs at parts f u jobs line one) s
      → InOpen (λ parts f u jobs. InsideCame fs at parts f u jobs line two) s → one ≡ two
  unfolding HaveSetting
  in_open at (Between parts) line one two good known x y = absurd x
  in_open at (Unfolding parts f u) line one two good known x y =
      inside_came at parts f u (Prove AtEntry u.frame ∷ []) line one two (told parts f u good.0 good.2) good.1 (ap (λ (w : Unfolded). w.frame.setting) good.2, tt) known x y
  in_open at (Inside parts f u jobs) line one two good known x y = inside_came at parts f u jobs line one two (told parts f u good.0 good.2) good.1 good.3 known x y

  one_came : (at : ℕ) (s : State) (line : Line) (one two : Came) → IsGood s → is_known line ≡ true → Comes fs members at s line one → Comes fs members at s line two → one ≡ two
  one_came at s Header one two good known x y = x.1 ∙ sym y.1
  one_came at s (Function name stack) one two good known x y = functions_came at s name stack one two x y
  one_came at s End one two good known x y = ends_came at s one two x y
  one_came at s (InlineBinary point) one two good known x y = in_open at s (InlineBinary point) one two good known x y
  one_came at s (InlineSource point) one two good known x y = in_open at s (InlineSource point) one two good known x y
  one_came at s (Leaf logs) one two good known x y = in_open at s (Leaf logs) one two good known x y
  one_came at s (Case symbols) one two good known x y = in_open at s (Case symbols) one two good known x y
  one_came at s (RestrictBinary point count) one two good known x y = in_open at s (RestrictBinary point count) one two good known x y
  one_came at s (RestrictSource point count) one two good known x y = in_open at s (RestrictSource point count) one two good known x y
  one_came at s (Split points enter step relations) one two good known x y = in_open at s (Split points enter step relations) one two good known x y
  one_came at s (Call points counts before later) one two good known x y = in_open at s (Call points counts before later) one two good known x y
  one_came at s (Relation t) one two good known x y = in_open at s (Relation t) one two good known x y
  one_came at s (Log steps) one two good known x y = in_open at s (Log steps) one two good known x y
  one_came at s (LogStep l) one two good known x y = in_open at s (LogStep l) one two good known x y

  -- ---- progress

  abbrev state_of : State → Came → State
  state_of other (To s) = s
  state_of other (Wrong offset name wrong) = other

  abbrev offset_of : Came → ℕ
  offset_of (To s) = 0
  offset_of (Wrong offset name wrong) = offset

  abbrev name_of : Came → List ℕ
  name_of (To s) = []
  name_of (Wrong offset name wrong) = name

  abbrev wrong_of : Fault → Came → Fault
  wrong_of other (To s) = other
  wrong_of other (Wrong offset name wrong) = wrong

  abbrev is_to : Came → Bool
  is_to (To s) = true
  is_to (Wrong offset name wrong) = false

  accepts_good : (at : ℕ) (s : State) (line : Line) (next : State) → is_known line ≡ true → Accepts fs members at s line next → IsGood s → IsGood next
  unfolding HaveSetting
  accepts_good at _ _ _ known walk.header good = good
  accepts_good at _ _ _ known (walk.function s parts f has free) good = (among_parts s parts has good, free.is_listed, refl)
  accepts_good at _ _ _ known (walk.inline_code parts f u point node callee new calls is small) good = absurd (cc)
  accepts_good at _ _ _ known (walk.inline_source parts f u path call node callee new calls is small) good = absurd (cc)
  accepts_good at _ _ _ known (walk.first parts f u one jobs passes) good = (
    good.0,
    good.1,
    good.2,
    passes_good (part_of parts f u) at f.listed.frame.setting (Prove AtEntry u.frame ∷ []) one jobs known passes (ap (λ (w : Unfolded). w.frame.setting) good.2, tt),
  )
  accepts_good at _ _ _ known (walk.next parts f u jobs more one passes) good =
      (good.0, good.1, good.2, passes_good (part_of parts f u) at f.listed.frame.setting jobs one more known passes good.3)
  accepts_good at _ _ _ known (walk.last s parts has none) good = among_parts s parts has good

  abbrev IsGoodProgress : Progress → Type 0
  IsGoodProgress (Going at s) = IsGood s
  IsGoodProgress (Stopped offset name wrong) = Unit {0}

  takes_good : (p : Progress) (line : Line) (q : Progress) → Takes fs members is_known p line q → IsGoodProgress p → IsGoodProgress q
  takes_good _ _ _ (walks.goes_on at s middle one known accepts) good = accepts_good at s one middle known accepts good
  takes_good _ _ _ (walks.stops at s one offset name wrong known rejects) good = tt
  takes_good _ _ _ (walks.unknown at s one f part new) good = tt
  takes_good _ _ _ (walks.stays offset name wrong one) good = tt

  both_known : (line : Line) → is_known line ≡ true → is_known line ≡ false → ⊥
  both_known line known new = let both = sym known ∙ new in cc

  one_function : (s : State) (f g : Member) → IsInPart s f → IsInPart s g → f ≡ g
  one_function _ _ _ (before_proof parts f u) (before_proof _ _ _) = refl
  one_function _ _ _ (in_proof parts f u jobs) (in_proof _ _ _ _) = refl

  one_progress : (p : Progress) (line : Line) (q r : Progress) → IsGoodProgress p → Takes fs members is_known p line q → Takes fs members is_known p line r → q ≡ r
  one_progress _ _ _ _ good (walks.goes_on at s middle one known x) (walks.goes_on _ _ other _ known2 y) =
      ap (λ (c : Came). Going (at + length (line_text one)) (state_of middle c))
      (one_came at s one (To middle) (To other) good known (accepts_comes fs members at s one middle known x) (accepts_comes fs members at s one other known y))
  one_progress _ _ _ _ good (walks.goes_on at s middle one known x) (walks.stops _ _ _ offset name wrong known2 y) =
      absurd (let e = ap is_to (one_came at s one (To middle) (Wrong offset name wrong) good known (accepts_comes fs members at s one middle known x)
      (rejects_comes fs members at s one offset name wrong known y)) in cc)
  one_progress _ _ _ _ good (walks.goes_on at s middle one known x) (walks.unknown _ _ _ f part new) = absurd (both_known one known new)
  one_progress _ _ _ _ good (walks.stops at s one offset name wrong known x) (walks.goes_on _ _ other _ known2 y) =
      absurd (let e = ap is_to (one_came at s one (Wrong offset name wrong) (To other) good known (rejects_comes fs members at s one offset name wrong known x)
      (accepts_comes fs members at s one other known y)) in cc)
  one_progress _ _ _ _ good (walks.stops at s one offset name wrong known x) (walks.stops _ _ _ place name2 wrong2 known2 y) =
      ap (λ (c : Came). Stopped (offset_of c) (name_of c) (wrong_of wrong c))
      (one_came at s one (Wrong offset name wrong) (Wrong place name2 wrong2) good known (rejects_comes fs members at s one offset name wrong known x)
      (rejects_comes fs members at s one place name2 wrong2 known y))
  one_progress _ _ _ _ good (walks.stops at s one offset name wrong known x) (walks.unknown _ _ _ f part new) = absurd (both_known one known new)
  one_progress _ _ _ _ good (walks.unknown at s one f part new) (walks.goes_on _ _ other _ known y) = absurd (both_known one known new)
  one_progress _ _ _ _ good (walks.unknown at s one f part new) (walks.stops _ _ _ offset name wrong known y) = absurd (both_known one known new)
  one_progress _ _ _ _ good (walks.unknown at s one f part new) (walks.unknown _ _ _ g part2 new2) =
      ap (λ (m : Member). Stopped at m.listed.name (Breaks fault.Later)) (one_function s f g part part2)
  one_progress _ _ _ _ good (walks.stays offset name wrong one) (walks.stays _ _ _ _) = refl

  one_end : (p q r : Progress) (lines : List Line) → IsGoodProgress p → TakesAll fs members is_known p lines q → TakesAll fs members is_known p lines r → q ≡ r
  one_end p _ _ _ good (walks.no_line _) (walks.no_line _) = refl
  one_end p q r _ good (walks.one_line _ middle _ one lines x rest) (walks.one_line _ other _ _ _ y rest2) =
      let same = one_progress p one other middle good y x in
      one_end middle q r lines (takes_good p one middle x good) rest (subst (λ (m : Progress). TakesAll fs members is_known m lines r) same rest2)

-- ---- the law

abbrev is_going : Progress → Bool
is_going (Going at s) = true
is_going (Stopped offset name wrong) = false

abbrev place_in : Progress → ℕ
place_in (Going at s) = at
place_in (Stopped offset name wrong) = offset

abbrev name_in : Progress → List ℕ
name_in (Going at s) = []
name_in (Stopped offset name wrong) = name

abbrev rule_in : RuleWord → Progress → RuleWord
rule_in other (Stopped offset name (Breaks rule)) = rule
rule_in other p = other

abbrev quantity_in : Quantity → Progress → Quantity
quantity_in other (Stopped offset name (AboveLimit q)) = q
quantity_in other p = other

abbrev is_limit : Progress → Bool
is_limit (Stopped offset name (AboveLimit q)) = true
is_limit p = false

module _ (listed : List Listed) (apart : AreToldApart listed) where
  abbrev Ends : List Line → Progress → Type 0
  Ends lines p = TakesAll no_functions (members_of listed) is_known before_all lines p

  one_of_two : (lines : List Line) (p q : Progress) → Ends lines p → Ends lines q → p ≡ q
  one_of_two lines p q x y = one_end no_functions (members_of listed) (apart_members listed apart) before_all p q lines (All-nil (Contains (members_of listed))) x y

module _ (listed : List Listed) (bytes : List ℕ) (apart : AreToldApart listed) where
  -- how a certificate of these lines ends
  ends_so : (lines others : List Line) (p q : Progress) → IsCertificate bytes lines → IsCertificate bytes others → Ends listed apart lines p → Ends listed apart others q → p ≡ q
  ends_so lines others p q is other x y =
      one_of_two listed apart lines p q x (subst (λ (l : List Line). Ends listed apart l q) (one_certificate bytes others lines other is) y)

  of_proof : (lines : List Line) → IsProof listed lines → (at : ℕ) × (parts : List Member) × Ends listed apart lines (Going at (Between parts))
  of_proof lines proves = proves no_functions

  of_fault : (lines : List Line) (offset : ℕ) (name : List ℕ) (rule : RuleWord) → IsFault listed lines offset name rule → Ends listed apart lines (Stopped offset name (Breaks rule))
  of_fault lines offset name rule faulty = faulty no_functions

  of_limit : (lines : List Line) (offset : ℕ) (q : Quantity) → IsLimit listed lines offset q → (name : List ℕ) × Ends listed apart lines (Stopped offset name (AboveLimit q))
  of_limit lines offset q above_it = above_it no_functions

  one_outcome : (one two : Outcome) → IsOutcome listed bytes one → IsOutcome listed bytes two → one ≡ two
  one_outcome _ _ (unread offset x) (unread place y) = ap Unread (one_fault bytes offset place x y)
  one_outcome _ _ (unread offset x) (broken lines name place rule is y) = absurd (x.none lines is)
  one_outcome _ _ (unread offset x) (above lines place q is y) = absurd (x.none lines is)
  one_outcome _ _ (unread offset x) (proof lines is y) = absurd (x.none lines is)
  one_outcome _ _ (broken lines name place rule is x) (unread offset y) = absurd (y.none lines is)
  one_outcome _ _ (broken lines name place rule is x) (broken others name2 place2 rule2 other y) =
      ap (λ (p : Progress). Broken (name_in p) (place_in p) (rule_in rule p))
      (ends_so lines others (Stopped place name (Breaks rule)) (Stopped place2 name2 (Breaks rule2)) is other (of_fault lines place name rule x) (of_fault others place2 name2 rule2 y))
  one_outcome _ _ (broken lines name place rule is x) (above others place2 q other y) =
      let limit = of_limit others place2 q y in
      absurd (let e = ap is_limit (ends_so lines others (Stopped place name (Breaks rule)) (Stopped place2 limit.0 (AboveLimit q)) is other (of_fault lines place name rule x) limit.1) in cc)
  one_outcome _ _ (broken lines name place rule is x) (proof others other y) =
      let proves = of_proof others y in
      absurd (let e = ap is_going (ends_so lines others (Stopped place name (Breaks rule)) (Going proves.0 (Between proves.1)) is other (of_fault lines place name rule x) proves.2) in cc)
  one_outcome _ _ (above lines place q is x) (unread offset y) = absurd (y.none lines is)
  one_outcome _ _ (above lines place q is x) (broken others name2 place2 rule2 other y) =
      let limit = of_limit lines place q x in
      absurd (let e = ap is_limit (ends_so lines others (Stopped place limit.0 (AboveLimit q)) (Stopped place2 name2 (Breaks rule2)) is other limit.1 (of_fault others place2 name2 rule2 y)) in cc)
  one_outcome _ _ (above lines place q is x) (above others place2 q2 other y) =
      let one = of_limit lines place q x in
      let two = of_limit others place2 q2 y in
      ap (λ (p : Progress). Above (quantity_in q p))
      (ends_so lines others (Stopped place one.0 (AboveLimit q)) (Stopped place2 two.0 (AboveLimit q2)) is other one.1 two.1)
  one_outcome _ _ (above lines place q is x) (proof others other y) =
      let limit = of_limit lines place q x in
      let proves = of_proof others y in
      absurd (let e = ap is_going (ends_so lines others (Stopped place limit.0 (AboveLimit q)) (Going proves.0 (Between proves.1)) is other limit.1 proves.2) in cc)
  one_outcome _ _ (proof lines is x) (unread offset y) = absurd (y.none lines is)
  one_outcome _ _ (proof lines is x) (broken others name2 place2 rule2 other y) =
      let proves = of_proof lines x in
      absurd (let e = ap is_going (ends_so lines others (Going proves.0 (Between proves.1)) (Stopped place2 name2 (Breaks rule2)) is other proves.2 (of_fault others place2 name2 rule2 y)) in cc)
  one_outcome _ _ (proof lines is x) (above others place2 q other y) =
      let proves = of_proof lines x in
      let limit = of_limit others place2 q y in
      absurd (let e = ap is_going (ends_so lines others (Going proves.0 (Between proves.1)) (Stopped place2 limit.0 (AboveLimit q)) is other proves.2 limit.1) in cc)
  one_outcome _ _ (proof lines is x) (proof others other y) = refl

pub one_verdict : HasOneVerdict
one_verdict listed bytes one two apart x y = one_outcome listed bytes apart one two x y
