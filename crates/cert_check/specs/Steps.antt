-- What a line does inside the part of a function.
use Rattle.std.specs.Prelude.{◌≡◌, ℕ, ◌<◌, ◌≤◌, Box, Vec, List, [], ◌∷◌, ◌++◌, length, map, Option, Result, Ok, Err}
use Rattle.std.specs.Global.{Global}
use Rattle.std.specs.HashMap.{get}
use Rattle.term_core_spec.specs.declared.Variable.{Variable}
use Rattle.term_core_spec.specs.Same.{same_variable}
use Rattle.term_core_spec.specs.Term.{Term}
use Rattle.path_cond.specs.States.{IsMapOf}
use Rattle.sim_rules_spec.specs.Points.{Convention}
use Rattle.sim_rules_spec.specs.Rules as rules
use Rattle.sim_rules_terms.specs.declared.points.Opening.{Opening}
use Rattle.proof_tree_spec.specs.Frames.{Frame}
use Rattle.sim_rules_spec.specs.Obligations as rule
use Rattle.sim_rules_spec.specs.Obligations.{Rule, IsCyclicRule, IsLargeRule}
use Rattle.sim_rules.specs.Outcome.{AreObligations, HasFewVisits}
use Rattle.attempt.specs.declared.refusal.Refusal.{Refusal}
use Rattle.attempt.specs.declared.refusal.Refusal.TheVariants.{Fault, NoMemory}
use Rattle.sim_rules.specs.declared.fault.RuleFault.{RuleFault}
use Rattle.cert_check.specs.declared.fault.PartFault.{PartFault}
use Rattle.cert_check.specs.declared.fault.PartFault.TheVariants.{Broken, Above}
use Rattle.sim_rules.specs.declared.fault.RuleFault.TheVariants as obligation
use Rattle.cert_text_spec.specs.declared.Symbol.{Symbol}
use Rattle.cert_text_spec.specs.Lines.{Line}
use Rattle.tv_limits.specs.declared.TheConstants.{MAX_VISITS}
use Rattle.cert_check_spec.specs.declared.RuleWord.TheVariants as fault
use Rattle.tv_limits.specs.declared.Quantity.TheVariants as quantity
use Rattle.cert_check_spec.specs.Verdict as spec
use Rattle.cert_check_lines_spec.specs.Sites.{Part}
use Rattle.cert_check_lines_spec.specs.Jobs as jobs
use Rattle.cert_check_lines_spec.specs.LineRules as lines
use Rattle.cert_check_lines_spec.specs.LineRules.{Passes, Fails, IsRead}
use Rattle.cert_check_lines_spec.specs.Parts.{Functions, Member, part_of, unfolded}
use Rattle.graph_core_spec.specs.declared.Mark.{Mark}
use Rattle.sim_rules_spec.specs.declared.Side.{Side as Which}
use Rattle.sim_rules_spec.specs.declared.Side.TheVariants.{Binary, Source}
use Rattle.cert_check_jobs.specs.declared.extra.Extra.{Extra}
use Rattle.cert_check_jobs.specs.declared.jobs.Job.{Job}
use Rattle.cert_check_jobs.specs.declared.jobs.Job.TheVariants.{Prove, Close}
use Rattle.cert_check_frames.specs.declared.listed.Listed.{Listed}
use Rattle.cert_check_frames.specs.Listed.{IsListed, frame_at, terms_given}
use Rattle.cert_check_jobs.specs.Jobs.{AreInside}
use Rattle.cert_check_jobs.specs.declared.cuts.Cuts.{Cuts}
use Rattle.cert_check_jobs.specs.Cuts.{Site, start_seen}
use Rattle.cert_check_jobs.specs.Extras.{Added, frame_added, opening_at, origin_of, started}
use Rattle.cert_check.specs.Jobs.{jobs_of}
use Rattle.cert_check.specs.Members.{IsMemberOf}
use Rattle.term_bank.specs.Nodes.{tree_at}

-- ---- the bank of a part

-- the maps have the terms of the function's entry
abbrev pub AreOpenedBy : Listed → (trees : List Term) → (binary source : Variable → Option ℕ) → Type 0
AreOpenedBy f trees binary source = IsMapOf trees binary (terms_given f.binary_terms.now) × IsMapOf trees source (terms_given f.source_terms.now)

-- and the jobs' ids are of its bank
pub record IsKeptBy (f : Listed) (trees : List Term) (binary source : Variable → Option ℕ) (jobs : List Job) : Type 0 where
  pub opened : AreOpenedBy f trees binary source
  pub inside : AreInside (length trees) jobs

abbrev pub IsKept : Listed → (trees : List Term) → Opening → List Job → Type 0
IsKept f trees o jobs = IsKeptBy f trees (get same_variable o.binary.now) (get same_variable o.source.now) jobs

-- ---- a line

-- the line, which begins at the offset, breaks no rule, and leaves these jobs; or this is what it breaks
abbrev pub Comes : Part → (at : ℕ) → (before after : List jobs.Job) → Line → Result (Unit {0}) (Refusal PartFault) → Type 0
Comes p at before after line (Ok done) = Passes p at before line after
Comes p at before after line (Err (Fault (Broken broken))) = Fails p at before line at (lines.Breaks broken)
Comes p at before after line (Err (Fault (Above q))) = Fails p at before line at (lines.Above q)
Comes p at before after line (Err NoMemory) = Unit {0}

-- wherever the line begins, and whatever parts are before
abbrev pub IsStep : Listed → (old new : List Term) → (before after : List Job) → Line → Result (Unit {0}) (Refusal PartFault) → Type 0
IsStep code old new before after line result =
    (fs : Functions) (parts : List Member) (f : Member) (at : ℕ) → IsMemberOf code f
    → Comes (part_of parts f (unfolded f)) at (jobs_of old (frame_at code) before) (jobs_of new (frame_at code) after) line result

-- ---- its parts

-- the walks that a rule needs end, with not too many visits, and these are its obligations
pub record IsLeft (c : Convention) (o : rules.Opening) (frame : Frame) (r : Rule) (terms : List Term) : Type 0 where
  pub acyclic : (node : ℕ) → IsCyclicRule o frame r node → ⊥
  pub small : HasFewVisits o frame MAX_VISITS r
  pub are : rule.AreObligations c o frame r terms

-- and these are their ids
pub record HasRule (c : Convention) (o : rules.Opening) (frame : Frame) (r : Rule) (trees : List Term) (goals : List ℕ) : Type 0 where
  pub acyclic : (node : ℕ) → IsCyclicRule o frame r node → ⊥
  pub small : HasFewVisits o frame MAX_VISITS r
  pub are : AreObligations trees c o frame r goals

-- the obligations of a rule at a frame, or why it has none
abbrev pub AreGoalsOf : Convention → rules.Opening → Frame → Rule → List Term → Result (Vec ℕ Global) (Refusal PartFault) → Type 0
AreGoalsOf c o frame r trees (Ok goals) = HasRule c o frame r trees goals.items
AreGoalsOf c o frame r trees (Err (Fault (Broken fault.Cyclic))) = (node : ℕ) × IsCyclicRule o frame r node
AreGoalsOf c o frame r trees (Err (Fault (Broken other))) = ⊥
AreGoalsOf c o frame r trees (Err (Fault (Above quantity.Visits))) = (count : ℕ) × IsLargeRule o frame MAX_VISITS r count
AreGoalsOf c o frame r trees (Err (Fault (Above other))) = ⊥
AreGoalsOf c o frame r trees (Err NoMemory) = Unit {0}

-- where the frame has all that more
abbrev pub AreGoals : spec.Listed → List Term → Added → Rule → Result (Vec ℕ Global) (Refusal PartFault) → Type 0
AreGoals f trees x r result = AreGoalsOf f.convention (opening_at f x.start) (frame_added f.frame x) r trees result

abbrev pub goal_fault_of : Refusal RuleFault → Refusal PartFault
goal_fault_of (Fault (obligation.Sort index)) = Fault (Broken fault.Sort)
goal_fault_of (Fault (obligation.Cyclic side node)) = Fault (Broken fault.Cyclic)
goal_fault_of (Fault (obligation.Large side count)) = Fault (Above quantity.Visits)
goal_fault_of NoMemory = NoMemory

-- the id of the line that the symbols spell in the source body of the path, or there is none
abbrev pub IsTestAt : spec.Listed → (path : List ℕ) → List Symbol → List Term → Result ℕ (Refusal PartFault) → Type 0
IsTestAt f path symbols trees (Ok id) = (id < length trees) × IsRead f.frame path symbols (tree_at trees id)
IsTestAt f path symbols trees (Err (Fault (Broken fault.Sort))) = (test : Term) → IsRead f.frame path symbols test → ⊥
IsTestAt f path symbols trees (Err (Fault (Broken other))) = ⊥
IsTestAt f path symbols trees (Err (Fault (Above q))) = ⊥
IsTestAt f path symbols trees (Err NoMemory) = Unit {0}

abbrev pub IsTested : Listed → (path : List ℕ) → List Symbol → List Term → Result ℕ (Refusal PartFault) → Type 0
IsTested code path symbols trees result = (f : spec.Listed) → IsListed code f → IsTestAt f path symbols trees result

-- in the source body where a frame with these cuts starts
abbrev pub IsTestIn : Listed → Cuts → List Symbol → List Term → Result ℕ (Refusal PartFault) → Type 0
IsTestIn code cuts symbols trees result =
    (f : spec.Listed) → IsListed code f → IsTestAt f (started f.frame (start_seen cuts.start)).path symbols trees result

-- ---- Restrict

-- the rule where a side is restricted, and the frame with the bound in force
abbrev pub rule_on : Which → Mark → Rule
rule_on Binary bound = rule.RestrictBinary bound
rule_on Source bound = rule.RestrictSource bound

abbrev pub bounded_on : Which → Frame → Mark → Frame
bounded_on Binary frame bound = lines.binary_bounded frame bound
bounded_on Source frame bound = lines.source_bounded frame bound

-- a proof of a frame over the same sides comes first, which starts there
pub record ProvesFirst (f : spec.Listed) (all : List jobs.Job) (start : Option Site) (frame : Frame) (rest : List jobs.Job) : Type 0 where
  pub first : all ≡ jobs.Prove (origin_of start) frame ∷ rest
  pub binary : frame.binary ≡ f.frame.binary
  pub source : frame.source ≡ f.frame.source

-- the arrival at a node is excluded: its obligation and then the frame with the bound are left
pub record IsBounded (f : spec.Listed) (side : Which) (bound : Mark) (before after : List jobs.Job) (start : Option Site) (frame : Frame) (rest : List jobs.Job) : Type 0 where
  pub proves : ProvesFirst f before start frame rest
  pub counted : 1 ≤ bound.count
  pub terms : List Term
  pub left : IsLeft f.convention (opening_at f start) frame (rule_on side bound) terms
  pub now : after ≡ map jobs.Close terms ++ jobs.Prove (origin_of start) (bounded_on side frame bound) ∷ rest

-- it is, or this is why not
abbrev pub Bounds : spec.Listed → Which → Mark → (before after : List jobs.Job) → (start : Option Site) → (frame : Frame) → (rest : List jobs.Job) → Result (Unit {0}) (Refusal PartFault) → Type 0
Bounds f side bound before after start frame rest (Ok done) = IsBounded f side bound before after start frame rest
Bounds f side bound before after start frame rest (Err (Fault (Broken fault.Count))) = ProvesFirst f before start frame rest × (bound.count ≡ 0)
Bounds f side bound before after start frame rest (Err (Fault (Broken fault.Cyclic))) =
    ProvesFirst f before start frame rest × (1 ≤ bound.count) × ((node : ℕ) × IsCyclicRule (opening_at f start) frame (rule_on side bound) node)
Bounds f side bound before after start frame rest (Err (Fault (Broken other))) = ⊥
Bounds f side bound before after start frame rest (Err (Fault (Above quantity.Visits))) =
    ProvesFirst f before start frame rest × (1 ≤ bound.count) × ((count : ℕ) × IsLargeRule (opening_at f start) frame MAX_VISITS (rule_on side bound) count)
Bounds f side bound before after start frame rest (Err (Fault (Above other))) = ⊥
Bounds f side bound before after start frame rest (Err NoMemory) = Unit {0}

abbrev pub IsRestricted : Listed → (old new : List Term) → (before after : List Job) → Which → Mark → Result (Unit {0}) (Refusal PartFault) → Type 0
IsRestricted code old new before after side bound result =
    (f : spec.Listed) → IsListed code f
    → (start : Option Site) × (frame : Frame) × (rest : List jobs.Job)
    × Bounds f side bound (jobs_of old (frame_at code) before) (jobs_of new (frame_at code) after) start frame rest result

-- one log and one proof in place of a proof
pub record HasOneLog (before after : List Job) : Type 0 where
  pub below : List Job
  pub old : Box Extra Global
  pub new : Box Extra Global
  pub goal : ℕ
  pub first : before ≡ below ++ Prove old ∷ []
  pub now : after ≡ (below ++ Prove new ∷ []) ++ Close goal ∷ []
