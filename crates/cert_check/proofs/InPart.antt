-- Lines inside a part, as the definition's walk takes them.
use Rattle.std.proofs.Common.{◌≡◌, ◌∙◌, inl, inr, ℕ, Box, Vec, Global, List, [], ◌∷◌, ◌++◌, length, map, Result, Ok, Err, sym, ap, subst}
use Rattle.std.proofs.lemmas.List.{length-map}
use Rattle.std.proofs.lemmas.Option.{get_or_from_slice_get, slice_get_within}
use Rattle.term_core_spec.specs.Term.{Term, not_term}
use Rattle.term_bank.specs.Nodes.{tree_at, Extends}
use Rattle.proof_tree_spec.specs.Frames.{Frame}
use Rattle.proof_tree_spec.specs.Scope.{IsLine as IsProofLine}
use Rattle.proof_tree.specs.Scope.{setting_of}
use Rattle.sim_rules_spec.specs.Obligations as rule
use Rattle.sim_rules_spec.specs.Obligations.{Rule, HasNoLine}
use Rattle.sim_rules.proofs.Held.{trees_held}
use Rattle.sim_rules_spec.specs.Points.{Convention}
use Rattle.sim_rules_spec.specs.Rules.{Opening, AreOfLeaf}
use Rattle.sim_rules_spec.specs.Sides.{binary_way, source_way}
use Rattle.visit_walk_spec.proofs.Order.{acyclic}
use Rattle.sim_rules.specs.Outcome.{IsRuleFault}
use Rattle.attempt.specs.declared.refusal.Refusal.{Refusal}
use Rattle.attempt.specs.declared.refusal.Refusal.TheVariants.{Fault, NoMemory}
use Rattle.sim_rules_spec.proofs.OnSides.{cyclic_on, large_on}
use Rattle.sim_rules.specs.declared.fault.RuleFault.{RuleFault}
use Rattle.cert_check.specs.declared.fault.PartFault.{PartFault}
use Rattle.cert_check.specs.declared.fault.PartFault.TheVariants.{Broken, Above}
use Rattle.sim_rules.specs.declared.fault.RuleFault.TheVariants as obligation
use Rattle.cert_check_terms.specs.declared.fault.TermFault.TheVariants as term_fault
use Rattle.cert_text_spec.specs.declared.Symbol.{Symbol}
use Rattle.cert_text_spec.specs.Lines.{Line, Leaf, Case}
use Rattle.tv_limits.specs.declared.TheConstants.{MAX_VISITS}
use Rattle.cert_check_spec.specs.declared.RuleWord.TheVariants as fault
use Rattle.tv_limits.specs.declared.Quantity.TheVariants as quantity
use Rattle.cert_check_spec.specs.Terms.{IsTermOf}
use Rattle.cert_check_spec.specs.Verdict as listed
use Rattle.cert_check_lines_spec.specs.Sites.{Part}
use Rattle.cert_check_lines_spec.specs.Jobs as spec
use Rattle.cert_check_lines_spec.specs.LineRules as lines
use Rattle.cert_check_lines_spec.specs.LineRules.{Passes, Fails, with_test}
use Rattle.cert_check_lines_spec.specs.Parts.{Functions, Member, part_of, unfolded}
use Rattle.cert_check_terms.specs.Outcomes.{IsOfLine, IsRead}
use Rattle.cert_check_terms.specs.Variables.{AreApart}
use Rattle.cert_check_jobs.specs.Goals.{AnswersRule}
use Rattle.cert_check_jobs.specs.declared.extra.Extra.{Extra}
use Rattle.cert_check_jobs.specs.declared.jobs.Job.{Job}
use Rattle.cert_check_jobs.specs.declared.jobs.Job.TheVariants.{Prove}
use Rattle.cert_check_frames.specs.declared.listed.Listed.{Listed}
use Rattle.cert_check_frames.specs.Listed.{IsListed, frame_at}
use Rattle.cert_check_jobs.specs.Cuts.{start_seen}
use Rattle.cert_check_jobs.specs.Extras.{Added, added_at, frame_added, opening_at}
use Rattle.cert_check_jobs.specs.Jobs.{logs_last, AreInside, HasBranches}
use Rattle.cert_check.specs.Jobs.{jobs_of, origin_at, start_path}
use Rattle.cert_check.specs.Members.{IsMemberOf}
use Rattle.cert_check.specs.Steps.{Comes, AreGoals, AreGoalsOf, HasRule, IsTestAt, goal_fault_of}
use Rattle.cert_check.proofs.Origins.{cyclic_there, large_there, leaves, never_there}
use Rattle.cert_check.proofs.Pushed.{jobs_top, jobs_logs, branches_jobs, same_jobs}

-- ---- Leaf

module _ (fs : Functions) (parts : List Member) (m : Member) (at : ℕ) (code : Listed) (is : IsMemberOf code m) where
  abbrev f : listed.Listed
  f = m.listed

  abbrev part : Part
  part = part_of parts m (unfolded m)

  -- a Leaf whose frame is first passes, where there are as many logs as obligations
  pub leaf_passes : (old new : List Term) (before below after : List Job) (x : Box Extra Global) (goals : Vec ℕ Global) → Extends old new
      → before ≡ below ++ Prove x ∷ [] → AreInside (length old) below → after ≡ below ++ logs_last goals.items
      → HasRule f.convention (opening_at f (start_seen x.value.cuts.value.start)) (frame_added f.frame (added_at old x.value)) rule.Leaf new goals.items
      → Passes part at (jobs_of old (frame_at code) before) (Leaf (length goals.items)) (jobs_of new (frame_at code) after)
  leaf_passes old new before below after x goals extends first inside now has =
      let frame = frame_added f.frame (added_at old x.value) in
      let rest = jobs_of old (frame_at code) below in
      let was : jobs_of old (frame_at code) before ≡ spec.Prove (origin_at x.value) frame ∷ rest =
      jobs_top old (frame_at code) before below (Prove x) first
      ∙ ap (λ (g : Frame). spec.Prove (origin_at x.value) (frame_added g (added_at old x.value)) ∷ rest) (sym is.listed.frame_is) in
      let are = has.are in
      let terms : map (tree_at new) goals.items ≡ are.terms = trees_held new goals.items are.terms are.held in
      let will : jobs_of new (frame_at code) after ≡ map spec.Close are.terms ++ rest =
      ap (jobs_of new (frame_at code)) now ∙ jobs_logs new (frame_at code) below goals.items
      ∙ ap (λ (jobs : List spec.Job). map spec.Close (map (tree_at new) goals.items) ++ jobs) (same_jobs old new extends (frame_at code) below inside)
      ∙ ap (λ (list : List Term). map spec.Close list ++ rest) terms in
      let count : length are.terms ≡ length goals.items = ap length (sym terms) ∙ length-map goals.items (tree_at new) in
      subst (λ (jobs : List spec.Job). Passes part at jobs (Leaf (length goals.items)) (jobs_of new (frame_at code) after)) (sym was)
      (subst (λ (jobs : List spec.Job). Passes part at (spec.Prove (origin_at x.value) frame ∷ rest) (Leaf (length goals.items)) jobs) (sym will)
      (subst (λ (n : ℕ). Passes part at (spec.Prove (origin_at x.value) frame ∷ rest) (Leaf n) (map spec.Close are.terms ++ rest)) count
      (lines.leaf (origin_at x.value) frame rest are.terms
      (leaves parts m (start_seen x.value.cuts.value.start) frame rule.Leaf are.terms (record { acyclic = has.acyclic; small = has.small; are = are.are })))))

  -- what a line breaks where a proof is first
  pub at_proof : (old : List Term) (before below : List Job) (x : Box Extra Global) (line : Line) (broken : lines.Fault) → before ≡ below ++ Prove x ∷ []
      → Fails part at (spec.Prove (origin_at x.value) (frame_added f.frame (added_at old x.value)) ∷ jobs_of old (frame_at code) below) line at broken
      → Fails part at (jobs_of old (frame_at code) before) line at broken
  at_proof old before below x line broken first fails =
      subst (λ (jobs : List spec.Job). Fails part at jobs line at broken)
      (sym (jobs_top old (frame_at code) before below (Prove x) first
      ∙ ap (λ (g : Frame). spec.Prove (origin_at x.value) (frame_added g (added_at old x.value)) ∷ jobs_of old (frame_at code) below) (sym is.listed.frame_is)))
      fails

  -- ---- Case

  pub case_passes : (old new : List Term) (before below after : List Job) (x : Box Extra Global) (symbols : List Symbol) (test : ℕ) → Extends old new
      → before ≡ below ++ Prove x ∷ [] → AreInside (length old) below → added_at new x.value ≡ added_at old x.value
      → HasBranches below after x.value test → IsTestAt f (start_path f.frame x.value) symbols new (Ok test)
      → Passes part at (jobs_of old (frame_at code) before) (Case symbols) (jobs_of new (frame_at code) after)
  case_passes old new before below after x symbols test extends first inside same has tested =
      let frame = frame_added f.frame (added_at old x.value) in
      let rest = jobs_of old (frame_at code) below in
      let was : jobs_of old (frame_at code) before ≡ spec.Prove (origin_at x.value) frame ∷ rest =
      jobs_top old (frame_at code) before below (Prove x) first
      ∙ ap (λ (g : Frame). spec.Prove (origin_at x.value) (frame_added g (added_at old x.value)) ∷ rest) (sym is.listed.frame_is) in
      let both = λ (g : Frame) (jobs : List spec.Job). spec.Prove (origin_at x.value) (with_test g (tree_at new test)) ∷ spec.Prove (origin_at x.value) (with_test g (not_term (tree_at new test))) ∷ jobs in
      let will : jobs_of new (frame_at code) after ≡ both frame rest =
      branches_jobs new (frame_at code) below after x.value test has
      ∙ ap (λ (added : Added). both (frame_added (frame_at code) added) (jobs_of new (frame_at code) below)) same
      ∙ ap (λ (g : Frame). both (frame_added g (added_at old x.value)) (jobs_of new (frame_at code) below)) (sym is.listed.frame_is)
      ∙ ap (λ (jobs : List spec.Job). both frame jobs) (same_jobs old new extends (frame_at code) below inside) in
      subst (λ (jobs : List spec.Job). Passes part at jobs (Case symbols) (jobs_of new (frame_at code) after)) (sym was)
      (subst (λ (jobs : List spec.Job). Passes part at (spec.Prove (origin_at x.value) frame ∷ rest) (Case symbols) jobs) (sym will)
      (lines.case (origin_at x.value) frame rest symbols (tree_at new test)
      (record { spelled = tested.1.spelled; line = tested.1.line })))

  pub case_fails : (old : List Term) (before below : List Job) (x : Box Extra Global) (symbols : List Symbol) → before ≡ below ++ Prove x ∷ []
      → ((test : Term) → lines.IsRead f.frame (start_path f.frame x.value) symbols test → ⊥) → Fails part at (jobs_of old (frame_at code) before) (Case symbols) at (lines.Breaks fault.Sort)
  case_fails old before below x symbols first none =
      at_proof old before below x (Case symbols) (lines.Breaks fault.Sort) first
      (lines.case_sort (origin_at x.value) (frame_added f.frame (added_at old x.value)) (jobs_of old (frame_at code) below) symbols
      (λ test is_test. none test (record { spelled = is_test.spelled; line = is_test.line })))

  -- what a Case fails for, where its test isn't read
  pub test_fails : (old new : List Term) (before below after : List Job) (x : Box Extra Global) (symbols : List Symbol) (broken : Refusal PartFault) → before ≡ below ++ Prove x ∷ []
      → IsTestAt f (start_path f.frame x.value) symbols new (Err broken) → Comes part at (jobs_of old (frame_at code) before) (jobs_of new (frame_at code) after) (Case symbols) (Err broken)
  test_fails old new before below after x symbols (Fault (Broken fault.Sort)) first none = case_fails old before below x symbols first none
  test_fails old new before below after x symbols NoMemory first none = tt
  test_fails old new before below after x symbols (Fault (Broken fault.Later)) first none = absurd none
  test_fails old new before below after x symbols (Fault (Broken fault.Inline)) first none = absurd none
  test_fails old new before below after x symbols (Fault (Broken fault.Point)) first none = absurd none
  test_fails old new before below after x symbols (Fault (Broken fault.Count)) first none = absurd none
  test_fails old new before below after x symbols (Fault (Broken fault.Callee)) first none = absurd none
  test_fails old new before below after x symbols (Fault (Broken fault.Passed)) first none = absurd none
  test_fails old new before below after x symbols (Fault (Broken fault.Same)) first none = absurd none
  test_fails old new before below after x symbols (Fault (Broken fault.Word)) first none = absurd none
  test_fails old new before below after x symbols (Fault (Broken fault.Stranger)) first none = absurd none
  test_fails old new before below after x symbols (Fault (Broken fault.Stack)) first none = absurd none
  test_fails old new before below after x symbols (Fault (Broken fault.Cyclic)) first none = absurd none
  test_fails old new before below after x symbols (Fault (Broken fault.Logs)) first none = absurd none
  test_fails old new before below after x symbols (Fault (Broken fault.Step)) first none = absurd none
  test_fails old new before below after x symbols (Fault (Broken fault.Unclosed)) first none = absurd none
  test_fails old new before below after x symbols (Fault (Broken fault.Missing)) first none = absurd none
  test_fails old new before below after x symbols (Fault (Above q)) first none = absurd none

  -- ---- why a Leaf fails

  -- where walks have too many visits, none that has to end is cyclic
  never_cyclic : (o : Opening) (frame : Frame) (count : ℕ) → rule.IsLargeRule o frame MAX_VISITS rule.Leaf count → (node : ℕ) → rule.IsCyclicRule o frame rule.Leaf node → ⊥
  never_cyclic o frame count large node cyclic = elim cyclic [
    | inl of_binary ↦ large.0 node of_binary
    | inr of_source ↦ large.1 node of_source.1
  ]

  pub leaf_fails : (old new : List Term) (before below after : List Job) (x : Box Extra Global) (logs : ℕ) (broken : Refusal PartFault) → before ≡ below ++ Prove x ∷ []
      → AreGoals f new (added_at old x.value) rule.Leaf (Err broken)
      → Comes part at (jobs_of old (frame_at code) before) (jobs_of new (frame_at code) after) (Leaf logs) (Err broken)
  leaf_fails old new before below after x logs (Fault (Broken fault.Cyclic)) first has =
      at_proof old before below x (Leaf logs) (lines.Breaks fault.Cyclic) first
      (lines.leaf_cyclic (origin_at x.value) (frame_added f.frame (added_at old x.value)) (jobs_of old (frame_at code) below) logs has.0
      (cyclic_there parts m (start_seen x.value.cuts.value.start) (frame_added f.frame (added_at old x.value)) rule.Leaf has.0 has.1))
  leaf_fails old new before below after x logs (Fault (Above quantity.Visits)) first has =
      let frame = frame_added f.frame (added_at old x.value) in
      let start = start_seen x.value.cuts.value.start in
      at_proof old before below x (Leaf logs) (lines.Above quantity.Visits) first
      (lines.leaf_visits (origin_at x.value) frame (jobs_of old (frame_at code) below) logs has.0
      (never_there parts m start frame rule.Leaf (never_cyclic (opening_at f start) frame has.0 has.1)) (large_there parts m start frame rule.Leaf has.0 has.1))
  leaf_fails old new before below after x logs NoMemory first has = tt
  leaf_fails old new before below after x logs (Fault (Broken fault.Later)) first has = absurd has
  leaf_fails old new before below after x logs (Fault (Broken fault.Inline)) first has = absurd has
  leaf_fails old new before below after x logs (Fault (Broken fault.Point)) first has = absurd has
  leaf_fails old new before below after x logs (Fault (Broken fault.Count)) first has = absurd has
  leaf_fails old new before below after x logs (Fault (Broken fault.Callee)) first has = absurd has
  leaf_fails old new before below after x logs (Fault (Broken fault.Passed)) first has = absurd has
  leaf_fails old new before below after x logs (Fault (Broken fault.Same)) first has = absurd has
  leaf_fails old new before below after x logs (Fault (Broken fault.Word)) first has = absurd has
  leaf_fails old new before below after x logs (Fault (Broken fault.Stranger)) first has = absurd has
  leaf_fails old new before below after x logs (Fault (Broken fault.Stack)) first has = absurd has
  leaf_fails old new before below after x logs (Fault (Broken fault.Sort)) first has = absurd has
  leaf_fails old new before below after x logs (Fault (Broken fault.Logs)) first has = absurd has
  leaf_fails old new before below after x logs (Fault (Broken fault.Step)) first has = absurd has
  leaf_fails old new before below after x logs (Fault (Broken fault.Unclosed)) first has = absurd has
  leaf_fails old new before below after x logs (Fault (Broken fault.Missing)) first has = absurd has
  leaf_fails old new before below after x logs (Fault (Above quantity.Terms)) first has = absurd has
  leaf_fails old new before below after x logs (Fault (Above quantity.Variables)) first has = absurd has
  leaf_fails old new before below after x logs (Fault (Above quantity.Elf)) first has = absurd has
  leaf_fails old new before below after x logs (Fault (Above quantity.C)) first has = absurd has
  leaf_fails old new before below after x logs (Fault (Above quantity.Functions)) first has = absurd has
  leaf_fails old new before below after x logs (Fault (Above quantity.Nodes)) first has = absurd has
  leaf_fails old new before below after x logs (Fault (Above quantity.Certificate)) first has = absurd has
  leaf_fails old new before below after x logs (Fault (Above quantity.Call)) first has = absurd has
  leaf_fails old new before below after x logs (Fault (Above quantity.Steps)) first has = absurd has
  leaf_fails old new before below after x logs (Fault (Above quantity.Known)) first has = absurd has

  -- another number of logs
  pub logs_fail : (old new : List Term) (before below : List Job) (x : Box Extra Global) (logs : ℕ) (goals : Vec ℕ Global) → before ≡ below ++ Prove x ∷ []
      → HasRule f.convention (opening_at f (start_seen x.value.cuts.value.start)) (frame_added f.frame (added_at old x.value)) rule.Leaf new goals.items → (length goals.items ≡ logs → ⊥)
      → Fails part at (jobs_of old (frame_at code) before) (Leaf logs) at (lines.Breaks fault.Logs)
  logs_fail old new before below x logs goals first has other =
      let are = has.are in
      let count : length are.terms ≡ length goals.items = ap length (sym (trees_held new goals.items are.terms are.held)) ∙ length-map goals.items (tree_at new) in
      at_proof old before below x (Leaf logs) (lines.Breaks fault.Logs) first
      (lines.leaf_logs (origin_at x.value) (frame_added f.frame (added_at old x.value)) (jobs_of old (frame_at code) below) logs are.terms
      (leaves parts m (start_seen x.value.cuts.value.start) (frame_added f.frame (added_at old x.value)) rule.Leaf are.terms
      (record { acyclic = has.acyclic; small = has.small; are = are.are }))
      (λ same. other (sym (same ∙ count))))

-- ---- the parts of a line

-- the test that was read
pub test_read : (code : Listed) (f : listed.Listed) → IsListed code f → (path : List ℕ) (symbols : List Symbol) (trees : List Term) (id : ℕ)
    → IsOfLine (setting_of code.setting.now) path symbols trees id → IsTestAt f path symbols trees (Ok id)
test_read code f is path symbols trees id of_line =
    let same : of_line.line ≡ tree_at trees id = sym (get_or_from_slice_get trees id of_line.line _ of_line.held) in (
      slice_get_within trees id of_line.line of_line.held,
      subst (λ (frame : Frame). lines.IsRead frame path symbols (tree_at trees id)) (sym is.frame_is)
          (record {
            spelled = subst (IsTermOf (setting_of code.setting.now) symbols) same of_line.spelled;
            line = subst (IsProofLine (setting_of code.setting.now) path) same of_line.is_line;
          }),
    )

-- there is none
pub no_test : (code : Listed) (f : listed.Listed) → IsListed code f → (path : List ℕ) (symbols : List Symbol) (trees : List Term)
    → IsRead (setting_of code.setting.now) path symbols trees (Err (Fault term_fault.Sort)) → IsTestAt f path symbols trees (Err (Fault (Broken fault.Sort)))
no_test code f is path symbols trees none = λ test is_test.
    let apart = subst (λ (frame : Frame). AreApart frame.setting.bodies) is.frame_is is.apart in
    let here = subst (λ (frame : Frame). lines.IsRead frame path symbols test) is.frame_is is_test in
    none apart test here.spelled here.line

-- why there are no obligations, as the fault of a line
goals_fail : (c : Convention) (o : Opening) (frame : Frame) (r : Rule) (trees : List Term) (error : Refusal RuleFault) → ((index : ℕ) → HasNoLine frame r index → ⊥)
    → IsRuleFault o frame MAX_VISITS r error → AreGoalsOf c o frame r trees (Err (goal_fault_of error))
goals_fail c o frame r trees (Fault (obligation.Sort index)) lines is = absurd (lines index is)
goals_fail c o frame r trees (Fault (obligation.Cyclic side node)) lines is = (node, cyclic_on o frame r side node is)
goals_fail c o frame r trees (Fault (obligation.Large side count)) lines is = (count, large_on o frame MAX_VISITS r side count is)
goals_fail c o frame r trees NoMemory lines is = tt

-- both walks of a Leaf with obligations end
pub leaf_acyclic : (c : Convention) (o : Opening) (frame : Frame) (terms : List Term) → AreOfLeaf c o frame terms → (node : ℕ) → rule.IsCyclicRule o frame rule.Leaf node → ⊥
leaf_acyclic c o frame terms are node cyclic = elim cyclic [
  | inl of_binary ↦ acyclic (binary_way frame o.binary).walk are.binary are.binary_are node of_binary
  | inr of_source ↦ acyclic (source_way frame o.source).walk are.source are.source_are node of_source.1
]

-- a rule whose walks end wherever it has obligations, and which has no line
pub record IsPlainRule (r : Rule) : Type 0 where
  pub acyclic : (c : Convention) (o : Opening) (frame : Frame) (terms : List Term) → rule.AreObligations c o frame r terms → (node : ℕ) → rule.IsCyclicRule o frame r node → ⊥
  pub lines : (frame : Frame) (index : ℕ) → HasNoLine frame r index → ⊥

pub leaf_plain : IsPlainRule rule.Leaf
leaf_plain = record { acyclic = leaf_acyclic; lines = λ frame index is. is }

-- what more there is as it is lent, and the obligations there
module _ (f : listed.Listed) (trees old : List Term) (r : Rule) (plain : IsPlainRule r) (lent x : Extra) (same : lent ≡ x) where
  abbrev frame : Frame
  frame = frame_added f.frame (added_at old x)

  abbrev opens : Opening
  opens = opening_at f (start_seen x.cuts.value.start)

  -- the rule's answer where the frame has that more
  abbrev pub Answers : Extra → Result (Vec ℕ Global) (Refusal RuleFault) → Type 0
  Answers e result = AnswersRule f (opening_at f (start_seen e.cuts.value.start)) (frame_added f.frame (added_at old e)) r trees result

  pub goals_for : (goals : Vec ℕ Global) → Answers lent (Ok goals) → AreGoals f trees (added_at old x) r (Ok goals)
  goals_for goals has =
      let here = subst (λ (e : Extra). Answers e (Ok goals)) same has in
      record { acyclic = plain.acyclic f.convention opens frame here.are.terms here.are.are; small = here.few; are = here.are }

  -- or why there are none
  pub fault_for : (error : Refusal RuleFault) (fault : Refusal PartFault) → fault ≡ goal_fault_of error → Answers lent (Err error)
      → AreGoals f trees (added_at old x) r (Err fault)
  fault_for error fault is broken =
      subst (λ (x : Refusal PartFault). AreGoalsOf f.convention opens frame r trees (Err x)) (sym is)
      (goals_fail f.convention opens frame r trees error (plain.lines frame) (subst (λ (e : Extra). Answers e (Err error)) same broken))
