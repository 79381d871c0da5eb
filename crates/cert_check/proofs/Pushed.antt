-- Jobs, as the bank grows and as they are put on top.
use Rattle.std.proofs.Common.{◌≡◌, ◌∙◌, ℕ, ◌<◌, ◌≤◌, true, false, List, [], ◌∷◌, ◌++◌, length, map, Option, refl, sym, ap, ap₂, subst, arith, append_assoc, append-nil}
use Rattle.std.specs.Prelude.{All}
use Rattle.std.proofs.lemmas.List.Elements.{All-nil, All-cons, All-append, All-head, All-tail, All-weaker}
use Rattle.term_core_spec.specs.Term.{Term, not_term}
use Rattle.term_bank.specs.Nodes.{tree_at, Extends}
use Rattle.path_cond.proofs.Banks as banks
use Rattle.proof_tree_spec.specs.Frames.{Frame, Goal, goal_at}
use Rattle.cert_check_lines_spec.specs.Jobs as spec
use Rattle.cert_check_lines_spec.specs.Jobs.{Origin, AtEntry}
use Rattle.cert_check_lines_spec.specs.LineRules.{binary_bounded, source_bounded, with_test}
use Rattle.cert_check_frames.specs.declared.jobs.Branch.{Branch}
use Rattle.cert_check_jobs.specs.declared.jobs.Job.{Job}
use Rattle.cert_check_jobs.specs.declared.jobs.Job.TheVariants.{Prove, Relate, Close}
use Rattle.cert_check_frames.specs.Jobs.{premise_of, premise_at, premises_at, AreBelow}
use Rattle.cert_check_jobs.specs.declared.extra.Extra.{Extra}
use Rattle.cert_check_jobs.specs.Cuts.{AreGoalsBelow, AreIds, GoalSeen, Seen, Site, goals_in, goals_seen, lines_at, no_cut, seen, start_seen}
use Rattle.cert_check_jobs.specs.Extras.{Added, added_at, frame_added, origin_of, started, HasBinaryBound, HasNothing, HasPremise, HasSourceBound, IsBelow}
use Rattle.cert_check_jobs.specs.Jobs.{logs_last, IsInside, AreInside, HasBranches}
use Rattle.graph_core_spec.specs.declared.Mark.{Mark}
use Rattle.cert_check.specs.Jobs.{draft_of, job_of, stacked, jobs_of, origin_at}

-- ---- the top

module _ (trees : List Term) (f : Frame) where
  pub stacked_top : (below : List spec.Job) (jobs : List Job) (job : Job) → stacked trees f below (jobs ++ job ∷ []) ≡ job_of trees f job ∷ stacked trees f below jobs
  unfolding stacked
  stacked_top below [] job = refl
  stacked_top below (j ∷ jobs) job = stacked_top (job_of trees f j ∷ below) jobs job

  pub no_jobs : jobs_of trees f [] ≡ []
  unfolding stacked
  no_jobs = refl

  -- the jobs are these below and one on top
  pub jobs_top : (all below : List Job) (job : Job) → all ≡ below ++ job ∷ [] → jobs_of trees f all ≡ job_of trees f job ∷ jobs_of trees f below
  jobs_top all below job is = ap (jobs_of trees f) is ∙ stacked_top [] below job

  -- the logs of obligations, in their order
  pub jobs_logs : (below : List Job) (goals : List ℕ) → jobs_of trees f (below ++ logs_last goals) ≡ map spec.Close (map (tree_at trees) goals) ++ jobs_of trees f below
  unfolding logs_last
  jobs_logs below [] = ap (jobs_of trees f) (append-nil below)
  jobs_logs below (g ∷ goals) =
      ap (jobs_of trees f) (sym (append_assoc below (logs_last goals) (Close g ∷ [])))
      ∙ stacked_top [] (below ++ logs_last goals) (Close g)
      ∙ ap (λ (jobs : List spec.Job). spec.Close (tree_at trees g) ∷ jobs) (jobs_logs below goals)

-- ---- frames with more

module _ (trees : List Term) (f : Frame) where
  one_premise : (premises : List Branch) (b : Branch) → premises_at trees (premises ++ b ∷ []) ≡ premises_at trees premises ++ premise_at trees b ∷ []
  one_premise [] b = refl
  one_premise (c ∷ premises) b = ap (λ (terms : List Term). premise_at trees c ∷ terms) (one_premise premises b)

  -- the frame with these cuts, premises and bounds
  abbrev pub by : Seen → List Term → (binary source : List Mark) → Frame
  by cuts premises binary source = frame_added f (record { start = cuts.start; premises = premises; binary = binary; source = source; goals = goals_in trees cuts.goals })

  pub same_by : (x : Extra) (cuts : Seen) (premises : List Term) (binary source : List Mark) → seen x.cuts.value ≡ cuts → premises_at trees x.premises.items ≡ premises
      → x.binary_bounds.items ≡ binary → x.source_bounds.items ≡ source → frame_added f (added_at trees x) ≡ by cuts premises binary source
  same_by x cuts premises binary source cuts_are premises_are binary_are source_are =
      ap₂ (λ (s : Seen) (terms : List Term). by s terms x.binary_bounds.items x.source_bounds.items) cuts_are premises_are
      ∙ ap₂ (λ (b c : List Mark). by cuts premises b c) binary_are source_are

  -- one premise more is a test more, and one bound more is that bound
  pub with_branch : (x : Extra) (b : Branch) (more : Extra) → HasPremise x b more → frame_added f (added_at trees more) ≡ with_test (frame_added f (added_at trees x)) (premise_at trees b)
  with_branch x b more has =
      let s = started f (start_seen x.cuts.value.start) in
      let goals = f.goals ++ goals_in trees (goals_seen x.cuts.value.goals.items) in
      same_by more (seen x.cuts.value) (premises_at trees x.premises.items ++ premise_at trees b ∷ []) x.binary_bounds.items x.source_bounds.items has.cuts
      (ap (premises_at trees) has.premises ∙ one_premise x.premises.items b) has.binary has.source
      ∙ ap (λ (premises : List Term). record f {
        start = record s { premises = premises; binary_bounds = s.binary_bounds ++ x.binary_bounds.items; source_bounds = s.source_bounds ++ x.source_bounds.items };
        goals = goals;
      }) (sym (append_assoc s.premises (premises_at trees x.premises.items) (premise_at trees b ∷ [])))

  pub with_binary : (x : Extra) (bound : Mark) (more : Extra) → HasBinaryBound x bound more → frame_added f (added_at trees more) ≡ binary_bounded (frame_added f (added_at trees x)) bound
  with_binary x bound more has =
      let s = started f (start_seen x.cuts.value.start) in
      let goals = f.goals ++ goals_in trees (goals_seen x.cuts.value.goals.items) in
      same_by more (seen x.cuts.value) (premises_at trees x.premises.items) (x.binary_bounds.items ++ bound ∷ []) x.source_bounds.items has.cuts
      (ap (premises_at trees) has.premises) has.binary has.source
      ∙ ap (λ (binary : List Mark). record f {
        start = record s { premises = s.premises ++ premises_at trees x.premises.items; binary_bounds = binary; source_bounds = s.source_bounds ++ x.source_bounds.items };
        goals = goals;
      }) (sym (append_assoc s.binary_bounds x.binary_bounds.items (bound ∷ [])))

  pub with_source : (x : Extra) (bound : Mark) (more : Extra) → HasSourceBound x bound more → frame_added f (added_at trees more) ≡ source_bounded (frame_added f (added_at trees x)) bound
  with_source x bound more has =
      let s = started f (start_seen x.cuts.value.start) in
      let goals = f.goals ++ goals_in trees (goals_seen x.cuts.value.goals.items) in
      same_by more (seen x.cuts.value) (premises_at trees x.premises.items) x.binary_bounds.items (x.source_bounds.items ++ bound ∷ []) has.cuts
      (ap (premises_at trees) has.premises) has.binary has.source
      ∙ ap (λ (source : List Mark). record f {
        start = record s { premises = s.premises ++ premises_at trees x.premises.items; binary_bounds = s.binary_bounds ++ x.binary_bounds.items; source_bounds = source };
        goals = goals;
      }) (sym (append_assoc s.source_bounds x.source_bounds.items (bound ∷ [])))

  -- nothing more
  pub with_none : (x : Extra) → HasNothing x → frame_added f (added_at trees x) ≡ f
  with_none x has =
      same_by x no_cut [] [] [] has.cuts (ap (premises_at trees) has.premises) has.binary has.source
      ∙ ap₂ (λ (premises : List Term) (goals : List Goal). record f {
        start = record f.start { premises = premises; binary_bounds = f.start.binary_bounds ++ []; source_bounds = f.start.source_bounds ++ [] };
        goals = goals;
      }) (append-nil f.start.premises) (append-nil f.goals)
      ∙ ap₂ (λ (binary source : List Mark). record f { start = record f.start { binary_bounds = binary; source_bounds = source } })
      (append-nil f.start.binary_bounds) (append-nil f.start.source_bounds)

pub nothing_starts : (x : Extra) → HasNothing x → origin_at x ≡ AtEntry
nothing_starts x has = ap (λ (s : Seen). origin_of s.start) has.cuts

-- ---- a bank that grows

module _ (before now : List Term) (extends : Extends before now) where
  same_tree : (id : ℕ) → id < length before → tree_at now id ≡ tree_at before id
  same_tree id within = banks.kept_tree before now id extends within

  pub longer : length before ≤ length now
  longer = banks.longer before now extends

  pub same_premises : (premises : List Branch) → AreBelow (length before) premises → premises_at now premises ≡ premises_at before premises
  same_premises [] below = refl
  same_premises (b ∷ premises) below =
      let first = ap (premise_of b) (same_tree b.test (All-head (λ (c : Branch). c.test < length before) b premises below)) in
      ap (λ (t : Term). t ∷ premises_at now premises) first
      ∙ ap (λ (terms : List Term). premise_at before b ∷ terms) (same_premises premises (All-tail (λ (c : Branch). c.test < length before) b premises below))

  pub same_lines : (ids : List ℕ) → AreIds (length before) ids → lines_at now ids ≡ lines_at before ids
  same_lines [] below = refl
  same_lines (id ∷ ids) below =
      ap₂ (λ (t : Term) (terms : List Term). t ∷ terms) (same_tree id (All-head (λ (n : ℕ). n < length before) id ids below))
      (same_lines ids (All-tail (λ (n : ℕ). n < length before) id ids below))

  same_goals : (goals : List GoalSeen) → AreGoalsBelow (length before) goals → goals_in now goals ≡ goals_in before goals
  same_goals [] below = refl
  same_goals (g ∷ goals) below =
      ap₂ (λ (lines : List Term) (all : List Goal). goal_at g.nodes g.counts lines ∷ all)
      (same_lines g.lines (All-head (λ (h : GoalSeen). AreIds (length before) h.lines) g goals below))
      (same_goals goals (All-tail (λ (h : GoalSeen). AreIds (length before) h.lines) g goals below))

  pub same_added : (x : Extra) → IsBelow (length before) x → added_at now x ≡ added_at before x
  same_added x below =
      ap₂ (λ (premises : List Term) (goals : List Goal). record {
        start = start_seen x.cuts.value.start;
        premises = premises;
        binary = x.binary_bounds.items;
        source = x.source_bounds.items;
        goals = goals;
      }) (same_premises x.premises.items below.premises) (same_goals (goals_seen x.cuts.value.goals.items) below.goals)

  same_job : (f : Frame) (job : Job) → IsInside (length before) job → job_of now f job ≡ job_of before f job
  same_job f (Prove x) inside = ap (λ (added : Added). spec.Prove (origin_at x.value) (frame_added f added)) (same_added x.value inside)
  same_job f (Relate r) inside =
      let d = r.draft.value in
      ap₂ (λ (added : Added) (lines : List Term). spec.Relate (origin_at d.extra.value) (frame_added f added) (draft_of d) lines r.left)
      (same_added d.extra.value inside.extra) (same_lines r.lines.items inside.lines)
  same_job f (Close goal) inside = ap spec.Close (same_tree goal inside)

  same_stacked : (f : Frame) (below : List spec.Job) (jobs : List Job) → AreInside (length before) jobs → stacked now f below jobs ≡ stacked before f below jobs
  unfolding stacked
  same_stacked f below [] inside = refl
  same_stacked f below (job ∷ jobs) inside =
      ap (λ (j : spec.Job). stacked now f (j ∷ below) jobs) (same_job f job (All-head (IsInside (length before)) job jobs inside))
      ∙ same_stacked f (job_of before f job ∷ below) jobs (All-tail (IsInside (length before)) job jobs inside)

  pub same_jobs : (f : Frame) (jobs : List Job) → AreInside (length before) jobs → jobs_of now f jobs ≡ jobs_of before f jobs
  same_jobs f jobs inside = same_stacked f [] jobs inside

  pub below_later : (premises : List Branch) → AreBelow (length before) premises → AreBelow (length now) premises
  below_later premises below =
      All-weaker (λ (b : Branch). b.test < length before) (λ (b : Branch). b.test < length now) (λ b h. omega (arith, longer, h)) premises below

  pub ids_later : (ids : List ℕ) → AreIds (length before) ids → AreIds (length now) ids
  ids_later ids below = All-weaker (λ (n : ℕ). n < length before) (λ (n : ℕ). n < length now) (λ n h. omega (arith, longer, h)) ids below

  goals_later : (goals : List GoalSeen) → AreGoalsBelow (length before) goals → AreGoalsBelow (length now) goals
  goals_later goals below =
      All-weaker (λ (g : GoalSeen). AreIds (length before) g.lines) (λ (g : GoalSeen). AreIds (length now) g.lines) (λ g h. ids_later g.lines h) goals below

  pub extra_later : (x : Extra) → IsBelow (length before) x → IsBelow (length now) x
  extra_later x below = record { premises = below_later x.premises.items below.premises; goals = goals_later (goals_seen x.cuts.value.goals.items) below.goals }

  inside_more : (job : Job) → IsInside (length before) job → IsInside (length now) job
  inside_more (Prove x) inside = extra_later x.value inside
  inside_more (Relate r) inside = record { extra = extra_later r.draft.value.extra.value inside.extra; lines = ids_later r.lines.items inside.lines }
  inside_more (Close goal) inside = omega (arith, longer, inside)

  pub inside_later : (jobs : List Job) → AreInside (length before) jobs → AreInside (length now) jobs
  inside_later jobs inside = All-weaker (IsInside (length before)) (IsInside (length now)) inside_more jobs inside

-- ---- ids on top

pub inside_top : (n : ℕ) (jobs : List Job) (job : Job) → AreInside n (jobs ++ job ∷ []) → AreInside n jobs × IsInside n job
inside_top n [] job inside = (All-nil (IsInside n), All-head (IsInside n) job [] inside)
inside_top n (j ∷ jobs) job inside =
    let rest = inside_top n jobs job (All-tail (IsInside n) j (jobs ++ job ∷ []) inside) in
    (All-cons (IsInside n) j jobs (All-head (IsInside n) j (jobs ++ job ∷ []) inside) rest.0, rest.1)

pub no_inside : (n : ℕ) → AreInside n []
no_inside n = All-nil (IsInside n)

-- ids are below where the same goals are seen
pub ap_below : (n : ℕ) (goals : List GoalSeen) {start : Option Site} (x : Extra) → seen x.cuts.value ≡ record { start = start; goals = goals } → AreGoalsBelow n goals
    → AreGoalsBelow n (goals_seen x.cuts.value.goals.items)
ap_below n goals x are below = subst (λ (s : Seen). AreGoalsBelow n s.goals) (sym are) below

pub no_below : (n : ℕ) (x : Extra) → HasNothing x → IsBelow n x
no_below n x has = record {
  premises = subst (AreBelow n) (sym has.premises) (All-nil (λ (b : Branch). b.test < n));
  goals = ap_below n [] x has.cuts (All-nil (λ (g : GoalSeen). AreIds n g.lines));
}

pub inside_pushed : (n : ℕ) (jobs : List Job) (job : Job) → AreInside n jobs → IsInside n job → AreInside n (jobs ++ job ∷ [])
inside_pushed n jobs job inside within = All-append (IsInside n) jobs (job ∷ []) inside (All-cons (IsInside n) job [] within (All-nil (IsInside n)))

one_below : (n : ℕ) (premises : List Branch) (b : Branch) → AreBelow n premises → b.test < n → AreBelow n (premises ++ b ∷ [])
one_below n premises b below within =
    All-append (λ (c : Branch). c.test < n) premises (b ∷ []) below
    (All-cons (λ (c : Branch). c.test < n) b [] within (All-nil (λ (c : Branch). c.test < n)))

pub branches_inside : (n : ℕ) (old new : List Job) (x : Extra) (test : ℕ) → HasBranches old new x test → AreInside n old → IsBelow n x → test < n → AreInside n new
branches_inside n old new x test has inside below within =
    let first : IsBelow n has.fails.value = record {
      premises = subst (AreBelow n) (sym has.fails_are.premises) (one_below n x.premises.items (record { test = test; holds = false }) below.premises within);
      goals = ap_below n (goals_seen x.cuts.value.goals.items) has.fails.value has.fails_are.cuts below.goals;
    } in
    let second : IsBelow n has.holds.value = record {
      premises = subst (AreBelow n) (sym has.holds_are.premises) (one_below n x.premises.items (record { test = test; holds = true }) below.premises within);
      goals = ap_below n (goals_seen x.cuts.value.goals.items) has.holds.value has.holds_are.cuts below.goals;
    } in
    subst (AreInside n) (sym has.now)
    (inside_pushed n (old ++ Prove has.fails ∷ []) (Prove has.holds) (inside_pushed n old (Prove has.fails) inside first) second)

-- both proofs after a Case are of the frame with the test, and with its negation
pub branches_jobs : (trees : List Term) (f : Frame) (old new : List Job) (x : Extra) (test : ℕ) → HasBranches old new x test
    → jobs_of trees f new ≡ spec.Prove (origin_at x) (with_test (frame_added f (added_at trees x)) (tree_at trees test))
    ∷ spec.Prove (origin_at x) (with_test (frame_added f (added_at trees x)) (not_term (tree_at trees test))) ∷ jobs_of trees f old
branches_jobs trees f old new x test has =
    let start : (y : Extra) → seen y.cuts.value ≡ seen x.cuts.value → origin_at y ≡ origin_at x = λ y same. ap (λ (s : Seen). origin_of s.start) same in
    jobs_top trees f new (old ++ Prove has.fails ∷ []) (Prove has.holds) has.now
    ∙ ap₂ (λ (o : Origin) (g : Frame). spec.Prove o g ∷ jobs_of trees f (old ++ Prove has.fails ∷ [])) (start has.holds.value has.holds_are.cuts)
    (with_branch trees f x (record { test = test; holds = true }) has.holds.value has.holds_are)
    ∙ ap (λ (jobs : List spec.Job). spec.Prove (origin_at x) (with_test (frame_added f (added_at trees x)) (tree_at trees test)) ∷ jobs)
    (jobs_top trees f (old ++ Prove has.fails ∷ []) old (Prove has.fails) refl
    ∙ ap₂ (λ (o : Origin) (g : Frame). spec.Prove o g ∷ jobs_of trees f old) (start has.fails.value has.fails_are.cuts)
    (with_branch trees f x (record { test = test; holds = false }) has.fails.value has.fails_are))

pub logs_inside : (n : ℕ) (goals : List ℕ) → All (λ (g : ℕ). g < n) goals → AreInside n (logs_last goals)
unfolding logs_last
logs_inside n [] within = All-nil (IsInside n)
logs_inside n (g ∷ goals) within =
    inside_pushed n (logs_last goals) (Close g) (logs_inside n goals (All-tail (λ (h : ℕ). h < n) g goals within)) (All-head (λ (h : ℕ). h < n) g goals within)
