-- A line that cuts a frame, and the lines of its relation, as the definition's walk takes them.
use Rattle.std.proofs.Common.{◌≡◌, ◌∙◌, ℕ, ◌<◌, zero, suc, true, Box, Vec, Global, List, [], ◌∷◌, ◌++◌, length, Option, Some, Err, Ok, refl, sym, ap, ap₂, subst, append_assoc}
use Rattle.std.proofs.lemmas.List.{map_push}
use Rattle.std.proofs.lemmas.List.Elements.{All-nil, All-cons, All-head, All-tail, All-append}
use Rattle.term_core_spec.specs.declared.Variable.{Variable}
use Rattle.term_core_spec.specs.Term.{Term}
use Rattle.term_bank.specs.Nodes.{tree_at, Extends}
use Rattle.proof_tree_spec.specs.declared.Counts.{Counts}
use Rattle.proof_tree_spec.specs.declared.Nodes.{Nodes}
use Rattle.proof_tree_spec.specs.Cuts.{AreCounts}
use Rattle.proof_tree_spec.specs.Frames.{Frame, Goal, LetsPass, from_cut, goal_at, with_goal}
use Rattle.proof_tree_spec.specs.Proofs.{Points}
use Rattle.cert_text_spec.specs.declared.Symbol.{Symbol}
use Rattle.cert_text_spec.specs.Lines.{Split, Relation}
use Rattle.attempt.specs.declared.refusal.Refusal.{Refusal}
use Rattle.attempt.specs.declared.refusal.Refusal.TheVariants.{Fault, NoMemory}
use Rattle.cert_check_spec.specs.declared.RuleWord.TheVariants as fault
use Rattle.cert_check.specs.declared.fault.PartFault.{PartFault}
use Rattle.cert_check.specs.declared.fault.PartFault.TheVariants.{Broken, Above}
use Rattle.cert_check_lines_spec.specs.Sites.{Part, ArePoints}
use Rattle.cert_check_lines_spec.specs.Jobs as spec
use Rattle.cert_check_lines_spec.specs.Jobs.{Origin, AtCut, OfSplit, finished, reading}
use Rattle.cert_check_lines_spec.specs.LineRules as lines
use Rattle.cert_check_lines_spec.specs.LineRules.{Passes, Fails}
use Rattle.cert_check_lines_spec.specs.Parts.{Functions, Member, part_of, unfolded}
use Rattle.cert_check_frames.specs.declared.jobs.Branch.{Branch}
use Rattle.cert_check_frames.specs.Jobs.{AreBelow, premises_at}
use Rattle.cert_check_frames.specs.declared.listed.Listed.{Listed}
use Rattle.cert_check_frames.specs.Listed.{frame_at}
use Rattle.cert_check_jobs.specs.declared.drafts.Draft.{Draft}
use Rattle.cert_check_jobs.specs.declared.drafts.Reading.{Reading}
use Rattle.cert_check_jobs.specs.declared.extra.Extra.{Extra}
use Rattle.cert_check_jobs.specs.declared.jobs.Job.{Job}
use Rattle.cert_check_jobs.specs.declared.jobs.Job.TheVariants.{Prove, Relate}
use Rattle.cert_check_jobs.specs.Cuts.{AreGoalsBelow, AreIds, GoalSeen, Seen, goal_in, goals_in, goals_seen, lines_at, start_seen}
use Rattle.cert_check_jobs.specs.Drafts.{AreFinished, AreReading, IsAfter, IsBefore, IsNewDraft, draft_goal, draft_site, holding}
use Rattle.cert_check_jobs.specs.Extras.{Added, IsBelow, added_at, frame_added, origin_of}
use Rattle.cert_check_jobs.specs.Jobs.{AreInside, IsDraftBelow}
use Rattle.cert_check.specs.Cuts.{AreAt}
use Rattle.cert_check.specs.Jobs.{draft_of, jobs_of, origin_at}
use Rattle.cert_check.specs.Members.{IsMemberOf}
use Rattle.cert_check.specs.Steps.{Comes, IsKeptBy, IsTestAt}
use Rattle.cert_check.proofs.Leaving.{kept_on}
use Rattle.cert_check.proofs.Bounding.{binary_point, no_binary_point, no_source_point, source_point}
use Rattle.cert_check.proofs.Pushed.{ap_below, ids_later, inside_later, inside_pushed, inside_top, jobs_top, extra_later, same_added, same_by, same_jobs, same_lines}

-- ---- the frames that a cut leaves

module _ (trees : List Term) (f : Frame) where
  premises_holding : (lines : List ℕ) → premises_at trees (holding lines) ≡ lines_at trees lines
  premises_holding [] = refl
  premises_holding (line ∷ lines) = ap (λ (terms : List Term). tree_at trees line ∷ terms) (premises_holding lines)

  one_goal_more : (goals : List GoalSeen) (g : GoalSeen) → f.goals ++ goals_in trees (goals ++ g ∷ []) ≡ (f.goals ++ goals_in trees goals) ++ goal_in trees g ∷ []
  one_goal_more goals g =
      ap (λ (l : List Goal). f.goals ++ l) (map_push (goal_in trees) goals g) ∙ sym (append_assoc f.goals (goals_in trees goals) (goal_in trees g ∷ []))

  abbrev frame_of : Extra → Frame
  frame_of x = frame_added f (added_at trees x)

  -- from the start on
  with_cut : (d : Draft) (lines : List ℕ) (new : Extra) → IsBefore d lines new
      → frame_of new ≡ with_goal (frame_of d.extra.value) (goal_at d.nodes d.enter (lines_at trees lines))
  with_cut d lines new has =
      let x = d.extra.value in
      let start = start_seen x.cuts.value.start in
      let goals = goals_seen x.cuts.value.goals.items in
      same_by trees f new (record { start = start; goals = goals ++ draft_goal d d.enter lines ∷ [] }) (premises_at trees x.premises.items) x.binary_bounds.items x.source_bounds.items has.cuts
      (ap (premises_at trees) has.premises) has.binary has.source
      ∙ ap (λ (l : List Goal). record (frame_of x) { goals = l }) (one_goal_more goals (draft_goal d d.enter lines))

  -- from the cut on
  from_there : (d : Draft) (lines : List ℕ) (new : Extra) → IsAfter d lines new
      → frame_of new ≡ with_goal (from_cut (frame_of d.extra.value) d.nodes d.path.items (lines_at trees lines)) (goal_at d.nodes d.step (lines_at trees lines))
  from_there d lines new has =
      let x = d.extra.value in
      let goals = goals_seen x.cuts.value.goals.items in
      same_by trees f new (record { start = Some (draft_site d); goals = goals ++ draft_goal d d.step lines ∷ [] }) (lines_at trees lines) [] [] has.cuts
      (ap (premises_at trees) has.premises ∙ premises_holding lines) has.binary has.source
      ∙ ap (λ (l : List Goal). record (from_cut (frame_of x) d.nodes d.path.items (lines_at trees lines)) { goals = l }) (one_goal_more goals (draft_goal d d.step lines))

  module _ (p : Part) (d : Draft) (lines : List ℕ) (old new : List Job) (has : AreFinished d lines old new) where
    finished_jobs : jobs_of trees f new ≡ finished p (origin_at d.extra.value) (frame_of d.extra.value) (draft_of d) (lines_at trees lines) ++ jobs_of trees f old
    finished_jobs =
        let first_starts : origin_at has.first.value ≡ origin_at d.extra.value = ap (λ (s : Seen). origin_of s.start) has.first_is.cuts in
        let later_starts : origin_at has.later.value ≡ AtCut = ap (λ (s : Seen). origin_of s.start) has.later_is.cuts in
        jobs_top trees f new (old ++ Prove has.later ∷ []) (Prove has.first) has.now
        ∙ ap₂ (λ (o : Origin) (g : Frame). spec.Prove o g ∷ jobs_of trees f (old ++ Prove has.later ∷ [])) first_starts (with_cut d lines has.first.value has.first_is)
        ∙ ap (λ (jobs : List spec.Job). spec.Prove (origin_at d.extra.value) (with_goal (frame_of d.extra.value) (goal_at d.nodes d.enter (lines_at trees lines))) ∷ jobs)
        (jobs_top trees f (old ++ Prove has.later ∷ []) old (Prove has.later) refl
        ∙ ap₂ (λ (o : Origin) (g : Frame). spec.Prove o g ∷ jobs_of trees f old) later_starts (from_there d lines has.later.value has.later_is))

  -- what is expected after so many lines of a cut
  pub reading_jobs : (p : Part) (d : Box Draft Global) (lines : Vec ℕ Global) (left : ℕ) (old new : List Job) → AreReading d lines left old new
      → jobs_of trees f new
      ≡ reading p (origin_at d.value.extra.value) (frame_of d.value.extra.value) (draft_of d.value) (lines_at trees lines.items) left ++ jobs_of trees f old
  reading_jobs p d lines zero old new has = finished_jobs p d.value lines.items old new has
  reading_jobs p d lines (suc left) old new has = jobs_top trees f new old (Relate (record { draft = d; lines = lines; left = left })) has

-- ---- ids

holding_below : (n : ℕ) (lines : List ℕ) → AreIds n lines → AreBelow n (holding lines)
holding_below n [] below = All-nil (λ (b : Branch). b.test < n)
holding_below n (line ∷ lines) below =
    All-cons (λ (b : Branch). b.test < n) (record { test = line; holds = true }) (holding lines) (All-head (λ (id : ℕ). id < n) line lines below)
    (holding_below n lines (All-tail (λ (id : ℕ). id < n) line lines below))

goals_pushed : (n : ℕ) (goals : List GoalSeen) (g : GoalSeen) → AreGoalsBelow n goals → AreIds n g.lines → AreGoalsBelow n (goals ++ g ∷ [])
goals_pushed n goals g below within =
    All-append (λ (h : GoalSeen). AreIds n h.lines) goals (g ∷ []) below
    (All-cons (λ (h : GoalSeen). AreIds n h.lines) g [] within (All-nil (λ (h : GoalSeen). AreIds n h.lines)))

module _ (n : ℕ) (d : Draft) (lines : List ℕ) (below : IsBelow n d.extra.value) (within : AreIds n lines) where
  before_below : (new : Extra) → IsBefore d lines new → IsBelow n new
  before_below new has = record {
    premises = subst (AreBelow n) (sym has.premises) below.premises;
    goals =
        ap_below n (goals_seen d.extra.value.cuts.value.goals.items ++ draft_goal d d.enter lines ∷ []) new has.cuts
        (goals_pushed n (goals_seen d.extra.value.cuts.value.goals.items) (draft_goal d d.enter lines) below.goals within);
  }

  after_below : (new : Extra) → IsAfter d lines new → IsBelow n new
  after_below new has = record {
    premises = subst (AreBelow n) (sym has.premises) (holding_below n lines within);
    goals =
        ap_below n (goals_seen d.extra.value.cuts.value.goals.items ++ draft_goal d d.step lines ∷ []) new has.cuts
        (goals_pushed n (goals_seen d.extra.value.cuts.value.goals.items) (draft_goal d d.step lines) below.goals within);
  }

-- the ids of what is expected after so many lines
pub reading_inside : (n : ℕ) (d : Box Draft Global) (lines : Vec ℕ Global) (left : ℕ) (old new : List Job) → IsBelow n d.value.extra.value → AreIds n lines.items → AreInside n old
    → AreReading d lines left old new → AreInside n new
reading_inside n d lines zero old new below within inside has =
    subst (AreInside n) (sym has.now)
    (inside_pushed n (old ++ Prove has.later ∷ []) (Prove has.first)
    (inside_pushed n old (Prove has.later) inside (after_below n d.value lines.items below within has.later.value has.later_is))
    (before_below n d.value lines.items below within has.first.value has.first_is))
reading_inside n d lines (suc left) old new below within inside has =
    subst (AreInside n) (sym has) (inside_pushed n old (Relate (record { draft = d; lines = lines; left = left })) inside (record { extra = below; lines = within }))

-- ---- Split

module _ (fs : Functions) (parts : List Member) (m : Member) (at : ℕ) (code : Listed) (is : IsMemberOf code m) where
  abbrev part : Part
  part = part_of parts m (unfolded m)

  module _ (trees : List Term) (before below : List Job) (x : Box Extra Global) (points : Points) (enter step : Counts) (relations : ℕ) (first : before ≡ below ++ Prove x ∷ []) where
    abbrev frame : Frame
    frame = frame_added m.listed.frame (added_at trees x.value)

    abbrev rest : List spec.Job
    rest = jobs_of trees (frame_at code) below

    was : jobs_of trees (frame_at code) before ≡ spec.Prove (origin_at x.value) frame ∷ rest
    was =
        jobs_top trees (frame_at code) before below (Prove x) first
        ∙ ap (λ (g : Frame). spec.Prove (origin_at x.value) (frame_added g (added_at trees x.value)) ∷ rest) (sym is.listed.frame_is)

    fails : (broken : lines.Fault) → Fails part at (spec.Prove (origin_at x.value) frame ∷ rest) (Split points enter step relations) at broken
        → Fails part at (jobs_of trees (frame_at code) before) (Split points enter step relations) at broken
    fails broken h = subst (λ (jobs : List spec.Job). Fails part at jobs (Split points enter step relations) at broken) (sym was) h

    are_points : (nodes : Nodes) → AreAt code points nodes → ArePoints part frame points nodes
    are_points nodes found = (
      binary_point fs parts m at code is frame refl refl points.binary nodes.binary found.binary,
      source_point fs parts m at code is frame refl refl points.source nodes.source found.source,
    )

    -- there is no such point on a side
    pub split_nowhere : ((nodes : Nodes) → AreAt code points nodes → ⊥) → Fails part at (jobs_of trees (frame_at code) before) (Split points enter step relations) at (lines.Breaks fault.Point)
    split_nowhere none =
        fails (lines.Breaks fault.Point)
        (lines.split_point (origin_at x.value) frame rest points enter step relations
        (λ nodes are.
        no_binary_point fs parts m at code is frame refl refl points.binary
        (λ b on_binary.
        no_source_point fs parts m at code is frame refl refl points.source
        (λ s on_source. none (record { binary = b; source = s }) (record { binary = on_binary; source = on_source }))
        nodes.source are.1)
        nodes.binary are.0))

    module _ (nodes : Nodes) (found : AreAt code points nodes) where
      -- a count 0
      pub split_count : (AreCounts enter → AreCounts step → ⊥) → Fails part at (jobs_of trees (frame_at code) before) (Split points enter step relations) at (lines.Breaks fault.Count)
      split_count none =
          fails (lines.Breaks fault.Count) (lines.split_count (origin_at x.value) frame rest points nodes enter step relations (are_points nodes found) none)

      -- a goal that doesn't let it pass
      pub split_passed : AreCounts enter → AreCounts step → (LetsPass (frame_added (frame_at code) (added_at trees x.value)) nodes → ⊥)
          → Fails part at (jobs_of trees (frame_at code) before) (Split points enter step relations) at (lines.Breaks fault.Passed)
      split_passed enters steps none =
          fails (lines.Breaks fault.Passed)
          (lines.split_passed (origin_at x.value) frame rest points nodes enter step relations (are_points nodes found) enters steps
          (λ passes. none (subst (λ (g : Frame). LetsPass (frame_added g (added_at trees x.value)) nodes) is.listed.frame_is passes)))

      pub split_passes : (after : List Job) (d : Box Draft Global) (read : Vec ℕ Global) → AreCounts enter → AreCounts step
          → LetsPass (frame_added (frame_at code) (added_at trees x.value)) nodes → IsNewDraft x nodes points.source.path enter step d.value → read.items ≡ []
          → AreReading d read relations below after
          → Passes part at (jobs_of trees (frame_at code) before) (Split points enter step relations) (jobs_of trees (frame_at code) after)
      split_passes after d read enters steps passes drafted none has =
          let draft : draft_of d.value ≡ OfSplit nodes points.source.path enter step =
          ap₂ (λ (n : Nodes) (path : List ℕ). OfSplit n path d.value.enter d.value.step) drafted.nodes_are drafted.path_is
          ∙ ap₂ (λ (a b : Counts). OfSplit nodes points.source.path a b) drafted.enter_is drafted.step_is in
          let will : jobs_of trees (frame_at code) after ≡ reading part (origin_at x.value) frame (OfSplit nodes points.source.path enter step) [] relations ++ rest =
          reading_jobs trees (frame_at code) part d read relations below after has
          ∙ ap₂ (λ (y : Box Extra Global) (e : spec.Draft).
          reading part (origin_at y.value) (frame_added (frame_at code) (added_at trees y.value)) e (lines_at trees read.items) relations ++ rest) drafted.extra_is draft
          ∙ ap₂ (λ (g : Frame) (ids : List ℕ).
          reading part (origin_at x.value) (frame_added g (added_at trees x.value)) (OfSplit nodes points.source.path enter step) (lines_at trees ids) relations ++ rest) (sym is.listed.frame_is) none in
          subst (λ (jobs : List spec.Job). Passes part at jobs (Split points enter step relations) (jobs_of trees (frame_at code) after)) (sym was)
          (subst (λ (jobs : List spec.Job). Passes part at (spec.Prove (origin_at x.value) frame ∷ rest) (Split points enter step relations) jobs) (sym will)
          (lines.split (origin_at x.value) frame rest points nodes enter step relations (are_points nodes found) enters steps
          (subst (λ (g : Frame). LetsPass (frame_added g (added_at trees x.value)) nodes) (sym is.listed.frame_is) passes)))

  -- ---- lines of a relation

  module _ (old : List Term) (before below : List Job) (r : Reading) (symbols : List Symbol) (first : before ≡ below ++ Relate r ∷ []) where
    abbrev x : Extra
    x = r.draft.value.extra.value

    abbrev cut_frame : List Term → Frame → Frame
    cut_frame trees g = frame_added g (added_at trees x)

    abbrev jobs_below : List spec.Job
    jobs_below = jobs_of old (frame_at code) below

    abbrev related : Frame → List spec.Job
    related g = spec.Relate (origin_at x) (cut_frame old g) (draft_of r.draft.value) (lines_at old r.lines.items) r.left ∷ jobs_below

    relates : jobs_of old (frame_at code) before ≡ related m.listed.frame
    relates = jobs_top old (frame_at code) before below (Relate r) first ∙ ap related (sym is.listed.frame_is)

    pub relation_fails : ((t : Term) → lines.IsRead m.listed.frame r.draft.value.path.items symbols t → ⊥)
        → Fails part at (jobs_of old (frame_at code) before) (Relation symbols) at (lines.Breaks fault.Sort)
    relation_fails none =
        subst (λ (jobs : List spec.Job). Fails part at jobs (Relation symbols) at (lines.Breaks fault.Sort)) (sym relates)
        (lines.relation_sort (origin_at x) (cut_frame old m.listed.frame) (draft_of r.draft.value) (lines_at old r.lines.items) r.left jobs_below symbols
        (λ t read. none t (record { spelled = read.spelled; line = read.line })))

    pub relation_passes : (new : List Term) (after : List Job) (line : ℕ) (read : Vec ℕ Global) → Extends old new → AreInside (length old) below → IsDraftBelow (length old) r
        → IsTestAt m.listed r.draft.value.path.items symbols new (Ok line) → read.items ≡ r.lines.items ++ line ∷ [] → AreReading r.draft read r.left below after
        → Passes part at (jobs_of old (frame_at code) before) (Relation symbols) (jobs_of new (frame_at code) after)
    relation_passes new after line read extends inside within tested is_read has =
        let all : lines_at new read.items ≡ lines_at old r.lines.items ++ tree_at new line ∷ [] =
        ap (lines_at new) is_read ∙ map_push (tree_at new) r.lines.items line
        ∙ ap (λ (l : List Term). l ++ tree_at new line ∷ []) (same_lines old new extends r.lines.items within.lines) in
        let going = λ (g : Frame) (terms : List Term) (jobs : List spec.Job). reading part (origin_at x) g (draft_of r.draft.value) terms r.left ++ jobs in
        let will : jobs_of new (frame_at code) after ≡ going (cut_frame old m.listed.frame) (lines_at old r.lines.items ++ tree_at new line ∷ []) jobs_below =
        reading_jobs new (frame_at code) part r.draft read r.left below after has
        ∙ ap₂ (λ (added : Added) (terms : List Term). going (frame_added (frame_at code) added) terms (jobs_of new (frame_at code) below)) (same_added old new extends x within.extra) all
        ∙ ap₂ (λ (g : Frame) (jobs : List spec.Job). going (cut_frame old g) (lines_at old r.lines.items ++ tree_at new line ∷ []) jobs) (sym is.listed.frame_is)
        (same_jobs old new extends (frame_at code) below inside) in
        subst (λ (jobs : List spec.Job). Passes part at jobs (Relation symbols) (jobs_of new (frame_at code) after)) (sym relates)
        (subst (λ (jobs : List spec.Job). Passes part at (related m.listed.frame) (Relation symbols) jobs) (sym will)
        (lines.relation (origin_at x) (cut_frame old m.listed.frame) (draft_of r.draft.value) (lines_at old r.lines.items) r.left jobs_below symbols (tree_at new line)
        (record { spelled = tested.1.spelled; line = tested.1.line })))

  -- what the line comes to where no line is read
  pub relation_wrong : (old new : List Term) (before below after : List Job) (r : Reading) (symbols : List Symbol) (broken : Refusal PartFault) → before ≡ below ++ Relate r ∷ []
      → IsTestAt m.listed r.draft.value.path.items symbols new (Err broken) → Comes part at (jobs_of old (frame_at code) before) (jobs_of new (frame_at code) after) (Relation symbols) (Err broken)
  relation_wrong old new before below after r symbols (Fault (Broken fault.Sort)) first none = relation_fails old before below r symbols first none
  relation_wrong old new before below after r symbols NoMemory first none = tt
  relation_wrong old new before below after r symbols (Fault (Broken fault.Later)) first none = absurd none
  relation_wrong old new before below after r symbols (Fault (Broken fault.Inline)) first none = absurd none
  relation_wrong old new before below after r symbols (Fault (Broken fault.Point)) first none = absurd none
  relation_wrong old new before below after r symbols (Fault (Broken fault.Count)) first none = absurd none
  relation_wrong old new before below after r symbols (Fault (Broken fault.Callee)) first none = absurd none
  relation_wrong old new before below after r symbols (Fault (Broken fault.Passed)) first none = absurd none
  relation_wrong old new before below after r symbols (Fault (Broken fault.Same)) first none = absurd none
  relation_wrong old new before below after r symbols (Fault (Broken fault.Word)) first none = absurd none
  relation_wrong old new before below after r symbols (Fault (Broken fault.Stranger)) first none = absurd none
  relation_wrong old new before below after r symbols (Fault (Broken fault.Stack)) first none = absurd none
  relation_wrong old new before below after r symbols (Fault (Broken fault.Cyclic)) first none = absurd none
  relation_wrong old new before below after r symbols (Fault (Broken fault.Logs)) first none = absurd none
  relation_wrong old new before below after r symbols (Fault (Broken fault.Step)) first none = absurd none
  relation_wrong old new before below after r symbols (Fault (Broken fault.Unclosed)) first none = absurd none
  relation_wrong old new before below after r symbols (Fault (Broken fault.Missing)) first none = absurd none
  relation_wrong old new before below after r symbols (Fault (Above q)) first none = absurd none

-- ---- what is kept

pub split_inside : (n : ℕ) (before below after : List Job) (x : Box Extra Global) (d : Box Draft Global) (read : Vec ℕ Global) (left : ℕ) → AreInside n before → before ≡ below ++ Prove x ∷ []
    → d.value.extra ≡ x → read.items ≡ [] → AreReading d read left below after → AreInside n after
split_inside n before below after x d read left inside first is none has =
    let apart = inside_top n below (Prove x) (subst (AreInside n) first inside) in
    reading_inside n d read left below after (subst (λ (y : Box Extra Global). IsBelow n y.value) (sym is) apart.1) (subst (AreIds n) (sym none) (All-nil (λ (id : ℕ). id < n))) apart.0 has

pub relation_kept : (code : Listed) (old new : List Term) (binary source : Variable → Option ℕ) (before below after : List Job) (r : Reading) (line : ℕ) (read : Vec ℕ Global)
    → IsKeptBy code old binary source before → Extends old new → before ≡ below ++ Relate r ∷ [] → read.items ≡ r.lines.items ++ line ∷ [] → line < length new
    → AreReading r.draft read r.left below after → IsKeptBy code new binary source after
relation_kept code old new binary source before below after r line read kept grows first is_read within has =
    let apart = inside_top (length old) below (Relate r) (subst (AreInside (length old)) first kept.inside) in
    let ids = subst (AreIds (length new)) (sym is_read)
    (All-append (λ (id : ℕ). id < length new) r.lines.items (line ∷ []) (ids_later old new grows r.lines.items apart.1.lines)
    (All-cons (λ (id : ℕ). id < length new) line [] within (All-nil (λ (id : ℕ). id < length new)))) in
    kept_on code old new binary source before after kept grows
    (reading_inside (length new) r.draft read r.left below after (extra_later old new grows r.draft.value.extra.value apart.1.extra) ids (inside_later old new grows below apart.0) has)
