-- Lines that pass show what was expected before them.
use Rattle.std.proofs.Common.{◌≡◌, ℕ, zero, suc, ◌+◌, List, [], ◌∷◌, ◌++◌, length, map, take, drop, refl, sym, ap, subst, append-nil, append_assoc}
use Rattle.std.proofs.lemmas.List.Elements.{All-nil, All-cons, All-take, All-drop}
use Rattle.term_core_spec.specs.Term.{Term}
use Rattle.proof_tree_spec.specs.Cuts.{once}
use Rattle.proof_tree_spec.specs.Frames.{Frame, with_goal, goal_at, from_cut}
use Rattle.proof_tree_spec.specs.Scope.{IsLine}
use Rattle.sim_rules_spec.specs.Calls.{call_terms}
use Rattle.cert_text_spec.specs.Lines.{Line, line_text}
use Rattle.cert_check_lines_spec.specs.Sites.{Part}
use Rattle.cert_check_lines_spec.specs.Jobs.{Origin, AtCut, Draft, OfSplit, OfCall, path_of, Job, Prove, Relate, Close, InLog, finished, reading}
use Rattle.cert_check_lines_spec.specs.LineRules.{Passes, leaf, case, restrict_binary, restrict_source, split, call, relation, no_log, log, step, last_step}
use Rattle.cert_check_lines_spec.specs.Shown as shown
use Rattle.cert_check_lines_spec.specs.Shown.{IsClosed, AreClosed, AreLines, IsShown, Pass, none, some}
use Rattle.cert_check_lines_spec.proofs.Logs as logs
use Rattle.cert_check_lines_spec.proofs.Logs.{LogShown, without_log, with_log}

module _ (p : Part) where
  -- ---- what is expected, shown

  -- what a rule leaves once its lines are read
  abbrev AfterLines : Origin → Frame → Draft → List Term → Type 0
  AfterLines origin f (OfSplit nodes path enter again) lines =
      IsShown p origin (with_goal f (goal_at nodes enter lines)) × IsShown p AtCut (with_goal (from_cut f nodes path lines) (goal_at nodes again lines))
  AfterLines origin f (OfCall calls landing path pair callee first) lines =
      AreClosed p (call_terms p.convention f pair callee (take first lines) (drop first lines))
      × (IsShown p origin (with_goal f (goal_at calls once (take first lines))) × IsShown p AtCut (from_cut f landing path (drop first lines)))

  -- so many more lines, and what is left after them
  record Read (origin : Origin) (f : Frame) (draft : Draft) (lines : List Term) (left : ℕ) : Type 0 where
    pub more : List Term
    pub counted : length more ≡ left
    pub are : AreLines f (path_of draft) more
    pub rest : AfterLines origin f draft (lines ++ more)

  abbrev JobShown : Job → Type 0
  JobShown (Prove origin f) = IsShown p origin f
  JobShown (Relate origin f draft lines left) = Read origin f draft lines (suc left)
  JobShown (Close goal) = IsClosed p goal
  JobShown (InLog offset variables clauses left) = LogShown variables clauses left

  pub JobsShown : List Job → Type 0
  JobsShown [] = Unit {0}
  JobsShown (job ∷ jobs) = JobShown job × JobsShown jobs

  -- ---- lists of jobs

  closed_first : (terms : List Term) (jobs : List Job) → JobsShown (map Close terms ++ jobs) → AreClosed p terms × JobsShown jobs
  unfolding JobsShown
  closed_first [] jobs h = (All-nil (IsClosed p), h)
  closed_first (t ∷ terms) jobs h = let rest = closed_first terms jobs h.1 in (All-cons (IsClosed p) t terms h.0 rest.0, rest.1)

  finished_first : (origin : Origin) (f : Frame) (draft : Draft) (lines : List Term) (jobs : List Job) → JobsShown (finished p origin f draft lines ++ jobs)
      → AfterLines origin f draft lines × JobsShown jobs
  unfolding JobsShown
  finished_first origin f (OfSplit nodes path enter again) lines jobs h = ((h.0, h.1.0), h.1.1)
  finished_first origin f (OfCall calls landing path pair callee first) lines jobs h =
      let terms = call_terms p.convention f pair callee (take first lines) (drop first lines) in
      let proofs : List Job = Prove origin (with_goal f (goal_at calls once (take first lines))) ∷ Prove AtCut (from_cut f landing path (drop first lines)) ∷ [] in
      let closed = closed_first terms (proofs ++ jobs) (subst JobsShown (append_assoc (map Close terms) proofs jobs) h) in
      ((closed.0, (closed.1.0, closed.1.1.0)), closed.1.1.1)

  reading_first : (origin : Origin) (f : Frame) (draft : Draft) (lines : List Term) (left : ℕ) (jobs : List Job) → JobsShown (reading p origin f draft lines left ++ jobs)
      → Read origin f draft lines left × JobsShown jobs
  unfolding JobsShown
  reading_first origin f draft lines zero jobs h =
      let rest = finished_first origin f draft lines jobs h in (
        record {
          more = [];
          counted = refl;
          are = All-nil (IsLine f.setting (path_of draft));
          rest = subst (AfterLines origin f draft) (sym (append-nil lines)) rest.0;
        },
        rest.1,
      )
  reading_first origin f draft lines (suc left) jobs h = (h.0, h.1)

  one_line : (origin : Origin) (f : Frame) (draft : Draft) (lines : List Term) (t : Term) (left : ℕ) → IsLine f.setting (path_of draft) t → Read origin f draft (lines ++ t ∷ []) left
      → Read origin f draft lines (suc left)
  one_line origin f draft lines t left is h = record {
    more = t ∷ h.more;
    counted = ap suc h.counted;
    are = All-cons (IsLine f.setting (path_of draft)) t h.more is h.are;
    rest = subst (AfterLines origin f draft) (append_assoc lines (t ∷ []) h.more) h.rest;
  }

  -- ---- one line

  pub before : (at : ℕ) (jobs next : List Job) (line : Line) → Passes p at jobs line next → JobsShown next → JobsShown jobs
  unfolding JobsShown
  before at js next line (leaf origin f jobs terms leaves) h =
      let closed = closed_first terms jobs h in
      (shown.leaf origin f terms leaves.obligations closed.0, closed.1)
  before at js next line (case origin f jobs symbols test read) h = (shown.case origin f test read.line h.0 h.1.0, h.1.1)
  before at js next line (restrict_binary origin f jobs point node count terms is counted leaves) h =
      let closed = closed_first terms _ h in
      (shown.restrict_binary origin f node count terms counted leaves.obligations closed.0 closed.1.0, closed.1.1)
  before at js next line (restrict_source origin f jobs point node count terms is counted leaves) h =
      let closed = closed_first terms _ h in
      (shown.restrict_source origin f node count terms counted leaves.obligations closed.0 closed.1.0, closed.1.1)
  before at js next line (split origin f jobs points nodes enter again relations are enter_counts step_counts passes) h =
      let read = reading_first origin f (OfSplit nodes points.source.path enter again) [] relations jobs h in
      let r = read.0 in
      (shown.split origin f nodes points.source.path enter again r.more enter_counts step_counts passes r.are r.rest.0 r.rest.1, read.1)
  before at js next line (call origin f jobs points counts first later call_nodes binary source callee crosses) h =
      let read = reading_first origin f (OfCall call_nodes _ points.source.path _ callee first) [] (first + later) jobs h in
      let r = read.0 in (
        shown.call origin f points call_nodes binary source points.source.path callee (take first r.more) (drop first r.more) crosses.paired crosses.shown crosses.allowed
            (All-take (IsLine f.setting points.source.path) first r.more r.are) (All-drop (IsLine f.setting points.source.path) first r.more r.are) r.rest.0 r.rest.1.0 r.rest.1.1,
        read.1,
      )
  before at js next line (relation origin f draft lines left jobs symbols t is) h =
      let read = reading_first origin f draft (lines ++ t ∷ []) left jobs h in
      (one_line origin f draft lines t left is.line read.0, read.1)
  before at js next line (no_log goal jobs small truth) h = (([], without_log p.runs goal small truth), h)
  before at js next line (log goal jobs left small few) h = (with_log p.runs goal left small few h.0, h.1)
  before at js next line (step offset variables clauses left jobs one follows) h = (logs.one_step variables clauses left one follows h.0, h.1)
  before at js next line (last_step offset variables clauses jobs one follows empty) h = (logs.last_step variables clauses one follows empty, h)

  -- of nothing that is expected there is nothing to show, and of one proof that
  pub nothing_left : JobsShown []
  unfolding JobsShown
  nothing_left = tt

  pub one_proof : (origin : Origin) (f : Frame) → JobsShown (Prove origin f ∷ []) → IsShown p origin f
  unfolding JobsShown
  one_proof origin f h = h.0

  -- ---- all lines

  pass_shown : (at : ℕ) (jobs last : List Job) (lines : List Line) → Pass p at jobs lines last → JobsShown last → JobsShown jobs
  pass_shown at jobs last lines (none _ _) h = h
  pass_shown at jobs last lines (some _ _ next _ line rest passes others) h = before at jobs next line passes (pass_shown (at + length (line_text line)) next last rest others h)

  pub passed_is_shown : (at : ℕ) (origin : Origin) (f : Frame) (lines : List Line) → Pass p at (Prove origin f ∷ []) lines [] → IsShown p origin f
  unfolding JobsShown
  passed_is_shown at origin f lines passed = (pass_shown at (Prove origin f ∷ []) [] lines passed tt).0
