-- What the line of a log does to the walk, in the definition's terms.
use Rattle.std.proofs.Common.{◌≡◌, ◌∙◌, ℕ, suc, ◌+◌, true, false, Vec, Global, List, [], ◌∷◌, ◌++◌, length, Option, Some, None, Result, Ok, Err, refl, sym, ap, subst}
use Rattle.std.specs.Prelude.{slice_get}
use Rattle.memory_spec.specs.Runs.{Run}
use Rattle.memory_spec.specs.Viewed.{runs_of}
use Rattle.term_core_spec.specs.Term.{Term}
use Rattle.term_norm_spec.specs.Normal.{normal}
use Rattle.term_bank.specs.Nodes.{tree_at}
use Rattle.discharge_spec.specs.declared.GoalQuantity.TheVariants as above
use Rattle.discharge.specs.Closers.{Begins, is_closed, open_of}
use Rattle.discharge.specs.declared.closer.Closer.{Closer}
use Rattle.discharge.specs.declared.error.CloseFault.{CloseFault}
use Rattle.discharge.specs.declared.error.CloseFault.TheVariants as close
use Rattle.attempt.specs.declared.refusal.Refusal.{Refusal}
use Rattle.attempt.specs.declared.refusal.Refusal.TheVariants.{Fault, NoMemory}
use Rattle.cert_text_parse.specs.declared.lines.Line.TheVariants as code
use Rattle.cert_text_spec.specs.Lines.{Log, line_text}
use Rattle.cert_text_spec.specs.Certificates.{Expected, ALog}
use Rattle.tv_limits.specs.declared.Quantity.TheVariants as quantity
use Rattle.cert_check_spec.specs.declared.RuleWord.{RuleWord}
use Rattle.cert_check_spec.specs.declared.RuleWord.TheVariants as fault
use Rattle.cert_check_lines_spec.specs.Jobs as spec
use Rattle.cert_check_lines_spec.specs.Jobs.{InLog}
use Rattle.cert_check_lines_spec.specs.LineRules as lines
use Rattle.cert_check_lines_spec.specs.LineRules.{Passes, Fails}
use Rattle.cert_check_lines_spec.specs.Parts.{Functions, Member, State, Inside, part_of, unfolded}
use Rattle.cert_check_lines_spec.specs.Walk.{Going, Stopped, Takes}
use Rattle.cert_check_lines_spec.specs.Walk as walks
use Rattle.cert_check_lines_spec.specs.Known.{is_known}
use Rattle.cert_check_jobs.specs.declared.jobs.Job.TheVariants.{Close}
use Rattle.cert_check_frames.specs.declared.listed.Listed.{Listed}
use Rattle.cert_check_frames.specs.Listed.{frame_at}
use Rattle.cert_check_jobs.specs.Jobs.{AreInside}
use Rattle.cert_check.specs.declared.fault.NamedFault.{NamedFault}
use Rattle.cert_check.specs.declared.fault.NamedFault.TheVariants.{Broken}
use Rattle.cert_check.specs.declared.fault.Named.TheVariants as named
use Rattle.cert_check.specs.declared.logs.OpenLine.{OpenLine}
use Rattle.cert_check.specs.declared.walk.Walk.{Walk}
use Rattle.cert_check.specs.Members.{IsMemberOf}
use Rattle.cert_check.specs.Walks.{IsPart, inside, walk_jobs, Expecting, in_part, IsWalk}
use Rattle.cert_check.specs.Logs.{begin_fault, BeginsFirst, IsOpened, IsAt, no_log, in_log, OpensLog, LogComes, GoesLog}
use Rattle.cert_check.proofs.Pushed.{jobs_top, same_jobs, inside_top}
use Rattle.cert_check.proofs.Tops.{log_below}
use Rattle.cert_check.proofs.LogRules.{takes_steps, opens, closes, unclosed, many_terms, many_variables}
use Rattle.cert_check.proofs.States.{accepts_there, rejects_there, IsLast, last_of}
use Rattle.cert_check.proofs.Entered.{kept_inside, some_now}

module _ (codes : List Listed) (old now : Walk) (count place part : ℕ) (before : List ℕ) (at : IsWalk codes old (Log count)) (last : old.parts.items ≡ before ++ part ∷ [])
    (function : Listed) (there : slice_get codes part ≡ Some function) where
  -- ---- the obligation that is first

  module _ (result : Result Closer (Refusal CloseFault)) (first : BeginsFirst function old now count result) where
    abbrev goal : Term
    goal = tree_at old.bank first.goal

    -- what is expected after it
    abbrev below : List spec.Job
    below = walk_jobs now function

    within : AreInside (length old.bank) now.jobs.items
    within = (inside_top (length old.bank) now.jobs.items (Close first.goal) (subst (AreInside (length old.bank)) first.first (at.sound.kept before part function last there).inside)).0

    at_goal : walk_jobs old function ≡ spec.Close goal ∷ below
    at_goal =
        jobs_top old.bank (frame_at function) old.jobs.items now.jobs.items (Close first.goal) first.first
        ∙ ap (λ (jobs : List spec.Job). spec.Close goal ∷ jobs) (sym (same_jobs old.bank now.bank first.extends (frame_at function) now.jobs.items within))

    begins_for : (f : Member) → IsMemberOf function f → Begins f.listed.runs goal count result
    begins_for f is = subst (λ (runs : List Run). Begins runs goal count result) (sym is.listed.runs_are) first.begins

    -- ---- a line that passes

    now_part : (members parts : List Member) (f : Member) → IsPart codes members old function f parts → IsPart codes members now function f parts
    now_part members parts f was = record {
      before = was.before;
      index = was.index;
      split = ap (λ (list : Vec ℕ Global). list.items) first.parts ∙ was.split;
      found = was.found;
      member = was.member;
      picked = was.picked;
    }

    passes_there : (fs : Functions) (members : List Member) (offset : ℕ) (s : State) (x : IsLast codes members old function s) (more : List spec.Job)
        → Passes (part_of x.parts x.f (unfolded x.f)) offset (spec.Close goal ∷ below) (Log count) more
        → Takes fs members is_known (Going offset s) (Log count) (Going (offset + length (line_text (Log count))) (Inside x.parts x.f (unfolded x.f) more))
    passes_there fs members offset s x more passes =
        walks.goes_on offset s (Inside x.parts x.f (unfolded x.f) more) (Log count) refl
        (accepts_there fs members x.parts x.f (walk_jobs old function) offset (Log count) more s x.has
        (subst (λ (jobs : List spec.Job). Passes (part_of x.parts x.f (unfolded x.f)) offset jobs (Log count) more) (sym at_goal) passes))

    fails_there : (fs : Functions) (members : List Member) (offset : ℕ) (s : State) (x : IsLast codes members old function s) (wrong : lines.Fault)
        → Fails (part_of x.parts x.f (unfolded x.f)) offset (spec.Close goal ∷ below) (Log count) offset wrong
        → Takes fs members is_known (Going offset s) (Log count) (Stopped offset x.f.listed.name wrong)
    fails_there fs members offset s x wrong fails =
        walks.stops offset s (Log count) offset x.f.listed.name wrong refl
        (rejects_there fs members x.parts x.f (walk_jobs old function) offset (Log count) offset wrong s x.has
        (subst (λ (jobs : List spec.Job). Fails (part_of x.parts x.f (unfolded x.f)) offset jobs (Log count) offset wrong) (sym at_goal) fails))

  abbrev Last : List Member → State → Type 0
  Last members s = IsLast codes members old function s

  module _ (closer : Closer) (first : BeginsFirst function old now count (Ok closer)) where
    abbrev left_below : List spec.Job
    left_below = below (Ok closer) first

    opened_at : (fs : Functions) (members : List Member) (offsets : ℕ → ℕ) (s : State) (x : Last members s) (current : OpenLine) → count ≡ suc current.left → current.place ≡ place → current.closer ≡ closer
        → LogComes codes fs members offsets now s count place (Ok (Some current))
    opened_at fs members offsets s x current counted placed is =
        let p = part_of x.parts x.f (unfolded x.f) in
        let begins = begins_for (Ok closer) first x.f x.is in
        let o = takes_steps (normal p.runs (goal (Ok closer) first)) count current.left (open_of closer) counted begins.1 in
        let more = InLog (offsets place) o.steps.variables o.steps.clauses current.left ∷ left_below in
        let passes : Passes p (offsets place) (spec.Close (goal (Ok closer) first) ∷ left_below) (Log count) more =
        opens p (offsets place) (goal (Ok closer) first) left_below count current.left (open_of closer) o.steps counted o.is begins.0 begins.1 in
        let here : IsAt codes members offsets now (Some current) (Inside x.parts x.f (unfolded x.f) (InLog (offsets current.place) o.steps.variables o.steps.clauses current.left ∷ left_below)) =
        in_log current o.steps function x.f x.parts refl (ap open_of is ∙ o.is) (now_part (Ok closer) first members x.parts x.f x.part) in (
          Inside x.parts x.f (unfolded x.f) more,
          passes_there (Ok closer) first fs members (offsets place) s x more passes,
          subst
              (λ (n : ℕ).
              IsAt codes members offsets now (Some current) (Inside x.parts x.f (unfolded x.f) (InLog (offsets n) o.steps.variables o.steps.clauses current.left ∷ left_below)))
              placed here,
        )

    closed_at : (fs : Functions) (members : List Member) (offsets : ℕ → ℕ) (s : State) (x : Last members s) → count ≡ 0 → is_closed (open_of closer) ≡ true
        → LogComes codes fs members offsets now s count place (Ok None)
    closed_at fs members offsets s x none closed =
        let p = part_of x.parts x.f (unfolded x.f) in
        let begins = begins_for (Ok closer) first x.f x.is in
        let next = Inside x.parts x.f (unfolded x.f) left_below in (
          next,
          passes_there (Ok closer) first fs members (offsets place) s x left_below
              (closes p (offsets place) (goal (Ok closer) first) left_below count (open_of closer) none closed begins.0 begins.1),
          no_log next refl (inside function x.f x.parts (now_part (Ok closer) first members x.parts x.f x.part)),
        )

    comes_at : (fs : Functions) (members : List Member) (offsets : ℕ → ℕ) (s : State) (x : Last members s) (log : Option OpenLine) → IsOpened closer count place (Ok log)
        → LogComes codes fs members offsets now s count place (Ok log)
    comes_at fs members offsets s x None is = closed_at fs members offsets s x is.0 is.1
    comes_at fs members offsets s x (Some current) is = opened_at fs members offsets s x current is.0 is.1 is.2

    opens_log : (log : Option OpenLine) → IsOpened closer count place (Ok log) → OpensLog count place log
    opens_log None is = is.0
    opens_log (Some current) is =
        let o = takes_steps (normal (runs_of function.runs.now) (goal (Ok closer) first)) count current.left (open_of closer) is.0 first.begins.1 in
        (is.0, is.1, record { steps = o.steps; is = ap open_of is.2 ∙ o.is; bounded = o.bounded })

    follows_log : (others : List Expected) → Expecting old (ALog ∷ others) → Expecting now others
    follows_log others (in_part _ some are) =
        in_part others (some_now codes old now (code.Log count) place part before at refl last function there first.parts)
        (log_below old.jobs.items now.jobs.items first.goal first.first ALog others refl are)

    pub log_begins : (log : Option OpenLine) → IsOpened closer count place (Ok log) → GoesLog codes old now count place (Ok log)
    log_begins log is = record {
      sound = kept_inside codes old now (code.Log count) place part before at refl last function there first.parts first.kept;
      follows = follows_log;
      begun = some_now codes old now (code.Log count) place part before at refl last function there first.parts;
      opens = opens_log log is;
      step = λ fs members offsets are s state. comes_at fs members offsets s (last_of codes members old are before part last function there s state) log is;
    }

    -- the goal isn't closed, and no step is to come
    open_at : (fs : Functions) (members : List Member) (offsets : ℕ → ℕ) (s : State) (x : Last members s) → count ≡ 0 → is_closed (open_of closer) ≡ false
        → LogComes codes fs members offsets now s count place (Err (Fault (Broken (named.Listed part) fault.Unclosed)))
    open_at fs members offsets s x none current =
        let p = part_of x.parts x.f (unfolded x.f) in
        let begins = begins_for (Ok closer) first x.f x.is in (
          x.f.listed.name,
          record { function = function; there = there; named = sym x.is.listed.named },
          fails_there (Ok closer) first fs members (offsets place) s x (lines.Breaks fault.Unclosed)
              (unclosed p (offsets place) (goal (Ok closer) first) left_below count (open_of closer) none current begins.0 begins.1),
        )

    pub log_stays_open : (word : RuleWord) → IsOpened closer count place (Err word) → GoesLog codes old now count place (Err (Fault (Broken (named.Listed part) word)))
    log_stays_open fault.Unclosed is = record {
      sound = tt;
      follows = tt;
      begun = tt;
      opens = tt;
      step = λ fs members offsets are s state. open_at fs members offsets s (last_of codes members old are before part last function there s state) is.0 is.1;
    }
    log_stays_open fault.Later is = absurd is
    log_stays_open fault.Stranger is = absurd is
    log_stays_open fault.Stack is = absurd is
    log_stays_open fault.Inline is = absurd is
    log_stays_open fault.Point is = absurd is
    log_stays_open fault.Count is = absurd is
    log_stays_open fault.Callee is = absurd is
    log_stays_open fault.Sort is = absurd is
    log_stays_open fault.Cyclic is = absurd is
    log_stays_open fault.Passed is = absurd is
    log_stays_open fault.Logs is = absurd is
    log_stays_open fault.Same is = absurd is
    log_stays_open fault.Step is = absurd is
    log_stays_open fault.Word is = absurd is
    log_stays_open fault.Missing is = absurd is

  -- ---- a log that doesn't begin

  begin_fails : (fs : Functions) (members : List Member) (offsets : ℕ → ℕ) (s : State) (x : Last members s) (error : Refusal CloseFault) (first : BeginsFirst function old now count (Err error))
      → LogComes codes fs members offsets now s count place (Err (begin_fault part error))
  begin_fails fs members offsets s x (Fault (close.Large above.Terms least)) first =
      let result = Err (Fault (close.Large above.Terms least)) in (
        x.f.listed.name,
        fails_there result first fs members (offsets place) s x (lines.Above quantity.Terms)
            (many_terms (part_of x.parts x.f (unfolded x.f)) (offsets place) (goal result first) (below result first) count least (begins_for result first x.f x.is)),
      )
  begin_fails fs members offsets s x (Fault (close.Large above.Variables least)) first =
      let result = Err (Fault (close.Large above.Variables least)) in (
        x.f.listed.name,
        fails_there result first fs members (offsets place) s x (lines.Above quantity.Variables)
            (many_variables (part_of x.parts x.f (unfolded x.f)) (offsets place) (goal result first) (below result first) count least (begins_for result first x.f x.is)),
      )
  begin_fails fs members offsets s x (Fault (close.Step number)) first = absurd first.begins
  begin_fails fs members offsets s x (Fault close.Unclosed) first = absurd first.begins
  begin_fails fs members offsets s x NoMemory first = tt

  pub log_refused : (error : Refusal CloseFault) (answer : Refusal NamedFault) → answer ≡ begin_fault part error → BeginsFirst function old now count (Err error)
      → GoesLog codes old now count place (Err answer)
  log_refused error answer is first = subst (λ (x : Refusal NamedFault). GoesLog codes old now count place (Err x)) (sym is)
      (record {
        sound = tt;
        follows = tt;
        begun = tt;
        opens = tt;
        step = λ fs members offsets are s state. begin_fails fs members offsets s (last_of codes members old are before part last function there s state) error first;
      })
