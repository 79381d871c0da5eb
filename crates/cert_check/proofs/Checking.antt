-- What a line does to a checker, by what it does to its walk and to its log.
use Rattle.std.proofs.Common.{◌≡◌, ◌∙◌, ◌⊎◌, inl, inr, ℕ, suc, ◌<◌, true, false, List, [], ◌∷◌, ◌++◌, length, Option, Some, None, Ok, Err, refl, sym, ap, subst}
use Rattle.std.specs.Prelude.{replicate, slice_get}
use Rattle.std.proofs.lemmas.List.{same_from_push}
use Rattle.std.proofs.lemmas.Option.{same_Some}
use Rattle.clause_check_spec.specs.Log.{Step}
use Rattle.discharge.specs.Closers.{OpenLog, open_of, with_step}
use Rattle.attempt.specs.declared.refusal.Refusal.{Refusal}
use Rattle.attempt.specs.declared.refusal.Refusal.TheVariants.{Fault, NoMemory}
use Rattle.cert_text_spec.specs.Lines.{Line, Log, LogStep, End}
use Rattle.cert_text_spec.specs.Certificates.{Expected, ALog, AStep, after, can_stand, is_step}
use Rattle.cert_check_lines_spec.specs.Jobs.{InLog}
use Rattle.cert_check_spec.specs.declared.RuleWord.TheVariants as fault
use Rattle.cert_check_lines_spec.specs.LineRules as lines
use Rattle.cert_check_lines_spec.specs.Parts as rules
use Rattle.cert_check_lines_spec.specs.Parts.{Functions, Member, State, Inside, part_of, unfolded}
use Rattle.cert_check_lines_spec.specs.Walk.{Going, Stopped, Takes}
use Rattle.cert_check_lines_spec.specs.Walk as walks
use Rattle.cert_check_frames.specs.declared.listed.Listed.{Listed}
use Rattle.cert_check.specs.declared.fault.NamedFault.{NamedFault}
use Rattle.cert_check.specs.declared.fault.NamedFault.TheVariants.{Broken, Above}
use Rattle.cert_check.specs.declared.fault.Named.TheVariants as named
use Rattle.cert_check.specs.declared.fault.Placed.{Placed}
use Rattle.cert_check.specs.declared.logs.OpenLine.{OpenLine}
use Rattle.cert_check.specs.declared.walk.Walk.{Walk}
use Rattle.cert_check.specs.declared.checker.Checker.{Checker}
use Rattle.cert_check_frames.specs.Parts.{IsNamed}
use Rattle.cert_check.specs.Members.{AreMembers}
use Rattle.cert_check.specs.Walks.{IsPart, walk_jobs, inside, Expecting, IsWalk, StepsTo, Goes as WalkGoes, placed_fault}
use Rattle.cert_check.specs.Logs.{no_log, in_log, CanStep, OpensLog, GoesLog, IsStepFault, refused, unclosed, TakesOne, StepsLog}
use Rattle.cert_check.specs.Checkers.{IsReady, steps_left, Expects, IsHere, IsNextLine, Leads, IsBegunBefore, IsFaultBefore, Goes}
use Rattle.cert_check.proofs.LogRules.{goes_on, is_last, is_refused, is_open}
use Rattle.cert_check.proofs.Picked.{is_member}
use Rattle.cert_check.proofs.Expected.{only_log, step_alone, no_step}

-- ---- what is expected, by whether a log is open

abbrev first_of : Expected → List Expected → Expected
first_of other [] = other
first_of other (e ∷ others) = e

abbrev rest_of : List Expected → List Expected
rest_of [] = []
rest_of (e ∷ others) = others

-- no log is open at a line that is no step
pub record IsShut (c : Checker) (e : Expected) (others : List Expected) : Type 0 where
  pub none : c.log ≡ None
  pub expecting : Expecting c.walk (e ∷ others)

pub shut : (c : Checker) (line : Line) (e : Expected) (others : List Expected) → (is_step line ≡ true → ⊥) → can_stand e line ≡ true → Expects c (e ∷ others) → IsShut c e others
shut c line e others never allowed expects = by c.log refl expects.is
  where
    by : (log : Option OpenLine) → c.log ≡ log → e ∷ others ≡ replicate (steps_left log) AStep ++ expects.others → IsShut c e others
    by None none is = record { none = none; expecting = subst (Expecting c.walk) (sym is) expects.walk }
    by (Some current) some is =
        let first : e ≡ AStep = ap (first_of e) is in
        absurd (never (subst (λ (x : Expected). can_stand x line ≡ true) first allowed))

-- the steps of the log that is open come first
pub record IsOpen (c : Checker) (e : Expected) (others : List Expected) : Type 0 where
  pub current : OpenLine
  pub is : c.log ≡ Some current
  pub walk_others : List Expected
  pub expecting : Expecting c.walk walk_others
  pub first : e ≡ AStep
  pub rest : others ≡ replicate current.left AStep ++ walk_others

pub open_log : (c : Checker) (step : Step) (e : Expected) (others : List Expected) → can_stand e (LogStep step) ≡ true → Expects c (e ∷ others) → IsOpen c e others
open_log c step e others allowed expects = by c.log refl expects.is
  where
    by : (log : Option OpenLine) → c.log ≡ log → e ∷ others ≡ replicate (steps_left log) AStep ++ expects.others → IsOpen c e others
    by None none is = absurd (no_step c.walk e others (step_alone e step allowed) (subst (Expecting c.walk) (sym is) expects.walk))
    by (Some current) some is = record { current = current; is = some; walk_others = expects.others; expecting = expects.walk; first = ap (first_of e) is; rest = ap rest_of is }

-- ---- a line that is no log and no step

-- the walk's own line can be the next
pub can_walk : (c : Checker) (line : Line) → (is_step line ≡ true → ⊥) → IsNextLine c line → IsWalk c.listed.now c.walk line
can_walk c line never next =
    let here = shut c line next.expected next.others never next.allowed next.expects in
    record { sound = next.ready.walk; expected = next.expected; others = next.others; expecting = here.expecting; allowed = next.allowed }

module _ (old : Checker) (walk : Walk) (line : Line) (place : ℕ) (never : is_step line ≡ true → ⊥) (next : IsNextLine old line) where
  abbrev now_walk : Checker
  now_walk = record old { walk = walk }

  no_open : old.log ≡ None
  no_open = (shut old line next.expected next.others never next.allowed next.expects).none

  ready_walk : WalkGoes old.listed.now old.walk walk line place (Ok (tt {0})) → IsReady now_walk
  ready_walk goes = record { walk = goes.sound; log = λ current is. absurd (let both = sym no_open ∙ is in cc) }

  follows_walk : WalkGoes old.listed.now old.walk walk line place (Ok (tt {0})) → (e : Expected) (others : List Expected) → Expects old (e ∷ others) → can_stand e line ≡ true
      → (line ≡ End) ⊎ Expects now_walk (after e line ++ others)
  follows_walk goes e others expects allowed =
      let here = shut old line e others never allowed expects in
      by (goes.follows e others here.expecting allowed)
    where
      by : (line ≡ End) ⊎ Expecting walk (after e line ++ others) → (line ≡ End) ⊎ Expects now_walk (after e line ++ others)
      by (inl last) = inl last
      by (inr expecting) =
          inr (record {
            others = after e line ++ others;
            walk = expecting;
            is = sym (ap (λ (log : Option OpenLine). replicate (steps_left log) AStep ++ (after e line ++ others)) no_open);
          })

  leads_walk : WalkGoes old.listed.now old.walk walk line place (Ok (tt {0})) → (fs : Functions) (members : List Member) (offsets : ℕ → ℕ) → AreMembers old.listed.now members → (s : State)
      → IsHere members offsets old s → Leads fs members offsets old now_walk s line place (Ok (tt {0}))
  leads_walk goes fs members offsets are _ (in_log current steps function f parts is is_log part) = absurd (let both = sym no_open ∙ is in cc)
  leads_walk goes fs members offsets are s (no_log _ none state) = by (goes.step fs members (offsets place) are s state)
    where
      by : StepsTo old.listed.now fs members (offsets place) walk s line place (Ok (tt {0})) → Leads fs members offsets old now_walk s line place (Ok (tt {0}))
      by (to, takes, inl last) = (to, takes, inl last)
      by (to, takes, inr there) = (to, takes, inr (no_log to none there))

  fault_walk : (broken : Refusal NamedFault) → WalkGoes old.listed.now old.walk walk line place (Err broken) → (fs : Functions) (members : List Member) (offsets : ℕ → ℕ)
      → AreMembers old.listed.now members → (s : State) → IsHere members offsets old s → Leads fs members offsets old now_walk s line place (Err (placed_fault place broken))
  fault_walk broken goes fs members offsets are _ (in_log current steps function f parts is is_log part) = absurd (let both = sym no_open ∙ is in cc)
  fault_walk (Fault (Broken function rule)) goes fs members offsets are s (no_log _ none state) = goes.step fs members (offsets place) are s state
  fault_walk (Fault (Above q)) goes fs members offsets are s (no_log _ none state) = goes.step fs members (offsets place) are s state
  fault_walk NoMemory goes fs members offsets are s (no_log _ none state) = tt

  pub plain_passes : WalkGoes old.listed.now old.walk walk line place (Ok (tt {0})) → Goes old now_walk line place (Ok (tt {0}))
  plain_passes goes = record {
    listed = refl;
    ready = ready_walk goes;
    follows = follows_walk goes;
    begun = λ n within before. before;
    within = λ n within before. tt;
    leads = leads_walk goes;
  }

  fault_within : (broken : Refusal NamedFault) (n : ℕ) → place < n → IsFaultBefore n (Err (placed_fault place broken))
  fault_within (Fault broken) n within = within
  fault_within NoMemory n within = tt

  pub plain_fails : (broken : Refusal NamedFault) (answer : Refusal Placed) → answer ≡ placed_fault place broken → WalkGoes old.listed.now old.walk walk line place (Err broken)
      → Goes old now_walk line place (Err answer)
  plain_fails broken answer is goes = subst (λ (x : Refusal Placed). Goes old now_walk line place (Err x)) (sym is)
      (record {
        listed = refl;
        ready = tt;
        follows = tt;
        begun = λ n within before. tt;
        within = λ n within before. fault_within broken n within;
        leads = fault_walk broken goes;
      })

-- ---- the line of a log

never_log_step : (count : ℕ) → is_step (Log count) ≡ true → ⊥
never_log_step count h = absurd (cc)

pub can_log : (c : Checker) (count : ℕ) → IsNextLine c (Log count) → IsWalk c.listed.now c.walk (Log count)
can_log c count next = can_walk c (Log count) (never_log_step count) next

module _ (old : Checker) (walk : Walk) (count place : ℕ) (next : IsNextLine old (Log count)) where
  no_log_open : old.log ≡ None
  no_log_open = (shut old (Log count) next.expected next.others (never_log_step count) next.allowed next.expects).none

  -- what is expected after the line, where the log is open or has no step
  expects_log : (log : Option OpenLine) → OpensLog count place log → (e : Expected) (others : List Expected) → e ≡ ALog → Expecting walk others
      → Expects (record old { walk = walk; log = log }) (after e (Log count) ++ others)
  expects_log log opens e others is expecting = record {
    others = others;
    walk = expecting;
    is = ap (λ (x : Expected). after x (Log count) ++ others) is ∙ ap (λ (n : ℕ). replicate n AStep ++ others) (by log opens);
  }
    where
      by : (log : Option OpenLine) → OpensLog count place log → count ≡ steps_left log
      by None none = none
      by (Some current) so = so.0

  ready_log : (log : Option OpenLine) → GoesLog old.listed.now old.walk walk count place (Ok log) → IsReady (record old { walk = walk; log = log })
  ready_log log goes = record { walk = goes.sound; log = λ current is. by log goes.opens current is }
    where
      by : (log : Option OpenLine) → OpensLog count place log → (current : OpenLine) → log ≡ Some current → CanStep current × (0 < length walk.parts.items)
      by None none current is = absurd (cc)
      by (Some found) so current is = (subst CanStep (same_Some found current is) so.2, goes.begun)

  begun_log : (log : Option OpenLine) → OpensLog count place log → (n : ℕ) → place < n → IsBegunBefore n (record old { walk = walk; log = log })
  begun_log None none n within = λ current is. absurd (cc)
  begun_log (Some found) so n within = λ current is. subst (λ (o : OpenLine). o.place < n) (same_Some found current is) (subst (λ (m : ℕ). m < n) (sym so.1) within)

  leads_log : (log : Option OpenLine) → GoesLog old.listed.now old.walk walk count place (Ok log) → (fs : Functions) (members : List Member) (offsets : ℕ → ℕ)
      → AreMembers old.listed.now members → (s : State) → IsHere members offsets old s → Leads fs members offsets old (record old { walk = walk; log = log }) s (Log count) place (Ok (tt {0}))
  leads_log log goes fs members offsets are _ (in_log current steps function f parts is is_log part) = absurd (let both = sym no_log_open ∙ is in cc)
  leads_log log goes fs members offsets are s (no_log _ none state) =
      let to = goes.step fs members offsets are s state in
      (to.0, to.1, inr to.2)

  pub log_passes : (log : Option OpenLine) → GoesLog old.listed.now old.walk walk count place (Ok log) → Goes old (record old { walk = walk; log = log }) (Log count) place (Ok (tt {0}))
  log_passes log goes = record {
    listed = refl;
    ready = ready_log log goes;
    follows = λ e others expects allowed.
        let here = shut old (Log count) e others (never_log_step count) allowed expects in
        let is = only_log e count allowed in
        inr (expects_log log goes.opens e others is (goes.follows others (subst (λ (x : Expected). Expecting old.walk (x ∷ others)) is here.expecting)));
    begun = λ n within before. begun_log log goes.opens n within;
    within = λ n within before. tt;
    leads = leads_log log goes;
  }

  fault_log : (broken : Refusal NamedFault) → GoesLog old.listed.now old.walk walk count place (Err broken) → (fs : Functions) (members : List Member) (offsets : ℕ → ℕ)
      → AreMembers old.listed.now members → (s : State) → IsHere members offsets old s
      → Leads fs members offsets old (record old { walk = walk }) s (Log count) place (Err (placed_fault place broken))
  fault_log broken goes fs members offsets are _ (in_log current steps function f parts is is_log part) = absurd (let both = sym no_log_open ∙ is in cc)
  fault_log (Fault (Broken (named.Listed k) rule)) goes fs members offsets are s (no_log _ none state) = goes.step fs members offsets are s state
  fault_log (Fault (Broken (named.Line n) rule)) goes fs members offsets are s (no_log _ none state) = absurd (goes.step fs members offsets are s state)
  fault_log (Fault (Above q)) goes fs members offsets are s (no_log _ none state) = goes.step fs members offsets are s state
  fault_log NoMemory goes fs members offsets are s (no_log _ none state) = tt

  log_within : (broken : Refusal NamedFault) (n : ℕ) → place < n → IsFaultBefore n (Err (placed_fault place broken))
  log_within (Fault broken) n within = within
  log_within NoMemory n within = tt

  pub log_fails : (broken : Refusal NamedFault) (answer : Refusal Placed) → answer ≡ placed_fault place broken → GoesLog old.listed.now old.walk walk count place (Err broken)
      → Goes old (record old { walk = walk }) (Log count) place (Err answer)
  log_fails broken answer is goes = subst (λ (x : Refusal Placed). Goes old (record old { walk = walk }) (Log count) place (Err x)) (sym is)
      (record {
        listed = refl;
        ready = tt;
        follows = tt;
        begun = λ n within before. tt;
        within = λ n within before. log_within broken n within;
        leads = fault_log broken goes;
      })

-- ---- a step

-- the log that takes it
pub record TakesIt (c : Checker) : Type 0 where
  pub current : OpenLine
  pub is : c.log ≡ Some current
  pub can : CanStep current
  pub begun : 0 < length c.walk.parts.items

pub takes_it : (c : Checker) (one : Step) → IsNextLine c (LogStep one) → TakesIt c
takes_it c one next =
    let found = open_log c one next.expected next.others next.allowed next.expects in
    let ready = next.ready.log found.current found.is in
    record { current = found.current; is = found.is; can = ready.0; begun = ready.1 }

module _ (old : Checker) (one : Step) (place part : ℕ) (before : List ℕ) (last : old.walk.parts.items ≡ before ++ part ∷ []) (next : IsNextLine old (LogStep one)) (current : OpenLine)
    (is : old.log ≡ Some current) where
  abbrev Codes : List Listed
  Codes = old.listed.now

  -- the name of the function in whose part it is
  named_last : (members : List Member) (function : Listed) (f : Member) (parts : List Member) → AreMembers Codes members → IsPart Codes members old.walk function f parts
      → IsNamed Codes part f.listed.name
  named_last members function f parts are there =
      let ends_so = same_from_push before there.before part there.index (sym last ∙ there.split) in
      let listed = is_member Codes members are there.index function f there.found there.member in
      record { function = function; there = ap (slice_get Codes) ends_so.1 ∙ there.found; named = sym listed.listed.named }

  same_open : (found : OpenLine) → old.log ≡ Some found → current ≡ found
  same_open found also = same_Some current found (sym is ∙ also)

  -- ---- the log goes on

  module _ (new : OpenLine) (takes : StepsLog part current new one place (Ok true)) where
    abbrev now_open : Checker
    now_open = record old { log = Some new }

    abbrev can : CanStep current
    can = (next.ready.log current is).0

    taken : TakesOne part current new can.steps one place (Ok true)
    taken = takes can.steps can.is

    pub goes_open : Goes old now_open (LogStep one) place (Ok (tt {0}))
    goes_open = record {
      listed = refl;
      ready = record {
        walk = next.ready.walk;
        log = λ found also.
            let same = same_Some new found also in
            (subst CanStep same (record { steps = with_step can.steps one.literals; is = taken.1; bounded = can.bounded }), (next.ready.log current is).1);
      };
      follows = λ e others expects allowed.
          let here = open_log old one e others allowed expects in
          let left : here.current.left ≡ suc new.left = ap (λ (o : OpenLine). o.left) (sym (same_open here.current here.is)) ∙ taken.2 in
          inr (record {
            others = here.walk_others;
            walk = here.expecting;
            is =
                ap (λ (x : Expected). after x (LogStep one) ++ others) here.first
                ∙ (here.rest ∙ ap (λ (n : ℕ). replicate n AStep ++ here.walk_others) left);
          });
      begun = λ n within earlier. λ found also.
          let same = same_Some new found also in
          subst (λ (o : OpenLine). o.place < n) same (subst (λ (m : ℕ). m < n) (sym taken.3) (earlier current is));
      within = λ n within earlier. tt;
      leads = λ fs members offsets are s here. leads_open fs members offsets are s here;
    }
      where
        leads_open : (fs : Functions) (members : List Member) (offsets : ℕ → ℕ) → AreMembers Codes members → (s : State) → IsHere members offsets old s
            → Leads fs members offsets old now_open s (LogStep one) place (Ok (tt {0}))
        leads_open fs members offsets are _ (no_log s none state) = absurd (let both = sym is ∙ none in cc)
        leads_open fs members offsets are _ (in_log found steps function f parts also is_log there) =
            let same = same_open found also in
            let took : TakesOne part found new steps one place (Ok true) = subst (λ (o : OpenLine). TakesOne part o new steps one place (Ok true)) same (takes steps (ap (λ (o : OpenLine). open_of o.closer) same ∙ is_log)) in
            let below = walk_jobs old.walk function in
            let p = part_of parts f (unfolded f) in
            let more = InLog (offsets found.place) steps.variables (steps.clauses ++ one.literals ∷ []) new.left ∷ below in
            let passes = goes_on p (offsets place) (offsets found.place) steps below one new.left found.left took.2 took.0 in
            let to = Inside parts f (unfolded f) more in
            let at_now = in_log new (with_step steps one.literals) function f parts refl took.1 there in (
              to,
              walks.goes_on (offsets place) (Inside parts f (unfolded f) (InLog (offsets found.place) steps.variables steps.clauses found.left ∷ below)) to (LogStep one) refl
                  (rules.next parts f (unfolded f) (InLog (offsets found.place) steps.variables steps.clauses found.left ∷ below) more (LogStep one) passes),
              inr (subst
                  (λ (n : ℕ). IsHere members offsets now_open (Inside parts f (unfolded f) (InLog (offsets n) steps.variables (steps.clauses ++ one.literals ∷ []) new.left ∷ below))) took.3
                  at_now),
            )

  -- ---- it has closed its goal

  module _ (new : OpenLine) (takes : StepsLog part current new one place (Ok false)) where
    abbrev now_done : Checker
    now_done = record old { log = None }

    pub goes_done : Goes old now_done (LogStep one) place (Ok (tt {0}))
    goes_done = record {
      listed = refl;
      ready = record { walk = next.ready.walk; log = λ found also. absurd (cc) };
      follows = λ e others expects allowed.
          let here = open_log old one e others allowed expects in
          let can = (next.ready.log current is).0 in
          let none : here.current.left ≡ 0 = ap (λ (o : OpenLine). o.left) (sym (same_open here.current here.is)) ∙ (takes can.steps can.is).2 in
          inr (record {
            others = here.walk_others;
            walk = here.expecting;
            is =
                ap (λ (x : Expected). after x (LogStep one) ++ others) here.first
                ∙ (here.rest ∙ ap (λ (n : ℕ). replicate n AStep ++ here.walk_others) none);
          });
      begun = λ n within earlier. λ found also. absurd (cc);
      within = λ n within earlier. tt;
      leads = λ fs members offsets are s here. leads_done fs members offsets are s here;
    }
      where
        leads_done : (fs : Functions) (members : List Member) (offsets : ℕ → ℕ) → AreMembers Codes members → (s : State) → IsHere members offsets old s
            → Leads fs members offsets old now_done s (LogStep one) place (Ok (tt {0}))
        leads_done fs members offsets are _ (no_log s none state) = absurd (let both = sym is ∙ none in cc)
        leads_done fs members offsets are _ (in_log found steps function f parts also is_log there) =
            let same = same_open found also in
            let took : TakesOne part found new steps one place (Ok false) = subst (λ (o : OpenLine). TakesOne part o new steps one place (Ok false)) same (takes steps (ap (λ (o : OpenLine). open_of o.closer) same ∙ is_log)) in
            let below = walk_jobs old.walk function in
            let p = part_of parts f (unfolded f) in
            let to = Inside parts f (unfolded f) below in (
              to,
              walks.goes_on (offsets place) (Inside parts f (unfolded f) (InLog (offsets found.place) steps.variables steps.clauses found.left ∷ below)) to (LogStep one) refl
                  (rules.next parts f (unfolded f) (InLog (offsets found.place) steps.variables steps.clauses found.left ∷ below) below (LogStep one)
                  (is_last p (offsets place) (offsets found.place) steps below one found.left took.2 took.0 took.1)),
              inr (no_log to refl (inside function f parts there)),
            )

  -- ---- it doesn't follow, or doesn't close the goal

  module _ (new : OpenLine) where
    abbrev now_broken : Checker
    now_broken = record old { log = Some new }

    fault_step : (members : List Member) (fs : Functions) (offsets : ℕ → ℕ) (steps : OpenLog) (function : Listed) (f : Member) (parts : List Member) → AreMembers Codes members
        → IsPart Codes members old.walk function f parts → (broken : Placed) → IsStepFault part current steps one place broken
        → Leads fs members offsets old now_broken (Inside parts f (unfolded f) (InLog (offsets current.place) steps.variables steps.clauses current.left ∷ walk_jobs old.walk function)) (LogStep one) place
        (Err (Fault broken))
    fault_step members fs offsets steps function f parts are there _ (refused hint kind is_so) =
        let below = walk_jobs old.walk function in
        let jobs = InLog (offsets current.place) steps.variables steps.clauses current.left ∷ below in (
          f.listed.name,
          named_last members function f parts are there,
          walks.stops (offsets place) (Inside parts f (unfolded f) jobs) (LogStep one) (offsets place) f.listed.name (lines.Breaks fault.Step) refl
              (rules.next_wrong parts f (unfolded f) jobs (LogStep one) (offsets place) (lines.Breaks fault.Step)
              (is_refused (part_of parts f (unfolded f)) (offsets place) (offsets current.place) steps below one current.left hint kind is_so)),
        )
    fault_step members fs offsets steps function f parts are there _ (unclosed follows empty none) =
        let below = walk_jobs old.walk function in
        let jobs = InLog (offsets current.place) steps.variables steps.clauses current.left ∷ below in (
          f.listed.name,
          named_last members function f parts are there,
          walks.stops (offsets place) (Inside parts f (unfolded f) jobs) (LogStep one) (offsets current.place) f.listed.name (lines.Breaks fault.Unclosed) refl
              (rules.next_wrong parts f (unfolded f) jobs (LogStep one) (offsets current.place) (lines.Breaks fault.Unclosed)
              (is_open (part_of parts f (unfolded f)) (offsets place) (offsets current.place) steps below one current.left none follows empty)),
        )

    fault_place : (steps : OpenLog) (broken : Placed) → IsStepFault part current steps one place broken → (n : ℕ) → place < n → current.place < n → broken.place < n
    fault_place steps _ (refused hint kind is_so) n within earlier = within
    fault_place steps _ (unclosed follows empty none) n within earlier = earlier

    leads_broken : (error : Refusal Placed) → StepsLog part current new one place (Err error) → (fs : Functions) (members : List Member) (offsets : ℕ → ℕ) → AreMembers Codes members → (s : State)
        → IsHere members offsets old s → Leads fs members offsets old now_broken s (LogStep one) place (Err error)
    leads_broken error takes fs members offsets are _ (no_log s none state) = absurd (let both = sym is ∙ none in cc)
    leads_broken (Fault broken) takes fs members offsets are _ (in_log found steps function f parts also is_log there) =
        let same = same_open found also in
        let has = takes steps (ap (λ (o : OpenLine). open_of o.closer) same ∙ is_log) in
        subst
        (λ (o : OpenLine).
        Leads fs members offsets old now_broken (Inside parts f (unfolded f) (InLog (offsets o.place) steps.variables steps.clauses o.left ∷ walk_jobs old.walk function)) (LogStep one) place
        (Err (Fault broken)))
        same (fault_step members fs offsets steps function f parts are there broken has)
    leads_broken NoMemory takes fs members offsets are _ (in_log found steps function f parts also is_log there) = tt

    broken_before : (error : Refusal Placed) → StepsLog part current new one place (Err error) → (n : ℕ) → place < n → IsBegunBefore n old → IsFaultBefore n (Err error)
    broken_before (Fault broken) takes n within earlier =
        let can = (next.ready.log current is).0 in
        fault_place can.steps broken (takes can.steps can.is) n within (earlier current is)
    broken_before NoMemory takes n within earlier = tt

    pub goes_broken : (error : Refusal Placed) → StepsLog part current new one place (Err error) → Goes old now_broken (LogStep one) place (Err error)
    goes_broken error takes = record {
      listed = refl;
      ready = tt;
      follows = tt;
      begun = λ n within earlier. tt;
      within = λ n within earlier. broken_before error takes n within earlier;
      leads = leads_broken error takes;
    }
