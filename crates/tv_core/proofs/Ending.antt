-- The ends of a run, from its outcome.
use Rattle.std.proofs.Common.{◌≡◌, ◌≢◌, ◌⊎◌, ◌≤◌, ℕ, Bool, true, false, List, [], Option, Some, None, Ok, Err, refl, arith, ap, sym, ◌∙◌, subst, inl, inr, ◌∷◌}
use Rattle.std.specs.Prelude.{◌↔◌, ◌&&◌, if◌then◌else◌, IfSome, IsTrue, Result, IfOk, OnErr, ⊤}
use Rattle.elf_read_spec.specs.Image.{Image}
use Rattle.c_types_spec.specs.Core.{Typed}
use Rattle.report_text_spec.specs.Verdict.{Verdict, RefusedWords, TooLarge, RefusedElf, RefusedC, RefusedPair, RefusedCode, RefusedCertificate, NotProof, Checked, Judged, Showed, Judgement, Shown, all_valid, status_of}
use Rattle.attempt.specs.declared.refusal.Refusal.{Refusal}
use Rattle.attempt.specs.declared.refusal.Refusal.TheVariants.{Fault, NoMemory}
use Rattle.tv_base.specs.declared.faults.OutsideFault.{OutsideFault}
use Rattle.tv_base.specs.declared.faults.OutsideFault.TheVariants.{Failed}
use Rattle.tv_words.specs.Commands.{Command, Prove, Check, Show, AreListed, IsCommand, is_prove, is_check, is_show}
use Rattle.tv_core_spec.specs.Decisions.{Decision, Trails, no_trails, plain, first_unproved}
use Rattle.tv_core_spec.specs.Laws.{OneVerdict, GivesNoneTwice, ProvedIsChecked, UnprovedIsMissing}
use Rattle.tv_core_spec.specs.Listing.{Judge, Verify, names_of}
use Rattle.tv_core_spec.specs.Verdicts.{IsVerdict, IsSound, AreSound}
use Rattle.std.proofs.lemmas.Result.{on_ok_weaker, on_err_weaker}
use Rattle.tv_core.specs.Files.{ReadsAsked}
use Rattle.tv_core.specs.Tasks.{asked_of, task_of}
use Rattle.tv_words.proofs.Commands.{same_command}
use Rattle.tv_core.specs.Objects.{Contents, Outputs, State}
use Rattle.tv_core.specs.Ends.{AskFor, IsUsageError, CheckDecides, ShowDecides, ProveDecides, IsOfCommand, IsText, HasText, IsVerdictOn, IsOutcome, usage_error, commanded, Becomes, LeavesText, LeavesUnder, Reports, Publishes, EndsBy, EndsWith, EndsAsDecided, EndsValid, EndsUnproved, EndsChecked, EndsShown, HandsOut, EndsPartly, Ends, RunsTo}
use Rattle.tv_core.proofs.HandedOut.{GoesWith, command_goes, usage_goes}

-- ---- outcomes

abbrev is_usage : Verdict → Bool
is_usage RefusedWords = true
is_usage verdict = false

-- an outcome of a command, unless it is that of a usage error
record OfJob (words : List (List ℕ)) (files : Contents) (name : List ℕ) (decision : Decision) : Type 0 where
  command : Command
  command_is : IsCommand words command
  name_is : name ≡ (asked_of command).certificate
  of_command : IsOfCommand command decision
  on : IsVerdictOn files command decision

of_job : (words : List (List ℕ)) (files : Contents) (name : List ℕ) (decision : Decision) → IsOutcome words files name decision
    → (decision.verdict ≡ RefusedWords) ⊎ OfJob words files name decision
of_job words files _ _ (usage_error none) = inl refl
of_job words files _ _ (commanded command decision is of_command on) =
    inr (record { command = command; command_is = is; name_is = refl; of_command = of_command; on = on })

-- ---- the validity theorem

-- 0 or 1
abbrev code_of : Bool → ℕ
code_of all = if all then 0 else 1

called_valid : (all : Bool) → code_of all ≡ 0 → all ≡ true
called_valid true e = refl
called_valid false e = absurd (omega arith)

abbrev Succeeds : Verdict → Type 0
Succeeds verdict = ((js : List Judgement) × (verdict ≡ Judged js)) ⊎ (((js : List Judgement) × (verdict ≡ Checked js)) ⊎ ((shown : Shown) × (verdict ≡ Showed shown)))

-- status 0 is that of judgements, of a proof, or of a function that is shown
success_in : (verdict : Verdict) → status_of verdict ≡ 0 → Succeeds verdict
success_in RefusedWords zero = absurd (omega arith)
success_in (TooLarge quantity) zero = absurd (omega arith)
success_in (RefusedElf fault offset) zero = absurd (omega arith)
success_in (RefusedC kind offset) zero = absurd (omega arith)
success_in (RefusedPair kind name) zero = absurd (omega arith)
success_in (RefusedCode kind name address) zero = absurd (omega arith)
success_in (RefusedCertificate offset) zero = absurd (omega arith)
success_in (NotProof name offset rule) zero = absurd (omega arith)
success_in (Checked js) zero = inr (inl (js, refl))
success_in (Judged js) zero = inl (js, refl)
success_in (Showed shown) zero = inr (inr (shown, refl))

called_unproved : (all : Bool) → code_of all ≡ 1 → all ≡ false
called_unproved true e = absurd (omega arith)
called_unproved false e = refl

-- status 1 is that of judgements
unproved_in : (verdict : Verdict) → status_of verdict ≡ 1 → (js : List Judgement) × (verdict ≡ Judged js)
unproved_in RefusedWords one = absurd (omega arith)
unproved_in (TooLarge quantity) one = absurd (omega arith)
unproved_in (RefusedElf fault offset) one = absurd (omega arith)
unproved_in (RefusedC kind offset) one = absurd (omega arith)
unproved_in (RefusedPair kind name) one = absurd (omega arith)
unproved_in (RefusedCode kind name address) one = absurd (omega arith)
unproved_in (RefusedCertificate offset) one = absurd (omega arith)
unproved_in (NotProof name offset rule) one = absurd (omega arith)
unproved_in (Checked js) one = absurd (omega arith)
unproved_in (Judged js) one = (js, refl)
unproved_in (Showed shown) one = absurd (omega arith)

-- where not all are called valid, there is a first that isn't
some_unproved : (js : List Judgement) → all_valid js ≡ false → (name : List ℕ) × (first_unproved js ≡ Some name)
unfolding first_unproved
some_unproved [] e = cc
some_unproved (j ∷ js) e = by_first j.valid e (some_unproved js)
  where
    by_first : (valid : Bool) → (valid && all_valid js) ≡ false → (all_valid js ≡ false → (name : List ℕ) × (first_unproved js ≡ Some name))
        → (name : List ℕ) × ((if valid then first_unproved js else Some j.name) ≡ Some name)
    by_first true f later = later f
    by_first false f later = (j.name, refl)

-- ---- the names that words give

listed_once : (text : Option (List ℕ)) (functions : Option (List (List ℕ))) → AreListed text functions → GivesNoneTwice functions
listed_once text None are = tt
listed_once None (Some names) are = absurd are
listed_once (Some text) (Some names) are = are.apart

abbrev CommandGivesNoneTwice : Command → Type 0
CommandGivesNoneTwice (Prove job) = GivesNoneTwice job.functions
CommandGivesNoneTwice (Check job) = GivesNoneTwice job.functions
CommandGivesNoneTwice (Show job) = ⊤

-- a command gives no name twice
command_gives_none_twice : (words : List (List ℕ)) (command : Command) → IsCommand words command → CommandGivesNoneTwice command
command_gives_none_twice words _ (is_prove given job gives proving) = listed_once _ job.functions proving.functions_are
command_gives_none_twice words _ (is_check given job gives checking) = listed_once _ job.functions checking.functions_are
command_gives_none_twice words _ (is_show given job gives showing) = tt

-- ---- a certificate that is a proof

list_of_check : (functions : Option (List (List ℕ))) (text : List ℕ) (image : Image) (unit : Typed)
    → names_of (Verify functions text) image unit ≡ names_of (Judge functions) image unit
list_of_check None text image unit = refl
list_of_check (Some names) text image unit = refl

-- what is sound of the list with a certificate is sound of the list
judged_sound : (elf c : List ℕ) (functions : Option (List (List ℕ))) (text : List ℕ) (js : List Judgement) → AreSound elf c (Verify functions text) js
    → AreSound elf c (Judge functions) js
judged_sound elf c functions text js h = record {
  image = h.image;
  unit = h.unit;
  is_elf = h.is_elf;
  is_c = h.is_c;
  names = h.names ∙ list_of_check functions text h.image h.unit;
  valid = h.valid;
}

module _ (words : List (List ℕ)) (files : Contents) (before now : Outputs) (name : List ℕ) (decision : Decision) where
  -- the store is as before, where no certificate is written
  kept_store : decision ≡ plain decision.verdict → LeavesUnder name decision before.store.held now.store.held → now.store.held ≡ before.store.held
  kept_store alone stored = subst (λ text. LeavesText name text before.store.held now.store.held) (ap (λ (d : Decision). d.certificate) alone) stored

  valid_of_job : ProvedIsChecked → (js : List Judgement) (command : Command) → decision.verdict ≡ Judged js → IsCommand words command → name ≡ (asked_of command).certificate
      → IsOfCommand command decision → IsVerdictOn files command decision → status_of (Judged js) ≡ 0
      → Reports (Judged js) before.report now.report → LeavesUnder name decision before.store.held now.store.held → EndsValid words files before now
  valid_of_job law js (Prove job) e is named of_command on zero reported stored =
      let searched = subst (λ v. ProveDecides v decision) e of_command in
      let all : IsTrue (all_valid js) = called_valid (all_valid js) zero in
      let once = command_gives_none_twice words (Prove job) is in
      record {
        job = job;
        job_is = is;
        judgements = js;
        claim = record {
          some = searched.some;
          all_called_valid = all;
          valid = λ elf c f g. subst (IsSound elf c (Judge job.functions)) e (on.1 elf c f g).3;
          reported = reported;
        };
        certificate = searched.text;
        proves = λ elf c f g.
            let decided = (on.1 elf c f g).2 in
            record {
              decision = decision;
              decided = decided;
              judged = e;
              certificate_is = searched.written;
              checked = law elf c job.functions js searched.text decision decided e searched.written all once;
            };
        stored = subst (λ n. Becomes before.store.held n searched.text now.store.held) named
            (subst (λ text. LeavesText name text before.store.held now.store.held) searched.written stored);
      }
  valid_of_job law js (Check job) e is named of_command on zero reported stored = absurd (subst CheckDecides e of_command.0)
  valid_of_job law js (Show job) e is named of_command on zero reported stored = absurd (subst (ShowDecides job.function) e of_command.0)

  unproved_of_job : UnprovedIsMissing → (js : List Judgement) (first : List ℕ) (command : Command) → decision.verdict ≡ Judged js → first_unproved js ≡ Some first
      → IsCommand words command → name ≡ (asked_of command).certificate → IsOfCommand command decision → IsVerdictOn files command decision
      → Reports (Judged js) before.report now.report → LeavesUnder name decision before.store.held now.store.held → EndsUnproved words files before now
  unproved_of_job law js first (Prove job) e f is named of_command on reported stored =
      let searched = subst (λ v. ProveDecides v decision) e of_command in
      let once = command_gives_none_twice words (Prove job) is in
      record {
        job = job;
        job_is = is;
        judgements = js;
        name = first;
        unproved = f;
        reported = reported;
        certificate = searched.text;
        proves = λ elf c at_elf at_source.
            let decided = (on.1 elf c at_elf at_source).2 in
            record {
              decision = decision;
              decided = decided;
              judged = e;
              certificate_is = searched.written;
              checked = law elf c job.functions js searched.text decision first decided e searched.written f once;
            };
        stored = subst (λ n. Becomes before.store.held n searched.text now.store.held) named
            (subst (λ text. LeavesText name text before.store.held now.store.held) searched.written stored);
      }
  unproved_of_job law js first (Check job) e f is named of_command on reported stored = absurd (subst CheckDecides e of_command.0)
  unproved_of_job law js first (Show job) e f is named of_command on reported stored = absurd (subst (ShowDecides job.function) e of_command.0)

  checked_of_job : (js : List Judgement) (command : Command) → decision.verdict ≡ Checked js → IsCommand words command
      → IsOfCommand command decision → IsVerdictOn files command decision → Reports (Checked js) before.report now.report
      → LeavesUnder name decision before.store.held now.store.held → EndsChecked words files before now
  checked_of_job js (Prove job) e is of_command on reported stored = absurd (subst (λ v. ProveDecides v decision) e of_command)
  checked_of_job js (Check job) e is of_command on reported stored =
      let found = subst CheckDecides e of_command.0 in
      record {
        job = job;
        job_is = is;
        judgements = js;
        claim = record {
          some = found.0;
          all_called_valid = found.1;
          valid = λ elf c f g.
              let h = on.1 elf c f g in
              judged_sound elf c job.functions h.0 js (subst (IsSound elf c (Verify job.functions h.0)) e h.3);
          reported = reported;
        };
        stored = kept_store of_command.1 stored;
      }
  checked_of_job js (Show job) e is of_command on reported stored = absurd (subst (ShowDecides job.function) e of_command.0)

  shown_of_job : (shown : Shown) (command : Command) → decision.verdict ≡ Showed shown → IsCommand words command → IsOfCommand command decision
      → Reports (Showed shown) before.report now.report → LeavesUnder name decision before.store.held now.store.held → EndsShown words before now
  shown_of_job shown (Prove job) e is of_command reported stored = absurd (subst (λ v. ProveDecides v decision) e of_command)
  shown_of_job shown (Check job) e is of_command reported stored = absurd (subst CheckDecides e of_command.0)
  shown_of_job shown (Show job) e is of_command reported stored = record {
    job = job;
    job_is = is;
    shown = shown;
    name_is = subst (ShowDecides job.function) e of_command.0;
    reported = reported;
    stored = kept_store of_command.1 stored;
  }

  job_of : (verdict : Verdict) → IsOutcome words files name decision → decision.verdict ≡ verdict → is_usage verdict ≡ false → OfJob words files name decision
  job_of verdict outcome e not =
      elim (of_job words files name decision outcome) [ inl usage ↦ let apart : false ≡ true = sym not ∙ ap is_usage (sym e ∙ usage) in absurd (cc) | inr of ↦ of ]

  ends_by : ProvedIsChecked → IsOutcome words files name decision → status_of decision.verdict ≡ 0 → Reports decision.verdict before.report now.report
      → LeavesUnder name decision before.store.held now.store.held → EndsValid words files before now ⊎ (EndsChecked words files before now ⊎ EndsShown words before now)
  ends_by law outcome zero reported stored =
      elim (success_in decision.verdict zero) [
        | inl found ↦ (let of = job_of (Judged found.0) outcome found.1 refl in
            inl (valid_of_job law found.0 of.command found.1 of.command_is of.name_is of.of_command of.on (subst (λ v. status_of v ≡ 0) found.1 zero)
            (subst (λ v. Reports v before.report now.report) found.1 reported) stored))
        | inr others ↦ inr (elim others [
          | inl found ↦ (let of = job_of (Checked found.0) outcome found.1 refl in
              inl (checked_of_job found.0 of.command found.1 of.command_is of.of_command of.on
              (subst (λ v. Reports v before.report now.report) found.1 reported) stored))
          | inr found ↦ (let of = job_of (Showed found.0) outcome found.1 refl in
              inr (shown_of_job found.0 of.command found.1 of.command_is of.of_command (subst (λ v. Reports v before.report now.report) found.1 reported) stored))
        ])
      ]

  ends_unproved_by : UnprovedIsMissing → IsOutcome words files name decision → status_of decision.verdict ≡ 1 → Reports decision.verdict before.report now.report
      → LeavesUnder name decision before.store.held now.store.held → EndsUnproved words files before now
  ends_unproved_by law outcome one reported stored =
      let found = unproved_in decision.verdict one in
      let first = some_unproved found.0 (called_unproved (all_valid found.0) (subst (λ v. status_of v ≡ 1) found.1 one)) in
      let of = job_of (Judged found.0) outcome found.1 refl in
      unproved_of_job law found.0 first.0 of.command found.1 first.1 of.command_is of.name_is of.of_command of.on
      (subst (λ v. Reports v before.report now.report) found.1 reported) stored

module _ (words : List (List ℕ)) (files : Contents) (before now : Outputs) (trails : Trails) where
  pub ends_unproved : UnprovedIsMissing → (code : ℕ) → EndsWith words files code before now trails → code ≡ 1 → EndsUnproved words files before now
  ends_unproved law code ends one = ends_unproved_by words files before now ends.name ends.decision law ends.outcome (sym ends.ends.status_is ∙ one) ends.ends.reported ends.ends.stored

  pub ends_valid : ProvedIsChecked → (code : ℕ) → EndsWith words files code before now trails → code ≡ 0
      → EndsValid words files before now ⊎ (EndsChecked words files before now ⊎ EndsShown words before now)
  ends_valid law code ends none = ends_by words files before now ends.name ends.decision law ends.outcome (sym ends.ends.status_is ∙ none) ends.ends.reported ends.ends.stored

  -- ---- the causes

  -- of a certificate that contracts see there is one text
  text_seen : (seen : Option (List ℕ)) (one other : List ℕ) → IfSome seen (λ s. s ≡ one) → seen ≡ Some other → one ≡ other
  text_seen seen one other h e = let there = subst (λ o. IfSome o (λ s. s ≡ one)) e h in sym there

  -- a command has one task with all texts that its certificate may have
  same_task : (command : Command) (one other : List ℕ) → IsText files (asked_of command).given one → HasText files (asked_of command).given other
      → task_of command one ≡ task_of command other
  same_task (Prove job) one other is has = refl
  same_task (Check job) one other is has = ap (Verify job.functions) (text_seen (files job.certificate) one other is has)
  same_task (Show job) one other is has = refl

  decided_by : OneVerdict → (name : List ℕ) (decision : Decision) (code : ℕ) → IsOutcome words files name decision → EndsBy name decision code before now trails
      → EndsAsDecided words files code before now trails
  decided_by law _ _ code (usage_error none) ends = λ command elf c text other is e f has decided. absurd (none command is)
  decided_by law _ _ code (commanded command decision is of_command on) ends =
      λ wanted elf c text other wanted_is e f has decided.
      let same : command ≡ wanted = same_command words command wanted is wanted_is in
      let on_wanted = subst (λ j. IsVerdictOn files j decision) same on in
      let h = on_wanted.1 elf c e f in
      let task : task_of wanted h.0 ≡ task_of wanted text = same_task wanted h.0 text h.1 has in
      let mine : IsVerdict elf c (task_of wanted text) decision = subst (λ t. IsVerdict elf c t decision) task h.2 in
      record {
        other = decision;
        alike = law elf c (task_of wanted text) other decision decided mine;
        ends = subst (λ j. EndsBy (asked_of j).certificate decision code before now trails) same ends;
      }

  -- it ends by whatever is decided of the files
  pub ends_as_decided : OneVerdict → (code : ℕ) → EndsWith words files code before now trails → EndsAsDecided words files code before now trails
  ends_as_decided law code ends = decided_by law ends.name ends.decision code ends.outcome ends.ends

not_two : (all : Bool) → code_of all ≢ 2
not_two true = λ e. omega (arith, e)
not_two false = λ e. omega (arith, e)

not_usage : (verdict : Verdict) → verdict ≢ RefusedWords → status_of verdict ≢ 2
not_usage RefusedWords of = absurd (of refl)
not_usage (TooLarge quantity) of = λ e. omega (arith, e)
not_usage (RefusedElf fault offset) of = λ e. omega (arith, e)
not_usage (RefusedC kind offset) of = λ e. omega (arith, e)
not_usage (RefusedPair kind name) of = λ e. omega (arith, e)
not_usage (RefusedCode kind name address) of = λ e. omega (arith, e)
not_usage (RefusedCertificate offset) of = λ e. omega (arith, e)
not_usage (NotProof name offset rule) of = λ e. omega (arith, e)
not_usage (Checked js) of = λ e. omega (arith, e)
not_usage (Judged js) of = not_two _
not_usage (Showed shown) of = λ e. omega (arith, e)

of_command_not_usage : (command : Command) (decision : Decision) → IsOfCommand command decision → status_of decision.verdict ≢ 2
of_command_not_usage (Prove job) decision of = not_usage decision.verdict (λ e. absurd (subst (λ v. ProveDecides v decision) e of))
of_command_not_usage (Check job) decision of = not_usage decision.verdict (λ e. absurd (subst CheckDecides e of.0))
of_command_not_usage (Show job) decision of = not_usage decision.verdict (λ e. absurd (subst (ShowDecides job.function) e of.0))

refused_words : (words : List (List ℕ)) (files : Contents) (name : List ℕ) (decision : Decision) (code : ℕ) → IsOutcome words files name decision
    → code ≡ status_of decision.verdict → code ≡ 2 ↔ IsUsageError words
refused_words words files _ _ code (usage_error none) e = (λ two. none, λ again. e)
refused_words words files _ _ code (commanded command decision is of_command on) e =
    (λ two. absurd (of_command_not_usage command decision of_command (sym e ∙ two)), λ none. absurd (none command is))

code_small : (all : Bool) → code_of all ≤ 3
code_small true = omega arith
code_small false = omega arith

status_small : (verdict : Verdict) → (status_of verdict ≤ 3) ⊎ (6 ≤ status_of verdict)
status_small RefusedWords = inl (omega arith)
status_small (TooLarge quantity) = inr (omega arith)
status_small (RefusedElf fault offset) = inl (omega arith)
status_small (RefusedC kind offset) = inl (omega arith)
status_small (RefusedPair kind name) = inl (omega arith)
status_small (RefusedCode kind name address) = inl (omega arith)
status_small (RefusedCertificate offset) = inr (omega arith)
status_small (NotProof name offset rule) = inr (omega arith)
status_small (Checked js) = inl (omega arith)
status_small (Judged js) = inl (code_small _)
status_small (Showed shown) = inl (omega arith)

-- what is handed out by an outcome goes with its status
outcome_goes : (words : List (List ℕ)) (files : Contents) (name : List ℕ) (decision : Decision) → IsOutcome words files name decision
    → GoesWith (status_of decision.verdict) decision.trails
outcome_goes words files _ _ (usage_error none) = usage_goes
outcome_goes words files _ _ (commanded command decision is of_command on) = command_goes command decision of_command

module _ (words : List (List ℕ)) (files : Contents) (before now : Outputs) (trails : Trails) where
  -- it ends with 2 exactly with a usage error
  pub ends_by_usage : (code : ℕ) → EndsWith words files code before now trails → code ≡ 2 ↔ IsUsageError words
  ends_by_usage code ends = refused_words words files ends.name ends.decision code ends.outcome ends.ends.status_is

  -- and not with 4 or 5
  pub not_cut : {A : Type 0} (code : ℕ) → EndsWith words files code before now trails → (code ≡ 4) ⊎ (code ≡ 5) → A
  not_cut code ends cut =
      let e = ends.ends.status_is in
      elim (status_small ends.decision.verdict) [
        | inl small ↦ elim cut [ inl four ↦ absurd (omega (arith, small, e, four)) | inr five ↦ absurd (omega (arith, small, e, five)) ]
        | inr large ↦ elim cut [ inl four ↦ absurd (omega (arith, large, e, four)) | inr five ↦ absurd (omega (arith, large, e, five)) ]
      ]

  pub hands_out : (code : ℕ) → EndsWith words files code before now trails → HandsOut code trails
  hands_out code ends =
      let goes : GoesWith code trails =
      subst (λ t. GoesWith code t) (sym ends.ends.trails_are)
      (subst (λ n. GoesWith n ends.decision.trails) (sym ends.ends.status_is) (outcome_goes words files ends.name ends.decision ends.outcome)) in
      record { unproved = goes.unproved; over = goes.over; cut_off = not_cut code ends }

-- where a run was cut off nothing is handed out
pub hands_out_nothing : (code : ℕ) (trails : Trails) → (code ≡ 4) ⊎ (code ≡ 5) → trails ≡ no_trails → HandsOut code trails
hands_out_nothing code trails cut none = record {
  unproved = (
    λ one. elim cut [ inl four ↦ absurd (omega (arith, one, four)) | inr five ↦ absurd (omega (arith, one, five)) ],
    λ some. absurd (some (ap (λ (t : Trails). t.failures) none)),
  );
  over = λ lines e. let is : None ≡ Some lines = sym (ap (λ (t : Trails). t.over) none) ∙ e in absurd (cc);
  cut_off = λ again. none;
}

-- ---- a run that was cut off

module _ (words : List (List ℕ)) (before now : State) (trails_before trails : Trails) (r : Result ℕ (Refusal OutsideFault)) (h : RunsTo words before now trails_before trails r)
    (none : trails_before ≡ no_trails) where
  emptied : (fault : Refusal OutsideFault) → r ≡ Err fault → trails ≡ no_trails
  emptied fault is = (let kept = subst (λ x. OnErr x (trails ≡ trails_before)) is h.trails_kept in kept ∙ none)

  pub ends_failed : r ≡ Err (Fault Failed) → Ends words before now trails 4
  ends_failed is = record {
    valid = λ e. absurd (omega (arith, e));
    unproved = λ e. absurd (omega (arith, e));
    ended = λ four five. absurd (four refl);
    usage = λ four five. absurd (four refl);
    decided = λ four five. absurd (four refl);
    handed_out = hands_out_nothing 4 trails (inl refl) (emptied (Fault Failed) is);
    part = λ cut. subst (λ x. OnErr x (EndsPartly words before.desk.files before.outputs now.outputs)) is h.part;
    store_part = h.store_part;
    taken = h.taken;
    opened = h.opened;
    safely = record { fault = λ four. h.failed is; counts = λ other. absurd (other refl); store_first = h.store_first; same_files = h.same_files };
  }

  pub ends_without_memory : r ≡ Err NoMemory → Ends words before now trails 5
  ends_without_memory is = record {
    valid = λ e. absurd (omega (arith, e));
    unproved = λ e. absurd (omega (arith, e));
    ended = λ four five. absurd (five refl);
    usage = λ four five. absurd (five refl);
    decided = λ four five. absurd (five refl);
    handed_out = hands_out_nothing 5 trails (inr refl) (emptied NoMemory is);
    part = λ cut. subst (λ x. OnErr x (EndsPartly words before.desk.files before.outputs now.outputs)) is h.part;
    store_part = h.store_part;
    taken = h.taken;
    opened = h.opened;
    safely = record { fault = λ four. absurd (omega (arith, four)); counts = λ other. h.no_memory is; store_first = h.store_first; same_files = h.same_files };
  }

-- ---- a decision that is published

pub ended_by : (words : List (List ℕ)) (files : Contents) (name : List ℕ) (decision : Decision) (before now : Outputs) (trails : Trails) (r : Result ℕ (Refusal OutsideFault))
    → IsOutcome words files name decision → IfOk r (λ code. (code ≡ status_of decision.verdict) × (trails ≡ decision.trails)) → Publishes name decision before now r
    → IfOk r (λ code. EndsWith words files code before now trails)
ended_by words files name decision before now trails (Ok code) outcome is published = record {
  name = name;
  decision = decision;
  outcome = outcome;
  ends = record { status_is = is.0; reported = published.reported; stored = published.stored; trails_are = is.1 };
}
ended_by words files name decision before now trails (Err fault) outcome is published = tt

-- a run that was out of memory at its words
pub not_begun : (words : List (List ℕ)) (state : State) (trails : Trails) → RunsTo words state state trails trails (Err NoMemory)
not_begun words state trails = record {
  ended = tt;
  trails_kept = refl;
  part = inl refl;
  store_part = inl refl;
  store_first = inl refl;
  taken = inl refl;
  opened = inl refl;
  same_files = refl;
  failed = λ e. absurd cc;
  unfailing = tt;
  no_memory = λ e. (refl, (refl, refl));
}

-- a run that gave what is decided
module _ (words : List (List ℕ)) (before now : State) (trails_before trails_now : Trails) (result : Result ℕ (Refusal OutsideFault)) where
  pub gave : (name : List ℕ) (decision : Decision) → IsOutcome words before.desk.files name decision → ReadsAsked words before.desk now.desk
      → now.desk.files ≡ before.desk.files → now.desk.faults ≡ before.desk.faults → Publishes name decision before.outputs now.outputs result
      → IfOk result (λ code. (code ≡ status_of decision.verdict) × (trails_now ≡ decision.trails)) → OnErr result (trails_now ≡ trails_before)
      → RunsTo words before now trails_before trails_now result
  gave name decision outcome read files faults out status kept = record {
    ended = ended_by words before.desk.files name decision before.outputs now.outputs trails_now result outcome status out;
    trails_kept = kept;
    part = on_err_weaker result (λ h. inr (name, decision, outcome, h)) out.part;
    store_part = inr (name, decision, outcome, out.store_part);
    store_first = out.store_first;
    taken = read.0;
    opened = read.1;
    same_files = files;
    failed = λ e. inr (out.failed e);
    unfailing = on_ok_weaker result (λ same. (faults, same)) out.unfailing;
    no_memory = λ e. (faults, out.no_memory e);
  }

-- the same up to its status
pub as_status : {T : Type 0} (x : T) (name : List ℕ) (decision : Decision) (before now : Outputs) (code : ℕ) → Publishes {T = T} name decision before now (Ok x) → Publishes {T = ℕ} name decision before now (Ok code)
as_status x name decision before now code p = record {
  reported = p.reported;
  stored = p.stored;
  part = tt;
  store_part = p.store_part;
  store_first = p.store_first;
  report_later = p.report_later;
  store_later = p.store_later;
  failed = λ e. absurd cc;
  unfailing = p.unfailing;
  no_memory = λ e. absurd cc;
}

pub as_fault : {T U : Type 0} (name : List ℕ) (decision : Decision) (before now : Outputs) (fault : Refusal OutsideFault) → Publishes {T = T} name decision before now (Err fault) → Publishes {T = U} name decision before now (Err fault)
as_fault name decision before now fault p = record {
  reported = tt;
  stored = tt;
  part = p.part;
  store_part = p.store_part;
  store_first = p.store_first;
  report_later = p.report_later;
  store_later = p.store_later;
  failed = λ e. let is : fault ≡ Fault Failed = cc in p.failed (ap Err is);
  unfailing = tt;
  no_memory = λ e. let is : fault ≡ NoMemory = cc in p.no_memory (ap Err is);
}
