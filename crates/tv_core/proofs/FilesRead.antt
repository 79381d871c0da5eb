-- What is decided of files, from the bytes that were read of them.
use Rattle.std.proofs.Common.{◌≡◌, ◌≢◌, ◌⊎◌, ◌+◌, ◌<◌, ◌≤◌, ℕ, List, [], ◌∷◌, map, Option, Some, None, length, drop, take, take_all, arith, refl, sym, ap, ◌∙◌, subst, inl, inr}
use Rattle.std.specs.Prelude.{IfSome, IsTrue, Vec, Result, IfOk, option_map}
use Rattle.std.specs.Global.{Global}
use Rattle.std.proofs.lemmas.List.{length-take}
use Rattle.std.proofs.lemmas.Result.{IfOk-weaker}
use Rattle.cert_check_spec.specs.Verdict.{Listed}
use Rattle.cert_run_spec.specs.Verdict.{valid_judgement}
use Rattle.cert_run_spec.specs.Verdict as spec
use Rattle.report_text_spec.specs.Verdict.{TooLarge, all_valid}
use Rattle.tv_limits.specs.declared.Quantity.TheVariants.{Elf, C}
use Rattle.tv_core_spec.specs.Decisions.{Decision, plain}
use Rattle.tv_core_spec.specs.Listing.{Judge, Verify, Display}
use Rattle.tv_core_spec.specs.Verdicts.{IsSound, Judges, elf_refused, c_refused, too_many, pair_refused, code_refused, too_large, judged, over, certificate_large, checked, showed, elf_large, c_large, within, verdict_of_outcome}
use Rattle.tv_limits.specs.declared.TheConstants.{MAX_ELF_BYTES, MAX_C_BYTES, MAX_CERTIFICATE_BYTES}
use Rattle.attempt.specs.declared.refusal.Refusal.{Refusal}
use Rattle.tv_base.specs.declared.faults.OutsideFault.{OutsideFault}
use Rattle.tv_base.specs.Reading.{with_name}
use Rattle.tv_words.specs.Commands.{Command, Prove, Proving, Check, Checking, Show, Showing}
use Rattle.tv_core.specs.Tasks.{asked_of, task_of}
use Rattle.tv_core.specs.Objects.{Contents, DeskState}
use Rattle.tv_core.specs.Decisions.{decision_of}
use Rattle.tv_core.specs.declared.decision.Decision.{Decision as CodeDecision}
use Rattle.tv_core.specs.Ends.{CheckDecides, IsOfCommand, IsVerdictOn, NeedsCertificate, TakesAtMost}
use Rattle.tv_core.specs.Files.{AreOf, IsLeftToRead, JudgesWith, JudgesFiles, ReadsCertificate, ReadsFile, ReadsSource, ReadsFiles}
use Rattle.tv_core.proofs.Aligned.{some_called, some_listed}
use Rattle.tv_core.proofs.HandedOut.{answers_searched, answers_over}
use Rattle.tv_core.proofs.Judging.{some_text}

-- the bytes that were read of a file that contracts see
read_of : (file : Option (List ℕ)) (text read : List ℕ) (most : ℕ) → IfSome file (λ bytes. read ≡ take most bytes) → file ≡ Some text → read ≡ take most text
read_of file text read most h e = let there = subst (λ o. IfSome o (λ bytes. read ≡ take most bytes)) e h in there

longer : (text read : List ℕ) (most : ℕ) → read ≡ take (most + 1) text → most < length read → most < length text
longer text read most e h = let l = ap length e ∙ length-take (most + 1) text in omega arith

short : (text read : List ℕ) (most : ℕ) → read ≡ take (most + 1) text → length read ≤ most → length text ≤ most
short text read most e h = let l = ap length e ∙ length-take (most + 1) text in omega arith

-- a file that was read whole
whole : (text read : List ℕ) (most : ℕ) → read ≡ take (most + 1) text → length read ≤ most → read ≡ text
whole text read most e h = e ∙ take_all (most + 1) text (let s = short text read most e h in omega arith)

pub elf_too_large : (files : Contents) (command : Command) (read : List ℕ) → AreOf files (asked_of command).elf MAX_ELF_BYTES read → MAX_ELF_BYTES < length read
    → IsVerdictOn files command (plain (TooLarge Elf))
elf_too_large files command read taken large = (
  λ elf e long. refl,
  λ elf c e f.
      let text = some_text files (asked_of command).given in
      (text.0, text.1, elf_large (longer elf read MAX_ELF_BYTES (read_of (files (asked_of command).elf) elf read (MAX_ELF_BYTES + 1) taken e) large), tt),
)

not_too_large : {A : Type 0} (files : Contents) (command : Command) (read : List ℕ) → AreOf files (asked_of command).elf MAX_ELF_BYTES read
    → length read ≤ MAX_ELF_BYTES → (elf : List ℕ) → files (asked_of command).elf ≡ Some elf → MAX_ELF_BYTES < length elf → A
not_too_large files command read taken small elf e large =
    let within = short elf read MAX_ELF_BYTES (read_of (files (asked_of command).elf) elf read (MAX_ELF_BYTES + 1) taken e) small in absurd (omega arith)

module _ (files : Contents) (command : Command) (elf_read c_read : List ℕ) (elf_taken : AreOf files (asked_of command).elf MAX_ELF_BYTES elf_read)
    (elf_small : length elf_read ≤ MAX_ELF_BYTES) (c_taken : AreOf files (asked_of command).source MAX_C_BYTES c_read) where
  c_too_large : MAX_C_BYTES < length c_read → IsVerdictOn files command (plain (TooLarge C))
  c_too_large large = (
    not_too_large files command elf_read elf_taken elf_small,
    λ elf c e f.
        let text = some_text files (asked_of command).given in (
          text.0,
          text.1,
          c_large (short elf elf_read MAX_ELF_BYTES (read_of (files (asked_of command).elf) elf elf_read (MAX_ELF_BYTES + 1) elf_taken e) elf_small)
              (longer c c_read MAX_C_BYTES (read_of (files (asked_of command).source) c c_read (MAX_C_BYTES + 1) c_taken f) large),
          tt,
        ),
  )

  -- the files that were read whole
  record Whole (elf c : List ℕ) : Type 0 where
    elf_is : elf_read ≡ elf
    c_is : c_read ≡ c
    elf_within : length elf ≤ MAX_ELF_BYTES
    c_within : length c ≤ MAX_C_BYTES

  are_whole : length c_read ≤ MAX_C_BYTES → (elf c : List ℕ) → files (asked_of command).elf ≡ Some elf → files (asked_of command).source ≡ Some c → Whole elf c
  are_whole c_small elf c e f =
      let elf_of = read_of (files (asked_of command).elf) elf elf_read (MAX_ELF_BYTES + 1) elf_taken e in
      let c_of = read_of (files (asked_of command).source) c c_read (MAX_C_BYTES + 1) c_taken f in
      record {
        elf_is = whole elf elf_read MAX_ELF_BYTES elf_of elf_small;
        c_is = whole c c_read MAX_C_BYTES c_of c_small;
        elf_within = short elf elf_read MAX_ELF_BYTES elf_of elf_small;
        c_within = short c c_read MAX_C_BYTES c_of c_small;
      }

  files_judged : (decision : Decision) → length c_read ≤ MAX_C_BYTES → JudgesWith files elf_read c_read command decision → IsVerdictOn files command decision
  files_judged decision c_small (text, is, exact, sound) = (
    not_too_large files command elf_read elf_taken elf_small,
    λ elf c e f.
        let w = are_whole c_small elf c e f in (
          text,
          is,
          within decision w.elf_within w.c_within
              (subst (λ x. Judges elf x (task_of command text) decision) w.c_is (subst (λ x. Judges x c_read (task_of command text) decision) w.elf_is exact)),
          subst (λ x. IsSound elf x (task_of command text) decision.verdict) w.c_is
              (subst (λ x. IsSound x c_read (task_of command text) decision.verdict) w.elf_is sound),
        ),
  )

  -- what is left to read where these bytes were read is left to read of the files
  needs_certificate : length c_read ≤ MAX_C_BYTES → IsLeftToRead elf_read c_read command → NeedsCertificate files command
  needs_certificate c_small left = λ elf c e f.
      let w = are_whole c_small elf c e f in
      subst (λ x. IsLeftToRead elf x command) w.c_is (subst (λ x. IsLeftToRead x c_read command) w.elf_is left)

-- ---- the decision is one of a command

pub elf_of_command : (command : Command) → IsOfCommand command (plain (TooLarge Elf))
elf_of_command (Prove job) = refl
elf_of_command (Check job) = (tt, refl)
elf_of_command (Show job) = (tt, refl)

pub c_of_command : (command : Command) → IsOfCommand command (plain (TooLarge C))
c_of_command (Prove job) = refl
c_of_command (Check job) = (tt, refl)
c_of_command (Show job) = (tt, refl)

-- of `prove`
of_prove : (elf c : List ℕ) (job : Proving) (decision : Decision) → Judges elf c (Judge job.functions) decision → IsOfCommand (Prove job) decision
of_prove elf c job _ (elf_refused fault offset h) = refl
of_prove elf c job _ (c_refused image kind offset h k) = refl
of_prove elf c job _ (too_many image unit names h k) = refl
of_prove elf c job _ (pair_refused image unit names kind name h k) = refl
of_prove elf c job _ (code_refused image unit names kind name address h k) = refl
of_prove elf c job _ (too_large image unit names h k) = refl
of_prove elf c job _ (judged functions image unit names listed found is framed are small short) =
    let paired = framed.pairs.paired in
    answers_searched listed found are short (some_listed image unit framed.pairs.pairs names listed paired.some paired.listed framed.listed_are)
of_prove elf c job _ (over functions image unit names listed found is framed are small long) = answers_over listed found long
of_prove elf c job _ (certificate_large functions certificate image unit names is h k) = absurd (cc)
of_prove elf c job _ (checked functions certificate image unit names listed outcome is short framed h) = absurd (cc)
of_prove elf c job _ (showed image unit shown is pairs h) = absurd (cc)

called_valid : (listed : List Listed) → IsTrue (all_valid (map valid_judgement listed))
called_valid [] = refl
called_valid (f ∷ listed) = called_valid listed

of_outcome : (listed : List Listed) (o : spec.Outcome) → map valid_judgement listed ≢ [] → CheckDecides (verdict_of_outcome listed o)
of_outcome listed (spec.Unread offset) some = tt
of_outcome listed (spec.Broken name offset rule) some = tt
of_outcome listed (spec.Above quantity) some = tt
of_outcome listed spec.Proof some = (some, called_valid listed)

-- of `check`
of_check : (elf c : List ℕ) (job : Checking) (text : List ℕ) (decision : Decision) → Judges elf c (Verify job.functions text) decision → IsOfCommand (Check job) decision
of_check elf c job text _ (elf_refused fault offset h) = (tt, refl)
of_check elf c job text _ (c_refused image kind offset h k) = (tt, refl)
of_check elf c job text _ (too_many image unit names h k) = (tt, refl)
of_check elf c job text _ (pair_refused image unit names kind name h k) = (tt, refl)
of_check elf c job text _ (code_refused image unit names kind name address h k) = (tt, refl)
of_check elf c job text _ (too_large image unit names h k) = (tt, refl)
of_check elf c job text _ (judged functions image unit names listed found is framed are small short) = absurd (cc)
of_check elf c job text _ (over functions image unit names listed found is framed are small long) = absurd (cc)
of_check elf c job text _ (certificate_large functions certificate image unit names is h k) = (tt, refl)
of_check elf c job text _ (checked functions certificate image unit names listed outcome is short framed h) =
    let paired = framed.pairs.paired in
    (of_outcome listed outcome (some_called image unit framed.pairs.pairs names listed paired.some paired.listed framed.listed_are), refl)
of_check elf c job text _ (showed image unit shown is pairs h) = absurd (cc)

-- of `show`
of_show : (elf c : List ℕ) (job : Showing) (decision : Decision) → Judges elf c (Display job.function) decision → IsOfCommand (Show job) decision
of_show elf c job _ (elf_refused fault offset h) = (tt, refl)
of_show elf c job _ (c_refused image kind offset h k) = (tt, refl)
of_show elf c job _ (too_many image unit names h k) = (tt, refl)
of_show elf c job _ (pair_refused image unit names kind name h k) = (tt, refl)
of_show elf c job _ (code_refused image unit names kind name address h k) = (tt, refl)
of_show elf c job _ (too_large image unit names h k) = (tt, refl)
of_show elf c job _ (judged functions image unit names listed found is framed are small short) = absurd (cc)
of_show elf c job _ (over functions image unit names listed found is framed are small long) = absurd (cc)
of_show elf c job _ (certificate_large functions certificate image unit names is h k) = absurd (cc)
of_show elf c job _ (checked functions certificate image unit names listed outcome is short framed h) = absurd (cc)
of_show elf c job _ (showed image unit shown is pairs h) = (cc, refl)

-- what is decided of files is decided by what is asked of them
pub of_command : (elf c : List ℕ) (command : Command) (text : List ℕ) (decision : Decision) → Judges elf c (task_of command text) decision → IsOfCommand command decision
of_command elf c (Prove job) text decision h = of_prove elf c job decision h
of_command elf c (Check job) text decision h = of_check elf c job text decision h
of_command elf c (Show job) text decision h = of_show elf c job decision h

-- of what was read of both
module _ (files : Contents) (command : Command) (elf c : List ℕ) (elf_read : AreOf files (asked_of command).elf MAX_ELF_BYTES elf) (small : length elf ≤ MAX_ELF_BYTES)
    (c_read : AreOf files (asked_of command).source MAX_C_BYTES c) where
  pub source_too_large : MAX_C_BYTES < length c → JudgesFiles files command (plain (TooLarge C))
  source_too_large large = (c_too_large files command elf c elf_read small c_read large, c_of_command command)

  pub judged_files : (decision : Decision) → length c ≤ MAX_C_BYTES → JudgesWith files elf c command decision → JudgesFiles files command decision
  judged_files decision short h = (files_judged files command elf c elf_read small c_read decision short h, of_command elf c command h.0 decision h.2)

-- ---- one call after the other

-- a file that was read is one of an equal name
pub renamed : (one two : List ℕ) (maximum : ℕ) (before now : DeskState) (r : Result (Vec ℕ Global) (Refusal OutsideFault)) → one ≡ two
    → ReadsFile one maximum before now r → ReadsFile two maximum before now r
renamed one two maximum before now r e reads = subst (λ n. ReadsFile n maximum before now r) e reads

-- nothing more is taken
taken_still : (files : Contents) (name : List ℕ) (most : ℕ) (before middle now : Option (List ℕ)) → TakesAtMost files name most before middle → now ≡ middle
    → TakesAtMost files name most before now
taken_still files name most before middle now first same = elim first [ inl e ↦ inl (same ∙ e) | inr t ↦ inr (t.0, t.1, same ∙ t.2) ]

-- the executable, where contracts see it, is no longer than what was read of it
elf_within : (file : Option (List ℕ)) (read : List ℕ) → IfSome file (λ text. read ≡ take (MAX_ELF_BYTES + 1) text) → length read ≤ MAX_ELF_BYTES
    → IfSome file (λ text. length text ≤ MAX_ELF_BYTES)
elf_within None read taken small = tt
elf_within (Some text) read taken small = short text read MAX_ELF_BYTES taken small

-- what a call takes of the desk that an earlier one left
module _ (command : Command) (before middle now : DeskState) (files : middle.files ≡ before.files) where
  taken_after : (first second : List ℕ) (one two : ℕ) → TakesAtMost before.files first one before.left middle.left
      → TakesAtMost middle.files second two middle.left now.left
      → TakesAtMost before.files first one before.left now.left ⊎ TakesAtMost before.files second two before.left now.left
  taken_after first second one two earlier (inl e) = inl (taken_still before.files first one before.left middle.left now.left earlier e)
  taken_after first second one two earlier (inr u) = inr (inr (u.0, u.1, u.2 ∙ ap (λ fs. option_map (drop u.0) (fs second)) files))

  -- the certificate after the source
  pub then_certificate : (elf c : List ℕ) → AreOf before.files (asked_of command).elf MAX_ELF_BYTES elf → length elf ≤ MAX_ELF_BYTES
      → AreOf before.files (asked_of command).source MAX_C_BYTES c → length c ≤ MAX_C_BYTES
      → TakesAtMost before.files (asked_of command).source (MAX_C_BYTES + 1) before.left middle.left
      → middle.opened ≡ with_name before.opened (asked_of command).source → ReadsCertificate elf c command middle now → ReadsSource command elf before now
  then_certificate elf c elf_of small c_of c_small first opened read = record {
    taken = elim read.taken [
      | inl e ↦ inl (taken_still before.files (asked_of command).source (MAX_C_BYTES + 1) before.left middle.left now.left first e)
      | inr t ↦ elim (taken_after (asked_of command).source t.0 (MAX_C_BYTES + 1) (MAX_CERTIFICATE_BYTES + 1) first t.2) [ inl e ↦ inl e | inr u ↦ inr (t.0, t.1, u) ]
    ];
    opened = inr (
      small,
      elim read.opened [
        | inl e ↦ inl (e ∙ opened)
        | inr o ↦ inr (o.0, o.1, o.2 ∙ ap (λ names. with_name names o.0) opened, needs_certificate before.files command elf c elf_of small c_of c_small o.3)
      ],
    );
  }

  -- the source after the executable
  pub then_source : (elf : List ℕ) → AreOf before.files (asked_of command).elf MAX_ELF_BYTES elf
      → TakesAtMost before.files (asked_of command).elf (MAX_ELF_BYTES + 1) before.left middle.left
      → middle.opened ≡ with_name before.opened (asked_of command).elf → ReadsSource command elf middle now → ReadsFiles command before now
  then_source elf elf_of first opened second = record {
    taken = elim second.taken [
      | inl t ↦ elim (taken_after (asked_of command).elf (asked_of command).source (MAX_ELF_BYTES + 1) (MAX_C_BYTES + 1) first t) [ inl e ↦ inl e | inr u ↦ inr (inl u) ]
      | inr t ↦ elim (taken_after (asked_of command).elf t.0 (MAX_ELF_BYTES + 1) (MAX_CERTIFICATE_BYTES + 1) first t.2) [ inl e ↦ inl e | inr u ↦ inr (inr (t.0, t.1, u)) ]
    ];
    opened = elim second.opened [
      | inl e ↦ inr (inl (e ∙ opened))
      | inr s ↦ inr (inr (both s.1, elf_within (before.files (asked_of command).elf) elf elf_of s.0))
    ];
  }
    where
      both : (now.opened ≡ with_name middle.opened (asked_of command).source) ⊎ ((name : List ℕ) × ((asked_of command).given ≡ Some name)
          × (now.opened ≡ with_name (with_name middle.opened (asked_of command).source) name) × NeedsCertificate middle.files command)
          → (now.opened ≡ with_name (with_name before.opened (asked_of command).elf) (asked_of command).source) ⊎ ((name : List ℕ) × ((asked_of command).given ≡ Some name)
          × (now.opened ≡ with_name (with_name (with_name before.opened (asked_of command).elf) (asked_of command).source) name) × NeedsCertificate before.files command)
      both (inl e) = inl (e ∙ ap (λ names. with_name names (asked_of command).source) opened)
      both (inr o) = inr (
        o.0,
        o.1,
        o.2 ∙ ap (λ names. with_name (with_name names (asked_of command).source) o.0) opened,
        subst (λ fs. NeedsCertificate fs command) files o.3,
      )

pub reads_source : (command : Command) (elf : List ℕ) (before now : DeskState) (r : Result (Vec ℕ Global) (Refusal OutsideFault))
    → ReadsFile (asked_of command).source MAX_C_BYTES before now r → length elf ≤ MAX_ELF_BYTES → ReadsSource command elf before now
reads_source command elf before now r reads small =
    record { taken = inl reads.taken; opened = elim reads.opened_part [ inl e ↦ inl e | inr e ↦ inr (small, inl e) ] }

pub reads_elf : (command : Command) (before now : DeskState) (r : Result (Vec ℕ Global) (Refusal OutsideFault)) → ReadsFile (asked_of command).elf MAX_ELF_BYTES before now r
    → ReadsFiles command before now
reads_elf command before now r reads =
    record { taken = inl reads.taken; opened = elim reads.opened_part [ inl e ↦ inl e | inr e ↦ inr (inl e) ] }
