-- What is decided of a list of names.
use Rattle.std.specs.Prelude.{◌≡◌, ◌<◌, ◌≤◌, ◌+◌, ◌⊎◌, ℕ, ⊤, Bool, true, if◌then◌else◌, List, [], ◌∷◌, length, map, get_or, All, IsTrue, Vec, Option, Some, None, Result, IfOk}
use Rattle.std.specs.Global.{Global}
use Rattle.elf_read_spec.specs.Image.{Image}
use Rattle.c_types_spec.specs.Core.{Typed}
use Rattle.validity_spec.specs.Claim.{IsValid}
use Rattle.pair_setup_spec.specs.Outcome.{IsPairFault, IsCodeFault, IsTooLarge}
use Rattle.pair_setup_spec.specs.Outcome as outcome
use Rattle.tv_limits.specs.declared.Quantity.TheVariants.{Nodes, Certificate}
use Rattle.report_text_spec.specs.Verdict.{Verdict, TooLarge, RefusedPair, RefusedCode, RefusedCertificate, NotProof, Checked, Judged, Showed, Judgement}
use Rattle.cert_check_spec.specs.Verdict.{Listed}
use Rattle.cert_run_spec.specs.Files.{AreListed}
use Rattle.cert_run_spec.specs.Verdict.{Outcome, IsOutcome}
use Rattle.cert_run_spec.specs.Written.{text_by, HasSmallHints}
use Rattle.prove_run_spec.specs.Trails.{Found, AreFound}
use Rattle.cert_run_spec.specs.Verdict as spec
use Rattle.cert_run.specs.declared.finding.Search.{Search}
use Rattle.cert_run.specs.declared.outcome.Outcome.{Outcome as CodeOutcome}
use Rattle.cert_run.specs.declared.outcome.Outcome.TheVariants.{Unread, Broken, Above, Proof}
use Rattle.report_text.specs.Verdicts.{verdict_of}
use Rattle.report_text.specs.declared.verdicts.Verdict.{Verdict as CodeVerdict}
use Rattle.pair_setup.specs.declared.outcome.Function.{Function}
use Rattle.attempt.specs.declared.refusal.Refusal.{Refusal}
use Rattle.tv_base.specs.declared.faults.OutsideFault.{OutsideFault}
use Rattle.tv_limits.specs.declared.TheConstants.{MAX_CERTIFICATE_BYTES}
use Rattle.tv_base.specs.Reading.{with_name}
use Rattle.tv_words.specs.Commands.{Command, Prove, Check, Show}
use Rattle.tv_core_spec.specs.Decisions.{Decision, Trails, plain, judgements_of, judged_by, over_by}
use Rattle.tv_core_spec.specs.Verdicts.{IsShown, Lists, verdict_of_outcome}
use Rattle.tv_core.specs.Tasks.{asked_of, task_of}
use Rattle.tv_core.specs.Objects.{Contents, DeskState}
use Rattle.tv_core.specs.Decisions.{decision_of, trails_of}
use Rattle.tv_core.specs.declared.decision.Decision.{Decision as CodeDecision}
use Rattle.tv_core.specs.Ends.{TakesAtMost}
use Rattle.tv_core.specs.Files.{AreOf, JudgesWith, KeepsDesk, ReadsCertificate}

-- the list is refused for this
abbrev pub IsRefusal : Image → Typed → (list : List (List ℕ)) → Verdict → Type 0
IsRefusal image unit list (RefusedPair kind name) = IsPairFault image unit list kind name
IsRefusal image unit list (RefusedCode kind name address) = IsCodeFault image unit list kind name address
IsRefusal image unit list (TooLarge quantity) = (quantity ≡ Nodes) × IsTooLarge image unit list
IsRefusal image unit list verdict = ⊥

-- what a search decides of the functions of the list with these frames; and those that are called valid are valid
pub record AreDecided (image : Image) (unit : Typed) (list : List (List ℕ)) (pairs : outcome.Pairs) (decision : Decision) : Type 0 where
  pub listed : List Listed
  pub are : AreListed image unit pairs listed
  pub of_names : map (λ (f : Listed). f.name) listed ≡ list
  pub found : List Found
  pub found_are : AreFound listed found
  pub small : All HasSmallHints found
  pub decision_is : ((length (text_by listed found) ≤ MAX_CERTIFICATE_BYTES) × (decision ≡ judged_by listed found))
      ⊎ ((MAX_CERTIFICATE_BYTES < length (text_by listed found)) × (decision ≡ over_by listed found))
  pub valid : All (λ (j : Judgement). IsTrue j.valid → IsValid image unit j.name j.stack) (judgements_of listed found)

-- the function of this name is shown
abbrev pub Shows : Image → Typed → (name : List ℕ) → Verdict → Type 0
Shows image unit name (Showed shown) = (shown.name ≡ name) × IsShown image unit shown
Shows image unit name verdict = ⊥

-- the outcome of a certificate of the functions of the list with these pairs; of a proof each function is valid
pub record ChecksCertificate (image : Image) (unit : Typed) (pairs : outcome.Pairs) (certificate : List ℕ) (verdict : Verdict) : Type 0 where
  pub listed : List Listed
  pub are : AreListed image unit pairs listed
  pub outcome : Outcome
  pub outcome_is : IsOutcome listed certificate outcome
  pub verdict_is : verdict ≡ verdict_of_outcome listed outcome
  pub valid : outcome ≡ spec.Proof → All (λ (f : Listed). IsValid image unit f.name f.stack) listed

-- the verdict on the bytes of a certificate, of which at most one more than the maximum was read
abbrev pub IsCertificateVerdict : Image → Typed → outcome.Pairs → (certificate : List ℕ) → Verdict → Type 0
IsCertificateVerdict image unit pairs certificate verdict =
    ((MAX_CERTIFICATE_BYTES < length certificate) × (verdict ≡ TooLarge Certificate))
    ⊎ ((length certificate ≤ MAX_CERTIFICATE_BYTES) × ChecksCertificate image unit pairs certificate verdict)

-- the same, as a decision
abbrev pub IsCertificateDecision : Image → Typed → outcome.Pairs → (certificate : List ℕ) → Decision → Type 0
IsCertificateDecision image unit pairs certificate decision = (decision ≡ plain decision.verdict) × IsCertificateVerdict image unit pairs certificate decision.verdict

-- whatever the two files are, of which these are image and typed core, this is decided of the list, for some text of the
-- certificate, and what it calls valid is valid
abbrev pub AnswersList : Contents → Image → Typed → Command → (list : List (List ℕ)) → Decision → Type 0
AnswersList files image unit command list decision =
    (elf c : List ℕ) → ((text : List ℕ) → Lists elf c (task_of command text) image unit list) → JudgesWith files elf c command decision

-- ---- what calls answer

-- the judgement on a function of this name
abbrev pub judgement_on : (name : List ℕ) → (valid : Bool) → Function → Judgement
judgement_on name valid f = record { name = name; valid = valid; stack = if valid then f.stack else 0 }

-- the judgements on functions of these names, which are valid as found
abbrev pub judged : (names : List (List ℕ)) → List Function → (found : List Bool) → List Judgement
judged [] functions found = []
judged (name ∷ names) [] found = []
judged (name ∷ names) (f ∷ functions) [] = []
judged (name ∷ names) (f ∷ functions) (valid ∷ found) = judgement_on name valid f ∷ judged names functions found

-- a decision of judgements
abbrev pub decided : List Judgement → (certificate : Option (List ℕ)) → Trails → Decision
decided judgements certificate trails = record { verdict = Judged judgements; certificate = certificate; trails = trails }

-- by what a search found, where these are the functions of the list
abbrev pub decided_with : (list : List (List ℕ)) → List Function → (valid : List Bool) → (certificate : Option (Vec ℕ Global)) → Trails → Decision
decided_with list functions valid (Some text) trails = decided (judged list functions valid) (Some text.items) trails
decided_with list functions valid None trails = record { verdict = TooLarge Certificate; certificate = None; trails = trails }

abbrev pub decided_by : (list : List (List ℕ)) → List Function → Search → Decision
decided_by list functions s = decided_with list functions s.valid.items s.certificate (trails_of s.trails)

abbrev pub JudgesAll : Image → Typed → (list : List (List ℕ)) → outcome.Pairs → CodeDecision → Type 0
JudgesAll image unit list pairs decision = AreDecided image unit list pairs (decision_of decision)

-- the verdict of an outcome of a certificate, where these are the functions of the list
abbrev pub outcome_verdict : (list : List (List ℕ)) → List Function → CodeOutcome → Verdict
outcome_verdict list functions (Unread offset) = RefusedCertificate offset
outcome_verdict list functions (Broken name offset rule) = NotProof name offset rule
outcome_verdict list functions (Above quantity) = TooLarge quantity
outcome_verdict list functions Proof = Checked (judged list functions (map (λ f. true) functions))

abbrev pub IsOfOutcome : (list : List (List ℕ)) → List Function → CodeOutcome → CodeVerdict → Type 0
IsOfOutcome list functions o verdict = verdict_of verdict ≡ outcome_verdict list functions o

-- what a command answers of a list with pairs, where these bytes were read of its certificate
abbrev pub IsAnswer : Image → Typed → Command → (list : List (List ℕ)) → outcome.Pairs → (certificate : List ℕ) → CodeDecision → Type 0
IsAnswer image unit (Prove job) list pairs certificate decision = JudgesAll image unit list pairs decision
IsAnswer image unit (Check job) list pairs certificate decision = IsCertificateDecision image unit pairs certificate (decision_of decision)
IsAnswer image unit (Show job) list pairs certificate decision =
    (decision_of decision ≡ plain (verdict_of decision.verdict)) × ((name : List ℕ) → Shows image unit (get_or list 0 name) (verdict_of decision.verdict))

-- these bytes were read of a command's certificate, if it reads one
abbrev pub AreBytesOf : Contents → Command → (bytes : List ℕ) → Type 0
AreBytesOf files (Prove job) bytes = ⊤
AreBytesOf files (Check job) bytes = AreOf files job.certificate MAX_CERTIFICATE_BYTES bytes
AreBytesOf files (Show job) bytes = ⊤

pub record AnswersPaired (image : Image) (unit : Typed) (command : Command) (list : List (List ℕ)) (pairs : outcome.Pairs) (before now : DeskState)
    (result : Result CodeDecision (Refusal OutsideFault)) : Type 0 where
  pub answer : IfOk result (λ decision. (bytes : List ℕ) × AreBytesOf before.files command bytes × IsAnswer image unit command list pairs bytes decision)
  pub taken : (now.left ≡ before.left)
      ⊎ ((name : List ℕ) × ((asked_of command).given ≡ Some name) × TakesAtMost before.files name (MAX_CERTIFICATE_BYTES + 1) before.left now.left)
  pub opened : (now.opened ≡ before.opened) ⊎ ((name : List ℕ) × ((asked_of command).given ≡ Some name) × (now.opened ≡ with_name before.opened name))
  pub kept : KeepsDesk before now result

pub record JudgesList (image : Image) (unit : Typed) (command : Command) (list : List (List ℕ)) (before now : DeskState)
    (result : Result CodeDecision (Refusal OutsideFault)) : Type 0 where
  pub judges : IfOk result (λ decision. AnswersList before.files image unit command list (decision_of decision))
  pub reads : (elf c : List ℕ) → ((text : List ℕ) → Lists elf c (task_of command text) image unit list) → ReadsCertificate elf c command before now
  pub kept : KeepsDesk before now result
