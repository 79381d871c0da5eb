-- How a run ends: what it reports, what it leaves, what it hands out, and what was the cause.
use Rattle.std.specs.Prelude.{◌≡◌, ◌≢◌, ◌↔◌, ◌≤◌, ◌<◌, ◌+◌, ◌-◌, ◌⊎◌, ℕ, not, List, [], length, take, drop, map, filter, flat_map, All, Option, Some, None, IfSome, option_map, Result, IfOk, OnOk, OnErr, IsTrue, IsErrOf, ⊤}
use Rattle.elf_read_spec.specs.Image.{Image}
use Rattle.c_types_spec.specs.Core.{Typed}
use Rattle.tv_limits.specs.declared.Quantity.TheVariants.{Elf, C, Certificate}
use Rattle.report_text_spec.specs.Verdict.{Verdict, RefusedWords, TooLarge, RefusedCertificate, NotProof, Checked, Judged, Showed, Judgement, Shown, all_valid, status_of, maximum_of}
use Rattle.report_text_spec.specs.Report.{report_of, judgements_text, show_text}
use Rattle.cert_text_spec.specs.Lines.{Line, End, line_text}
use Rattle.cert_check_spec.specs.declared.RuleWord.TheVariants.{Missing}
use Rattle.attempt.specs.declared.refusal.Refusal.{Refusal}
use Rattle.attempt.specs.declared.refusal.Refusal.TheVariants.{Fault, NoMemory}
use Rattle.tv_base.specs.declared.faults.OutsideFault.{OutsideFault}
use Rattle.tv_base.specs.declared.faults.OutsideFault.TheVariants.{Failed}
use Rattle.tv_base.specs.Faults.{HasCause}
use Rattle.tv_base.specs.Reading.{with_name}
use Rattle.tv_base.specs.Writing.{Grows, GrowsPartly}
use Rattle.tv_words.specs.Commands.{Command, Prove, Proving, Check, Checking, Show, Showing, IsCommand}
use Rattle.tv_core_spec.specs.Decisions.{Decision, Trails, no_trails, plain, first_unproved}
use Rattle.tv_core_spec.specs.Listing.{Task, Judge, Verify}
use Rattle.tv_core_spec.specs.Verdicts.{Pairs, IsVerdict, IsSound, AreSound, AreAlike}
use Rattle.tv_core.specs.Tasks.{Asked, asked_of, task_of}
use Rattle.tv_core.specs.Objects.{Contents, SinkState, Outputs, State, OutputsRose, AnyRose, SameOutputFaults, SameFaults}

-- ---- the words

-- the words are no command
abbrev pub IsUsageError : List (List ℕ) → Type 0
IsUsageError words = (command : Command) → IsCommand words command → ⊥

-- the words ask for this, or are no command
abbrev pub AskFor : (words : List (List ℕ)) → Option Command → Type 0
AskFor words (Some command) = IsCommand words command
AskFor words None = IsUsageError words

-- ---- what is decided

-- functions were searched, one at least: the certificate, within its maximum, is written, and each function that is called
-- unproved has its trails, in the order of the list
pub record AnswersSearched (judgements : List Judgement) (d : Decision) : Type 0 where
  pub some : judgements ≢ []
  pub text : List ℕ
  pub written : d.certificate ≡ Some text
  pub short : length text ≤ maximum_of Certificate
  pub names : map (λ u. u.name) d.trails.failures ≡ map (λ j. j.name) (filter (λ j. not j.valid) judgements)
  pub reasons : All (λ u. u.trails ≢ []) d.trails.failures
  pub none_over : d.trails.over ≡ None

-- functions were searched, and the text of the certificate is longer than its maximum: nothing is written
pub record AnswersOver (d : Decision) : Type 0 where
  pub lines : List Line
  pub handed_out : d.trails.over ≡ Some lines
  pub long : maximum_of Certificate < length (flat_map line_text lines)
  pub unwritten : d.certificate ≡ None
  pub no_failures : d.trails.failures ≡ []

-- what `prove` answers: judgements, a certificate that is too large, or a refusal alone
abbrev pub ProveDecides : Verdict → Decision → Type 0
ProveDecides RefusedWords d = ⊥
ProveDecides (RefusedCertificate offset) d = ⊥
ProveDecides (NotProof name offset rule) d = ⊥
ProveDecides (Checked judgements) d = ⊥
ProveDecides (Judged judgements) d = AnswersSearched judgements d
ProveDecides (Showed shown) d = ⊥
ProveDecides (TooLarge Certificate) d = AnswersOver d
ProveDecides verdict d = d ≡ plain verdict

abbrev pub ProveAnswers : Decision → Type 0
ProveAnswers d = ProveDecides d.verdict d

-- what `check` answers: what is wrong with the certificate, or that each function is valid
abbrev pub CheckDecides : Verdict → Type 0
CheckDecides RefusedWords = ⊥
CheckDecides (Checked judgements) = (judgements ≢ []) × IsTrue (all_valid judgements)
CheckDecides (Judged judgements) = ⊥
CheckDecides (Showed shown) = ⊥
CheckDecides verdict = ⊤

-- and `show`: the function of this name
abbrev pub ShowDecides : (function : List ℕ) → Verdict → Type 0
ShowDecides function RefusedWords = ⊥
ShowDecides function (RefusedCertificate offset) = ⊥
ShowDecides function (NotProof name offset rule) = ⊥
ShowDecides function (Checked judgements) = ⊥
ShowDecides function (Judged judgements) = ⊥
ShowDecides function (Showed shown) = shown.name ≡ function
ShowDecides function verdict = ⊤

-- what a command decides; `check` and `show` write nothing and hand out nothing
abbrev pub IsOfCommand : Command → Decision → Type 0
IsOfCommand (Prove job) d = ProveAnswers d
IsOfCommand (Check job) d = CheckDecides d.verdict × (d ≡ plain d.verdict)
IsOfCommand (Show job) d = ShowDecides job.function d.verdict × (d ≡ plain d.verdict)

-- this is the text of the certificate that is read, where contracts see it; a command that reads none says nothing of it
abbrev pub IsText : Contents → (given : Option (List ℕ)) → (text : List ℕ) → Type 0
IsText files None text = ⊤
IsText files (Some name) text = IfSome (files name) (λ seen. seen ≡ text)

-- it is decided of the files of a desk, where contracts see them, and what it calls valid is valid. Where the executable is
-- too long, nothing is said of the source, which may be absent
abbrev pub IsVerdictOn : Contents → Command → Decision → Type 0
IsVerdictOn files command decision =
    ((elf : List ℕ) → files (asked_of command).elf ≡ Some elf → maximum_of Elf < length elf → decision ≡ plain (TooLarge Elf))
    × ((elf c : List ℕ) → files (asked_of command).elf ≡ Some elf → files (asked_of command).source ≡ Some c
    → (text : List ℕ) × IsText files (asked_of command).given text × IsVerdict elf c (task_of command text) decision
    × IsSound elf c (task_of command text) decision.verdict)

-- the outcome of the words and the files of a desk, and under which name a certificate is written; a usage error has
-- the empty name
pub data IsOutcome (words : List (List ℕ)) (files : Contents) : (name : List ℕ) → Decision → Type 0 where
  usage_error : IsUsageError words → IsOutcome words files [] (plain RefusedWords)
  commanded : (command : Command) (decision : Decision) → IsCommand words command → IsOfCommand command decision
      → IsVerdictOn files command decision → IsOutcome words files (asked_of command).certificate decision

-- ---- the store

-- this name holds just this text now, and nothing else changed
pub record Becomes (before : Contents) (name text : List ℕ) (now : Contents) : Type 0 where
  pub there : now name ≡ option_map (λ _. text) (before name)
  pub elsewhere : (other : List ℕ) → (other ≡ name → ⊥) → now other ≡ before other

-- it is as before, or this name holds a prefix of this text now
abbrev pub BecomesPartly : (before : Contents) → (name text : List ℕ) → (now : Contents) → Type 0
BecomesPartly before name text now = (now ≡ before) ⊎ ((n : ℕ) × Becomes before name (take n text) now)

-- this text is what is under the name now, or, without one, the store is as before
abbrev pub LeavesText : (name : List ℕ) → (text : Option (List ℕ)) → (before now : Contents) → Type 0
LeavesText name (Some text) before now = Becomes before name text now
LeavesText name None before now = now ≡ before

-- a prefix of it
abbrev pub LeavesTextPartly : (name : List ℕ) → (text : Option (List ℕ)) → (before now : Contents) → Type 0
LeavesTextPartly name (Some text) before now = BecomesPartly before name text now
LeavesTextPartly name None before now = now ≡ before

-- what a decision leaves in the store: its certificate, if it has one
abbrev pub LeavesUnder : (name : List ℕ) → Decision → (before now : Contents) → Type 0
LeavesUnder name decision before now = LeavesText name decision.certificate before now

-- what it leaves where it was cut off
abbrev pub LeavesPartly : (name : List ℕ) → Decision → (before now : Contents) → Type 0
LeavesPartly name decision before now = LeavesTextPartly name decision.certificate before now

-- a call makes this text what is under this name; or, where it fails, a prefix of it
pub record Stores {T : Type 0} (name text : List ℕ) (before now : SinkState) (result : Result T (Refusal OutsideFault)) : Type 0 where
  pub ok : OnOk result (Becomes before.held name text now.held)
  pub part : BecomesPartly before.held name text now.held
  pub cause : HasCause before.faults now.faults result
  pub unfailing : OnOk result (now.faults ≡ before.faults)
  pub no_memory : IsErrOf result NoMemory → now.faults ≡ before.faults

-- ---- the report

-- the report has grown by its whole text
abbrev pub Reports : Verdict → (before now : SinkState) → Type 0
Reports verdict before now = Grows before.held before.begun (report_of verdict) now.held

-- the report has grown by a prefix of its text that isn't the whole, and by nothing before the store is done
abbrev pub PublishesPartly : (name : List ℕ) → Decision → (before now : Outputs) → Type 0
PublishesPartly name decision before now =
    (now.report.held ≡ before.report.held)
    ⊎ (LeavesUnder name decision before.store.held now.store.held
    × GrowsPartly before.report.held before.report.begun (report_of decision.verdict) now.report.held)

-- where the store failed, nothing is reported
abbrev pub StoresFirst : (before now : Outputs) → Type 0
StoresFirst before now = (now.store.faults ≡ before.store.faults) ⊎ (now.report.held ≡ before.report.held)

-- the certificate and then the report of a decision were written, or partly
pub record Publishes {T : Type 0} (name : List ℕ) (decision : Decision) (before now : Outputs) (result : Result T (Refusal OutsideFault)) : Type 0 where
  pub reported : OnOk result (Reports decision.verdict before.report now.report)
  pub stored : OnOk result (LeavesUnder name decision before.store.held now.store.held)
  pub part : OnErr result (PublishesPartly name decision before now)
  pub store_part : LeavesPartly name decision before.store.held now.store.held
  pub store_first : StoresFirst before now
  pub report_later : before.report.faults ≤ now.report.faults
  pub store_later : before.store.faults ≤ now.store.faults
  pub failed : IsErrOf result (Fault Failed) → OutputsRose before now
  pub unfailing : OnOk result (SameOutputFaults before now)
  pub no_memory : IsErrOf result NoMemory → SameOutputFaults before now

-- ---- the desk

-- what is left is as before, or all but at most so many bytes of this file
abbrev pub TakesAtMost : Contents → (name : List ℕ) → (most : ℕ) → (left_before left_now : Option (List ℕ)) → Type 0
TakesAtMost files name most left_before left_now =
    (left_now ≡ left_before) ⊎ ((n : ℕ) × (n ≤ most) × (left_now ≡ option_map (drop n) (files name)))

-- of a file at most one byte more than its maximum is taken
abbrev pub TakesOfFiles : Contents → Asked → (left_before left_now : Option (List ℕ)) → Type 0
TakesOfFiles files asked left_before left_now =
    TakesAtMost files asked.elf (maximum_of Elf + 1) left_before left_now
    ⊎ (TakesAtMost files asked.source (maximum_of C + 1) left_before left_now
    ⊎ ((name : List ℕ) × (asked.given ≡ Some name) × TakesAtMost files name (maximum_of Certificate + 1) left_before left_now))

abbrev pub TakesLittle : List (List ℕ) → Contents → (left_before left_now : Option (List ℕ)) → Type 0
TakesLittle words files left_before left_now =
    (left_now ≡ left_before) ⊎ ((command : Command) × IsCommand words command × TakesOfFiles files (asked_of command) left_before left_now)

-- both files, where contracts see them, are accepted, and the functions of a command have pairs: only the certificate is
-- left to read
abbrev pub NeedsCertificate : Contents → Command → Type 0
NeedsCertificate files command =
    (elf c : List ℕ) → files (asked_of command).elf ≡ Some elf → files (asked_of command).source ≡ Some c
    → (image : Image) × (unit : Typed) × (names : List (List ℕ)) × ((text : List ℕ) → Pairs elf c (task_of command text) image unit names)

-- no file was begun, or the executable, or it and then the source; the source only where the executable, where contracts
-- see it, is within its maximum; and after these the certificate, where nothing else is left to read
abbrev pub OpensOfFiles : Contents → Command → (opened_before opened_now : Option (List (List ℕ))) → Type 0
OpensOfFiles files command opened_before opened_now =
    (opened_now ≡ opened_before)
    ⊎ ((opened_now ≡ with_name opened_before (asked_of command).elf)
    ⊎ (((opened_now ≡ with_name (with_name opened_before (asked_of command).elf) (asked_of command).source)
    ⊎ ((name : List ℕ) × ((asked_of command).given ≡ Some name)
    × (opened_now ≡ with_name (with_name (with_name opened_before (asked_of command).elf) (asked_of command).source) name) × NeedsCertificate files command))
    × IfSome (files (asked_of command).elf) (λ elf. length elf ≤ maximum_of Elf)))

abbrev pub OpensInOrder : List (List ℕ) → Contents → (opened_before opened_now : Option (List (List ℕ))) → Type 0
OpensInOrder words files opened_before opened_now =
    (opened_now ≡ opened_before) ⊎ ((command : Command) × IsCommand words command × OpensOfFiles files command opened_before opened_now)

-- ---- the ends of a run

-- the status, the report, the store and the trails are those of this decision
pub record EndsBy (name : List ℕ) (decision : Decision) (status : ℕ) (before now : Outputs) (trails : Trails) : Type 0 where
  pub status_is : status ≡ status_of decision.verdict
  pub reported : Reports decision.verdict before.report now.report
  pub stored : LeavesUnder name decision before.store.held now.store.held
  pub trails_are : trails ≡ decision.trails

-- a run that neither a failed call nor a lack of memory cut off ends by a decision that is an outcome of the words and
-- the files
pub record EndsWith (words : List (List ℕ)) (files : Contents) (status : ℕ) (before now : Outputs) (trails : Trails) : Type 0 where
  pub name : List ℕ
  pub decision : Decision
  pub outcome : IsOutcome words files name decision
  pub ends : EndsBy name decision status before now trails

-- contracts see the certificate that is read, and this is its text; or none is read
abbrev pub HasText : Contents → (given : Option (List ℕ)) → (text : List ℕ) → Type 0
HasText files None text = ⊤
HasText files (Some name) text = files name ≡ Some text

-- it ends by this decision, or, where functions are searched, by that of another search
pub record EndsAlike (elf c : List ℕ) (task : Task) (name : List ℕ) (decision : Decision) (status : ℕ) (before now : Outputs) (trails : Trails) : Type 0 where
  pub other : Decision
  pub alike : AreAlike elf c task decision other
  pub ends : EndsBy name other status before now trails

-- where the words are a command and contracts see its files, it ends by whatever is decided of them. That is one thing at
-- most, but for what searches find: so each refusal, and all of `check` and `show`, comes exactly with its cause
abbrev pub EndsAsDecided : List (List ℕ) → (files : Contents) → (status : ℕ) → (before now : Outputs) → Trails → Type 0
EndsAsDecided words files status before now trails =
    (command : Command) (elf c text : List ℕ) (decision : Decision) → IsCommand words command → files (asked_of command).elf ≡ Some elf
    → files (asked_of command).source ≡ Some c → HasText files (asked_of command).given text → IsVerdict elf c (task_of command text) decision
    → EndsAlike elf c (task_of command text) (asked_of command).certificate decision status before now trails

-- where a run was cut off the report is as before, or has grown by a prefix of its text that isn't the whole, written
-- when the store is done
abbrev pub EndsPartly : List (List ℕ) → (files : Contents) → (before now : Outputs) → Type 0
EndsPartly words files before now =
    (now.report.held ≡ before.report.held)
    ⊎ ((name : List ℕ) × (decision : Decision) × IsOutcome words files name decision × PublishesPartly name decision before now)

-- at every end the store is as before, or holds a prefix of the certificate under its name
abbrev pub StoresPartly : List (List ℕ) → (files : Contents) → (before now : Contents) → Type 0
StoresPartly words files before now =
    (now ≡ before) ⊎ ((name : List ℕ) × (decision : Decision) × IsOutcome words files name decision × LeavesPartly name decision before now)

-- what is handed out beside the report: unproved functions exactly at status 1, a certificate that is too large at status 7
-- alone, and nothing where the run was cut off
pub record HandsOut (status : ℕ) (trails : Trails) : Type 0 where
  pub unproved : status ≡ 1 ↔ trails.failures ≢ []
  pub over : (lines : List Line) → trails.over ≡ Some lines → status ≡ 7
  pub cut_off : (status ≡ 4) ⊎ (status ≡ 5) → trails ≡ no_trails

-- ---- the validity theorem

-- for two files of these names: at least one function is judged, all are called valid, and where contracts see the files
-- each is valid, that is, its code does what the C source says whenever it is called by the convention and the C run
-- breaks no guard; and the report is the one that calls all of them valid
pub record AreCalledValid (files : Contents) (elf_name source_name : List ℕ) (functions : Option (List (List ℕ))) (judgements : List Judgement)
    (before now : SinkState) : Type 0 where
  pub some : judgements ≢ []
  pub all_called_valid : IsTrue (all_valid judgements)
  pub valid : (elf c : List ℕ) → files elf_name ≡ Some elf → files source_name ≡ Some c → AreSound elf c (Judge functions) judgements
  pub reported : Grows before.held before.begun (judgements_text judgements) now.held

-- this is the certificate of proofs that a search found of all functions, and what `check` decides of it with the same
-- files is that each is valid
pub record CertifiesAll (elf c : List ℕ) (functions : Option (List (List ℕ))) (judgements : List Judgement) (certificate : List ℕ) : Type 0 where
  pub decision : Decision
  pub decided : IsVerdict elf c (Judge functions) decision
  pub judged : decision.verdict ≡ Judged judgements
  pub certificate_is : decision.certificate ≡ Some certificate
  pub checked : IsVerdict elf c (Verify functions certificate) (plain (Checked judgements))

-- this is the certificate of the proofs that a search found, and what `check` decides of it with the same files is that
-- each of its parts is accepted, and that the first function that isn't called valid is missing, at the last line, `end`
pub record CertifiesSome (elf c : List ℕ) (functions : Option (List (List ℕ))) (judgements : List Judgement) (certificate name : List ℕ) : Type 0 where
  pub decision : Decision
  pub decided : IsVerdict elf c (Judge functions) decision
  pub judged : decision.verdict ≡ Judged judgements
  pub certificate_is : decision.certificate ≡ Some certificate
  pub checked : IsVerdict elf c (Verify functions certificate) (plain (NotProof name (length certificate - length (line_text End)) Missing))

-- the words are a command to prove, its functions are called valid, and the store has their certificate
pub record EndsValid (words : List (List ℕ)) (files : Contents) (before now : Outputs) : Type 0 where
  pub job : Proving
  pub job_is : IsCommand words (Prove job)
  pub judgements : List Judgement
  pub claim : AreCalledValid files job.elf job.source job.functions judgements before.report now.report
  pub certificate : List ℕ
  pub proves : (elf c : List ℕ) → files job.elf ≡ Some elf → files job.source ≡ Some c → CertifiesAll elf c job.functions judgements certificate
  pub stored : Becomes before.store.held job.certificate certificate now.store.held

-- the words are a command to prove, not all of its functions are called valid, and the store has the certificate of those
-- that are
pub record EndsUnproved (words : List (List ℕ)) (files : Contents) (before now : Outputs) : Type 0 where
  pub job : Proving
  pub job_is : IsCommand words (Prove job)
  pub judgements : List Judgement
  pub name : List ℕ
  pub unproved : first_unproved judgements ≡ Some name
  pub reported : Reports (Judged judgements) before.report now.report
  pub certificate : List ℕ
  pub proves : (elf c : List ℕ) → files job.elf ≡ Some elf → files job.source ≡ Some c
      → CertifiesSome elf c job.functions judgements certificate name
  pub stored : Becomes before.store.held job.certificate certificate now.store.held

-- the words are a command to check a certificate, the listed functions are called valid, and the store is as before
pub record EndsChecked (words : List (List ℕ)) (files : Contents) (before now : Outputs) : Type 0 where
  pub job : Checking
  pub job_is : IsCommand words (Check job)
  pub judgements : List Judgement
  pub claim : AreCalledValid files job.elf job.source job.functions judgements before.report now.report
  pub stored : now.store.held ≡ before.store.held

-- the words are a command to show a function, its code is printed, and the store is as before: nothing is claimed
pub record EndsShown (words : List (List ℕ)) (before now : Outputs) : Type 0 where
  pub job : Showing
  pub job_is : IsCommand words (Show job)
  pub shown : Shown
  pub name_is : shown.name ≡ job.function
  pub reported : Grows before.report.held before.report.begun (show_text shown) now.report.held
  pub stored : now.store.held ≡ before.store.held

-- ---- the contract of a run

-- what holds at every end, whatever the command
pub record EndsSafely (status : ℕ) (before now : State) : Type 0 where
  -- a failed call is answered only where a count rose
  pub fault : status ≡ 4 → AnyRose before now
  -- at every other end no count rose: a failure is never answered as something else
  pub counts : status ≢ 4 → SameFaults before now
  -- where the store failed, nothing is reported
  pub store_first : StoresFirst before.outputs now.outputs
  -- the files of the desk are as before
  pub same_files : now.desk.files ≡ before.desk.files

-- how a run on these words ends
pub record Ends (words : List (List ℕ)) (before now : State) (trails : Trails) (status : ℕ) : Type 0 where
  -- the validity theorem, of `prove` and of `check`, unless the words ask for a function's code alone
  pub valid : status ≡ 0 → EndsValid words before.desk.files before.outputs now.outputs
      ⊎ (EndsChecked words before.desk.files before.outputs now.outputs ⊎ EndsShown words before.outputs now.outputs)
  -- status 1 comes with a certificate whose parts are accepted
  pub unproved : status ≡ 1 → EndsUnproved words before.desk.files before.outputs now.outputs
  -- where nothing cut the run off, its status, report, certificate and trails are those of a decision that is its outcome
  pub ended : status ≢ 4 → status ≢ 5 → EndsWith words before.desk.files status before.outputs now.outputs trails
  -- status 2 comes exactly with a usage error
  pub usage : status ≢ 4 → status ≢ 5 → (status ≡ 2 ↔ IsUsageError words)
  -- each other status comes exactly with its cause: the run ends by whatever is decided of the two files
  pub decided : status ≢ 4 → status ≢ 5 → EndsAsDecided words before.desk.files status before.outputs now.outputs trails
  -- status 1 comes only with trails
  pub handed_out : HandsOut status trails
  -- where it was cut off, the report is a prefix of its text and not the whole, and begins only when the certificate is
  -- whole
  pub part : (status ≡ 4) ⊎ (status ≡ 5) → EndsPartly words before.desk.files before.outputs now.outputs
  -- at every end the store is as before, or has a prefix of the certificate
  pub store_part : StoresPartly words before.desk.files before.outputs.store.held now.outputs.store.held
  -- of a file at most one byte more than its maximum is taken
  pub taken : TakesLittle words before.desk.files before.desk.left now.desk.left
  -- the executable is begun once, and then the source once, where the executable isn't too long, and last the certificate
  pub opened : OpensInOrder words before.desk.files before.desk.opened now.desk.opened
  pub safely : EndsSafely status before now

-- a run up to its status, or up to what cut it off
pub record RunsTo (words : List (List ℕ)) (before now : State) (trails_before trails_now : Trails) (result : Result ℕ (Refusal OutsideFault)) : Type 0 where
  pub ended : IfOk result (λ status. EndsWith words before.desk.files status before.outputs now.outputs trails_now)
  pub trails_kept : OnErr result (trails_now ≡ trails_before)
  pub part : OnErr result (EndsPartly words before.desk.files before.outputs now.outputs)
  pub store_part : StoresPartly words before.desk.files before.outputs.store.held now.outputs.store.held
  pub store_first : StoresFirst before.outputs now.outputs
  pub taken : TakesLittle words before.desk.files before.desk.left now.desk.left
  pub opened : OpensInOrder words before.desk.files before.desk.opened now.desk.opened
  pub same_files : now.desk.files ≡ before.desk.files
  pub failed : IsErrOf result (Fault Failed) → AnyRose before now
  pub unfailing : OnOk result (SameFaults before now)
  pub no_memory : IsErrOf result NoMemory → SameFaults before now
