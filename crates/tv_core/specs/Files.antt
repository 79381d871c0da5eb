-- What is read of the files of a job, and what a call leaves of a desk.
use Rattle.std.specs.Prelude.{◌≡◌, ◌≤◌, ◌<◌, ◌+◌, ◌⊎◌, ℕ, List, length, take, Some, IfSome, Vec, Result, IfOk, OnOk, IsErrOf}
use Rattle.std.specs.Global.{Global}
use Rattle.elf_read_spec.specs.Image.{Image}
use Rattle.elf_read_spec.specs.File.{IsElf}
use Rattle.tv_limits.specs.declared.TheConstants.{MAX_ELF_BYTES, MAX_C_BYTES, MAX_CERTIFICATE_BYTES}
use Rattle.attempt.specs.declared.refusal.Refusal.{Refusal}
use Rattle.attempt.specs.declared.refusal.Refusal.TheVariants.{NoMemory}
use Rattle.tv_base.specs.declared.faults.OutsideFault.{OutsideFault}
use Rattle.tv_base.specs.Faults.{HasCause}
use Rattle.tv_base.specs.Reading.{with_name}
use Rattle.c_types_spec.specs.Core.{Typed}
use Rattle.tv_words.specs.Commands.{Command}
use Rattle.tv_core_spec.specs.Decisions.{Decision}
use Rattle.tv_core_spec.specs.Verdicts.{Pairs, IsSound, Judges}
use Rattle.tv_core.specs.Tasks.{asked_of, task_of}
use Rattle.tv_core.specs.Objects.{Contents, DeskState}
use Rattle.tv_core.specs.Decisions.{decision_of}
use Rattle.tv_core.specs.declared.decision.Decision.{Decision as CodeDecision}
use Rattle.tv_core.specs.Ends.{IsText, IsOfCommand, IsVerdictOn, TakesAtMost, NeedsCertificate, TakesOfFiles, OpensOfFiles, TakesLittle, OpensInOrder}

-- a call keeps the files of a desk, and its count of faults rises exactly with a failure
pub record KeepsDesk {T : Type 0} (before now : DeskState) (result : Result T (Refusal OutsideFault)) : Type 0 where
  pub same_files : now.files ≡ before.files
  pub cause : HasCause before.faults now.faults result
  pub unfailing : OnOk result (now.faults ≡ before.faults)
  pub no_memory : IsErrOf result NoMemory → now.faults ≡ before.faults

-- these bytes are those of a file, where contracts see it, or the first ones of it: one more than this number
abbrev pub AreOf : Contents → (name : List ℕ) → (maximum : ℕ) → (bytes : List ℕ) → Type 0
AreOf files name maximum bytes = IfSome (files name) (λ text. bytes ≡ take (maximum + 1) text)

-- a file of a desk is begun, and so much of it is read
pub record ReadsFile (name : List ℕ) (maximum : ℕ) (before now : DeskState) (result : Result (Vec ℕ Global) (Refusal OutsideFault)) : Type 0 where
  pub bytes : IfOk result (λ bytes. AreOf before.files name maximum bytes.items)
  pub taken : TakesAtMost before.files name (maximum + 1) before.left now.left
  pub opened : OnOk result (now.opened ≡ with_name before.opened name)
  pub opened_part : (now.opened ≡ before.opened) ⊎ (now.opened ≡ with_name before.opened name)

-- the same of its desk alone
pub record BeginsFile (name : List ℕ) (maximum : ℕ) (before now : DeskState) : Type 0 where
  pub taken : TakesAtMost before.files name (maximum + 1) before.left now.left
  pub opened : (now.opened ≡ before.opened) ⊎ (now.opened ≡ with_name before.opened name)

-- ---- decisions

-- what is decided by a command of an executable and a source, for some text of the certificate that is read, which is the
-- file's where contracts see it; and what it calls valid is valid
abbrev pub JudgesWith : Contents → (elf c : List ℕ) → Command → Decision → Type 0
JudgesWith files elf c command decision =
    (text : List ℕ) × IsText files (asked_of command).given text × Judges elf c (task_of command text) decision × IsSound elf c (task_of command text) decision.verdict

-- of the files of a desk
abbrev pub JudgesFiles : Contents → Command → Decision → Type 0
JudgesFiles files command decision = IsVerdictOn files command decision × IsOfCommand command decision

-- ---- the certificate

-- both files are accepted, and the functions of the command have pairs
abbrev pub IsLeftToRead : (elf c : List ℕ) → Command → Type 0
IsLeftToRead elf c command = (image : Image) × (unit : Typed) × (names : List (List ℕ)) × ((text : List ℕ) → Pairs elf c (task_of command text) image unit names)

-- a certificate isn't begun, or it is, where nothing else is left to read; and so much of it is read
pub record ReadsCertificate (elf c : List ℕ) (command : Command) (before now : DeskState) : Type 0 where
  pub taken : (now.left ≡ before.left)
      ⊎ ((name : List ℕ) × ((asked_of command).given ≡ Some name) × TakesAtMost before.files name (MAX_CERTIFICATE_BYTES + 1) before.left now.left)
  pub opened : (now.opened ≡ before.opened)
      ⊎ ((name : List ℕ) × ((asked_of command).given ≡ Some name) × (now.opened ≡ with_name before.opened name) × IsLeftToRead elf c command)

-- what a command decides of an executable of this image and a source; its certificate is read, if it is needed
pub record JudgesBy (image : Image) (c : List ℕ) (command : Command) (before now : DeskState) (result : Result CodeDecision (Refusal OutsideFault)) : Type 0 where
  pub judged : IfOk result (λ decision. (elf : List ℕ) → IsElf elf image → JudgesWith before.files elf c command (decision_of decision))
  pub reads : (elf : List ℕ) → IsElf elf image → ReadsCertificate elf c command before now
  pub kept : KeepsDesk before now result

-- ---- all files

-- the source is read, if the executable, of which these bytes were read, is within its maximum, and then the certificate
pub record ReadsSource (command : Command) (elf : List ℕ) (before now : DeskState) : Type 0 where
  pub taken : TakesAtMost before.files (asked_of command).source (MAX_C_BYTES + 1) before.left now.left
      ⊎ ((name : List ℕ) × ((asked_of command).given ≡ Some name) × TakesAtMost before.files name (MAX_CERTIFICATE_BYTES + 1) before.left now.left)
  pub opened : (now.opened ≡ before.opened)
      ⊎ ((length elf ≤ MAX_ELF_BYTES)
      × ((now.opened ≡ with_name before.opened (asked_of command).source)
      ⊎ ((name : List ℕ) × ((asked_of command).given ≡ Some name)
      × (now.opened ≡ with_name (with_name before.opened (asked_of command).source) name) × NeedsCertificate before.files command)))

-- the executable is read, then the source, and then the certificate
pub record ReadsFiles (command : Command) (before now : DeskState) : Type 0 where
  pub taken : TakesOfFiles before.files (asked_of command) before.left now.left
  pub opened : OpensOfFiles before.files command before.opened now.opened

-- what the words ask for is read
abbrev pub ReadsAsked : List (List ℕ) → (before now : DeskState) → Type 0
ReadsAsked words before now = TakesLittle words before.files before.left now.left × OpensInOrder words before.files before.opened now.opened
