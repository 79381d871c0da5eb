-- The verdicts of a run, and the status of each.
use Rattle.std.specs.Prelude.{ℕ, Bool, if◌then◌else◌, List}
use Rattle.std.specs.List.{list_all}
use Rattle.tv_limits.specs.declared.TheConstants.{MAX_ELF_BYTES, MAX_C_BYTES, MAX_CERTIFICATE_BYTES, MAX_FUNCTIONS, MAX_NODES, MAX_VISITS, MAX_TERMS, MAX_VARIABLES, MAX_CALL_BYTES, MAX_STEPS}
use Rattle.elf_read_spec.specs.declared.ElfKind.{ElfKind}
use Rattle.code_reach_spec.specs.declared.CodeKind.{CodeKind}
use Rattle.tv_limits.specs.declared.Quantity.{Quantity}
use Rattle.tv_limits.specs.declared.Quantity.TheVariants.{Elf, C, Functions, Nodes, Certificate, Visits, Terms, Variables, Call, Steps, Known}
use Rattle.report_text_spec.specs.declared.SourceKind.{SourceKind}
use Rattle.pair_setup_spec.specs.declared.PairKind.{PairKind}
use Rattle.cert_check_spec.specs.declared.RuleWord.{RuleWord}

-- the judgement on a listed function: whether it is valid, and how much stack it takes
pub record Judgement : Type 0 where
  pub name : List ℕ
  pub valid : Bool
  pub stack : ℕ

-- a function: its entry, its size and its stack in bytes; the address and the word of each instruction that it reaches,
-- ascending; and of its source the numbers of parameters, loops and calls
pub record Shown : Type 0 where
  pub name : List ℕ
  pub entry : ℕ
  pub size : ℕ
  pub stack : ℕ
  pub words : List (ℕ × ℕ)
  pub params : ℕ
  pub loops : ℕ
  pub calls : ℕ

-- a verdict, one for each form of report
pub data Verdict : Type 0 where
  -- a usage error: the words are no command
  RefusedWords : Verdict
  -- a quantity is above its maximum
  TooLarge : (quantity : Quantity) → Verdict
  -- the first file is no executable, for this reason at this offset of it
  RefusedElf : (kind : ElfKind) → (offset : ℕ) → Verdict
  -- the second file is no source, for this reason at this offset of it
  RefusedC : (kind : SourceKind) → (offset : ℕ) → Verdict
  -- a name can't be validated; or none is there, and the name is `-`
  RefusedPair : (kind : PairKind) → (name : List ℕ) → Verdict
  -- the code of the function of this name has a fault at this address
  RefusedCode : (kind : CodeKind) → (name : List ℕ) → (address : ℕ) → Verdict
  -- the third file is no certificate: its longest prefix that begins one has this length
  RefusedCertificate : (offset : ℕ) → Verdict
  -- it is no proof: the line at this offset of it breaks a rule, in the part of the function of this name
  NotProof : (name : List ℕ) → (offset : ℕ) → (rule : RuleWord) → Verdict
  -- it is a proof: each listed function is judged valid, in the order of the list
  Checked : (judgements : List Judgement) → Verdict
  -- each listed function has its judgement, in the order of the list
  Judged : (judgements : List Judgement) → Verdict
  -- a function is shown
  Showed : (shown : Shown) → Verdict

-- how many bytes a file may have, how many functions the list, how many nodes a graph, how many visits a walk, how many
-- subterms and variables an obligation, and how many steps a run
abbrev pub maximum_of : Quantity → ℕ
maximum_of Elf = MAX_ELF_BYTES
maximum_of C = MAX_C_BYTES
maximum_of Functions = MAX_FUNCTIONS
maximum_of Nodes = MAX_NODES
maximum_of Certificate = MAX_CERTIFICATE_BYTES
maximum_of Visits = MAX_VISITS
maximum_of Terms = MAX_TERMS
maximum_of Variables = MAX_VARIABLES
maximum_of Call = MAX_CALL_BYTES
maximum_of Steps = MAX_STEPS
maximum_of Known = MAX_CERTIFICATE_BYTES

abbrev pub all_valid : List Judgement → Bool
all_valid judgements = list_all (λ j. j.valid) judgements

-- the exit status
abbrev pub status_of : Verdict → ℕ
status_of RefusedWords = 2
status_of (TooLarge quantity) = 7
status_of (RefusedElf fault offset) = 3
status_of (RefusedC kind offset) = 3
status_of (RefusedPair kind name) = 3
status_of (RefusedCode kind name address) = 3
status_of (RefusedCertificate offset) = 6
status_of (NotProof name offset rule) = 6
status_of (Checked judgements) = 0
status_of (Judged judgements) = if all_valid judgements then 0 else 1
status_of (Showed shown) = 0
