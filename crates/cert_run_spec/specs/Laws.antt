-- What follows from the definitions of verdicts on certificates.
use Rattle.std.specs.Prelude.{◌≡◌, ◌<◌, ◌^◌, ℕ, true, List, length, map, flat_map, All, Contains, bytes_eq}
use Rattle.std.specs.List.{IsDistinct}
use Rattle.elf_read_spec.specs.Image.{Image}
use Rattle.elf_read_spec.specs.File.{IsElf}
use Rattle.c_types_spec.specs.Core.{Typed}
use Rattle.c_types_spec.specs.HasType.{IsTypedUnit}
use Rattle.c_graph_spec.specs.Sizes.{UnitSizes}
use Rattle.pair_setup_spec.specs.Outcome as outcome
use Rattle.pair_setup_spec.specs.Outcome.{IsPaired}
use Rattle.validity_spec.specs.Claim.{IsValid}
use Rattle.clause_check_spec.specs.Log as clauses
use Rattle.cert_text_spec.specs.Lines.{IsStep, is_name, line_text}
use Rattle.cert_check_terms.specs.Variables.{AreApart}
use Rattle.cert_check_spec.specs.declared.RuleWord.TheVariants.{Missing}
use Rattle.cert_check_spec.specs.Verdict.{Listed, IsMissing}
use Rattle.cert_run_spec.specs.Files.{AreListed, HasWords}
use Rattle.prove_run_spec.specs.Proofs.{HasProof}
use Rattle.validity_laws.specs.Laws.{IsSorted}
use Rattle.cert_run_spec.specs.Verdict.{Outcome, IsOutcome, Broken, Proof, Part, written_lines, end_offset}

-- ---- one list

abbrev pub ListsHaveOnePairing : Type 0
ListsHaveOnePairing = (image : Image) (unit : Typed) (list : List (List ℕ)) (one two : outcome.Pairs) → IsPaired image unit list one → IsPaired image unit list two → one ≡ two

abbrev pub FilesHaveOneList : Type 0
FilesHaveOneList = (image : Image) (unit : Typed) (pairs : outcome.Pairs) (one two : List Listed) → AreListed image unit pairs one → AreListed image unit pairs two → one ≡ two

-- listed functions have names and graphs of the source of their own, and the bodies of each are told apart
pub record AreToldApart (listed : List Listed) : Type 0 where
  pub by_name : (f g : Listed) → Contains listed f → Contains listed g → f.name ≡ g.name → f ≡ g
  pub by_number : (f g : Listed) → Contains listed f → Contains listed g → f.frame.source.outermost ≡ g.frame.source.outermost → f ≡ g
  pub bodies : All (λ (f : Listed). AreApart f.frame.setting.bodies) listed

abbrev pub FunctionsAreToldApart : Type 0
FunctionsAreToldApart = (image : Image) (unit : Typed) (list : List (List ℕ)) (pairs : outcome.Pairs) (listed : List Listed) → IsPaired image unit list pairs
    → AreListed image unit pairs listed → AreToldApart listed

-- ---- one verdict

abbrev pub HasOneVerdict : Type 0
HasOneVerdict = (listed : List Listed) (bytes : List ℕ) (one two : Outcome) → AreToldApart listed → IsOutcome listed bytes one → IsOutcome listed bytes two → one ≡ two

-- ---- numbers of a file

-- the image of a file of bytes has words
abbrev pub FilesHaveWords : Type 0
FilesHaveWords = (bytes : List ℕ) (image : Image) → All (λ b. b < 2 ^ 8) bytes → IsElf bytes image → HasWords image

-- ---- validity

-- the listed functions of an executable and of a typed unit
pub record AreOfFiles (image : Image) (unit : Typed) (list : List (List ℕ)) (pairs : outcome.Pairs) (listed : List Listed) : Type 0 where
  pub words : HasWords image
  pub typed : IsTypedUnit unit
  pub sizes : UnitSizes unit
  pub paired : IsPaired image unit list pairs
  pub are : AreListed image unit pairs listed

-- the obligations of the listed functions of two files are truth values, and what their fixed runs have are bytes
abbrev pub ListedAreSorted : Type 0
ListedAreSorted = (image : Image) (unit : Typed) (list : List (List ℕ)) (pairs : outcome.Pairs) (listed : List Listed) → AreOfFiles image unit list pairs listed
    → All IsSorted listed

abbrev pub ProofsAreValid : Type 0
ProofsAreValid = (image : Image) (unit : Typed) (list : List (List ℕ)) (pairs : outcome.Pairs) (listed : List Listed) (bytes : List ℕ) → AreOfFiles image unit list pairs listed
    → IsOutcome listed bytes Proof → All (λ (f : Listed). IsValid image unit f.name f.stack) listed

abbrev pub LoggedLeavesAreValid : Type 0
LoggedLeavesAreValid = (image : Image) (unit : Typed) (list : List (List ℕ)) (pairs : outcome.Pairs) (listed : List Listed) (f : Listed) (logs : List (List clauses.Step))
    → AreOfFiles image unit list pairs listed → Contains listed f → HasProof f logs → IsValid image unit f.name f.stack

-- ---- what is written

-- its name is one of certificates, and its numbers are
pub record CanWrite (p : Part) : Type 0 where
  pub named : is_name p.function.name ≡ true
  pub small : p.function.stack < 2 ^ 32
  pub counted : length p.logs < 2 ^ 32
  pub sizes : All (λ (log : List clauses.Step). length log < 2 ^ 32) p.logs
  pub each : All (λ (log : List clauses.Step). All IsStep log) p.logs

-- the certificate of functions with names, no two alike, each of which a Leaf with its logs proves, is a proof of them
abbrev pub LoggedIsProof : Type 0
LoggedIsProof = (parts : List Part) → IsDistinct bytes_eq (map (λ (p : Part). p.function.name) parts) → All (λ (p : Part). HasProof p.function p.logs) parts → All CanWrite parts
    → IsOutcome (map (λ (p : Part). p.function) parts) (flat_map line_text (written_lines parts)) Proof

-- where others are listed too, each part is accepted: the first function that has none is missing, at the last line
abbrev pub LoggedMissesOthers : Type 0
LoggedMissesOthers = (listed : List Listed) (parts : List Part) (f : Listed) → All (λ (p : Part). Contains listed p.function) parts
    → IsDistinct bytes_eq (map (λ (p : Part). p.function.name) parts) → All (λ (p : Part). HasProof p.function p.logs) parts → All CanWrite parts
    → IsMissing listed (map (λ (p : Part). p.function) parts) f
    → IsOutcome listed (flat_map line_text (written_lines parts)) (Broken f.name (end_offset parts) Missing)
