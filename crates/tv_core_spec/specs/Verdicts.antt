-- What is decided of two files, and that what its verdict calls valid is valid.
use Rattle.std.specs.Prelude.{◌≡◌, ◌<◌, ◌≤◌, ◌^◌, ◌⊎◌, ℕ, true, List, [], ◌∷◌, length, map, slice_get, All, IsTrue, Option, Some, ⊤}
use Rattle.elf_read_spec.specs.Image.{Image, function_named, size_at}
use Rattle.elf_read_spec.specs.File.{IsElf, IsRefusedFile}
use Rattle.elf_read_spec.specs.declared.ElfKind.{ElfKind}
use Rattle.elf_read_spec.specs.declared.SymbolValues.TheVariants.{One}
use Rattle.c_types_spec.specs.Core.{Body, Typed}
use Rattle.code_reach_spec.specs.declared.CodeKind.{CodeKind}
use Rattle.code_reach_spec.specs.Code.{IsStack}
use Rattle.code_reach.specs.Found.{IsCode}
use Rattle.pair_setup_spec.specs.declared.PairKind.{PairKind}
use Rattle.pair_setup_spec.specs.SourceReach.{body_of}
use Rattle.pair_setup_spec.specs.Outcome as outcome
use Rattle.pair_setup_spec.specs.Outcome.{IsPairFault, IsCodeFault, IsTooLarge, IsPaired}
use Rattle.validity_spec.specs.Source.{IsC}
use Rattle.validity_spec.specs.Claim.{IsValid}
use Rattle.tv_limits.specs.declared.Quantity.{Quantity}
use Rattle.tv_limits.specs.declared.Quantity.TheVariants.{Elf, C, Functions, Nodes, Certificate, Visits, Terms, Variables, Call, Steps, Known}
use Rattle.report_text_spec.specs.declared.SourceKind.{SourceKind}
use Rattle.report_text_spec.specs.Verdict.{Verdict, TooLarge, RefusedElf, RefusedC, RefusedPair, RefusedCode, RefusedCertificate, NotProof, Checked, Judged, Showed, Judgement, Shown, maximum_of}
use Rattle.prove_run_spec.specs.Trails.{Found, Proved, Unproved, AreFound}
use Rattle.validity_laws.specs.Laws.{is_spent}
use Rattle.tv_core_spec.specs.Source.{CVerdict, Refused}
use Rattle.tv_core_spec.specs.Decisions.{Decision, plain, judged_by, over_by}
use Rattle.tv_core_spec.specs.Listing.{Task, Judge, Verify, Display, names_of}
use Rattle.cert_check_spec.specs.Verdict.{Listed}
use Rattle.cert_run_spec.specs.Files.{AreListed}
use Rattle.cert_run_spec.specs.Verdict.{Outcome, Unread, Broken, Above, Proof, IsOutcome, valid_judgement}
use Rattle.cert_run_spec.specs.Written.{text_by, HasSmallHints}

-- ---- a function

-- what is shown of a function: of its code, and of its source
pub record IsShown (image : Image) (unit : Typed) (shown : Shown) : Type 0 where
  pub entry_is : function_named image shown.name ≡ One shown.entry
  pub size_is : size_at image shown.entry ≡ Some shown.size
  pub stack_is : IsStack image shown.entry shown.stack
  pub words_are : IsCode image shown.entry shown.words
  pub body : Body
  pub body_is : body_of unit shown.name ≡ Some body
  pub params_are : shown.params ≡ length body.signature.parameters
  pub loops_are : shown.loops ≡ body.loops
  pub calls_are : shown.calls ≡ body.calls

-- ---- two files

-- both files are accepted, and these names are the list
pub record Lists (elf c : List ℕ) (task : Task) (image : Image) (unit : Typed) (names : List (List ℕ)) : Type 0 where
  pub is_elf : IsElf elf image
  pub is_c : IsC c unit
  pub listed : names ≡ names_of task image unit

-- it is within its limit
pub record ListsFew (elf c : List ℕ) (task : Task) (image : Image) (unit : Typed) (names : List (List ℕ)) : Type 0 where
  pub lists : Lists elf c task image unit names
  pub within : length names ≤ maximum_of Functions

-- and it has pairs
pub record Pairs (elf c : List ℕ) (task : Task) (image : Image) (unit : Typed) (names : List (List ℕ)) : Type 0 where
  pub few : ListsFew elf c task image unit names
  pub pairs : outcome.Pairs
  pub paired : IsPaired image unit names pairs

-- and the listed functions of these pairs, with the frames at their entries
pub record Framed (elf c : List ℕ) (task : Task) (image : Image) (unit : Typed) (names : List (List ℕ)) (listed : List Listed) : Type 0 where
  pub pairs : Pairs elf c task image unit names
  pub listed_are : AreListed image unit pairs.pairs listed

-- ---- a certificate

-- the verdict of an outcome of a certificate
abbrev pub verdict_of_outcome : List Listed → Outcome → Verdict
verdict_of_outcome listed (Unread offset) = RefusedCertificate offset
verdict_of_outcome listed (Broken name offset rule) = NotProof name offset rule
verdict_of_outcome listed (Above quantity) = TooLarge quantity
verdict_of_outcome listed Proof = Checked (map valid_judgement listed)

-- ---- all files

-- what is decided of two files within their limits: the first refusal in this order, or what is asked for; of a
-- certificate first that it is too long. Which proofs a search finds is left to it: judgements are those of any proofs and
-- trails of the listed functions, of which a certificate can be written
pub data Judges (elf c : List ℕ) (task : Task) : Decision → Type 0 where
  elf_refused : (kind : ElfKind) (offset : ℕ) → IsRefusedFile elf kind offset → Judges elf c task (plain (RefusedElf kind offset))
  c_refused : (image : Image) (kind : SourceKind) (offset : ℕ) → IsElf elf image → CVerdict c (Refused kind offset) → Judges elf c task (plain (RefusedC kind offset))
  too_many : (image : Image) (unit : Typed) (names : List (List ℕ)) → Lists elf c task image unit names → maximum_of Functions < length names
      → Judges elf c task (plain (TooLarge Functions))
  pair_refused : (image : Image) (unit : Typed) (names : List (List ℕ)) (kind : PairKind) (name : List ℕ) → ListsFew elf c task image unit names
      → IsPairFault image unit names kind name → Judges elf c task (plain (RefusedPair kind name))
  code_refused : (image : Image) (unit : Typed) (names : List (List ℕ)) (kind : CodeKind) (name : List ℕ) (address : ℕ) → ListsFew elf c task image unit names
      → IsCodeFault image unit names kind name address → Judges elf c task (plain (RefusedCode kind name address))
  too_large : (image : Image) (unit : Typed) (names : List (List ℕ)) → ListsFew elf c task image unit names → IsTooLarge image unit names
      → Judges elf c task (plain (TooLarge Nodes))
  judged : (functions : Option (List (List ℕ))) (image : Image) (unit : Typed) (names : List (List ℕ)) (listed : List Listed) (found : List Found)
      → task ≡ Judge functions → Framed elf c task image unit names listed → AreFound listed found
      → All HasSmallHints found → length (text_by listed found) ≤ maximum_of Certificate → Judges elf c task (judged_by listed found)
  over : (functions : Option (List (List ℕ))) (image : Image) (unit : Typed) (names : List (List ℕ)) (listed : List Listed) (found : List Found)
      → task ≡ Judge functions → Framed elf c task image unit names listed → AreFound listed found
      → All HasSmallHints found → maximum_of Certificate < length (text_by listed found) → Judges elf c task (over_by listed found)
  certificate_large : (functions : Option (List (List ℕ))) (certificate : List ℕ) (image : Image) (unit : Typed) (names : List (List ℕ)) → task ≡ Verify functions certificate
      → Pairs elf c task image unit names → maximum_of Certificate < length certificate → Judges elf c task (plain (TooLarge Certificate))
  checked : (functions : Option (List (List ℕ))) (certificate : List ℕ) (image : Image) (unit : Typed) (names : List (List ℕ)) (listed : List Listed) (outcome : Outcome)
      → task ≡ Verify functions certificate → length certificate ≤ maximum_of Certificate → Framed elf c task image unit names listed → IsOutcome listed certificate outcome
      → Judges elf c task (plain (verdict_of_outcome listed outcome))
  showed : (image : Image) (unit : Typed) (shown : Shown) → task ≡ Display shown.name → Pairs elf c task image unit (shown.name ∷ [])
      → IsShown image unit shown → Judges elf c task (plain (Showed shown))

-- what is decided of two files: the limits come first
pub data IsVerdict (elf c : List ℕ) (task : Task) : Decision → Type 0 where
  elf_large : maximum_of Elf < length elf → IsVerdict elf c task (plain (TooLarge Elf))
  c_large : length elf ≤ maximum_of Elf → maximum_of C < length c → IsVerdict elf c task (plain (TooLarge C))
  within : (decision : Decision) → length elf ≤ maximum_of Elf → length c ≤ maximum_of C → Judges elf c task decision
      → IsVerdict elf c task decision

-- ---- two searches

-- what one search proves no other refutes: its trail is that of a search that reached its limit
abbrev pub Agree : (one other : Found) → Type 0
Agree (Proved logs) (Unproved trail) = is_spent trail ≡ true
Agree (Unproved trail) (Proved logs) = is_spent trail ≡ true
Agree one other = ⊤

pub record AllAgree (ones others : List Found) : Type 0 where
  pub count : length ones ≡ length others
  pub each : (k : ℕ) (one other : Found) → slice_get ones k ≡ Some one → slice_get others k ≡ Some other → Agree one other

-- the decision by what was found, whether or not its certificate is too large
abbrev pub IsDecided : List Listed → List Found → Decision → Type 0
IsDecided listed found decision = (decision ≡ judged_by listed found) ⊎ (decision ≡ over_by listed found)

-- both are decisions by what searches found of the same functions, and in a file of bytes the searches agree
pub record AreSearches (elf c : List ℕ) (task : Task) (one other : Decision) : Type 0 where
  pub functions : Option (List (List ℕ))
  pub task_is : task ≡ Judge functions
  pub image : Image
  pub unit : Typed
  pub names : List (List ℕ)
  pub listed : List Listed
  pub framed : Framed elf c task image unit names listed
  pub ones : List Found
  pub others : List Found
  pub ones_are : AreFound listed ones
  pub others_are : AreFound listed others
  pub one_is : IsDecided listed ones one
  pub other_is : IsDecided listed others other
  pub agree : All (λ b. b < 2 ^ 8) elf → AllAgree ones others

-- they are the same, or those of two searches
abbrev pub AreAlike : (elf c : List ℕ) (task : Task) (one other : Decision) → Type 0
AreAlike elf c task one other = (one ≡ other) ⊎ AreSearches elf c task one other

-- ---- validity

-- the listed functions have these judgements, and each that is called valid is valid
pub record AreSound (elf c : List ℕ) (task : Task) (judgements : List Judgement) : Type 0 where
  pub image : Image
  pub unit : Typed
  pub is_elf : IsElf elf image
  pub is_c : IsC c unit
  pub names : map (λ j. j.name) judgements ≡ names_of task image unit
  pub valid : All (λ j. IsTrue j.valid → IsValid image unit j.name j.stack) judgements

abbrev pub IsSound : (elf c : List ℕ) (task : Task) → Verdict → Type 0
IsSound elf c task (Judged judgements) = AreSound elf c task judgements
IsSound elf c task (Checked judgements) = AreSound elf c task judgements
IsSound elf c task verdict = ⊤
