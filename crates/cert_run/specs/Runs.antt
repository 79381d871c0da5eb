-- What certificates say of the functions of a list with pairs, as the program answers it.
use Rattle.std.specs.Prelude.{◌≡◌, ℕ, true, List, map, All, Some, slice_get}
use Rattle.elf_read_spec.specs.Image.{Image}
use Rattle.c_types_spec.specs.Core.{Typed}
use Rattle.c_types_spec.specs.HasType.{IsTypedUnit}
use Rattle.c_graph_spec.specs.Sizes.{UnitSizes}
use Rattle.pair_setup_spec.specs.Outcome.{Pairs}
use Rattle.pair_setup.specs.Answers.{ArePairs}
use Rattle.pair_setup.specs.declared.outcome.Pairs as code
use Rattle.validity_spec.specs.Claim.{IsValid}
use Rattle.agreement_laws.specs.EntryFrame.{Pair}
use Rattle.validity_laws.specs.Derivation.{Function}
use Rattle.cert_check_spec.specs.Verdict.{Listed}
use Rattle.validity_laws.specs.CheckStatements.{listed_of}
use Rattle.cert_run_spec.specs.Files.{AreListed}
use Rattle.cert_run_spec.specs.Verdict.{IsOutcome}
use Rattle.cert_check_frames.specs.Entries.{AreEntries, AreGraphs, AreSites}
use Rattle.cert_run.specs.Sides.{IsRead}
use Rattle.cert_run.specs.declared.sides.Sides.{Sides}
use Rattle.prove_run_spec.specs.Proofs.{HasTruths}
use Rattle.prove_run_spec.specs.Trails.{Found, AreFound}
use Rattle.cert_run.specs.Searches.{IsSearch, is_proved}
use Rattle.cert_run.specs.declared.finding.Search.{Search}
use Rattle.cert_run.specs.Outcomes.{outcome_of}
use Rattle.cert_run.specs.declared.outcome.Outcome.{Outcome}
use Rattle.cert_run.specs.declared.outcome.Outcome.TheVariants.{Proof}

-- ---- of both sides

-- whatever the functions are of which these are the sides
abbrev pub OfSides : Sides → (List Listed → Type 0) → Type 0
OfSides s P =
    (q : Pair) (firsts : List (List (ℕ × ℕ))) (functions : List Function) → AreEntries q functions s.entries.items → AreGraphs q s.code.now s.source.items s.runs.items
    → AreSites q firsts s.firsts.now s.places.items → P (map (listed_of q firsts) functions)

abbrev pub IsOutcomeBy : Sides → (bytes : List ℕ) → Outcome → Type 0
IsOutcomeBy s bytes o = OfSides s (λ listed. IsOutcome listed bytes (outcome_of o))

-- where the functions' obligations are truth values
abbrev pub SearchesSides : Sides → Search → Type 0
SearchesSides s search =
    OfSides s (λ listed. All HasTruths listed → (found : List Found) × AreFound listed found × IsSearch listed found search)

-- ---- of a list with pairs

-- the image is that of a file of bytes, the unit is typed, and the list has these pairs
pub record CanRun (image : Image) (unit : Typed) (list : List (List ℕ)) (pairs : code.Pairs) : Type 0 where
  pub read : IsRead image
  pub typed : IsTypedUnit unit
  pub sizes : UnitSizes unit
  pub pairs_are : ArePairs image unit list pairs

-- the listed functions of the pairs, the verdict on the certificate, and that a proof gives validity
pub record Answers (image : Image) (unit : Typed) (pairs : Pairs) (certificate : List ℕ) (o : Outcome) : Type 0 where
  pub listed : List Listed
  pub are : AreListed image unit pairs listed
  pub is : IsOutcome listed certificate (outcome_of o)
  pub valid : o ≡ Proof → All (λ (f : Listed). IsValid image unit f.name f.stack) listed

-- the listed functions, what was found of each, and that those that are proved are valid
pub record Finds (image : Image) (unit : Typed) (pairs : Pairs) (search : Search) : Type 0 where
  pub listed : List Listed
  pub are : AreListed image unit pairs listed
  pub found : List Found
  pub found_are : AreFound listed found
  pub searched : IsSearch listed found search
  pub valid : (k : ℕ) (f : Listed) (one : Found) → slice_get listed k ≡ Some f → slice_get found k ≡ Some one → is_proved one ≡ true → IsValid image unit f.name f.stack
