-- Two files have one verdict at most, where that of a search is the one that calls each function valid: its judgements are
-- left aside.
use Rattle.std.proofs.Common.{◌≡◌, ◌<◌, ◌≤◌, ℕ, Bool, true, false, List, [], ◌∷◌, length, map, Option, refl, ap, sym, ◌∙◌, subst, arith}
use Rattle.elf_read_spec.specs.Image.{Image}
use Rattle.elf_read_spec.specs.File.{IsElf, IsRefusedFile}
use Rattle.elf_read_spec.specs.declared.ElfKind.{ElfKind}
use Rattle.elf_read_spec.proofs.Verdicts.{accepted_or_refused, one_image, one_kind, one_offset}
use Rattle.c_types_spec.specs.Core.{Typed}
use Rattle.validity_spec.specs.Source.{IsC}
use Rattle.code_reach_spec.specs.declared.CodeKind.{CodeKind}
use Rattle.pair_setup_spec.specs.declared.PairKind.{PairKind}
use Rattle.pair_setup_spec.specs.Outcome as outcome
use Rattle.pair_setup_spec.specs.Outcome.{IsPairFault, IsCodeFault, IsTooLarge, IsPaired}
use Rattle.pair_setup_spec.specs.Nodes.{HasLargeGraph}
use Rattle.report_text_spec.specs.declared.SourceKind.{SourceKind}
use Rattle.tv_limits.specs.declared.Quantity.TheVariants.{Functions, Nodes, Certificate}
use Rattle.report_text_spec.specs.Verdict.{Verdict, TooLarge, RefusedElf, RefusedC, RefusedPair, RefusedCode, Judged, Showed, Shown, maximum_of}
use Rattle.tv_core_spec.specs.Source.{Source, Accepted, Refused, CVerdict, accepted as c_accepted}
use Rattle.tv_core_spec.specs.Decisions.{Decision}
use Rattle.tv_core_spec.specs.Listing.{Task, Judge, Verify, Display, names_of}
use Rattle.cert_check_spec.specs.Verdict as check
use Rattle.cert_run_spec.specs.Files.{AreListed}
use Rattle.cert_run_spec.specs.Verdict.{Outcome, IsOutcome, valid_judgement}
use Rattle.cert_run_spec.proofs.Listing.{one_list, one_pairing}
use Rattle.cert_run_spec.proofs.Apart.{told_apart}
use Rattle.cert_run_spec.proofs.Once.{one_verdict as one_verdict_of}
use Rattle.tv_core_spec.specs.Verdicts.{IsShown, Lists, Pairs, verdict_of_outcome, Judges, elf_refused, c_refused, too_many, pair_refused, code_refused, too_large, judged, over, certificate_large, checked, showed}
use Rattle.tv_core_spec.proofs.Sources.{one-source}
use Rattle.tv_core_spec.proofs.Codes.{one_first, Same}
use Rattle.tv_core_spec.proofs.Pairings.{IsFaultless, one_pair_fault, pair_or_code, faultless_or_pair, faultless_or_code, large_faultless}
use Rattle.tv_core_spec.proofs.Shown.{one_shown}

-- ---- names that have pairs

-- the verdict in place of that of any search of these functions
abbrev pub all_valid_of : List check.Listed → Verdict
all_valid_of listed = Judged (map valid_judgement listed)

-- what a task asks for of a list with pairs
data Done (image : Image) (unit : Typed) (task : Task) (list : List (List ℕ)) (pairs : outcome.Pairs) : Verdict → Type 0 where
  searched : (functions : Option (List (List ℕ))) (listed : List check.Listed) → task ≡ Judge functions → AreListed image unit pairs listed
      → Done image unit task list pairs (all_valid_of listed)
  too_long : (functions : Option (List (List ℕ))) (certificate : List ℕ) → task ≡ Verify functions certificate → maximum_of Certificate < length certificate
      → Done image unit task list pairs (TooLarge Certificate)
  outcome_is : (functions : Option (List (List ℕ))) (certificate : List ℕ) (listed : List check.Listed) (o : Outcome) → task ≡ Verify functions certificate
      → length certificate ≤ maximum_of Certificate → AreListed image unit pairs listed → IsOutcome listed certificate o
      → Done image unit task list pairs (verdict_of_outcome listed o)
  shown : (shown : Shown) → task ≡ Display shown.name → IsShown image unit shown → Done image unit task list pairs (Showed shown)

abbrev certificate_in : Task → List ℕ
certificate_in (Judge functions) = []
certificate_in (Verify functions certificate) = certificate
certificate_in (Display name) = []

judges_or_verifies : (task : Task) (functions others : Option (List (List ℕ))) (certificate : List ℕ) → task ≡ Judge functions → task ≡ Verify others certificate → ⊥
judges_or_verifies task functions others certificate x y = absurd (cc)

judges_or_shows : (task : Task) (functions : Option (List (List ℕ))) (name : List ℕ) → task ≡ Judge functions → task ≡ Display name → ⊥
judges_or_shows task functions name x y = absurd (cc)

verifies_or_shows : (task : Task) (functions : Option (List (List ℕ))) (certificate name : List ℕ) → task ≡ Verify functions certificate → task ≡ Display name → ⊥
verifies_or_shows task functions certificate name x y = absurd (cc)

one_name : (task : Task) (one two : List ℕ) → task ≡ Display one → task ≡ Display two → one ≡ two
one_name task one two x y = cc

module _ (image : Image) (unit : Typed) (task : Task) (list : List (List ℕ)) (pairs : outcome.Pairs) (paired : IsPaired image unit list pairs) where
  one_text : (functions others : Option (List (List ℕ))) (certificate text : List ℕ) → task ≡ Verify functions certificate → task ≡ Verify others text → certificate ≡ text
  one_text functions others certificate text x y = ap certificate_in (sym x ∙ y)

  one_outcome : (listed others : List check.Listed) (certificate text : List ℕ) (o p : Outcome) → certificate ≡ text → AreListed image unit pairs listed
      → AreListed image unit pairs others → IsOutcome listed certificate o → IsOutcome others text p → verdict_of_outcome listed o ≡ verdict_of_outcome others p
  one_outcome listed others certificate text o p same are are_too x y =
      let listed_is = one_list image unit pairs others listed are_too are in
      let here = subst (λ (l : List check.Listed). IsOutcome l certificate p) listed_is (subst (λ (t : List ℕ). IsOutcome others t p) (sym same) y) in
      ap (verdict_of_outcome listed) (one_verdict_of listed certificate o p (told_apart image unit list pairs listed paired are) x here)
      ∙ ap (λ (l : List check.Listed). verdict_of_outcome l p) (sym listed_is)

  one_done : (one two : Verdict) → Done image unit task list pairs one → Done image unit task list pairs two → one ≡ two
  one_done _ _ (searched functions listed x are) (searched others again y are_too) = ap all_valid_of (one_list image unit pairs listed again are are_too)
  one_done _ _ (searched functions listed x are) (too_long others certificate y long) = absurd (judges_or_verifies task functions others certificate x y)
  one_done _ _ (searched functions listed x are) (outcome_is others certificate again p y short are_too is) =
      absurd (judges_or_verifies task functions others certificate x y)
  one_done _ _ (searched functions listed x are) (shown s y is) = absurd (judges_or_shows task functions s.name x y)
  one_done _ _ (too_long functions certificate x long) (searched others again y are_too) = absurd (judges_or_verifies task others functions certificate y x)
  one_done _ _ (too_long functions certificate x long) (too_long others text y longer) = refl
  one_done _ _ (too_long functions certificate x long) (outcome_is others text again p y short are_too is) =
      absurd (omega (arith, long, short, ap (λ (t : List ℕ). length t) (one_text functions others certificate text x y)))
  one_done _ _ (too_long functions certificate x long) (shown s y is) = absurd (verifies_or_shows task functions certificate s.name x y)
  one_done _ _ (outcome_is functions certificate listed o x short are is) (searched others again y are_too) =
      absurd (judges_or_verifies task others functions certificate y x)
  one_done _ _ (outcome_is functions certificate listed o x short are is) (too_long others text y long) =
      absurd (omega (arith, long, short, ap (λ (t : List ℕ). length t) (one_text functions others certificate text x y)))
  one_done _ _ (outcome_is functions certificate listed o x short are is) (outcome_is others text again p y shorter are_too other) =
      one_outcome listed again certificate text o p (one_text functions others certificate text x y) are are_too is other
  one_done _ _ (outcome_is functions certificate listed o x short are is) (shown s y other) = absurd (verifies_or_shows task functions certificate s.name x y)
  one_done _ _ (shown s x is) (searched functions listed y are) = absurd (judges_or_shows task functions s.name y x)
  one_done _ _ (shown s x is) (too_long functions certificate y long) = absurd (verifies_or_shows task functions certificate s.name y x)
  one_done _ _ (shown s x is) (outcome_is functions certificate listed o y short are other) = absurd (verifies_or_shows task functions certificate s.name y x)
  one_done _ _ (shown s x is) (shown t y other) = ap Showed (one_shown image unit s t is other (one_name task s.name t.name x y))

-- ---- a list

data Listed (image : Image) (unit : Typed) (task : Task) (list : List (List ℕ)) : Verdict → Type 0 where
  many : maximum_of Functions < length list → Listed image unit task list (TooLarge Functions)
  pair_fault : (kind : PairKind) (name : List ℕ) → length list ≤ maximum_of Functions → IsPairFault image unit list kind name
      → Listed image unit task list (RefusedPair kind name)
  code_fault : (kind : CodeKind) (name : List ℕ) (address : ℕ) → length list ≤ maximum_of Functions → IsCodeFault image unit list kind name address
      → Listed image unit task list (RefusedCode kind name address)
  large : length list ≤ maximum_of Functions → IsTooLarge image unit list → Listed image unit task list (TooLarge Nodes)
  paired : (verdict : Verdict) (pairs : outcome.Pairs) → length list ≤ maximum_of Functions → IsPaired image unit list pairs
      → Done image unit task list pairs verdict → Listed image unit task list verdict

faultless : (image : Image) (unit : Typed) (list : List (List ℕ)) (pairs : outcome.Pairs) → IsPaired image unit list pairs → IsFaultless image unit list
faultless image unit list pairs x = record { some = x.some; each = x.no_fault }

large_or_paired : (image : Image) (unit : Typed) (list : List (List ℕ)) (pairs : outcome.Pairs) → IsTooLarge image unit list
    → IsPaired image unit list pairs → ⊥
large_or_paired image unit list pairs x y =
    let (k, inside, e) = x.is_listed in
    y.no_large k x.listed inside (subst (HasLargeGraph image unit) (sym e) x.large)

one_code : (image : Image) (list : List (List ℕ)) (kind other : CodeKind) (one two : List ℕ) (address place : ℕ) → Same kind other one two address place
    → RefusedCode kind one address ≡ RefusedCode other two place
one_code image list kind other one two address place same = λ i. RefusedCode (same.kind_is i) (same.name_is i) (same.address_is i)

module _ (image : Image) (unit : Typed) (task : Task) (list : List (List ℕ)) where
  -- a list within its limit that has a fault of a pair
  after_pair : (kind : PairKind) (name : List ℕ) (two : Verdict) → length list ≤ maximum_of Functions → IsPairFault image unit list kind name
      → Listed image unit task list two → RefusedPair kind name ≡ two
  after_pair kind name _ few x (many y) = absurd (omega (arith, y, few))
  after_pair kind name _ few x (pair_fault other third fewer y) =
      let same = one_pair_fault image unit list kind other name third x y in
      λ i. RefusedPair (same.0 i) (same.1 i)
  after_pair kind name _ few x (code_fault other third address fewer y) = absurd (pair_or_code image unit list kind other name third address x y)
  after_pair kind name _ few x (large fewer y) = absurd (faultless_or_pair image unit list (large_faultless image unit list y) kind name x)
  after_pair kind name _ few x (paired verdict pairs fewer y done) = absurd (faultless_or_pair image unit list (faultless image unit list pairs y) kind name x)

  -- one that has a fault of code
  after_code : (kind : CodeKind) (name : List ℕ) (address : ℕ) (two : Verdict) → length list ≤ maximum_of Functions
      → IsCodeFault image unit list kind name address → Listed image unit task list two → RefusedCode kind name address ≡ two
  after_code kind name address _ few x (many y) = absurd (omega (arith, y, few))
  after_code kind name address _ few x (pair_fault other third fewer y) = absurd (pair_or_code image unit list other kind third name address y x)
  after_code kind name address _ few x (code_fault other third place fewer y) =
      one_code image list kind other name third address place (one_first image list kind other name third address place x.first y.first)
  after_code kind name address _ few x (large fewer y) = absurd (faultless_or_code image unit list (large_faultless image unit list y) kind name address x)
  after_code kind name address _ few x (paired verdict pairs fewer y done) =
      absurd (faultless_or_code image unit list (faultless image unit list pairs y) kind name address x)

  -- one that has a graph that is too large
  after_large : (two : Verdict) → length list ≤ maximum_of Functions → IsTooLarge image unit list → Listed image unit task list two → TooLarge Nodes ≡ two
  after_large _ few x (many y) = absurd (omega (arith, y, few))
  after_large _ few x (pair_fault kind name fewer y) = absurd (faultless_or_pair image unit list (large_faultless image unit list x) kind name y)
  after_large _ few x (code_fault kind name address fewer y) = absurd (faultless_or_code image unit list (large_faultless image unit list x) kind name address y)
  after_large _ few x (large fewer y) = refl
  after_large _ few x (paired verdict pairs fewer y done) = absurd (large_or_paired image unit list pairs x y)

  -- one that has pairs
  after_pairs : (one two : Verdict) (pairs : outcome.Pairs) → length list ≤ maximum_of Functions → IsPaired image unit list pairs
      → Done image unit task list pairs one → Listed image unit task list two → one ≡ two
  after_pairs one _ pairs few x done (many y) = absurd (omega (arith, y, few))
  after_pairs one _ pairs few x done (pair_fault kind name fewer y) = absurd (faultless_or_pair image unit list (faultless image unit list pairs x) kind name y)
  after_pairs one _ pairs few x done (code_fault kind name address fewer y) =
      absurd (faultless_or_code image unit list (faultless image unit list pairs x) kind name address y)
  after_pairs one _ pairs few x done (large fewer y) = absurd (large_or_paired image unit list pairs y x)
  after_pairs one _ pairs few x done (paired two others fewer y again) =
      one_done image unit task list pairs x one two done
      (subst (λ (p : outcome.Pairs). Done image unit task list p two) (one_pairing image unit list others pairs y x) again)

  few_or_many : (two : Verdict) → maximum_of Functions < length list → Listed image unit task list two → TooLarge Functions ≡ two
  few_or_many _ x (many y) = refl
  few_or_many _ x (pair_fault kind name few y) = absurd (omega (arith, x, few))
  few_or_many _ x (code_fault kind name address few y) = absurd (omega (arith, x, few))
  few_or_many _ x (large few y) = absurd (omega (arith, x, few))
  few_or_many _ x (paired verdict pairs few y done) = absurd (omega (arith, x, few))

  one_listed : (one two : Verdict) → Listed image unit task list one → Listed image unit task list two → one ≡ two
  one_listed _ two (many x) y = few_or_many two x y
  one_listed _ two (pair_fault kind name few x) y = after_pair kind name two few x y
  one_listed _ two (code_fault kind name address few x) y = after_code kind name address two few x y
  one_listed _ two (large few x) y = after_large two few x y
  one_listed one two (paired _ pairs few x done) y = after_pairs one two pairs few x done y

-- ---- a source, given an executable

data Sourced (image : Image) (c : List ℕ) (task : Task) : Verdict → Type 0 where
  source_refused : (kind : SourceKind) (offset : ℕ) → CVerdict c (Refused kind offset) → Sourced image c task (RefusedC kind offset)
  typed : (unit : Typed) (verdict : Verdict) → IsC c unit → Listed image unit task (names_of task image unit) verdict → Sourced image c task verdict

-- what a verdict on a text says
abbrev is_accepted : Source → Bool
is_accepted (Accepted unit) = true
is_accepted (Refused kind offset) = false

abbrev kind_in : SourceKind → Source → SourceKind
kind_in other (Accepted unit) = other
kind_in other (Refused kind offset) = kind

abbrev offset_in : Source → ℕ
offset_in (Accepted unit) = 0
offset_in (Refused kind offset) = offset

abbrev unit_in : Typed → Source → Typed
unit_in other (Accepted unit) = unit
unit_in other (Refused kind offset) = other

refused_or_c : (c : List ℕ) (kind : SourceKind) (offset : ℕ) (unit : Typed) → CVerdict c (Refused kind offset) → IsC c unit → ⊥
refused_or_c c kind offset unit x y =
    let apart : false ≡ true = ap is_accepted (one-source c (Refused kind offset) (Accepted unit) x (c_accepted unit y)) in
    absurd (cc)

one_refusal : (c : List ℕ) (one two : SourceKind) (offset place : ℕ) → CVerdict c (Refused one offset) → CVerdict c (Refused two place) → (one ≡ two) × (offset ≡ place)
one_refusal c one two offset place x y =
    let same = one-source c (Refused one offset) (Refused two place) x y in
    (ap (kind_in one) same, ap offset_in same)

pub one_unit : (c : List ℕ) (one two : Typed) → IsC c one → IsC c two → one ≡ two
one_unit c one two x y = ap (unit_in one) (one-source c (Accepted one) (Accepted two) (c_accepted one x) (c_accepted two y))

one_sourced : (image : Image) (c : List ℕ) (task : Task) (one two : Verdict) → Sourced image c task one → Sourced image c task two → one ≡ two
one_sourced image c task _ _ (source_refused kind offset x) (source_refused other place y) =
    let same = one_refusal c kind other offset place x y in
    λ i. RefusedC (same.0 i) (same.1 i)
one_sourced image c task _ _ (source_refused kind offset x) (typed unit verdict y named) = absurd (refused_or_c c kind offset unit x y)
one_sourced image c task _ _ (typed unit verdict x named) (source_refused other place y) = absurd (refused_or_c c other place unit y x)
one_sourced image c task _ _ (typed unit one x named) (typed other two y renamed) =
    let same = one_unit c other unit y x in
    one_listed image unit task (names_of task image unit) one two named (subst (λ w. Listed image w task (names_of task image w) two) same renamed)

-- ---- two files

data Filed (elf c : List ℕ) (task : Task) : Verdict → Type 0 where
  refused : (kind : ElfKind) (offset : ℕ) → IsRefusedFile elf kind offset → Filed elf c task (RefusedElf kind offset)
  accepted : (image : Image) (verdict : Verdict) → IsElf elf image → Sourced image c task verdict → Filed elf c task verdict

one_filed : (elf c : List ℕ) (task : Task) (one two : Verdict) → Filed elf c task one → Filed elf c task two → one ≡ two
one_filed elf c task _ _ (refused kind offset x) (refused other place y) =
    let kinds = one_kind elf kind other offset place x y in
    let offsets = one_offset elf kind other offset place x y in
    λ i. RefusedElf (kinds i) (offsets i)
one_filed elf c task _ _ (refused kind offset x) (accepted image verdict y sourced) = absurd (accepted_or_refused elf image kind offset y x)
one_filed elf c task _ _ (accepted image verdict y sourced) (refused kind offset x) = absurd (accepted_or_refused elf image kind offset y x)
one_filed elf c task _ _ (accepted image one x sourced) (accepted other two y resourced) =
    one_sourced image c task one two sourced (subst (λ m. Sourced m c task two) (one_image elf other image y x) resourced)

listed : (elf c : List ℕ) (task : Task) (image : Image) (unit : Typed) (names : List (List ℕ)) (verdict : Verdict)
    → Lists elf c task image unit names → Listed image unit task names verdict → Filed elf c task verdict
listed elf c task image unit names verdict lists found =
    accepted image verdict lists.is_elf (typed unit verdict lists.is_c (subst (λ n. Listed image unit task n verdict) lists.listed found))

with_pairs : (elf c : List ℕ) (task : Task) (image : Image) (unit : Typed) (names : List (List ℕ)) (verdict : Verdict)
    (pairs : Pairs elf c task image unit names) → Done image unit task names pairs.pairs verdict → Filed elf c task verdict
with_pairs elf c task image unit names verdict pairs done =
    listed elf c task image unit names verdict pairs.few.lists (paired verdict pairs.pairs pairs.few.within pairs.paired done)

-- the verdict of a decision; of a search the one in its place
unfoldable pub kernel : (elf c : List ℕ) (task : Task) (decision : Decision) → Judges elf c task decision → Verdict
kernel elf c task _ (elf_refused kind offset x) = RefusedElf kind offset
kernel elf c task _ (c_refused image kind offset is h) = RefusedC kind offset
kernel elf c task _ (too_many image unit names lists above) = TooLarge Functions
kernel elf c task _ (pair_refused image unit names kind name few fault) = RefusedPair kind name
kernel elf c task _ (code_refused image unit names kind name address few fault) = RefusedCode kind name address
kernel elf c task _ (too_large image unit names few h) = TooLarge Nodes
kernel elf c task _ (judged functions image unit names listed found is framed are small short) = all_valid_of listed
kernel elf c task _ (over functions image unit names listed found is framed are small long) = all_valid_of listed
kernel elf c task _ (certificate_large functions certificate image unit names is pairs long) = TooLarge Certificate
kernel elf c task _ (checked functions certificate image unit names listed o is short framed h) = verdict_of_outcome listed o
kernel elf c task _ (showed image unit s is pairs h) = Showed s

filed : (elf c : List ℕ) (task : Task) (decision : Decision) (x : Judges elf c task decision) → Filed elf c task (kernel elf c task decision x)
unfolding kernel
filed elf c task _ (elf_refused kind offset x) = refused kind offset x
filed elf c task _ (c_refused image kind offset is h) = accepted image _ is (source_refused kind offset h)
filed elf c task _ (too_many image unit names lists above) = listed elf c task image unit names _ lists (many above)
filed elf c task _ (pair_refused image unit names kind name few fault) =
    listed elf c task image unit names _ few.lists (pair_fault kind name few.within fault)
filed elf c task _ (code_refused image unit names kind name address few fault) =
    listed elf c task image unit names _ few.lists (code_fault kind name address few.within fault)
filed elf c task _ (too_large image unit names few h) = listed elf c task image unit names _ few.lists (large few.within h)
filed elf c task _ (judged functions image unit names listed found is framed are small short) =
    with_pairs elf c task image unit names _ framed.pairs (searched functions listed is framed.listed_are)
filed elf c task _ (over functions image unit names listed found is framed are small long) =
    with_pairs elf c task image unit names _ framed.pairs (searched functions listed is framed.listed_are)
filed elf c task _ (certificate_large functions certificate image unit names is pairs long) =
    with_pairs elf c task image unit names _ pairs (too_long functions certificate is long)
filed elf c task _ (checked functions certificate image unit names listed o is short framed h) =
    with_pairs elf c task image unit names _ framed.pairs (outcome_is functions certificate listed o is short framed.listed_are h)
filed elf c task _ (showed image unit s is pairs h) = with_pairs elf c task image unit (s.name ∷ []) _ pairs (shown s is h)

-- two decisions within the limits have one such verdict
pub one_kernel : (elf c : List ℕ) (task : Task) (one two : Decision) (x : Judges elf c task one) (y : Judges elf c task two)
    → kernel elf c task one x ≡ kernel elf c task two y
one_kernel elf c task one two x y =
    one_filed elf c task (kernel elf c task one x) (kernel elf c task two y) (filed elf c task one x) (filed elf c task two y)
