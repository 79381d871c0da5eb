-- Two decisions of two files are the same, or those of two searches that agree.
use Rattle.std.proofs.Common.{◌≡◌, ◌<◌, ◌^◌, ℕ, zero, suc, Bool, true, false, List, [], ◌∷◌, length, All, Option, Some, refl, ap, sym, ◌∙◌, subst, arith, inl, inr}
use Rattle.std.specs.Prelude.{slice_get}
use Rattle.std.proofs.lemmas.Option.{slice_get_within, get_or_from_slice_get}
use Rattle.elf_read_spec.proofs.Verdicts.{one_image}
use Rattle.elf_read_spec.specs.Image.{Image}
use Rattle.c_types_spec.specs.Core.{Typed}
use Rattle.pair_setup_spec.specs.Outcome as outcome
use Rattle.pair_setup_spec.specs.Outcome.{IsPaired}
use Rattle.report_text_spec.specs.Verdict.{Verdict, Judged}
use Rattle.cert_check_spec.specs.Verdict.{Listed}
use Rattle.cert_run_spec.specs.Files.{AreListed}
use Rattle.cert_run_spec.specs.Verdict.{Outcome, Unread, Broken, Above, Proof}
use Rattle.cert_run_spec.proofs.Listing.{one_list, one_pairing}
use Rattle.cert_run_spec.proofs.FileWords.{files_have_words}
use Rattle.cert_run_spec.proofs.Valid.{listed_are_sorted}
use Rattle.c_types_laws.proofs.Units.{typed-IsTypedUnit}
use Rattle.c_types_laws.proofs.SizedUnits.{typed-sizes}
use Rattle.clause_check_spec.specs.Log.{Step}
use Rattle.prove_run_spec.specs.Proofs.{HasProof}
use Rattle.prove_run_spec.specs.Trails.{Found, Proved, Unproved, Trail, IsTrail, IsFound, AreFound}
use Rattle.validity_laws.specs.Laws.{is_spent, IsSorted}
use Rattle.validity_laws.proofs.Excluded.{trails_exclude}
use Rattle.tv_core_spec.specs.Decisions.{Decision, plain}
use Rattle.tv_core_spec.specs.Listing.{Task, Judge, names_of}
use Rattle.tv_core_spec.specs.Verdicts.{Framed, Judges, elf_refused, c_refused, too_many, pair_refused, code_refused, too_large, judged, over, certificate_large, checked, showed, verdict_of_outcome, elf_large, c_large, within, Agree, AllAgree, IsDecided, AreSearches, AreAlike}
use Rattle.tv_core_spec.specs.Laws.{OneVerdict}
use Rattle.tv_core_spec.proofs.Once.{kernel, one_kernel, one_unit}

-- ---- the form of a decision

abbrev is_judged : Verdict → Bool
is_judged (Judged judgements) = true
is_judged verdict = false

outcome_is_not_judged : (listed : List Listed) (o : Outcome) → is_judged (verdict_of_outcome listed o) ≡ false
outcome_is_not_judged listed (Unread offset) = refl
outcome_is_not_judged listed (Broken name offset rule) = refl
outcome_is_not_judged listed (Above quantity) = refl
outcome_is_not_judged listed Proof = refl

-- it comes from what a search found
record Searched (elf c : List ℕ) (task : Task) (decision : Decision) : Type 0 where
  functions : Option (List (List ℕ))
  task_is : task ≡ Judge functions
  image : Image
  unit : Typed
  names : List (List ℕ)
  listed : List Listed
  framed : Framed elf c task image unit names listed
  found : List Found
  found_are : AreFound listed found
  is : IsDecided listed found decision

-- it is this verdict alone, which is none of judgements, or comes from a search
data Form (elf c : List ℕ) (task : Task) (decision : Decision) (verdict : Verdict) : Type 0 where
  alone : decision ≡ plain verdict → is_judged verdict ≡ false → Form elf c task decision verdict
  by_search : Searched elf c task decision → is_judged verdict ≡ true → Form elf c task decision verdict

form : (elf c : List ℕ) (task : Task) (decision : Decision) (x : Judges elf c task decision) → Form elf c task decision (kernel elf c task decision x)
unfolding kernel
form elf c task _ (elf_refused reason offset x) = alone refl refl
form elf c task _ (c_refused image reason offset is h) = alone refl refl
form elf c task _ (too_many image unit names lists above) = alone refl refl
form elf c task _ (pair_refused image unit names reason name few fault) = alone refl refl
form elf c task _ (code_refused image unit names reason name address few fault) = alone refl refl
form elf c task _ (too_large image unit names few h) = alone refl refl
form elf c task _ (judged functions image unit names listed found is framed are small short) =
    by_search (record {
      functions = functions;
      task_is = is;
      image = image;
      unit = unit;
      names = names;
      listed = listed;
      framed = framed;
      found = found;
      found_are = are;
      is = inl refl;
    }) refl
form elf c task _ (over functions image unit names listed found is framed are small long) =
    by_search (record {
      functions = functions;
      task_is = is;
      image = image;
      unit = unit;
      names = names;
      listed = listed;
      framed = framed;
      found = found;
      found_are = are;
      is = inr refl;
    }) refl
form elf c task _ (certificate_large functions certificate image unit names is pairs long) = alone refl refl
form elf c task _ (checked functions certificate image unit names listed o is short framed h) = alone refl (outcome_is_not_judged listed o)
form elf c task _ (showed image unit s is pairs h) = alone refl refl

-- ---- two searches

spent : (f : Listed) (trail : Trail) (logs : List (List Step)) → IsSorted f → IsTrail f trail → HasProof f logs → is_spent trail ≡ true
spent f trail logs sorted is proof = by (is_spent trail) refl
  where
    by : (b : Bool) → is_spent trail ≡ b → is_spent trail ≡ true
    by true e = e
    by false e = absurd (trails_exclude f trail logs sorted.bytes sorted.truths is e proof)

agree_at : (f : Listed) (a b : Found) → IsSorted f → IsFound f a → IsFound f b → Agree a b
agree_at f (Proved logs) (Proved others) sorted p q = tt
agree_at f (Proved logs) (Unproved trail) sorted p q = spent f trail logs sorted q p.proof
agree_at f (Unproved trail) (Proved logs) sorted p q = spent f trail logs sorted p q.proof
agree_at f (Unproved trail) (Unproved other) sorted p q = tt

-- ---- elements of lists

element : {X : Type 0} (xs : List X) (k : ℕ) → k < length xs → (x : X) × (slice_get xs k ≡ Some x)
element [] k inside = absurd (omega (arith, inside))
element (x ∷ xs) zero inside = (x, refl)
element (x ∷ xs) (suc k) inside = element xs k (omega (arith, inside))

at_place : {X : Type 0} (P : X → Type 0) (xs : List X) (k : ℕ) (x : X) → All P xs → slice_get xs k ≡ Some x → P x
at_place P xs k x all is = subst P (get_or_from_slice_get xs k x x is) (all k x (slice_get_within xs k x is))

-- ---- of the same files

module _ (elf c : List ℕ) (task : Task) (one two : Decision) (x : Searched elf c task one) (y : Searched elf c task two) where
  images : y.image ≡ x.image
  images = one_image elf y.image x.image y.framed.pairs.few.lists.is_elf x.framed.pairs.few.lists.is_elf

  units : y.unit ≡ x.unit
  units = one_unit c y.unit x.unit y.framed.pairs.few.lists.is_c x.framed.pairs.few.lists.is_c

  lists : y.names ≡ x.names
  lists = y.framed.pairs.few.lists.listed ∙ (λ i. names_of task (images i) (units i)) ∙ sym x.framed.pairs.few.lists.listed

  paired : IsPaired x.image x.unit x.names y.framed.pairs.pairs
  paired =
      subst (λ (l : List (List ℕ)). IsPaired x.image x.unit l y.framed.pairs.pairs) lists
      (subst (λ (u : Typed). IsPaired x.image u y.names y.framed.pairs.pairs) units
      (subst (λ (m : Image). IsPaired m y.unit y.names y.framed.pairs.pairs) images y.framed.pairs.paired))

  pairings : y.framed.pairs.pairs ≡ x.framed.pairs.pairs
  pairings = one_pairing x.image x.unit x.names y.framed.pairs.pairs x.framed.pairs.pairs paired x.framed.pairs.paired

  are : AreListed x.image x.unit x.framed.pairs.pairs y.listed
  are =
      subst (λ (p : outcome.Pairs). AreListed x.image x.unit p y.listed) pairings
      (subst (λ (u : Typed). AreListed x.image u y.framed.pairs.pairs y.listed) units
      (subst (λ (m : Image). AreListed m y.unit y.framed.pairs.pairs y.listed) images y.framed.listed_are))

  same_functions : y.listed ≡ x.listed
  same_functions = one_list x.image x.unit x.framed.pairs.pairs y.listed x.listed are x.framed.listed_are

  there : AreFound x.listed y.found
  there = subst (λ (l : List Listed). AreFound l y.found) same_functions y.found_are

  -- the obligations of the functions are truth values, and their runs have bytes
  sorted : All (λ b. b < 2 ^ 8) elf → All IsSorted x.listed
  sorted bytes =
      let source = x.framed.pairs.few.lists.is_c in
      listed_are_sorted x.image x.unit x.names x.framed.pairs.pairs x.listed
      (record {
        words = files_have_words elf x.image bytes x.framed.pairs.few.lists.is_elf;
        typed = typed-IsTypedUnit source.tree x.unit source.has_types;
        sizes = typed-sizes source.tree x.unit source.has_types;
        paired = x.framed.pairs.paired;
        are = x.framed.listed_are;
      })

  agree : All (λ b. b < 2 ^ 8) elf → AllAgree x.found y.found
  agree bytes = record {
    count = x.found_are.count ∙ sym there.count;
    each = λ k a b p q.
        (let (f, here) = element x.listed k (omega (arith, slice_get_within x.found k a p, x.found_are.count)) in
        agree_at f a b (at_place IsSorted x.listed k f (sorted bytes) here) (x.found_are.each k f a here p) (there.each k f b here q));
  }

  searches : AreSearches elf c task one two
  searches = record {
    functions = x.functions;
    task_is = x.task_is;
    image = x.image;
    unit = x.unit;
    names = x.names;
    listed = x.listed;
    framed = x.framed;
    ones = x.found;
    others = y.found;
    ones_are = x.found_are;
    others_are = there;
    one_is = x.is;
    other_is = subst (λ (l : List Listed). IsDecided l y.found two) same_functions y.is;
    agree = agree;
  }

alike : (elf c : List ℕ) (task : Task) (one two : Decision) (v w : Verdict) → v ≡ w → Form elf c task one v → Form elf c task two w → AreAlike elf c task one two
alike elf c task one two v w e (alone is not) (alone too nor) = inl (is ∙ ap plain e ∙ sym too)
alike elf c task one two v w e (alone is not) (by_search y found) = (let bad : false ≡ true = sym not ∙ ap is_judged e ∙ found in absurd (cc))
alike elf c task one two v w e (by_search x found) (alone is not) = (let bad : true ≡ false = sym found ∙ ap is_judged e ∙ not in absurd (cc))
alike elf c task one two v w e (by_search x found) (by_search y again) = inr (searches elf c task one two x y)

pub one-verdict : OneVerdict
one-verdict elf c task _ _ (elf_large x) (elf_large y) = inl refl
one-verdict elf c task _ _ (elf_large x) (c_large small y) = absurd (omega (arith, x, small))
one-verdict elf c task _ _ (elf_large x) (within two small little y) = absurd (omega (arith, x, small))
one-verdict elf c task _ _ (c_large small x) (elf_large y) = absurd (omega (arith, y, small))
one-verdict elf c task _ _ (c_large small x) (c_large less y) = inl refl
one-verdict elf c task _ _ (c_large small x) (within two less little y) = absurd (omega (arith, x, little))
one-verdict elf c task _ _ (within one small little x) (elf_large y) = absurd (omega (arith, y, small))
one-verdict elf c task _ _ (within one small little x) (c_large less y) = absurd (omega (arith, y, little))
one-verdict elf c task _ _ (within one small little x) (within two less few y) =
    alike elf c task one two (kernel elf c task one x) (kernel elf c task two y) (one_kernel elf c task one two x y) (form elf c task one x) (form elf c task two y)
