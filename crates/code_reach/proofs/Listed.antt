-- The words of the addresses that are reached, and the first fault among them.
use Rattle.std.proofs.Common.{Bool, true, false, ◌≡◌, ◌⊎◌, ◌+◌, ◌<◌, ◌≤◌, ℕ, List, [], ◌∷◌, ◌++◌, length, get_or, map, take, refl, sym, ◌∙◌, ap, subst, inl, inr, arith, eqb-true, eq-eqb}
use Rattle.std.specs.Prelude.{Contains, All, Some, None, option_and_then, nat_le, nat_eq, Result, Ok, Err, IfOk, IfErr}
use Rattle.indexmap.proofs.CallerLemmas.{Contains-list_any}
use Rattle.std.proofs.lemmas.List.Folds.{list_any_at}
use Rattle.std.proofs.lemmas.List.{take_more, map-append, take_all, get_or_default}
use Rattle.std.proofs.lemmas.List.Elements.{All-nil, All-push, Contains-get_or}
use Rattle.std.proofs.lemmas.Bool.{leb-true, leb-false}
use Rattle.std.specs.List.Sorted.{IsStrictlyIncreasing}
use Rattle.std.proofs.lemmas.Map.Keys.{non_decreasing_from_sorted, sorted_from_strictly_increasing}
use Rattle.elf_read_spec.specs.Image.{Image, size_at}
use Rattle.code_reach_spec.specs.declared.CodeKind.{CodeKind}
use Rattle.code_reach_spec.specs.declared.CodeKind.TheVariants.{Undecoded}
use Rattle.code_reach_spec.specs.Code.{HasCode, IsRangeFault, empty, writable, misplaced, IsReachable, AreReachable}
use Rattle.code_reach_spec.specs.Code.{word_at, instr_at}
use Rattle.code_reach_spec.specs.FaultAt.{fault_of, fault_at}
use Rattle.rv_instr.specs.Instr.{instr}
use Rattle.code_reach_spec.specs.Faults.{IsTarget, IsInstructionFault, IsFunctionFault, of_range, of_instruction, HasNoFault, IsFirst, rank}
use Rattle.code_reach_spec.proofs.FaultAt.{none_before, is_one}
use Rattle.code_reach.specs.Flows.{is_among, fault_among}
use Rattle.code_reach.specs.Growth.{IsPlace, AreTargets}
use Rattle.code_reach.specs.Listing.{AreWords, IsStop, IsListingError, IsWordError}
use Rattle.code_reach.specs.Found.{IsCode, IsCodeError}
use Rattle.attempt.specs.declared.refusal.Refusal.{Refusal}
use Rattle.attempt.specs.declared.refusal.Refusal.TheVariants.{Fault, NoMemory}
use Rattle.code_reach.specs.declared.faults.CodeFault.{CodeFault}
use Rattle.code_reach.proofs.Places.{place, has-code}

-- no word without fixed bytes
pub unfixed : (image : Image) (entry size : ℕ) (targets : List ℕ) (address : ℕ) → word_at image address ≡ None
    → fault_among image entry size targets address ≡ Some Undecoded
unfolding fault_at instr_at
unfixed image entry size targets address e = ap (λ o. fault_of image entry size address (is_among targets) (option_and_then instr o)) e

-- the words of the first so many addresses
pub record IsListed (image : Image) (entry size : ℕ) (targets addresses : List ℕ) (index : ℕ) (words : List (ℕ × ℕ)) : Type 0 where
  pub sound : (k : ℕ) → k < index → fault_among image entry size targets (get_or addresses k 0) ≡ None
  pub places : map (λ w. w.0) words ≡ take index addresses
  pub words_are : All (λ w. word_at image w.0 ≡ Some w.1) words

module _ (image : Image) (entry size : ℕ) (targets addresses : List ℕ) where
  pub listed-none : IsListed image entry size targets addresses 0 []
  listed-none = record { sound = λ k below. absurd (omega (arith, below)); places = refl; words_are = All-nil (λ w. word_at image w.0 ≡ Some w.1) }

  pub listed-more : (index a w : ℕ) (words : List (ℕ × ℕ)) → IsListed image entry size targets addresses index words → index < length addresses
      → a ≡ get_or addresses index 0 → word_at image a ≡ Some w → fault_among image entry size targets a ≡ None
      → IsListed image entry size targets addresses (index + 1) (words ++ (a, w) ∷ [])
  listed-more index a w words so_far inside is word none = record {
    sound = λ k below. elim (split k below) [
      | inl before ↦ so_far.sound k before
      | inr e ↦ subst (λ z. fault_among image entry size targets z ≡ None) (is ∙ ap (λ i. get_or addresses i 0) (sym e)) none
    ];
    places = map-append (λ w. w.0) words ((a, w) ∷ []) ∙ (ap (λ l. l ++ a ∷ []) so_far.places ∙ (ap (λ x. take index addresses ++ x ∷ []) is ∙ sym (take_more addresses index 0 inside)));
    words_are = All-push (λ w. word_at image w.0 ≡ Some w.1) words (a, w) so_far.words_are word;
  }
    where
      split : (k : ℕ) → k < index + 1 → (k < index) ⊎ (k ≡ index)
      split k below = grind (arith, below)

  -- the instruction at the next address is wrong
  pub listed-up_to : (index a : ℕ) (words : List (ℕ × ℕ)) (error : Refusal CodeFault) → IsListed image entry size targets addresses index words → index < length addresses
      → a ≡ get_or addresses index 0 → IsWordError image entry size targets a error → IsListingError image entry size targets addresses error
  listed-up_to index a words (Fault fault) so_far inside is wrong = record {
    index = index;
    among = inside;
    address_is = wrong.1 ∙ is;
    fault = subst (λ z. fault_among image entry size targets z ≡ Some fault.kind) (sym wrong.1) wrong.0;
    before = so_far.sound;
  }
  listed-up_to index a words NoMemory so_far inside is wrong = tt

  pub listed-all : (index : ℕ) (words : List (ℕ × ℕ)) → IsListed image entry size targets addresses index words → index ≡ length addresses
      → AreWords image entry size targets addresses words
  listed-all index words so_far e = record {
    sound = λ k below. so_far.sound k (omega (arith, below, e));
    places = so_far.places ∙ (ap (λ n. take n addresses) e ∙ take_all (length addresses) addresses (omega arith));
    words_are = so_far.words_are;
  }

-- ---- the first fault of a function

pub no-range-fault : (image : Image) (entry size : ℕ) (kind : CodeKind) → HasCode image entry size → IsRangeFault image entry size kind → ⊥
no-range-fault image entry size _ has (empty e) = omega (arith, has.not_empty, e)
no-range-fault image entry size _ has (writable above never) = never has.range_fixed
no-range-fault image entry size _ has (misplaced above fixed never) = never has.entry_aligned has.size_aligned

one-range-fault : (image : Image) (entry size : ℕ) (kind other : CodeKind) → IsRangeFault image entry size kind → IsRangeFault image entry size other → rank kind ≤ rank other
one-range-fault image entry size _ _ (empty e) (empty f) = omega arith
one-range-fault image entry size _ _ (empty e) (writable above never) = omega arith
one-range-fault image entry size _ _ (empty e) (misplaced above fixed never) = omega arith
one-range-fault image entry size _ _ (writable above never) (empty f) = absurd (omega (arith, above, f))
one-range-fault image entry size _ _ (writable above never) (writable other_above other_never) = omega arith
one-range-fault image entry size _ _ (writable above never) (misplaced other_above fixed other_never) = omega arith
one-range-fault image entry size _ _ (misplaced above fixed never) (empty f) = absurd (omega (arith, above, f))
one-range-fault image entry size _ _ (misplaced above fixed never) (writable other_above other_never) = absurd (other_never fixed)
one-range-fault image entry size _ _ (misplaced above fixed never) (misplaced other_above other_fixed other_never) = omega arith

pub first-of-range : (image : Image) (entry size : ℕ) (kind : CodeKind) → IsRangeFault image entry size kind → IsFirst (IsFunctionFault image entry size) kind entry
first-of-range image entry size kind fault = record { fault = of_range kind fault; lowest = lowest; least = λ other f. least other entry f }
  where
    lowest : (other : CodeKind) (at : ℕ) → IsFunctionFault image entry size other at → entry ≤ at
    lowest other _ (of_range _ f) = omega arith
    lowest other at (of_instruction _ _ reached f) = absurd (no-range-fault image entry size kind (has-code image entry size at reached) fault)

    least : (other : CodeKind) (at : ℕ) → IsFunctionFault image entry size other at → rank kind ≤ rank other
    least other _ (of_range _ f) = one-range-fault image entry size kind other fault f
    least other at (of_instruction _ _ reached f) = absurd (no-range-fault image entry size kind (has-code image entry size at reached) fault)

module _ (image : Image) (entry size : ℕ) (addresses : List ℕ) (are : AreReachable image entry size addresses) where
  pub places-reached : All (IsPlace entry size) addresses
  places-reached = λ k d below. place image entry size (get_or addresses k d) ((are.exactly (get_or addresses k d)).0 (Contains-get_or addresses k d below))

  -- a place of an address that is reached
  pub record PlaceOf (address : ℕ) : Type 0 where
    pub index : ℕ
    pub among : index < length addresses
    pub there : get_or addresses index 0 ≡ address

  pub place-in : (address : ℕ) → IsReachable image entry size address → PlaceOf address
  place-in address reached = at ((are.exactly address).1 reached)
    where
      at : Contains addresses address → PlaceOf address
      at (k, below, here) = record { index = k; among = below; there = sym (get_or_default addresses k address 0 below) ∙ here }

module _ (image : Image) (entry size : ℕ) (has : HasCode image entry size) (targets addresses : List ℕ) (are : AreReachable image entry size addresses)
    (all : AreTargets image entry size targets) where
  -- an instruction that has a fault has a first one, of no greater kind
  abbrev FirstFor : (address : ℕ) → CodeKind → Type 0
  FirstFor address kind = (first : CodeKind) × (fault_among image entry size targets address ≡ Some first) × (rank first ≤ rank kind)

  target-among : (address : ℕ) → IsTarget image entry size address → is_among targets address ≡ true
  target-among address is = at ((all address).1 is)
    where
      at : Contains targets address → is_among targets address ≡ true
      at (k, below, here) = list_any_at (nat_eq address) targets k address below (eq-eqb address (get_or targets k address) (sym here))

  among-target : (address : ℕ) → is_among targets address ≡ true → IsTarget image entry size address
  among-target address is = (all address).0 (Contains-list_any nat_eq (λ a b s. eqb-true a b s) targets address is)

  first-fault : (address : ℕ) (kind : CodeKind) → IsInstructionFault image entry size (IsTarget image entry size) address kind → FirstFor address kind
  first-fault address kind fault =
      none_before image entry size address (IsTarget image entry size) (is_among targets) target-among kind fault

  is-fault : (address : ℕ) (kind : CodeKind) → fault_among image entry size targets address ≡ Some kind
      → IsInstructionFault image entry size (IsTarget image entry size) address kind
  is-fault address kind is = is_one image entry size address (IsTarget image entry size) (is_among targets) among-target kind is

  no-fault-below : (n : ℕ) → ((k : ℕ) → k < n → fault_among image entry size targets (get_or addresses k 0) ≡ None) → (kind : CodeKind) (address : ℕ)
      (p : PlaceOf image entry size addresses are address) → IsInstructionFault image entry size (IsTarget image entry size) address kind → n ≤ p.index
  no-fault-below n none kind address p fault = at (nat_le n p.index) refl
    where
      at : (b : Bool) → nat_le n p.index ≡ b → n ≤ p.index
      at true e = leb-true n p.index e
      at false e =
          let first = first-fault address kind fault in
          let is = first.1 in
          let not = subst (λ z. fault_among image entry size targets z ≡ None) p.there (none p.index (leb-false n p.index e)) in absurd (cc)

  pub sound-words : ((k : ℕ) → k < length addresses → fault_among image entry size targets (get_or addresses k 0) ≡ None) → HasNoFault image entry size
  sound-words none = no
    where
      no : (kind : CodeKind) (address : ℕ) → IsFunctionFault image entry size kind address → ⊥
      no kind _ (of_range _ f) = no-range-fault image entry size kind has f
      no kind address (of_instruction _ _ reached f) =
          let p = place-in image entry size addresses are address reached in omega (arith, no-fault-below (length addresses) none kind address p f, p.among)

  pub first-of-stop : (kind : CodeKind) (address : ℕ) → IsStop image entry size targets addresses kind address → IsFirst (IsFunctionFault image entry size) kind address
  first-of-stop kind address stop = record {
    fault = of_instruction kind address
        (subst (IsReachable image entry size) (sym stop.address_is)
        ((are.exactly (get_or addresses stop.index 0)).0 (Contains-get_or addresses stop.index 0 stop.among)))
        (is-fault address kind stop.fault);
    lowest = lowest;
    least = λ other f. least other address refl f;
  }
    where
      lowest : (other : CodeKind) (at : ℕ) → IsFunctionFault image entry size other at → address ≤ at
      lowest other _ (of_range _ f) = absurd (no-range-fault image entry size other has f)
      lowest other at (of_instruction _ _ reached f) =
          let p = place-in image entry size addresses are at reached in
          let rises = non_decreasing_from_sorted addresses (sorted_from_strictly_increasing addresses are.rising) stop.index p.index 0
          (no-fault-below stop.index stop.before other at p f) p.among in
          omega (arith, rises, stop.address_is, p.there)

      least : (other : CodeKind) (at : ℕ) → at ≡ address → IsFunctionFault image entry size other at → rank kind ≤ rank other
      least other _ e (of_range _ f) = absurd (no-range-fault image entry size other has f)
      least other at e (of_instruction _ _ reached f) =
          let first = first-fault at other f in
          let is = first.1 in
          let here = subst (λ z. fault_among image entry size targets z ≡ Some kind) (sym e) stop.fault in
          let same : first.0 ≡ kind = cc in
          subst (λ k. rank k ≤ rank other) same first.2

  -- ---- what the call answers

  pub found-code : size_at image entry ≡ Some size → (words : List (ℕ × ℕ)) → AreWords image entry size targets addresses words → IsCode image entry words
  found-code is words listed = record {
    size = size;
    size_is = is;
    sound = sound-words listed.sound;
    places = record {
      rising = subst IsStrictlyIncreasing (sym listed.places) are.rising;
      exactly = λ a. (
        λ among. (are.exactly a).0 (subst (λ l. Contains l a) listed.places among),
        λ reached. subst (λ l. Contains l a) (sym listed.places) ((are.exactly a).1 reached),
      );
    };
    words_are = listed.words_are;
  }

  pub ok-code : {E : Type 0} {T : Type 0} (list : T → List (ℕ × ℕ)) (r : Result T E) → size_at image entry ≡ Some size
      → IfOk r (λ words. AreWords image entry size targets addresses (list words)) → IfOk r (λ words. IsCode image entry (list words))
  ok-code list (Ok words) is listed = found-code is (list words) listed
  ok-code list (Err error) is listed = tt

  pub err-code : {T : Type 0} (r : Result T (Refusal CodeFault)) → size_at image entry ≡ Some size → IfErr r (IsListingError image entry size targets addresses) → IfErr r (IsCodeError image entry)
  err-code (Ok words) is listed = tt
  err-code (Err (Fault fault)) is stop = record { size = size; size_is = is; first = first-of-stop fault.kind fault.address stop }
  err-code (Err NoMemory) is stop = tt
