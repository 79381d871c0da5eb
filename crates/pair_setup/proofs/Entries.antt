-- The code of listed functions is looked at one after the other.
use Rattle.std.proofs.Common.{◌≡◌, ◌⊎◌, ◌∙◌, ℕ, ◌+◌, ◌-◌, ◌<◌, ◌≤◌, List, [], ◌∷◌, ◌++◌, length, take, drop, get_or, refl, sym, ap, subst, inl, inr, arith}
use Rattle.std.specs.Prelude.{All, Contains, IfOk, OnOk, IsSome, Some, Result, Ok, Err, slice_get}
use Rattle.std.proofs.lemmas.List.{get_or_append_left, get_or-append_right, length-append}
use Rattle.std.proofs.lemmas.List.Elements.{All-from_get_or, Contains-append_left, Contains-append_cases}
use Rattle.std.proofs.lemmas.Option.{slice_get_within, slice_get-get_or}
use Rattle.std.proofs.lemmas.Bool.{cases_lt}
use Rattle.elf_read_spec.specs.Image.{Image, function_named, size_at}
use Rattle.elf_read_spec.specs.declared.SymbolValues.TheVariants.{One}
use Rattle.elf_read_spec.proofs.Functions.{entry_has_size, entry_is_first, first_named}
use Rattle.code_reach_spec.specs.Code.{Reaches, itself, further}
use Rattle.code_reach_spec.specs.Faults.{ReachesNoFault, IsReachFault, of_function, overlap}
use Rattle.pair_setup_calls.specs.Graph.{Grows}
use Rattle.code_reach.specs.Found.{IsReach}
use Rattle.pair_setup_spec.specs.Code.{HasSoundCode, IsSoundCode, of_reach}
use Rattle.pair_setup_spec.specs.Outcome.{IsReached}
use Rattle.pair_setup.specs.Codes.{AreSound, AddsSound, AddsNamed, AreCodedOf, IsReachErrorAt, IsCodeErrorAt, IsFirstCodeError}
use Rattle.pair_setup.specs.Walks.{AreSoundOf}
use Rattle.attempt.specs.declared.refusal.Refusal.{Refusal}
use Rattle.attempt.specs.declared.refusal.Refusal.TheVariants.{Fault, NoMemory}
use Rattle.pair_setup.specs.declared.outcome.PairFault.{PairFault}
use Rattle.pair_setup.specs.declared.outcome.PairFault.TheVariants.{Refused, Code, Nodes}
use Rattle.pair_setup.proofs.Added.{none_contained, only_contained}
use Rattle.pair_setup.proofs.Prefixes.{split-at}

pub named-sized : (image : Image) (name : List ℕ) (entry : ℕ) → function_named image name ≡ One entry → IsSome (size_at image entry)
named-sized image name entry is = entry_has_size image name entry (entry_is_first image name ∙ ap first_named is)

-- ---- what is reached from what is reached

module _ (image : Image) where
  pub reaches-on : (entry middle other : ℕ) → Reaches image entry middle → Reaches image middle other → Reaches image entry other
  reaches-on entry middle _ first itself = first
  reaches-on entry middle _ first (further between size target then size_is called) = further between size target (reaches-on entry middle between first then) size_is called

  fault-on : (entry middle : ℕ) → Reaches image entry middle → (kind : _) (address : ℕ) → IsReachFault image middle kind address → IsReachFault image entry kind address
  fault-on entry middle first kind address (of_function other size _ _ reached size_is wrong) =
      of_function other size kind address (reaches-on entry middle other first reached) size_is wrong
  fault-on entry middle first _ address (overlap lower lower_size _ upper_size low low_is up up_is below meet) =
      overlap lower lower_size address upper_size (reaches-on entry middle lower first low) low_is (reaches-on entry middle address first up) up_is below meet

  -- where nothing that is reached has a fault, nothing that is reached from there has one
  pub sound-on : (entry middle : ℕ) → ReachesNoFault image entry → Reaches image entry middle → ReachesNoFault image middle
  sound-on entry middle sound reached kind address wrong =
      sound kind address (fault-on entry middle reached kind address wrong)

  -- ---- one entry

  pub sound-none : AreSound image []
  sound-none entry among = absurd (none_contained entry among)

  pub adds-known : (entry : ℕ) (entries : List ℕ) → AreSound image entries → Contains entries entry → AddsSound image entry entries entries
  adds-known entry entries are among = record {
    sound = (are entry among).sound;
    are_sound = are;
    kept = λ other h. h;
    only = λ other h. inl h;
    all = (are entry among).closed;
  }

  pub adds-new : (entry : ℕ) (old new reached : List ℕ) → AreSound image old → IsReach image entry reached → Grows (Contains reached) old new → AddsSound image entry old new
  adds-new entry old new reached are is g = record {
    sound = is.sound;
    are_sound = are_sound;
    kept = kept;
    only = only;
    all = all;
  }
    where
      kept : (other : ℕ) → Contains old other → Contains new other
      kept other among = subst (λ l. Contains l other) (sym g.grown) (Contains-append_left old g.more other among)

      all : (other : ℕ) → Reaches image entry other → Contains new other
      all other reaches = g.all other ((is.exactly other).1 reaches)

      only : (other : ℕ) → Contains new other → Contains old other ⊎ Reaches image entry other
      only other among = elim (Contains-append_cases old g.more other (subst (λ l. Contains l other) g.grown among)) [
        | inl before ↦ inl before
        | inr added ↦ inr ((is.exactly other).0 (g.only other added))
      ]

      are_sound : AreSound image new
      are_sound one among = elim (only one among) [
        | inl before ↦ (let s = are one before in record { sound = s.sound; closed = λ other reaches. kept other (s.closed other reaches) })
        | inr reaches ↦ record { sound = sound-on entry one is.sound reaches; closed = λ other on. all other (reaches-on entry one other reaches on) }
      ]

  pub code-error : (name : List ℕ) (entry index : ℕ) (error : Refusal PairFault) → function_named image name ≡ One entry → IsReachErrorAt image entry index error
      → IsCodeErrorAt image name index error
  code-error name entry index (Fault (Code fault at)) is h = (h.0, of_reach entry fault.kind fault.address is h.1)
  code-error name entry index (Fault (Refused kind named)) is h = absurd h
  code-error name entry index (Fault Nodes) is h = absurd h
  code-error name entry index NoMemory is h = tt

  -- ---- a list

  pub coded-start : (whole : List (List ℕ)) (entries : List ℕ) → AreSoundOf image whole entries → AreCodedOf image whole [] [] entries
  coded-start whole entries are = record {
    long = refl;
    firsts_are = λ index name there. absurd (let below = slice_get_within [] index name there in omega (arith, below));
    are_sound = are.are_sound;
    only = are.only;
    all = λ entry r. absurd (none_contained r.listed r.is_listed);
  }

  pub none-sound-of : (whole : List (List ℕ)) → AreSoundOf image whole []
  none-sound-of whole = record { are_sound = sound-none; only = λ entry among. absurd (none_contained entry among) }

  pub coded-more : (whole list : List (List ℕ)) (name : List ℕ) (firsts old new : List ℕ) (entry : ℕ) → Contains whole name → AreCodedOf image whole list firsts old
      → AddsNamed image name old new entry → AreCodedOf image whole (list ++ name ∷ []) (firsts ++ entry ∷ []) new
  coded-more whole list name firsts old new entry is_listed so_far one = record {
    long = omega (arith, length-append list (name ∷ []), length-append firsts (entry ∷ []), so_far.long);
    firsts_are = firsts_are;
    are_sound = one.adds.are_sound;
    only = only;
    all = all;
  }
    where
      here : HasSoundCode image name entry
      here = record { named = one.entry_is; sound = one.adds.sound }

      firsts_are : (index : ℕ) (other : List ℕ) → slice_get (list ++ name ∷ []) index ≡ Some other → HasSoundCode image other (get_or (firsts ++ entry ∷ []) index 0)
      firsts_are index other there = at (cases_lt index (length list))
        where
          inside : index < length (list ++ name ∷ [])
          inside = slice_get_within (list ++ name ∷ []) index other there

          read : get_or (list ++ name ∷ []) index other ≡ other
          read = let got : Some (get_or (list ++ name ∷ []) index other) ≡ Some other = sym (slice_get-get_or (list ++ name ∷ []) index other inside) ∙ there in cc

          at : (index < length list) ⊎ (length list ≤ index) → HasSoundCode image other (get_or (firsts ++ entry ∷ []) index 0)
          at (inl before) =
              let same : get_or list index other ≡ other = sym (get_or_append_left list (name ∷ []) other index before) ∙ read in
              subst (HasSoundCode image other) (sym (get_or_append_left firsts (entry ∷ []) 0 index (omega (arith, before, so_far.long))))
              (so_far.firsts_are index other (slice_get-get_or list index other before ∙ ap Some same))
          at (inr from) =
              let last : index ≡ length list = omega (arith, from, inside, length-append list (name ∷ [])) in
              let long = so_far.long in
              let zero_list : get_or (name ∷ []) (index - length list) other ≡ name = ap (λ k. get_or (name ∷ []) k other) (let z : index - length list ≡ 0 = omega (arith, last) in z) in
              let zero_first : get_or (entry ∷ []) (index - length firsts) 0 ≡ entry = ap (λ k. get_or (entry ∷ []) k 0) (let z : index - length firsts ≡ 0 = omega (arith, last, long) in z) in
              let is_name : name ≡ other = sym zero_list ∙ sym (get_or-append_right list (name ∷ []) (length list) index other refl from) ∙ read in
              let is_entry : get_or (firsts ++ entry ∷ []) index 0 ≡ entry = get_or-append_right firsts (entry ∷ []) (length firsts) index 0 refl (omega (arith, from, long)) ∙ zero_first in
              subst (HasSoundCode image other) (sym is_entry) (subst (λ x. HasSoundCode image x entry) is_name here)

      only : (other : ℕ) → Contains new other → IsReached image whole other
      only other among = elim (one.adds.only other among) [
        | inl before ↦ so_far.only other before
        | inr reaches ↦ record { listed = name; is_listed = is_listed; from = entry; from_is = one.entry_is; reached = reaches }
      ]

      all : (other : ℕ) → IsReached image (list ++ name ∷ []) other → Contains new other
      all other r = elim (Contains-append_cases list (name ∷ []) r.listed r.is_listed) [
        | inl before ↦ one.adds.kept other (so_far.all other (record { listed = r.listed; is_listed = before; from = r.from; from_is = r.from_is; reached = r.reached }))
        | inr last ↦ one.adds.all other (subst (λ e. Reaches image e other) (from_entry last) r.reached)
      ]
        where
          from_entry : Contains (name ∷ []) r.listed → r.from ≡ entry
          from_entry last =
              let named = subst (λ x. function_named image x ≡ One r.from) (only_contained name r.listed last) r.from_is in
              let both : One r.from ≡ One entry = sym named ∙ one.entry_is in cc

  -- all listed functions have sound code
  pub coded-sound : (whole list : List (List ℕ)) (firsts entries : List ℕ) → AreCodedOf image whole list firsts entries → All (IsSoundCode image) list
  coded-sound whole list firsts entries are =
      All-from_get_or (IsSoundCode image) list [] (λ i below. (get_or firsts i 0, are.firsts_are i (get_or list i []) (slice_get-get_or list i [] below)))

  pub first-code-error : (list : List (List ℕ)) (i : ℕ) (name : List ℕ) (error : Refusal PairFault) → slice_get list i ≡ Some name → All (IsSoundCode image) (take i list)
      → IsCodeErrorAt image name i error → IsFirstCodeError image list error
  first-code-error list i name (Fault (Code fault at)) there earlier h = (
    name,
    subst (λ m. slice_get list m ≡ Some name) (sym h.0) there,
    record { prefix = take i list; rest = drop (i + 1) list; split = split-at list i name there; earlier = earlier; fault = h.1 },
  )
  first-code-error list i name (Fault (Refused kind named)) there earlier h = absurd h
  first-code-error list i name (Fault Nodes) there earlier h = absurd h
  first-code-error list i name NoMemory there earlier h = tt

pub added-named : {E : Type 0} (image : Image) (name : List ℕ) (entry : ℕ) (old new : List ℕ) (r : Result ℕ E) → function_named image name ≡ One entry
    → IfOk r (λ found. found ≡ entry) → OnOk r (AddsSound image entry old new) → IfOk r (AddsNamed image name old new)
added-named image name entry old new (Ok found) is same adds =
    record { entry_is = is ∙ ap One (sym same); adds = subst (λ e. AddsSound image e old new) (sym same) adds }
added-named image name entry old new (Err error) is same adds = tt
